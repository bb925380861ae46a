use Rattle.std.proofs.Common.{◌+◌, length, true, refl, subst}
use Rattle.std.specs.Prelude.{slice_set}
use Rattle.block_writer.specs.Putting.{PutsDescriptor}
use Rattle.type_terms.specs.NodeShapes.{children}
use Rattle.block_walk.proofs.FinishLemmas.{below_weaker}
use Rattle.block_walk.proofs.finishing.put.Goals as goal

pub returns : goal.returns
returns c =
    let old = c.args.section.now in
    let node = c.node-node.ensures in
    record {
      node = c.node-node.result.now;
      arena = node.arena;
      denotes = node.denotes;
      below = below_weaker c.args.id (length c.args.nodes.now.nodes) (children c.node-node.result.now) c.requires.there node.falls;
      labels = c.label_children.new.numbers.items;
      labelled = c.in_ok-label_children.ensures.labels;
      children = c.in_ok-label_children.ensures.labelled;
      put = subst (λ ns. PutsDescriptor c.args.own.now ns c.node-node.result.now old.strings c.put_descriptor.new.strings old.body c.put_descriptor.new.w) c.deref.ensures.value c.in_ok-put_descriptor.ensures;
      paths = refl;
      names = c.in_ok-put_name_of.ensures;
      numbers = λ i. slice_set c.label_children.new.numbers.items (c.number.ensures i) (32 + length (c.bytes.ensures i));
      placed = λ i. slice_set old.placed.items (c.number-2.ensures i) true;
    }
