use Rattle.std.proofs.Common.{length, refl, ap, subst}
use Rattle.block_writer.specs.Declaring.{PutsDecl}
use Rattle.block_walk.specs.declared.section.Section.{Section}
use Rattle.block_walk.proofs.DeclaringLemmas.{declares}
use Rattle.block_walk.proofs.section.Section.declare.Goals as goal

pub returns : goal.returns
returns c basics so =
    let mid = c.go_before.new.section in
    let labels = c.label_types.new.numbers in
    let new : Section = record { body = c.put_declaration.new.w; strings = c.put_declaration.new.strings; paths = mid.paths; names = mid.names; numbers = labels; placed = mid.placed } in
    declares c.args.nodes.now.nodes c.args.own.now c.args.told c.args.decl.now c.args.self.now mid new labels.items (length c.bytes.result.now) (record {
      below = c.requires.there;
      room = c.in_ok-go_before.ensures.room;
      set = c.in_ok-label_types.ensures.labels;
      labelled = c.in_ok-label_types.ensures.labelled;
      puts = subst (λ ns. PutsDecl c.args.own.now ns c.args.told c.args.decl.now mid.strings c.put_declaration.new.strings mid.body c.put_declaration.new.w) c.deref.ensures.value c.in_ok-put_declaration.ensures;
      numbers = refl;
      placed = refl;
      paths = refl;
      names = refl;
      starts = ap length c.bytes.ensures;
    }) basics so (c.in_ok-go_before.ensures.goes basics so)
