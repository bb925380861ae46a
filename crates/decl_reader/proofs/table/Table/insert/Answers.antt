use Rattle.std.proofs.Common.{List, ap, ◌∙◌, rules}
use Rattle.decl_reader.specs.Blocks.{Entry, with_entry}
use Rattle.decl_reader.proofs.TableLemmas.{inside_added, made_after}
use Rattle.decl_reader.proofs.table.Table.insert.Goals as goal

pub invariant_of-self-2 : goal.invariant_of-self-2
invariant_of-self-2 c =
    inside_added c.self.inside.nodes.items c.args.finished.node c.self.inside.places c.self.invariant c.push.new.self.items c.in_ok-push.ensures.ok c.args.offset c.args.finished.end c.len-index.result c.insert.new.self (search rules)
    c.in_ok-insert.ensures.added

pub returns : goal.returns
returns c = record {
  added =
      made_after c.self.inside.nodes.items c.args.finished.node c.self.inside.places c.self.invariant c.push.new.self.items c.in_ok-push.ensures.ok c.args.offset c.args.finished.end c.len-index.result c.insert.new.self (search rules)
      c.in_ok-insert.ensures.added
      ∙ ap (λ (entries : List Entry). with_entry entries c.args.offset c.args.finished) c.self.view_is;
}
