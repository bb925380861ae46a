use Rattle.std.proofs.Common.{◌||◌, ap, sym, ◌∙◌}
use Rattle.std.specs.Prelude.{nat_eq}
use Rattle.std.specs.Option.{is_some}
use Rattle.std.specs.Map.{lookup}
use Rattle.decl_text.proofs.NodeFinishLemmas.{settled_at}
use Rattle.decl_text.proofs.numbering.Numbering.is_settled.Goals as goal

pub returns-else-has_name-clause-settled : goal.returns-else-has_name-clause-settled
returns-else-has_name-clause-settled c =
    let numbers = c.args.self.now.numbers.entries in
    c.contains_key-has_number.ensures
    ∙ ap (λ name. name || is_some (lookup (nat_eq c.args.id) numbers)) c.if-has_name.ensures
    ∙ sym (settled_at c.args.arena.now.nodes c.node.ensures.arena numbers c.requires.stands c.args.id c.requires.there c.node.result.now c.node.ensures.denotes)
