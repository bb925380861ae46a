use Rattle.std.proofs.Common.{ap, sym, ◌∙◌}
use Rattle.std.specs.Option.{unwrap_or}
use Rattle.decl_text.proofs.NodeNumberLemmas.{number_at}
use Rattle.decl_text.proofs.references.References.number.Goals as goal

pub returns-in-Some : goal.returns-in-Some
returns-in-Some c =
    let found = number_at c.args.self.now.arena.now.nodes c.requires.arena c.args.self.now.numbers.now.entries c.args.self.now.there c.args.id c.requires.there in
    ap (λ n. unwrap_or n 0) (c.in-Some.ensures.value ∙ sym found)

pub returns-in-None : goal.returns-in-None
returns-in-None c =
    let found = number_at c.args.self.now.arena.now.nodes c.requires.arena c.args.self.now.numbers.now.entries c.args.self.now.there c.args.id c.requires.there in
    ap (λ n. unwrap_or n 0) (c.in-None.ensures.value ∙ sym found)
