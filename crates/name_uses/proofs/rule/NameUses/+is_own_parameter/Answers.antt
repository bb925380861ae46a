use Rattle.std.proofs.Common.{◌≡◌, true, sym, ap, ◌∙◌}
use Rattle.source_trees.specs.Trees.{written_type}
use Rattle.source_scopes.specs.Scopes.{scopes_at}
use Rattle.name_uses.specs.Uses.{Offers, is_own_parameter}
use Rattle.name_uses.proofs.ParameterLaws.{with_arguments}
use Rattle.name_uses.proofs.rule.NameUses.+is_own_parameter.Goals as goal

pub returns-else-is_empty : goal.returns-else-is_empty
returns-else-is_empty g t c =
    let o : Offers = record { names = g.P.Packages.names c.args.self.now.packages.now; offers = g.P.Packages.offers c.args.self.now.packages.now } in
    let s = scopes_at c.args.self.now.scopes.now c.args.source.file c.args.top in
    c.if-is_empty.false ∙ sym (ap (λ ty. is_own_parameter o s (written_type c.args.source.bytes.now ty)) c.in-Name.is
    ∙ with_arguments o s c.args.source.bytes.now c.in-Name.name c.in-Name.args c.in-Name.at (λ e. let k : c.is_empty.result ≡ true = c.is_empty.ensures.1 e in absurd cc))
