use Rattle.std.proofs.Common.{ap, sym, ◌∙◌}
use Rattle.interface_opener.specs.Numbered.{state}
use Rattle.opened_interfaces.specs.Meant.{known_meant}
use Rattle.replacement.specs.Expansion.{then}
use Rattle.type_terms.specs.Denotation.{tree}
use Rattle.type_terms.specs.Extensions.{extends_tree}
use Rattle.free_interfaces.specs.AllTypes.{free_by}
use Rattle.free_interfaces.proofs.freedom.is_free.Goals as goal

pub returns-in-Ok-clause-exact : goal.returns-in-Ok-clause-exact
returns-in-Ok-clause-exact g c =
    let entries = g.E.Env.entries c.args.env.now c.args.arena.now.nodes in
    let names = g.E.Env.names c.args.env.now in
    let type = tree c.args.arena.now.nodes c.args.node in
    let after = c.open_interfaces.new.arena in
    let found = c.in_ok-found.ensures in
    let same = extends_tree c.args.arena.now after found.kept.extends c.args.node c.requires.there in
    ap (λ r. then r (λ s. free_by entries names s type)) found.exact.0
    ∙ ap (λ t. free_by entries names (known_meant after.nodes (state c.in_ok-found.found)) t) (sym same)
    ∙ c.in-Ok.ensures entries names
