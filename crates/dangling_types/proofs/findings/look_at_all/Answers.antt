use Rattle.std.proofs.Common.{rules, refl}
use Rattle.std.proofs.lemmas.Option.{slice_get_read}
use Rattle.dangling_types.specs.declared.finding.Finding.TheVariants.{Sound, Dangles}
use Rattle.dangling_types.specs.Findings.{IsRight}
use Rattle.dangling_types.proofs.FirstLemmas.{none_goes, found_here}
use Rattle.dangling_types.proofs.findings.look_at_all.Goals as goal

pub returns-in-Dangles-clause-first : goal.returns-in-Dangles-clause-first
returns-in-Dangles-clause-first g c =
    let entries = g.R.Roles.entries c.args.roles.now in
    let nodes = c.args.arena.now.nodes in
    let ids = c.args.types.now in
    let at = slice_get_read ids _ c.loop-id.id-index c.id-item.result refl c.loop-id-test.true c.id-item.is in
    let here : IsRight entries nodes c.id-item.result (Dangles c.in-Dangles.at) = search rules in
    found_here entries nodes ids c.loop-id.id-index c.id-item.result at c.loop-id.invariant.1 c.in-Dangles.at here

pub loop-id-preserved : goal.loop-id-preserved
loop-id-preserved g c =
    let entries = g.R.Roles.entries c.args.roles.now in
    let nodes = c.args.arena.now.nodes in
    let ids = c.args.types.now in
    let at = slice_get_read ids _ c.loop-id.id-index c.id-item.result refl c.loop-id-test.true c.id-item.is in
    let here : IsRight entries nodes c.id-item.result Sound = search rules in
    (c.look_at_type.ensures.right, none_goes entries nodes ids c.loop-id.id-index c.id-item.result at c.loop-id.invariant.1 here)
