use Rattle.std.proofs.Common.{rules, ◌≡◌, refl, sym, ◌∙◌}
use Rattle.std.proofs.lemmas.Option.{slice_get_read}
use Rattle.dangling_types.specs.declared.finding.Finding.TheVariants.{Sound, Dangles}
use Rattle.dangling_types.proofs.KnowingLemmas.{known_goes, known_found}
use Rattle.dangling_types.proofs.looking.first_of.Goals as goal

pub returns-in-Dangles : goal.returns-in-Dangles
returns-in-Dangles c = λ entries nodes right.
    let ids = c.args.ids.now in
    let at = slice_get_read ids _ c.loop-id.id-index c.id-item.result refl c.loop-id-test.true c.id-item.is in
    let is : c.finding_for.result ≡ Dangles c.in-Dangles.at = search rules in
    known_found entries nodes c.args.known.now.entries right ids c.requires c.loop-id.id-index c.id-item.result at (c.loop-id.invariant entries nodes right) c.in-Dangles.at
    (sym c.finding_for.ensures ∙ is)

pub loop-id-preserved : goal.loop-id-preserved
loop-id-preserved c = λ entries nodes right.
    let ids = c.args.ids.now in
    let at = slice_get_read ids _ c.loop-id.id-index c.id-item.result refl c.loop-id-test.true c.id-item.is in
    let is : c.finding_for.result ≡ Sound = search rules in
    known_goes entries nodes c.args.known.now.entries right ids c.requires c.loop-id.id-index c.id-item.result at (c.loop-id.invariant entries nodes right)
    (sym c.finding_for.ensures ∙ is)
