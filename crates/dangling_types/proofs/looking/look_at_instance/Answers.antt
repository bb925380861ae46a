use Rattle.std.proofs.Common.{rules, ◌≡◌, length, subst}
use Rattle.type_terms.specs.Denotation.{tree}
use Rattle.environments.specs.References.{base_references}
use Rattle.dangling_types.specs.declared.finding.Finding.TheVariants.{Sound, Dangles}
use Rattle.dangling_types.specs.FirstDangling.{first_dangling}
use Rattle.dangling_types.specs.NodeReferences.{Finds}
use Rattle.dangling_types.proofs.FirstLemmas.{refs_of, finds_later, finds_first}
use Rattle.dangling_types.proofs.looking.look_at_instance.Goals as goal

pub returns-in-Sound : goal.returns-in-Sound
returns-in-Sound g c =
    let entries = g.R.Roles.entries c.args.roles.now in
    let nodes = c.args.arena.now.nodes in
    let args = c.args.args.now in
    let is : c.first_of.result ≡ Sound = search rules in
    let none = subst (λ f. Finds nodes f (first_dangling entries (refs_of entries nodes args))) is (c.first_of.ensures entries nodes c.requires.right) in
    finds_later entries nodes (refs_of entries nodes args) (base_references (tree nodes c.args.base) (length args)) c.look_at_base.result none c.look_at_base.ensures

pub returns-in-Dangles : goal.returns-in-Dangles
returns-in-Dangles g c =
    let entries = g.R.Roles.entries c.args.roles.now in
    let nodes = c.args.arena.now.nodes in
    let args = c.args.args.now in
    let is : c.first_of.result ≡ Dangles c.in-Dangles.at = search rules in
    let finds = subst (λ f. Finds nodes f (first_dangling entries (refs_of entries nodes args))) is (c.first_of.ensures entries nodes c.requires.right) in
    finds_first entries nodes (refs_of entries nodes args) (base_references (tree nodes c.args.base) (length args)) c.in-Dangles.at finds
