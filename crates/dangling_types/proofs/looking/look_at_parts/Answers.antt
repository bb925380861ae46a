use Rattle.std.proofs.Common.{◌≡◌, ◌++◌, ◌∙◌, ℕ, List, ap, subst}
use Rattle.type_terms.specs.NodeShapes.{children}
use Rattle.dangling_types.specs.FirstDangling.{first_dangling}
use Rattle.dangling_types.specs.NodeReferences.{Finds}
use Rattle.dangling_types.proofs.FirstLemmas.{refs_of}
use Rattle.dangling_types.proofs.NodeLemmas.{parts_right}
use Rattle.dangling_types.proofs.looking.look_at_parts.Goals as goal

pub returns : goal.returns
returns c = λ entries right.
    let nodes = c.args.arena.now.nodes in
    let are : c.deref.result.now ≡ children c.args.node.now =
    c.deref.ensures.value ∙ c.in_ok-push_children.ensures ∙ ap (λ (l : List ℕ). l ++ children c.args.node.now) c.new-inner.ensures.items in
    parts_right entries nodes c.args.id c.args.node.now c.requires.denotes c.requires.by_parts c.first_of.result
    (subst (λ (ids : List ℕ). Finds nodes c.first_of.result (first_dangling entries (refs_of entries nodes ids))) are (c.first_of.ensures entries nodes right))
