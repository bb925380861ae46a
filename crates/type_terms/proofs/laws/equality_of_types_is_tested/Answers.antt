use Rattle.std.proofs.Common.{◌≡◌, true, subst}
use Rattle.type_terms.specs.TreeEquality.{same_tree, same_told, same_itself}
use Rattle.type_terms.proofs.laws.equality_of_types_is_tested.Goals as goal

pub returns : goal.returns
returns c = λ left right.
    (same_told left right, λ same. subst (λ other. same_tree left other ≡ true) same (same_itself left))
