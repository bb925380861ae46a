-- The walk from its start to its end.
use Rattle.std.proofs.Common.{◌≡◌, ◌≤◌, ℕ, ◌-◌, List, [], ◌∷◌, map, Ok, Err, Some, refl, ap, sym, subst, ◌∙◌, arith}
use Rattle.std.specs.List.{AllByRecursion}
use Rattle.pair_walk.specs.Walk.{Walked, Visit as VisitOf, visits, walk}
use Rattle.replacement.specs.declared.faults.SetFault.{SetFault}
use Rattle.type_terms.specs.declared.descriptors.Node.{Node}
use Rattle.type_alike.specs.Sides.{Sides, Pair as TreePair, same_pair, settle}
use Rattle.type_alike.specs.Comparing.{pair_limit, steps, compared}
use Rattle.type_demands.specs.declared.demands.Pair.{Pair}
use Rattle.type_demands.specs.NodeDemands.{pair_tree, IsInside, AreInside}
use Rattle.identity_walk.specs.declared.answers.Verdict.{Verdict}
use Rattle.identity_walk.specs.declared.answers.IdFault.{IdFault}
use Rattle.identity_walk.specs.Walking.{visit_tree, rest_of, Answers, Turned, IsState}

start_visits : (nodes : List Node) (starts : List Pair) → map (visit_tree nodes) (visits 0 starts) ≡ visits 0 (map (pair_tree nodes) starts)
start_visits nodes [] = refl
start_visits nodes (p ∷ ps) = ap (λ xs. record { pair = pair_tree nodes p; depth = 0 } ∷ xs) (start_visits nodes ps)

-- at the start nothing was met, and the starts are due
pub begins : (sides : Sides) (nodes : List Node) (starts : List Pair) (due : List (VisitOf Pair)) (met : List Pair)
    → due ≡ visits 0 starts → met ≡ [] → compared sides (map (pair_tree nodes) starts) ≡ rest_of sides nodes due met
begins sides nodes starts due met is none =
    let left : pair_limit ≡ pair_limit - 0 = omega arith in
    (λ i. walk (settle sides) same_pair (steps sides) (left i) [] (sym (start_visits nodes starts) i))
    ∙ (λ i. rest_of sides nodes (sym is i) (sym none i))

starts_inside : (n : ℕ) (starts : List Pair) → AreInside n starts → AllByRecursion (λ visit. IsInside n visit.pair) (visits 0 starts)
starts_inside n [] inside = tt
starts_inside n (p ∷ ps) inside = (inside.0, starts_inside n ps inside.1)

starts_shallow : (starts : List Pair) (n : ℕ) → AllByRecursion (λ visit. visit.depth ≤ n) (visits 0 starts)
starts_shallow [] n = tt
starts_shallow (p ∷ ps) n = (omega arith, starts_shallow ps n)

pub begins_state : (n : ℕ) (starts : List Pair) (due : List (VisitOf Pair)) (met : List Pair) → due ≡ visits 0 starts → met ≡ []
    → AreInside n starts → IsState n due met
begins_state n starts due met is none inside =
    subst (λ (t : Type 0). t) (λ i. IsState n (sym is i) (sym none i))
    (record { due_inside = starts_inside n starts inside; shallow = starts_shallow starts 0; met_inside = tt; room = omega arith })

-- what an answer says of the whole
pub answered : (whole before after : Walked TreePair SetFault) (verdict : Verdict) → whole ≡ before → Turned (Ok (Some verdict)) before after
    → Answers (Ok verdict) whole.end
answered whole before after verdict is says = subst (λ w. Answers (Ok verdict) w.end) (sym is) says

pub failed : (whole before after : Walked TreePair SetFault) (fault : IdFault) → whole ≡ before → Turned (Err fault) before after
    → Answers (Err fault) whole.end
failed whole before after fault is says = subst (λ w. Answers (Err fault) w.end) (sym is) says
