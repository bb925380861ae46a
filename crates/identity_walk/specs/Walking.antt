-- The walk that compares types, over the nodes of an arena: what is still to be visited stands on a stack.
use Rattle.std.specs.Prelude.{◌≡◌, ◌≤◌, ◌⊎◌, ◌&&◌, Bool, nat_eq, ℕ, ◌+◌, ◌-◌, ◌*◌, ◌^◌, List, map, reverse, length}
use Rattle.std.specs.Prelude.{Option, Some, None, Result, Ok, Err}
use Rattle.std.specs.List.{AllByRecursion}
use Rattle.std.specs.declared.vec.Vec.{Vec}
use Rattle.std.specs.declared.alloc.Global.{Global}
use Rattle.environments.specs.declared.declaring.EnvError.TheVariants.{TableFull, Nodes as EnvNodes}
use Rattle.environments.specs.declared.declaring.EnvError.TheVariants.{OutOfMemory as EnvMemory}
use Rattle.pair_walk.specs.Walk.{End, by_itself, apart, past_limit, broken, Walked, Visit as VisitOf, walk}
use Rattle.replacement.specs.declared.faults.SetFault.{SetFault}
use Rattle.replacement.specs.declared.faults.SetFault.TheVariants.{Env, Nodes, OutOfMemory as SetMemory}
use Rattle.type_terms.specs.declared.descriptors.Node.{Node}
use Rattle.type_alike.specs.Sides.{Sides, Pair as TreePair, same_pair, settle}
use Rattle.type_alike.specs.Comparing.{pair_limit, steps}
use Rattle.type_demands.specs.declared.demands.Pair.{Pair}
use Rattle.type_demands.specs.NodeDemands.{pair_tree, IsInside, AreInside}
use Rattle.identity_walk.specs.declared.answers.Verdict.{Verdict}
use Rattle.identity_walk.specs.declared.answers.Verdict.TheVariants.{Same, Differ}
use Rattle.identity_walk.specs.declared.answers.IdFault.{IdFault}
use Rattle.identity_walk.specs.declared.answers.IdFault.TheVariants.{Set, TooMany, OutOfMemory}
use Rattle.identity_walk.specs.declared.visits.Visit.{Visit}

-- a want of memory, or of room in an arena or in an environment's table
abbrev pub IsWant : SetFault → Type 0
IsWant SetMemory = Unit {0}
IsWant Nodes = Unit {0}
IsWant (Env EnvMemory) = Unit {0}
IsWant (Env EnvNodes) = Unit {0}
IsWant (Env TableFull) = Unit {0}
IsWant _ = ⊥

-- the nodes of the types that are wanted, or the fault that is
abbrev pub GivesPair : List Node → Result Pair SetFault → Result TreePair SetFault → Type 0
GivesPair nodes (Ok found) want = (want ≡ Ok (pair_tree nodes found)) × IsInside (length nodes) found
GivesPair nodes (Err fault) want = (want ≡ Err fault) ⊎ IsWant fault

abbrev pub GivesParts : List Node → Result (Option (Vec Pair Global)) SetFault
    → Result (Option (List TreePair)) SetFault → Type 0
GivesParts nodes (Ok None) want = want ≡ Ok None
GivesParts nodes (Ok (Some found)) want = (want ≡ Ok (Some (map (pair_tree nodes) found.items)))
    × AreInside (length nodes) found.items
GivesParts nodes (Err fault) want = (want ≡ Err fault) ⊎ IsWant fault

-- the same two nodes
abbrev pub same_nodes : Pair → Pair → Bool
same_nodes x y = nat_eq x.left y.left && nat_eq x.right y.right

-- The visits that are due: the one that was pushed last comes first.
abbrev pub visit_of : Visit → VisitOf Pair
visit_of x = record { pair = x.pair; depth = x.depth }

abbrev pub due_of : List Visit → List (VisitOf Pair)
due_of stack = reverse (map visit_of stack)

abbrev pub visit_tree : List Node → VisitOf Pair → VisitOf TreePair
visit_tree nodes x = record { pair = pair_tree nodes x.pair; depth = x.depth }

-- what is left of the walk
abbrev pub rest_of : Sides → List Node → List (VisitOf Pair) → List Pair → Walked TreePair SetFault
rest_of sides nodes due met = walk (settle sides) same_pair (steps sides) (pair_limit - length met)
    (map (pair_tree nodes) met) (map (visit_tree nodes) due)

-- what an answer says of how a walk ends; want of memory and of room alone is free
abbrev pub Answers : Result Verdict IdFault → End SetFault → Type 0
Answers (Ok Same) end = end ≡ by_itself
Answers (Ok (Differ depth)) end = end ≡ apart depth
Answers (Err (Set fault)) end = (end ≡ broken fault) ⊎ IsWant fault
Answers (Err (TooMany pairs)) end = (end ≡ past_limit) × (pairs ≡ 65537)
Answers (Err OutOfMemory) end = Unit {0}

-- one visit: the walk goes on as it was, or this is how it ends
abbrev pub Turned : Result (Option Verdict) IdFault → Walked TreePair SetFault → Walked TreePair SetFault → Type 0
Turned (Ok None) before after = before ≡ after
Turned (Ok (Some verdict)) before after = Answers (Ok verdict) before.end
Turned (Err fault) before after = Answers (Err fault) before.end

-- All pairs are of nodes of the arena, and no visit is deeper than there are pairs that were met.
pub record IsState (n : ℕ) (due : List (VisitOf Pair)) (met : List Pair) : Type 0 where
  pub due_inside : AllByRecursion (λ visit. IsInside n visit.pair) due
  pub shallow : AllByRecursion (λ visit. visit.depth ≤ length met) due
  pub met_inside : AreInside n met
  pub room : length met ≤ 65536

-- it falls with each visit
abbrev pub weight : List (VisitOf Pair) → List Pair → ℕ
weight due met = (65536 - length met) * 2 ^ 64 + length due
