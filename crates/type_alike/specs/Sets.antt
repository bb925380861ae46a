-- What two type sets demand of each other, each read on its own side.
use Rattle.std.specs.Prelude.{List, [], ◌∷◌, ◌&&◌, Bool, true, false, cond, Option, Some, None, Result, Ok}
use Rattle.go_values.specs.declared.positions.Pos.{Pos}
use Rattle.type_terms.specs.Shapes.{SigOf, func_of}
use Rattle.type_terms.specs.Trees.{Text, Tree, tree_of}
use Rattle.type_terms.specs.TreeEquality.{same_flag}
use Rattle.interface_opening.specs.Elements.{Term}
use Rattle.interface_opening.specs.Terms.{Choice}
use Rattle.replacement.specs.declared.faults.SetFault.{SetFault}
use Rattle.replacement.specs.Expansion.{then, underlying}
use Rattle.type_sets.specs.Interfaces.{SetMethod, same_key}
use Rattle.type_sets.specs.Covering.{Answer, and_then, covered}
use Rattle.type_sets.specs.TypeSets.{TypeSet, free, type_set}
use Rattle.type_alike.specs.Sides.{Side, Sides, Pair, pair, expanded_in}

-- a signature is compared as the type of a function of no package
abbrev pub signature : SigOf Pos Text Tree → Tree
signature sig = tree_of (func_of [] sig)

-- The methods of a type set stand in the order of their keys, each once. So sets have the same keys where these are the
-- same in step.
abbrev pub same_keys : List SetMethod → List SetMethod → Bool
same_keys [] [] = true
same_keys (x ∷ xs) (y ∷ ys) = same_key x y && same_keys xs ys
same_keys _ _ = false

abbrev pub method_pairs : List SetMethod → List SetMethod → List Pair
method_pairs [] _ = []
method_pairs (x ∷ xs) [] = []
method_pairs (x ∷ xs) (y ∷ ys) = pair (signature x.sig) (signature y.sig) ∷ method_pairs xs ys

-- whether a term of one side is covered by one of the other, which has passed the tests of a term
abbrev pub covers_across : Side → Side → Term Tree → Term Tree → Answer
covers_across own other x y = covered (expanded_in own) (free own.entries own.names) other.entries other.names
    (underlying own.entries own.names) x y

-- one of the other side's terms covers it, up to the first that does
abbrev pub covered_by_one : Side → Side → Term Tree → List (Term Tree) → Answer
covered_by_one own other x [] = Ok false
covered_by_one own other x (y ∷ ys) =
    then (covers_across own other x y) (λ found. cond found (Ok true) (covered_by_one own other x ys))

abbrev pub all_covered : Side → Side → List (Term Tree) → List (Term Tree) → Answer
all_covered own other [] ys = Ok true
all_covered own other (x ∷ xs) ys = and_then (covered_by_one own other x ys) (all_covered own other xs ys)

-- the left's terms by the right's, and then the right's by the left's
abbrev pub terms_alike : Sides → Choice Tree → Choice Tree → Answer
terms_alike sides None None = Ok true
terms_alike sides (Some xs) (Some ys) =
    and_then (all_covered sides.left sides.right xs ys) (all_covered sides.right sides.left ys xs)
terms_alike sides _ _ = Ok false

abbrev pub same_heads : TypeSet → TypeSet → Bool
same_heads s t = same_keys s.methods t.methods && same_flag s.flag t.flag

-- the pairs of signatures, or none where keys, flags or terms differ
abbrev pub set_parts : Sides → TypeSet → TypeSet → Result (Option (List Pair)) SetFault
set_parts sides s t = cond (same_heads s t)
    (then (terms_alike sides s.terms t.terms) (λ alike. Ok (cond alike (Some (method_pairs s.methods t.methods)) None)))
    (Ok None)

abbrev pub set_in : Side → Tree → Result TypeSet SetFault
set_in side type = type_set side.entries side.names type

-- the left set first
abbrev pub by_sets : Sides → Pair → Result (Option (List Pair)) SetFault
by_sets sides x = then (set_in sides.left x.left) (λ s. then (set_in sides.right x.right) (set_parts sides s))
