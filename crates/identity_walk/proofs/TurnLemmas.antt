-- One visit over the nodes of an arena, by how it comes out.
use Rattle.std.proofs.Common.{◌≡◌, ◌≤◌, ◌<◌, inl, inr, ℕ, suc, ◌+◌, ◌-◌, ◌^◌, List, [], ◌∷◌, ◌++◌, length, map, nat_eq, ◌&&◌, ◌||◌, Bool, true, false, Result, Ok, Err, Option, Some, None, refl, ap, sym, subst, ◌∙◌, arith, length-append}
use Rattle.std.specs.List.{AllByRecursion, list_any}
use Rattle.std.proofs.lemmas.Bool.{and_parts, eqb-true}
use Rattle.std.proofs.lemmas.Cmp.{nat_eq_equiv}
use Rattle.std.proofs.lemmas.List.{map-append}
use Rattle.pair_walk.specs.Walk.{by_itself, apart, past_limit, Walked, Visit as VisitOf, visits, visited, walk}
use Rattle.replacement.specs.declared.faults.SetFault.{SetFault}
use Rattle.type_terms.specs.declared.descriptors.Node.{Node}
use Rattle.type_terms.specs.Arenas.{Contents, IsArena, Extends}
use Rattle.type_terms.specs.Denotation.{tree}
use Rattle.type_terms.specs.Extensions.{extends_tree, extends_longer, extends_again}
use Rattle.type_terms.specs.Replaced.{all_append}
use Rattle.type_terms.specs.TreeEquality.{same_tree, same_told, same_itself}
use Rattle.type_terms.specs.Denoted.{tree_told}
use Rattle.type_alike.specs.Sides.{Sides, Pair as TreePair, pair, same_pair, settle}
use Rattle.type_alike.specs.Comparing.{pair_limit, steps}
use Rattle.type_demands.specs.declared.demands.Pair.{Pair}
use Rattle.type_demands.specs.NodeDemands.{pair_tree, IsInside, AreInside}
use Rattle.identity_walk.specs.declared.answers.IdFault.TheVariants.{Set}
use Rattle.identity_walk.specs.Walking.{GivesPair, GivesParts, same_nodes, visit_tree, rest_of, Answers, IsState, weight}
use Rattle.identity_walk.proofs.WalkTurns as turns

-- What stays as an arena is extended.

inside_longer : (old new : Contents) → Extends old new → (x : Pair) → IsInside (length old.nodes) x → IsInside (length new.nodes) x
inside_longer old new grown x inside =
    (omega (arith, inside.0, extends_longer old new grown), omega (arith, inside.1, extends_longer old new grown))

all_inside : (old new : Contents) → Extends old new → (xs : List Pair) → AreInside (length old.nodes) xs → AreInside (length new.nodes) xs
all_inside old new grown [] inside = tt
all_inside old new grown (x ∷ xs) inside = (inside_longer old new grown x inside.0, all_inside old new grown xs inside.1)

abbrev DueInside : ℕ → List (VisitOf Pair) → Type 0
DueInside n due = AllByRecursion (λ visit. IsInside n visit.pair) due

due_longer : (old new : Contents) → Extends old new → (due : List (VisitOf Pair)) → DueInside (length old.nodes) due → DueInside (length new.nodes) due
due_longer old new grown [] inside = tt
due_longer old new grown (x ∷ xs) inside = (inside_longer old new grown x.pair inside.0, due_longer old new grown xs inside.1)

pair_stays : (old new : Contents) → Extends old new → (x : Pair) → IsInside (length old.nodes) x → pair_tree new.nodes x ≡ pair_tree old.nodes x
pair_stays old new grown x inside =
    let left = extends_tree old new grown x.left inside.0 in
    let right = extends_tree old new grown x.right inside.1 in
    λ i. pair (left i) (right i)

met_stays : (old new : Contents) → Extends old new → (met : List Pair) → AreInside (length old.nodes) met
    → map (pair_tree new.nodes) met ≡ map (pair_tree old.nodes) met
met_stays old new grown [] inside = refl
met_stays old new grown (x ∷ xs) inside = λ i. pair_stays old new grown x inside.0 i ∷ met_stays old new grown xs inside.1 i

due_stays : (old new : Contents) → Extends old new → (due : List (VisitOf Pair)) → DueInside (length old.nodes) due
    → map (visit_tree new.nodes) due ≡ map (visit_tree old.nodes) due
due_stays old new grown [] inside = refl
due_stays old new grown (x ∷ xs) inside =
    λ i. record { pair = pair_stays old new grown x.pair inside.0 i; depth = x.depth } ∷ due_stays old new grown xs inside.1 i

-- Pairs of nodes are the same exactly where their types are.

one_truth : (a b : Bool) → (a ≡ true → b ≡ true) → (b ≡ true → a ≡ true) → a ≡ b
one_truth true b to from = sym (to refl)
one_truth false true to from = from refl
one_truth false false to from = refl

module _ (nodes : List Node) (is_arena : IsArena nodes) where
  same_to : (x y : Pair) → same_nodes x y ≡ true → same_pair (pair_tree nodes x) (pair_tree nodes y) ≡ true
  same_to x y e =
      let a = and_parts (nat_eq x.left y.left) (nat_eq x.right y.right) e in
      let left = eqb-true x.left y.left a.0 in
      let right = eqb-true x.right y.right a.1 in
      subst (λ b. b ≡ true)
      (λ i. same_tree (tree nodes x.left) (tree nodes (left i)) && same_tree (tree nodes x.right) (tree nodes (right i)))
      (λ i. same_itself (tree nodes x.left) i && same_itself (tree nodes x.right) i)

  same_from : (x y : Pair) → IsInside (length nodes) x → IsInside (length nodes) y
      → same_pair (pair_tree nodes x) (pair_tree nodes y) ≡ true → same_nodes x y ≡ true
  same_from x y at_x at_y e =
      let a = and_parts (same_tree (tree nodes x.left) (tree nodes y.left)) (same_tree (tree nodes x.right) (tree nodes y.right)) e in
      let left : x.left ≡ y.left = tree_told nodes is_arena x.left y.left at_x.0 at_y.0 (same_told (tree nodes x.left) (tree nodes y.left) a.0) in
      let right : x.right ≡ y.right = tree_told nodes is_arena x.right y.right at_x.1 at_y.1 (same_told (tree nodes x.right) (tree nodes y.right) a.1) in
      subst (λ b. b ≡ true) (λ i. nat_eq x.left (left i) && nat_eq x.right (right i))
      (λ i. nat_eq_equiv.refl x.left i && nat_eq_equiv.refl x.right i)

  met_test : (x : Pair) (met : List Pair) → IsInside (length nodes) x → AreInside (length nodes) met
      → list_any (same_nodes x) met ≡ list_any (same_pair (pair_tree nodes x)) (map (pair_tree nodes) met)
  met_test x [] at_x inside = refl
  met_test x (y ∷ ys) at_x inside =
      let one = one_truth (same_nodes x y) (same_pair (pair_tree nodes x) (pair_tree nodes y)) (same_to x y) (same_from x y at_x inside.0) in
      let rest = met_test x ys at_x inside.1 in
      λ i. one i || rest i

-- How the visit that is due first comes out. It stands before the rest of what is due.
module _ (sides : Sides) where
  abbrev W : ℕ → List TreePair → List (VisitOf TreePair) → Walked TreePair SetFault
  W = walk (settle sides) same_pair (steps sides)

  rest_stays : (old new : Contents) → Extends old new → (due : List (VisitOf Pair)) (met : List Pair)
      → DueInside (length old.nodes) due → AreInside (length old.nodes) met
      → rest_of sides old.nodes due met ≡ rest_of sides new.nodes due met
  rest_stays old new grown due met at_due at_met =
      λ i. W (pair_limit - length met) (sym (met_stays old new grown met at_met) i) (sym (due_stays old new grown due at_due) i)

  pub nothing_due : (nodes : List Node) (due : List (VisitOf Pair)) (met : List Pair) → due ≡ [] → (rest_of sides nodes due met).end ≡ by_itself
  nothing_due nodes due met is =
      ap (λ d. (rest_of sides nodes d met).end) is ∙ turns.ends (settle sides) same_pair (steps sides) (pair_limit - length met) (map (pair_tree nodes) met)

  pub settle_fails : (old new : Contents) (due rest : List (VisitOf Pair)) (v : VisitOf Pair) (met : List Pair) (f : SetFault)
      → due ≡ v ∷ rest → GivesPair new.nodes (Err f) (settle sides (pair_tree old.nodes v.pair))
      → Answers (Err (Set f)) (rest_of sides old.nodes due met).end
  settle_fails old new due rest v met f is (inr want) = inr want
  settle_fails old new due rest v met f is (inl fault) =
      inl (ap (λ d. (rest_of sides old.nodes d met).end) is
      ∙ turns.breaks (settle sides) same_pair (steps sides) (pair_limit - length met) (map (pair_tree old.nodes) met) (visit_tree old.nodes v) (map (visit_tree old.nodes) rest) f fault)

  -- the test of what was met, by trees of the arena at entry
  tested : (old new : Contents) → Extends old new → IsArena new.nodes → (met : List Pair) → AreInside (length old.nodes) met → (q : Pair)
      → IsInside (length new.nodes) q → list_any (same_pair (pair_tree new.nodes q)) (map (pair_tree old.nodes) met) ≡ list_any (same_nodes q) met
  tested old new grown arena met at_met q at_q =
      ap (list_any (same_pair (pair_tree new.nodes q))) (sym (met_stays old new grown met at_met))
      ∙ sym (met_test new.nodes arena q met at_q (all_inside old new grown met at_met))

  first_state : (n : ℕ) (due rest : List (VisitOf Pair)) (v : VisitOf Pair) (met : List Pair) → due ≡ v ∷ rest → IsState n due met → IsState n (v ∷ rest) met
  first_state n due rest v met is state = subst (λ d. IsState n d met) is state

  pub met_before : (old new : Contents) (due rest : List (VisitOf Pair)) (v : VisitOf Pair) (met : List Pair) (q : Pair)
      → due ≡ v ∷ rest → IsState (length old.nodes) due met → Extends old new → IsArena new.nodes
      → GivesPair new.nodes (Ok q) (settle sides (pair_tree old.nodes v.pair)) → list_any (same_nodes q) met ≡ true
      → rest_of sides old.nodes due met ≡ rest_of sides new.nodes rest met
  met_before old new due rest v met q is state grown arena gives known =
      let at = first_state (length old.nodes) due rest v met is state in
      ap (λ d. rest_of sides old.nodes d met) is
      ∙ turns.passes (settle sides) same_pair (steps sides) (pair_limit - length met) (map (pair_tree old.nodes) met) (visit_tree old.nodes v) (map (visit_tree old.nodes) rest)
      (pair_tree new.nodes q) gives.0 (tested old new grown arena met at.met_inside q gives.1 ∙ known)
      ∙ rest_stays old new grown rest met at.due_inside.1 at.met_inside

  pub one_too_many : (old new : Contents) (due rest : List (VisitOf Pair)) (v : VisitOf Pair) (met : List Pair) (q : Pair)
      → due ≡ v ∷ rest → IsState (length old.nodes) due met → Extends old new → IsArena new.nodes
      → GivesPair new.nodes (Ok q) (settle sides (pair_tree old.nodes v.pair)) → list_any (same_nodes q) met ≡ false
      → 65536 ≤ length met → (rest_of sides old.nodes due met).end ≡ past_limit
  unfolding pair_limit
  one_too_many old new due rest v met q is state grown arena gives fresh many =
      let at = first_state (length old.nodes) due rest v met is state in
      let none : pair_limit - length met ≡ 0 = omega (arith, many) in
      ap (λ d. (rest_of sides old.nodes d met).end) is
      ∙ ap (λ n. (W n (map (pair_tree old.nodes) met) (map (visit_tree old.nodes) (v ∷ rest))).end) none
      ∙ turns.passes_limit (settle sides) same_pair (steps sides) (map (pair_tree old.nodes) met) (visit_tree old.nodes v) (map (visit_tree old.nodes) rest)
      (pair_tree new.nodes q) gives.0 (tested old new grown arena met at.met_inside q gives.1 ∙ fresh)

  -- a new pair, whose parts are asked for
  visited_one : (old new : Contents) (due rest : List (VisitOf Pair)) (v : VisitOf Pair) (met : List Pair) (q : Pair)
      → due ≡ v ∷ rest → IsState (length old.nodes) due met → Extends old new → IsArena new.nodes
      → GivesPair new.nodes (Ok q) (settle sides (pair_tree old.nodes v.pair)) → list_any (same_nodes q) met ≡ false
      → length met < 65536 → (r : Result (Option (List TreePair)) SetFault) → steps sides (pair_tree new.nodes q) ≡ r
      → rest_of sides old.nodes due met ≡ visited (settle sides) same_pair (steps sides) (W (pair_limit - length (met ++ q ∷ [])))
      (map (pair_tree old.nodes) met ++ pair_tree new.nodes q ∷ []) v.depth (map (visit_tree old.nodes) rest) r
  unfolding pair_limit
  visited_one old new due rest v met q is state grown arena gives fresh few r leads =
      let at = first_state (length old.nodes) due rest v met is state in
      let one : pair_limit - length met ≡ suc (pair_limit - length (met ++ q ∷ [])) = omega (arith, few, length-append met (q ∷ [])) in
      ap (λ d. rest_of sides old.nodes d met) is
      ∙ ap (λ n. W n (map (pair_tree old.nodes) met) (map (visit_tree old.nodes) (v ∷ rest))) one
      ∙ turns.goes (settle sides) same_pair (steps sides) (pair_limit - length (met ++ q ∷ [])) (map (pair_tree old.nodes) met) (visit_tree old.nodes v) (map (visit_tree old.nodes) rest)
      (pair_tree new.nodes q) r gives.0 (tested old new grown arena met at.met_inside q gives.1 ∙ fresh) leads

  module _ (old new last : Contents) (due rest : List (VisitOf Pair)) (v : VisitOf Pair) (met : List Pair) (q : Pair)
      (is : due ≡ v ∷ rest) (state : IsState (length old.nodes) due met) (grown : Extends old new) (arena : IsArena new.nodes)
      (gives : GivesPair new.nodes (Ok q) (settle sides (pair_tree old.nodes v.pair))) (fresh : list_any (same_nodes q) met ≡ false)
      (few : length met < 65536) where
    pub parts_fail : (f : SetFault) → GivesParts last.nodes (Err f) (steps sides (pair_tree new.nodes q))
        → Answers (Err (Set f)) (rest_of sides old.nodes due met).end
    parts_fail f (inr want) = inr want
    parts_fail f (inl fault) =
        inl (ap (λ w. w.end) (visited_one old new due rest v met q is state grown arena gives fresh few (Err f) fault))

    pub parts_differ : GivesParts last.nodes (Ok None) (steps sides (pair_tree new.nodes q))
        → (rest_of sides old.nodes due met).end ≡ apart (v.depth + 1)
    parts_differ none =
        let deeper : suc v.depth ≡ v.depth + 1 = omega arith in
        ap (λ w. w.end) (visited_one old new due rest v met q is state grown arena gives fresh few (Ok None) none) ∙ ap apart deeper

    visits_mapped : (depth : ℕ) (ps : List Pair) → map (visit_tree last.nodes) (visits depth ps) ≡ visits depth (map (pair_tree last.nodes) ps)
    visits_mapped depth [] = refl
    visits_mapped depth (p ∷ ps) = ap (λ xs. record { pair = pair_tree last.nodes p; depth = depth } ∷ xs) (visits_mapped depth ps)

    pub parts_go : (found : List Pair) → steps sides (pair_tree new.nodes q) ≡ Ok (Some (map (pair_tree last.nodes) found)) → Extends new last
        → rest_of sides old.nodes due met ≡ rest_of sides last.nodes (visits (v.depth + 1) found ++ rest) (met ++ q ∷ [])
    parts_go found leads longer =
        let at = first_state (length old.nodes) due rest v met is state in
        let all : Extends old last = extends_again old new last grown longer in
        let deeper : suc v.depth ≡ v.depth + 1 = omega arith in
        let keys : map (pair_tree old.nodes) met ++ pair_tree new.nodes q ∷ [] ≡ map (pair_tree last.nodes) (met ++ q ∷ [])
        = (λ i. sym (met_stays old last all met at.met_inside) i ++ sym (pair_stays new last longer q gives.1) i ∷ [])
        ∙ sym (map-append (pair_tree last.nodes) met (q ∷ [])) in
        let more : visits (suc v.depth) (map (pair_tree last.nodes) found) ++ map (visit_tree old.nodes) rest
        ≡ map (visit_tree last.nodes) (visits (v.depth + 1) found ++ rest)
        = (λ i. visits (deeper i) (map (pair_tree last.nodes) found) ++ sym (due_stays old last all rest at.due_inside.1) i)
        ∙ ap (λ xs. xs ++ map (visit_tree last.nodes) rest) (sym (visits_mapped (v.depth + 1) found))
        ∙ sym (map-append (visit_tree last.nodes) (visits (v.depth + 1) found) rest) in
        visited_one old new due rest v met q is state grown arena gives fresh few (Ok (Some (map (pair_tree last.nodes) found))) leads
        ∙ (λ i. W (pair_limit - length (met ++ q ∷ [])) (keys i) (more i))

    -- what stands after such a visit
    shallow_visits : (depth n : ℕ) → depth ≤ n → (ps : List Pair) → AllByRecursion (λ visit. visit.depth ≤ n) (visits depth ps)
    shallow_visits depth n fits [] = tt
    shallow_visits depth n fits (p ∷ ps) = (fits, shallow_visits depth n fits ps)

    inside_visits : (depth : ℕ) (ps : List Pair) → AreInside (length last.nodes) ps → DueInside (length last.nodes) (visits depth ps)
    inside_visits depth [] inside = tt
    inside_visits depth (p ∷ ps) inside = (inside.0, inside_visits depth ps inside.1)

    shallower : (m n : ℕ) → m ≤ n → (xs : List (VisitOf Pair)) → AllByRecursion (λ visit. visit.depth ≤ m) xs → AllByRecursion (λ visit. visit.depth ≤ n) xs
    shallower m n fits [] all = tt
    shallower m n fits (x ∷ xs) all = (omega (arith, fits, all.0), shallower m n fits xs all.1)

    pub state_after : (found : List Pair) → AreInside (length last.nodes) found → Extends new last
        → IsState (length last.nodes) (visits (v.depth + 1) found ++ rest) (met ++ q ∷ [])
    state_after found inside longer =
        let at = first_state (length old.nodes) due rest v met is state in
        let all : Extends old last = extends_again old new last grown longer in
        let one : length (met ++ q ∷ []) ≡ suc (length met) = omega (arith, length-append met (q ∷ [])) in
        record {
          due_inside = all_append (λ visit. IsInside (length last.nodes) visit.pair) (visits (v.depth + 1) found) rest
              (inside_visits (v.depth + 1) found inside) (due_longer old last all rest at.due_inside.1);
          shallow = all_append (λ visit. visit.depth ≤ length (met ++ q ∷ [])) (visits (v.depth + 1) found) rest
              (shallow_visits (v.depth + 1) (length (met ++ q ∷ [])) (omega (arith, at.shallow.0, one)) found)
              (shallower (length met) (length (met ++ q ∷ [])) (omega (arith, one)) rest at.shallow.1);
          met_inside = all_append (IsInside (length last.nodes)) met (q ∷ []) (all_inside old last all met at.met_inside)
              (inside_longer new last longer q gives.1, tt);
          room = omega (arith, few, one);
        }

  pub state_passed : (old new : Contents) (due rest : List (VisitOf Pair)) (v : VisitOf Pair) (met : List Pair) → due ≡ v ∷ rest
      → IsState (length old.nodes) due met → Extends old new → IsState (length new.nodes) rest met
  state_passed old new due rest v met is state grown =
      let at = first_state (length old.nodes) due rest v met is state in
      record {
        due_inside = due_longer old new grown rest at.due_inside.1;
        shallow = at.shallow.1;
        met_inside = all_inside old new grown met at.met_inside;
        room = at.room;
      }

  -- the pair of the first visit is of nodes of the arena, and its depth is small
  pub first_inside : (n : ℕ) (due rest : List (VisitOf Pair)) (v : VisitOf Pair) (met : List Pair) → due ≡ v ∷ rest → IsState n due met → IsInside n v.pair
  first_inside n due rest v met is state = (first_state n due rest v met is state).due_inside.0

  pub first_shallow : (n : ℕ) (due rest : List (VisitOf Pair)) (v : VisitOf Pair) (met : List Pair) → due ≡ v ∷ rest → IsState n due met → v.depth ≤ 65536
  first_shallow n due rest v met is state =
      let at = first_state n due rest v met is state in
      omega (arith, at.shallow.0, at.room)

pub lighter_passed : (due rest : List (VisitOf Pair)) (v : VisitOf Pair) (met : List Pair) → due ≡ v ∷ rest → weight rest met < weight due met
lighter_passed due rest v met is =
    let longer : length due ≡ suc (length rest) = ap length is in
    omega (arith, longer)

pub lighter_after : (due later : List (VisitOf Pair)) (met : List Pair) (q : Pair) → length met < 65536 → length later < 2 ^ 64
    → weight later (met ++ q ∷ []) < weight due met
lighter_after due later met q few short =
    let one : length (met ++ q ∷ []) ≡ suc (length met) = omega (arith, length-append met (q ∷ [])) in
    let falls : 65536 - length met ≡ suc (65536 - length (met ++ q ∷ [])) = omega (arith, one, few) in
    omega (arith, falls, short)
