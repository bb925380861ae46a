-- Identity to a depth is what the walk over pairs calls alike, so the laws of that walk are laws of identity.
use Rattle.std.proofs.Common.{◌≡◌, ◌≢◌, ◌≤◌, ℕ, zero, suc, List, [], ◌∷◌, length, ◌&&◌, true, Result, Ok, Err, ap, sym, subst, arith}
use Rattle.std.specs.Prelude.{IsOkAnd}
use Rattle.std.specs.List.{AllByRecursion, AllPairs, Contains}
use Rattle.std.proofs.lemmas.Bool.{and_parts}
use Rattle.type_terms.specs.Trees.{Tree}
use Rattle.type_terms.specs.TreeEquality.{same_tree, same_told, same_itself}
use Rattle.pair_walk.specs.Walk.{Visit, by_itself, apart, past_limit, broken, visits}
use Rattle.pair_walk.specs.Alike.{Alike, Leads, IsReady, Refuted}
use Rattle.pair_walk.proofs.SameLemmas.{itself_alike}
use Rattle.pair_walk.proofs.DifferLemmas as differ_laws
use Rattle.pair_walk.proofs.CountLemmas as count_laws
use Rattle.replacement.specs.declared.faults.SetFault.{SetFault}
use Rattle.replacement.specs.Expansion.{then}
use Rattle.type_alike.specs.Sides.{Sides, Pair, pair, same_pair, settle, expanded_in}
use Rattle.type_alike.specs.Identity.{Cases, Id, Identical}
use Rattle.type_alike.specs.Comparing.{pair_limit, steps, compared}
use Rattle.type_alike.proofs.StepLemmas.{leads_to, leads_from}

pub pair_told : (x y : Pair) → same_pair x y ≡ true → x ≡ y
pair_told x y e =
    let a = and_parts (same_tree x.left y.left) (same_tree x.right y.right) e in
    let left = same_told x.left y.left a.0 in
    let right = same_told x.right y.right a.1 in
    λ i. record { left = left i; right = right i }

pub pair_itself : (x : Pair) → same_pair x x ≡ true
pair_itself x = λ i. same_itself x.left i && same_itself x.right i

module _ (sides : Sides) where
  abbrev AlikeTo : ℕ → Pair → Type 0
  AlikeTo n p = Alike (settle sides) (steps sides) n p

  ready_to : (C : Tree → Tree → Type 0) (D : Pair → Type 0) → ((x y : Tree) → C x y → D (pair x y))
      → (r q : Result Tree SetFault) → IsOkAnd r (λ x. IsOkAnd q (C x))
      → IsReady (settle sides) (steps sides) D (then r (λ x. then q (λ y. Ok (pair x y))))
  ready_to C D each (Ok x) (Ok y) holds = each x y holds
  ready_to C D each (Ok x) (Err fault) holds = absurd holds
  ready_to C D each (Err fault) q holds = absurd holds

  ready_from : (C : Tree → Tree → Type 0) (D : Pair → Type 0) → ((x y : Tree) → D (pair x y) → C x y)
      → (r q : Result Tree SetFault) → IsReady (settle sides) (steps sides) D (then r (λ x. then q (λ y. Ok (pair x y))))
      → IsOkAnd r (λ x. IsOkAnd q (C x))
  ready_from C D each (Ok x) (Ok y) holds = each x y holds
  ready_from C D each (Ok x) (Err fault) holds = absurd holds
  ready_from C D each (Err fault) q holds = absurd holds

  pub id_alike : (n : ℕ) (a b : Tree) → Id sides n a b → AlikeTo n (pair a b)
  id_alike zero a b id = tt
  id_alike (suc n) a b id =
      ready_to (Cases (Id sides n) sides) (λ q. Leads (settle sides) (steps sides) (AlikeTo n) (steps sides q))
      (leads_to sides (Id sides n) (AlikeTo n) (id_alike n))
      (expanded_in sides.left a) (expanded_in sides.right b) id

  pub alike_id : (n : ℕ) (a b : Tree) → AlikeTo n (pair a b) → Id sides n a b
  alike_id zero a b alike = tt
  alike_id (suc n) a b alike =
      ready_from (Cases (Id sides n) sides) (λ q. Leads (settle sides) (steps sides) (AlikeTo n) (steps sides q))
      (leads_from sides (Id sides n) (AlikeTo n) (alike_id n))
      (expanded_in sides.left a) (expanded_in sides.right b) alike

  -- all at which the walk began
  starts_alike : (n : ℕ) (starts : List Pair) → AllByRecursion (λ visit. AlikeTo n visit.pair) (visits 0 starts)
      → AllByRecursion (λ p. Id sides n p.left p.right) starts
  starts_alike n [] all = tt
  starts_alike n (p ∷ ps) all = (alike_id n p.left p.right all.0, starts_alike n ps all.1)

  each_depth : (starts : List Pair) → ((n : ℕ) → AllByRecursion (λ p. Id sides n p.left p.right) starts)
      → AllByRecursion (λ p. Identical sides p.left p.right) starts
  each_depth [] all = tt
  each_depth (p ∷ ps) all = (λ n. (all n).0, each_depth ps (λ n. (all n).1))

  pub same_all : (starts : List Pair) → (compared sides starts).end ≡ by_itself
      → AllByRecursion (λ p. Identical sides p.left p.right) starts
  same_all starts e = each_depth starts (λ n. starts_alike n starts
      (itself_alike (settle sides) same_pair (steps sides) pair_told pair_limit (visits 0 starts) e n))

  -- one at which it began
  a_start : (starts : List Pair) (x : Visit Pair) → Contains (visits 0 starts) x
      → (x.depth ≡ 0) × Contains starts x.pair
  a_start [] x has = absurd (omega (arith, has.1))
  a_start (p ∷ ps) x (zero, below, is) = (sym (ap (λ (v : Visit Pair). v.depth) is), (0, omega arith, ap (λ (v : Visit Pair). v.pair) is))
  a_start (p ∷ ps) x (suc k, below, is) =
      let rest = a_start ps x (k, omega (arith, below), is) in
      (rest.0, (suc rest.1.0, omega (arith, rest.1.1), rest.1.2))

  refuted : (starts : List Pair) (depth : ℕ) → Refuted (settle sides) (steps sides) (visits 0 starts) depth
      → (p : Pair) × Contains starts p × (Id sides depth p.left p.right → ⊥)
  refuted starts depth r =
      let start = a_start starts r.visit r.is_due in
      let is : depth ≡ r.below = omega (arith, r.is_at, start.0) in
      (r.visit.pair, start.1, λ id. r.fails (id_alike r.below r.visit.pair.left r.visit.pair.right (subst (λ n. Id sides n r.visit.pair.left r.visit.pair.right) is id)))

  pub differ_at : (starts : List Pair) (depth : ℕ) → (compared sides starts).end ≡ apart depth
      → (p : Pair) × Contains starts p × (Id sides depth p.left p.right → ⊥)
  differ_at starts depth e = refuted starts depth (differ_laws.differs (settle sides) same_pair (steps sides) pair_limit (visits 0 starts) depth e)

  pub break_at : (starts : List Pair) (fault : SetFault) → (compared sides starts).end ≡ broken fault
      → (depth : ℕ) × ((p : Pair) × Contains starts p × (Id sides depth p.left p.right → ⊥))
  break_at starts fault e =
      let r = differ_laws.breaks (settle sides) same_pair (steps sides) pair_limit (visits 0 starts) fault e in
      (r.0, refuted starts r.0 r.1)

  pub met_once : (starts : List Pair) → AllPairs (λ a b. a ≢ b) (compared sides starts).pairs
  met_once starts = count_laws.met_once (settle sides) same_pair (steps sides) pair_itself pair_limit (visits 0 starts)

  pub past_count : (starts : List Pair) → (compared sides starts).end ≡ past_limit → length (compared sides starts).pairs ≡ 65537
  unfolding pair_limit
  past_count starts e = count_laws.past (settle sides) same_pair (steps sides) pair_itself pair_limit (visits 0 starts) e

  pub within_count : (starts : List Pair) → (compared sides starts).end ≢ past_limit → length (compared sides starts).pairs ≤ 65536
  unfolding pair_limit
  within_count starts e = count_laws.within (settle sides) same_pair (steps sides) pair_itself pair_limit (visits 0 starts) e
