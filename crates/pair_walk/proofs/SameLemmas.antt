-- A walk that ends by itself has visited all that its pairs lead to, so they are alike down to every depth.
use Rattle.std.proofs.Common.{◌≡◌, ℕ, zero, suc, List, [], ◌∷◌, ◌++◌, map, Bool, true, false, cond, Result, Ok, Err, Option, Some, None, refl, sym, subst, ◌⊎◌, inl, inr, arith}
use Rattle.std.specs.List.{Contains, AllByRecursion, list_any}
use Rattle.std.proofs.lemmas.List.Elements.{Contains-push, Contains-push_cases, Contains-append_left}
use Rattle.std.proofs.lemmas.Map.Views.{Contains-from_any}
use Rattle.pair_walk.specs.Walk.{End, by_itself, apart, past_limit, broken, Walked, Visit, Next, nothing, faulty, found, visits, unless_met, next, ended, at_limit, visited, onward, walk}
use Rattle.pair_walk.specs.Alike.{Alike, Leads, IsReady}

module _ {P Q F : Type 0} (settle : P → Result Q F) (same : Q → Q → Bool) (steps : Q → Result (Option (List P)) F) (exact : (a b : Q) → same a b ≡ true → a ≡ b) where
  -- the ready pair is among these
  abbrev pub Covered : List Q → P → Type 0
  Covered all p = (q : Q) × (settle p ≡ Ok q) × Contains all q

  abbrev pub AllCovered : List Q → List (Visit P) → Type 0
  AllCovered all due = AllByRecursion (λ visit. Covered all visit.pair) due

  abbrev pub PartsCovered : List Q → Q → Type 0
  PartsCovered all q = (parts : List P) × (steps q ≡ Ok (Some parts)) × AllByRecursion (Covered all) parts

  -- what a walk that ends by itself leaves: what was met stays, what is due is covered, and so are the parts of what is new
  pub record Finished (met : List Q) (due : List (Visit P)) (all : List Q) : Type 0 where
    pub held : (q : Q) → Contains met q → Contains all q
    pub covered : AllCovered all due
    pub parted : (q : Q) → Contains all q → Contains met q ⊎ PartsCovered all q

  -- what has to be covered besides, so that all that is due is
  abbrev Leaves : List Q → Next P Q F → List (Visit P) → Type 0
  Leaves all nothing due = AllCovered all due
  Leaves all (faulty f) due = Unit {0}
  Leaves all (found q depth behind) due = Contains all q → AllCovered all behind → AllCovered all due

  with_first : (all : List Q) (later : Next P Q F) (x : Visit P) (xs : List (Visit P)) → Covered all x.pair → Leaves all later xs → Leaves all later (x ∷ xs)
  with_first all nothing x xs first left = (first, left)
  with_first all (faulty f) x xs first left = tt
  with_first all (found q depth behind) x xs first left = λ has covered. (first, left has covered)

  by_test : (all met : List Q) → ((q : Q) → Contains met q → Contains all q) → (x : Visit P) (xs : List (Visit P)) (later : Next P Q F) (q : Q) → settle x.pair ≡ Ok q
      → Leaves all later xs → (b : Bool) → list_any (same q) met ≡ b → Leaves all (cond b later (found q x.depth xs)) (x ∷ xs)
  by_test all met held x xs later q e left true is = with_first all later x xs (q, e, held q (Contains-from_any exact q met is)) left
  by_test all met held x xs later q e left false is = λ has covered. ((q, e, has), covered)

  by_settled : (all met : List Q) → ((q : Q) → Contains met q → Contains all q) → (x : Visit P) (xs : List (Visit P)) (later : Next P Q F) (s : Result Q F) → settle x.pair ≡ s
      → Leaves all later xs → Leaves all (unless_met settle same steps met s x.depth xs later) (x ∷ xs)
  by_settled all met held x xs later (Err f) e left = tt
  by_settled all met held x xs later (Ok q) e left = by_test all met held x xs later q e left (list_any (same q) met) refl

  next_leaves : (all met : List Q) → ((q : Q) → Contains met q → Contains all q) → (due : List (Visit P)) → Leaves all (next settle same steps met due) due
  next_leaves all met held [] = tt
  next_leaves all met held (x ∷ xs) = by_settled all met held x xs (next settle same steps met xs) (settle x.pair) refl (next_leaves all met held xs)

  -- the parts of a pair, which come first
  parts_first : (all : List Q) (depth : ℕ) (parts : List P) (behind : List (Visit P)) → AllCovered all (visits depth parts ++ behind) → AllByRecursion (Covered all) parts × AllCovered all behind
  parts_first all depth [] behind covered = (tt, covered)
  parts_first all depth (p ∷ ps) behind covered = let rest = parts_first all depth ps behind covered.1 in ((covered.0, rest.0), rest.1)

  new_or_met : (met all : List Q) (q : Q) → PartsCovered all q → (r : Q) → Contains (met ++ q ∷ []) r ⊎ PartsCovered all r → Contains met r ⊎ PartsCovered all r
  new_or_met met all q parted r (inr parts) = inr parts
  new_or_met met all q parted r (inl has) = by_place (Contains-push_cases met q r has)
    where
      by_place : Contains met r ⊎ (q ≡ r) → Contains met r ⊎ PartsCovered all r
      by_place (inl there) = inl there
      by_place (inr is) = inr (subst (PartsCovered all) is parted)

  abbrev IsFinished : List Q → List (Visit P) → Walked Q F → Type 0
  IsFinished met due w = w.end ≡ by_itself → Finished met due w.pairs

  none_left : (met : List Q) (due : List (Visit P)) → AllCovered met due → Finished met due met
  none_left met due covered = record { held = λ q has. has; covered = covered; parted = λ q has. inl has }

  limit_finishes : (met : List Q) (due : List (Visit P)) (n : Next P Q F) → Leaves met n due → IsFinished met due (at_limit settle same steps met n)
  limit_finishes met due nothing left = λ e. none_left met due left
  limit_finishes met due (faulty f) left = λ e. absurd cc
  limit_finishes met due (found q depth behind) left = λ e. absurd cc

  visit_finishes : (further : List Q → List (Visit P) → Walked Q F) → ((met : List Q) (due : List (Visit P)) → IsFinished met due (further met due))
      → (met : List Q) (due : List (Visit P)) (q : Q) (depth : ℕ) (behind : List (Visit P)) (r : Result (Option (List P)) F) → steps q ≡ r
      → ((all : List Q) → ((q : Q) → Contains met q → Contains all q) → Contains all q → AllCovered all behind → AllCovered all due)
      → IsFinished met due (visited settle same steps further (met ++ q ∷ []) depth behind r)
  visit_finishes further hyp met due q depth behind (Err f) is left = λ e. absurd cc
  visit_finishes further hyp met due q depth behind (Ok None) is left = λ e. absurd cc
  visit_finishes further hyp met due q depth behind (Ok (Some parts)) is left = λ e.
      let all = (further (met ++ q ∷ []) (visits (suc depth) parts ++ behind)).pairs in
      let rest = hyp (met ++ q ∷ []) (visits (suc depth) parts ++ behind) e in
      let held : (r : Q) → Contains met r → Contains all r = λ r has. rest.held r (Contains-append_left met (q ∷ []) r has) in
      let split = parts_first all (suc depth) parts behind rest.covered in
      record {
        held = held;
        covered = left all held (rest.held q (Contains-push met q)) split.1;
        parted = λ r has. new_or_met met all q (parts, is, split.0) r (rest.parted r has);
      }

  onward_finishes : (further : List Q → List (Visit P) → Walked Q F) → ((met : List Q) (due : List (Visit P)) → IsFinished met due (further met due))
      → (met : List Q) (due : List (Visit P)) (n : Next P Q F)
      → ((all : List Q) → ((q : Q) → Contains met q → Contains all q) → Leaves all n due) → IsFinished met due (onward settle same steps further met n)
  onward_finishes further hyp met due nothing left = λ e. none_left met due (left met (λ q has. has))
  onward_finishes further hyp met due (faulty f) left = λ e. absurd cc
  onward_finishes further hyp met due (found q depth behind) left = visit_finishes further hyp met due q depth behind (steps q) refl left

  walk_finishes : (n : ℕ) (met : List Q) (due : List (Visit P)) → IsFinished met due (walk settle same steps n met due)
  unfolding walk
  walk_finishes zero met due = limit_finishes met due (next settle same steps met due) (next_leaves met met (λ q has. has) due)
  walk_finishes (suc n) met due = onward_finishes (walk settle same steps n) (walk_finishes n) met due (next settle same steps met due) (λ all held. next_leaves all met held due)

  -- pairs whose parts are among them are alike
  module _ (all : List Q) (closed : (q : Q) → Contains all q → PartsCovered all q) where
    all_by : (S T : P → Type 0) → ((p : P) → S p → T p) → (ps : List P) → AllByRecursion S ps → AllByRecursion T ps
    all_by S T step [] holds = tt
    all_by S T step (p ∷ ps) holds = (step p holds.0, all_by S T step ps holds.1)

    covered_alike : (depth : ℕ) (p : P) → Covered all p → Alike settle steps depth p
    covered_alike zero p covered = tt
    covered_alike (suc depth) p covered =
        let parts = closed covered.0 covered.2 in
        let alike = all_by (Covered all) (Alike settle steps depth) (covered_alike depth) parts.0 parts.2 in
        subst (IsReady settle steps (λ q. Leads settle steps (Alike settle steps depth) (steps q))) (sym covered.1)
        (subst (Leads settle steps (Alike settle steps depth)) (sym parts.1) alike)

    due_alike : (depth : ℕ) (due : List (Visit P)) → AllCovered all due → AllByRecursion (λ visit. Alike settle steps depth visit.pair) due
    due_alike depth [] covered = tt
    due_alike depth (x ∷ xs) covered = (covered_alike depth x.pair covered.0, due_alike depth xs covered.1)

  pub itself_alike : (n : ℕ) (due : List (Visit P)) → (walk settle same steps n [] due).end ≡ by_itself → (depth : ℕ) → AllByRecursion (λ visit. Alike settle steps depth visit.pair) due
  itself_alike n due e depth =
      let done = walk_finishes n [] due e in
      let all = (walk settle same steps n [] due).pairs in
      due_alike all (λ q has. new all q (done.parted q has)) depth due done.covered
    where
      new : (all : List Q) (q : Q) → Contains [] q ⊎ PartsCovered all q → PartsCovered all q
      new all q (inl has) = absurd (omega (arith, has.1))
      new all q (inr parts) = parts
