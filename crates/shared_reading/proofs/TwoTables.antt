-- What two tables find together, and what is free in both.
use Rattle.std.proofs.Common.{◌≡◌, ◌≢◌, ℕ, ◌<◌, ◌≤◌, ◌⊎◌, inl, inr, [], ◌∷◌, Contains, Bool, true, false, cond, Option, Some, None, min, nat_lt, nat_le, refl, sym, ◌∙◌, ap, subst, arith}
use Rattle.std.specs.List.{AllByRecursion}
use Rattle.std.specs.Option.{option_or}
use Rattle.std.proofs.lemmas.Bool.Decides.{eqb_tells, nat_tests}
use Rattle.decl_spelling.specs.Tables.{Finished, Table, at, with_block, free_to}
use Rattle.decl_spelling.specs.Spelling.{Block}
use Rattle.decl_spelling.proofs.TableLaws.{Rising, rising_new, block, blocks_of, finished_of, block_found, found_block, found_new, found_still, some_is, has_none, first_has, later_has, free_within, stop_apart, stop_far}
use Rattle.shared_reading.specs.Memory.{InOrder, Joins}
use Rattle.shared_reading.proofs.MemoryLemmas.{in_order_rises}

-- ---- what is found

found_in : (some all : Table) → Rising 0 all → ((b : Block) → Contains (blocks_of some) b → Contains (blocks_of all) b) → (o : ℕ) (f : Finished) → at some o ≡ Some f → at all o ≡ Some f
found_in some all rising more o f found = found_block all 0 (block o f) rising (more (block o f) (block_found some o f found))

module _ (some others all : Table) (in_some : InOrder some) (in_others : InOrder others) (in_all : InOrder all) (joins : Joins some others all) where
  pub found_both : (o : ℕ) → at all o ≡ option_or (at some o) (at others o)
  found_both o = by (at some o) refl (at others o) refl (at all o) refl
    where
      by : (a : Option Finished) → at some o ≡ a → (b : Option Finished) → at others o ≡ b → (c : Option Finished) → at all o ≡ c → at all o ≡ option_or (at some o) (at others o)
      by (Some f) is b b-is c c-is = found_in some all (in_order_rises all in_all) joins.first o f is ∙ sym (ap (λ (x : Option Finished). option_or x (at others o)) is)
      by None is (Some f) b-is c c-is = found_in others all (in_order_rises all in_all) joins.second o f b-is ∙ sym (ap (λ (x : Option Finished). option_or x (at others o)) is ∙ b-is)
      by None is None b-is None c-is = c-is ∙ sym (ap (λ (x : Option Finished). option_or x (at others o)) is ∙ b-is)
      by None is None b-is (Some f) c-is =
          elim (joins.only (block o f) (block_found all o f c-is)) [
            | inl has ↦ let no = found_block some 0 (block o f) (in_order_rises some in_some) has in absurd (cc)
            | inr has ↦ let no = found_block others 0 (block o f) (in_order_rises others in_others) has in absurd (cc)
          ]

-- ---- one more joins the second

module _ (t : Table) (rising : Rising 0 t) (o : ℕ) (f : Finished) where
  new_there : Contains (blocks_of (with_block t o f)) (block o f)
  new_there = block_found (with_block t o f) o f (found_new t o f)

  old_there : (b : Block) → b.start ≢ o → Contains (blocks_of t) b → Contains (blocks_of (with_block t o f)) b
  old_there b other has = block_found (with_block t o f) b.start (finished_of b) (found_still t o b.start f other ∙ found_block t 0 b rising has)

  new_or_there : (b : Block) → Contains (blocks_of (with_block t o f)) b → (block o f ≡ b) ⊎ Contains (blocks_of t) b
  new_or_there b has =
      let found = found_block (with_block t o f) 0 b (rising_new t 0 o f (omega arith) rising) has in
      elim (eqb_tells b.start o) [
        | inl same ↦
            let one : f ≡ finished_of b = some_is f (finished_of b) (at (with_block t o f) o) (found_new t o f) (ap (at (with_block t o f)) (sym same.1) ∙ found) in
            inl (λ i. block (sym same.1 i) (one i))
        | inr other ↦ inr (block_found t b.start (finished_of b) (sym (found_still t o b.start f other.1) ∙ found))
      ]

pub joins_none : (some : Table) → Joins some [] some
joins_none some = record { first = λ b has. has; second = λ b has. absurd (has_none b has); only = λ b has. inl has }

module _ (some others all : Table) (in_others : InOrder others) (in_all : InOrder all) (joins : Joins some others all) (o : ℕ) (f : Finished) (new : at all o ≡ None) where
  elsewhere : (b : Block) → Contains (blocks_of all) b → b.start ≢ o
  elsewhere b has same = let found : at all o ≡ Some (finished_of b) = ap (at all) (sym same) ∙ found_block all 0 b (in_order_rises all in_all) has in absurd (cc)

  pub joins_more : Joins some (with_block others o f) (with_block all o f)
  joins_more =
      let rising = in_order_rises all in_all in
      let rising_others = in_order_rises others in_others in
      record {
        first = λ b has. old_there all rising o f b (elsewhere b (joins.first b has)) (joins.first b has);
        second = λ b has. elim (new_or_there others rising_others o f b has) [
          | inl is ↦ subst (Contains (blocks_of (with_block all o f))) is (new_there all rising o f)
          | inr old ↦ old_there all rising o f b (elsewhere b (joins.second b old)) (joins.second b old)
        ];
        only = λ b has. elim (new_or_there all rising o f b has) [
          | inl is ↦ inr (subst (Contains (blocks_of (with_block others o f))) is (new_there others rising_others o f))
          | inr old ↦ elim (joins.only b old) [
            | inl first ↦ inl first
            | inr second ↦ inr (old_there others rising_others o f b (elsewhere b old) second)
          ]
        ];
      }

-- ---- what is free

free_from : (o limit : ℕ) (t : Table) → o ≤ limit → o ≤ free_to o limit t
free_from o limit [] le = le
free_from o limit (e ∷ es) le = by (nat_le e.1.end o) (nat_le e.0 o) (nat_lt e.0 limit) refl (free_from o limit es le)
  where
    by : (a b c : Bool) → nat_le e.0 o ≡ b → o ≤ free_to o limit es → o ≤ cond a (free_to o limit es) (cond b o (cond c e.0 limit))
    by true b c q later = later
    by false true c q later = omega arith
    by false false true q later = grind (arith, nat_tests)
    by false false false q later = le

-- each block ends before these bytes, or starts behind them
abbrev Clears : ℕ → ℕ → Table → Type 0
Clears o end t = (b : Block) → Contains (blocks_of t) b → (b.end ≤ o) ⊎ (end ≤ b.start)

clear_entries : (o end : ℕ) (t : Table) → Clears o end t → AllByRecursion (λ e. (e.1.end ≤ o) ⊎ (end ≤ e.0)) t
clear_entries o end [] clears = tt
clear_entries o end (e ∷ es) clears =
    (clears (block e.0 e.1) (first_has (block e.0 e.1) (blocks_of es)), clear_entries o end es (λ b has. clears b (later_has (block e.0 e.1) b (blocks_of es) has)))

free_clears : (o limit : ℕ) (t : Table) → InOrder t → o < free_to o limit t → Clears o (free_to o limit t) t
free_clears o limit t order some b has =
    elim (stop_apart o limit 0 t b.start (finished_of b) (in_order_rises t order) (found_block t 0 b (in_order_rises t order) has)) [
      | inl ends ↦ inl ends
      | inr (inl starts) ↦ inr starts
      | inr (inr none) ↦ absurd (omega arith)
    ]

some_or : (a b : ℕ) → (a < b) ⊎ (b ≤ a)
some_or a b = test (nat_lt a b) refl
  where
    test : (c : Bool) → nat_lt a b ≡ c → (a < b) ⊎ (b ≤ a)
    test true p = inl (grind (arith, nat_tests))
    test false p = inr (grind (arith, nat_tests))

least : (a b : ℕ) → ((a ≤ b) × (min a b ≡ a)) ⊎ ((b ≤ a) × (min a b ≡ b))
least a b = by (nat_le a b) refl
  where
    by : (c : Bool) → nat_le a b ≡ c → ((a ≤ b) × (min a b ≡ a)) ⊎ ((b ≤ a) × (min a b ≡ b))
    by true p = let le : a ≤ b = grind (arith, nat_tests) in inl (le, omega arith)
    by false p = let le : b ≤ a = grind (arith, nat_tests) in inr (le, omega arith)

module _ (some others all : Table) (in_some : InOrder some) (in_others : InOrder others) (in_all : InOrder all) (joins : Joins some others all) (o limit : ℕ) (le : o ≤ limit) where
  -- what is free in all is free in each
  in_each : (t : Table) → ((b : Block) → Contains (blocks_of t) b → Contains (blocks_of all) b) → o < free_to o limit all → free_to o limit all ≤ free_to o limit t
  in_each t more clear =
      stop_far o limit (free_to o limit all) t clear (free_within o limit all le) (clear_entries o (free_to o limit all) t (λ b has. free_clears o limit all in_all clear b (more b has)))

  -- and what is free in both is free in all
  in_all_too : (end : ℕ) → o < end → end ≤ free_to o limit some → end ≤ free_to o limit others → end ≤ free_to o limit all
  in_all_too end clear within_some within_others =
      stop_far o limit end all clear (omega (arith, free_within o limit some le)) (clear_entries o end all each)
    where
      shorter : (t : Table) → InOrder t → end ≤ free_to o limit t → Clears o end t
      shorter t order within b has =
          elim (free_clears o limit t order (omega arith) b has) [ inl ends ↦ inl ends | inr starts ↦ inr (omega arith) ]

      each : Clears o end all
      each b has = elim (joins.only b has) [ inl first ↦ shorter some in_some within_some b first | inr second ↦ shorter others in_others within_others b second ]

  pub free_both : free_to o limit all ≡ min (free_to o limit some) (free_to o limit others)
  free_both = by (nat_lt o (free_to o limit all)) refl
    where
      by : (c : Bool) → nat_lt o (free_to o limit all) ≡ c → free_to o limit all ≡ min (free_to o limit some) (free_to o limit others)
      by true p =
          let clear : o < free_to o limit all = grind (arith, nat_tests) in
          let first = in_each some joins.first clear in
          let second = in_each others joins.second clear in
          elim (least (free_to o limit some) (free_to o limit others)) [
            | inl a ↦ let back = in_all_too (free_to o limit some) (omega arith) (omega arith) a.0 in omega (arith, a.1)
            | inr b ↦ let back = in_all_too (free_to o limit others) (omega arith) b.0 (omega arith) in omega (arith, b.1)
          ]
      by false p =
          let none : free_to o limit all ≤ o = grind (arith, nat_tests) in
          let from = free_from o limit all le in
          elim (least (free_to o limit some) (free_to o limit others)) [
            | inl a ↦ elim (some_or o (free_to o limit some)) [
              | inl more ↦ let back = in_all_too (free_to o limit some) more (omega arith) a.0 in absurd (omega arith)
              | inr less ↦ omega (arith, a.1, free_from o limit some le, less)
            ]
            | inr b ↦ elim (some_or o (free_to o limit others)) [
              | inl more ↦ let back = in_all_too (free_to o limit others) more b.0 (omega arith) in absurd (omega arith)
              | inr less ↦ omega (arith, b.1, free_from o limit others le, less)
            ]
          ]
