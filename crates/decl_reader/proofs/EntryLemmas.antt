-- Finding and adding entries of a table, seen as finished descriptors.
use Rattle.std.proofs.Common.{◌≡◌, ℕ, ◌+◌, ◌-◌, ◌<◌, ◌≤◌, Bool, true, false, cond, List, [], ◌∷◌, map, Option, Some, refl, sym, ap, ◌∙◌, inl, inr, ◌⊎◌, arith}
use Rattle.std.specs.Prelude.{option_map, IfSome}
use Rattle.std.specs.List.{AllByRecursion}
use Rattle.std.specs.Map.{lookup}
use Rattle.std.specs.Ordering.{nat_cmp, is_eq, match_ordering}
use Rattle.std.specs.BTreeMap.{insert_entry}
use Rattle.std.specs.declared.cmp.Ordering.{Ordering}
use Rattle.std.specs.declared.cmp.Ordering.TheVariants.{Less, Equal, Greater}
use Rattle.std.specs.Cmp.{nat_cmp_is}
use Rattle.std.proofs.lemmas.Bool.{cases_lt}
use Rattle.decl_spelling.specs.Tables.{Finished, Table, with_block}
use Rattle.decl_reader.specs.Places.{EndsBy, HasRoom, IsStacked, bytes_of}

abbrev pub found : {F : Type 0} → List (ℕ × F) → ℕ → Option F
found es offset = lookup (λ start. is_eq (nat_cmp offset start)) es

-- what the code keeps, seen as a finished descriptor
module _ {F G : Type 0} (seen : F → G) where
  abbrev seen_entry : ℕ × F → ℕ × G
  seen_entry e = (e.0, seen e.1)

  by_test : (test : Bool) (f : F) (b : Option F) (c : Option G) → option_map seen b ≡ c → option_map seen (cond test (Some f) b) ≡ cond test (Some (seen f)) c
  by_test true f b c same = refl
  by_test false f b c same = same

  pub found_at : (es : List (ℕ × F)) (offset : ℕ) → option_map seen (found es offset) ≡ found (map seen_entry es) offset
  found_at [] offset = refl
  found_at (e ∷ es) offset = by_test (is_eq (nat_cmp offset e.0)) e.1 (found es offset) (found (map seen_entry es) offset) (found_at es offset)

  by_order : (r : Ordering) (offset : ℕ) (f : F) (e : ℕ × F) (es rest : List (ℕ × F)) (more : List (ℕ × G)) → map seen_entry rest ≡ more
      → map seen_entry (match_ordering r ((offset, f) ∷ e ∷ es) ((e.0, f) ∷ es) (e ∷ rest))
      ≡ match_ordering r ((offset, seen f) ∷ (e.0, seen e.1) ∷ map seen_entry es) ((e.0, seen f) ∷ map seen_entry es) ((e.0, seen e.1) ∷ more)
  by_order Less offset f e es rest more same = refl
  by_order Equal offset f e es rest more same = refl
  by_order Greater offset f e es rest more same = ap (λ xs. (e.0, seen e.1) ∷ xs) same

  pub added_table : (es : List (ℕ × F)) (offset : ℕ) (f : F) → map seen_entry (insert_entry nat_cmp es offset f) ≡ insert_entry nat_cmp (map seen_entry es) offset (seen f)
  added_table [] offset f = refl
  added_table (e ∷ es) offset f = by_order (nat_cmp offset e.0) offset f e es (insert_entry nat_cmp es offset f) (insert_entry nat_cmp (map seen_entry es) offset (seen f)) (added_table es offset f)

-- what holds of each is so of what is found
module _ {F : Type 0} (P : F → Type 0) where
  if_found : (test : Bool) (f : F) (a : Option F) → P f → IfSome a P → IfSome (cond test (Some f) a) P
  if_found true f a one others = one
  if_found false f a one others = others

  pub found_holds : (es : List (ℕ × F)) (offset : ℕ) → AllByRecursion (λ e. P e.1) es → IfSome (found es offset) P
  found_holds [] offset all = tt
  found_holds (e ∷ es) offset all = if_found (is_eq (nat_cmp offset e.0)) e.1 (found es offset) all.0 (found_holds es offset all.1)

-- ---- adding

-- a property of the start and of what is finished
module _ {F : Type 0} (P : ℕ × F → Type 0) where
  by_place : (r : Ordering) (offset : ℕ) (f : F) (e : ℕ × F) (es rest : List (ℕ × F)) → (r ≡ Equal → P (e.0, f)) → P (offset, f) → P e → AllByRecursion P es → AllByRecursion P rest
      → AllByRecursion P (match_ordering r ((offset, f) ∷ e ∷ es) ((e.0, f) ∷ es) (e ∷ rest))
  by_place Less offset f e es rest same one first others more = (one, (first, others))
  by_place Equal offset f e es rest same one first others more = (same refl, others)
  by_place Greater offset f e es rest same one first others more = (first, more)

  pub added_all : (es : List (ℕ × F)) (offset : ℕ) (f : F) → ((e : ℕ × F) → nat_cmp offset e.0 ≡ Equal → P (e.0, f)) → P (offset, f) → AllByRecursion P es → AllByRecursion P (insert_entry nat_cmp es offset f)
  added_all [] offset f same one all = (one, tt)
  added_all (e ∷ es) offset f same one all = by_place (nat_cmp offset e.0) offset f e es (insert_entry nat_cmp es offset f) (same e) one all.0 all.1 (added_all es offset f same one all.1)

pub added_below : {F : Type 0} (number : F → ℕ) (size : ℕ) (es : List (ℕ × F)) (offset : ℕ) (f : F) → AllByRecursion (λ e. number e.1 < size) es → number f < size → AllByRecursion (λ e. number e.1 < size) (insert_entry nat_cmp es offset f)
added_below number size es offset f all new = added_all (λ e. number e.1 < size) es offset f (λ e same. new) new all

pub below_more : {F : Type 0} (number : F → ℕ) (m n : ℕ) (es : List (ℕ × F)) → m ≤ n → AllByRecursion (λ e. number e.1 < m) es → AllByRecursion (λ e. number e.1 < n) es
below_more number m n [] le all = tt
below_more number m n (e ∷ es) le all = (omega (arith, all.0), below_more number m n es le all.1)

pub added_ends : (limit : ℕ) (es : Table) (offset : ℕ) (f : Finished) → EndsBy limit es → f.end ≤ limit → EndsBy limit (with_block es offset f)
added_ends limit es offset f all new = added_all (λ e. e.1.end ≤ limit) es offset f (λ e same. new) new all

pub added_room : (from to : ℕ) (es : Table) (offset : ℕ) (f : Finished) → f.end ≤ from → HasRoom from to es → HasRoom from to (with_block es offset f)
added_room from to es offset f ends all = added_all (λ e. (e.1.end ≤ from) ⊎ (to ≤ e.0)) es offset f (λ e same. inl ends) (inl ends) all

-- ---- in order

pub is_less : (a b : ℕ) → nat_cmp a b ≡ Less → a < b
is_less a b e = by (cases_lt a b)
  where
    by : (a < b) ⊎ (b ≤ a) → a < b
    by (inl less) = less
    by (inr more) = more_by (cases_lt b a)
      where
        more_by : (b < a) ⊎ (a ≤ b) → a < b
        more_by (inl less) = let no : Less ≡ Greater = sym e ∙ sym (nat_cmp_is a b Greater less) in absurd cc
        more_by (inr same) = let no : Less ≡ Equal = sym e ∙ sym (nat_cmp_is a b Equal (omega arith)) in absurd cc

pub is_equal : (a b : ℕ) → nat_cmp a b ≡ Equal → a ≡ b
is_equal a b e = by (cases_lt a b) (cases_lt b a)
  where
    by : (a < b) ⊎ (b ≤ a) → (b < a) ⊎ (a ≤ b) → a ≡ b
    by (inl less) other = let no : Equal ≡ Less = sym e ∙ sym (nat_cmp_is a b Less less) in absurd cc
    by (inr more) (inl less) = let no : Equal ≡ Greater = sym e ∙ sym (nat_cmp_is a b Greater less) in absurd cc
    by (inr more) (inr same) = omega arith

pub is_greater : (a b : ℕ) → nat_cmp a b ≡ Greater → b < a
is_greater a b e = by (cases_lt b a) (cases_lt a b)
  where
    by : (b < a) ⊎ (a ≤ b) → (a < b) ⊎ (b ≤ a) → b < a
    by (inl less) other = less
    by (inr more) (inl less) = let no : Greater ≡ Less = sym e ∙ sym (nat_cmp_is a b Less less) in absurd cc
    by (inr more) (inr same) = let no : Greater ≡ Equal = sym e ∙ sym (nat_cmp_is a b Equal (omega arith)) in absurd cc

from_end : (m n : ℕ) (es : Table) → m ≤ n → AllByRecursion (λ e. n ≤ e.0) es → AllByRecursion (λ e. m ≤ e.0) es
from_end m n [] le all = tt
from_end m n (e ∷ es) le all = (omega (arith, all.0), from_end m n es le all.1)

module _ (offset : ℕ) (f : Finished) (some : offset < f.end) where
  by_order_stacked : (e : ℕ × Finished) (es : Table) (r : Ordering) → nat_cmp offset e.0 ≡ r → IsStacked (e ∷ es) → HasRoom offset f.end (e ∷ es) → IsStacked (with_block es offset f)
      → IsStacked (match_ordering r ((offset, f) ∷ e ∷ es) ((e.0, f) ∷ es) (e ∷ with_block es offset f))
  by_order_stacked e es Less is stacked room rest =
      let less : offset < e.0 = is_less offset e.0 is in
      let before : f.end ≤ e.0 = elim room.0 [ inl ended ↦ absurd (omega (arith, stacked.0)) | inr later ↦ later ] in
      (some, (before, from_end f.end e.1.end es (omega (arith, stacked.0)) stacked.1), stacked)
  by_order_stacked e es Equal is stacked room rest =
      let same : offset ≡ e.0 = is_equal offset e.0 is in
      absurd (elim room.0 [ inl ended ↦ omega (arith, stacked.0) | inr later ↦ omega arith ])
  by_order_stacked e es Greater is stacked room rest =
      let more : e.0 < offset = is_greater offset e.0 is in
      let ends : e.1.end ≤ offset = elim room.0 [ inl ended ↦ ended | inr later ↦ absurd (omega arith) ] in
      (stacked.0, added_all (λ x. e.1.end ≤ x.0) es offset f (λ x same. let at : offset ≡ x.0 = is_equal offset x.0 same in omega arith) ends stacked.1, rest)

  pub added_stacked : (es : Table) → IsStacked es → HasRoom offset f.end es → IsStacked (with_block es offset f)
  added_stacked [] stacked room = (some, tt, tt)
  added_stacked (e ∷ es) stacked room = by_order_stacked e es (nat_cmp offset e.0) refl stacked room (added_stacked es stacked.2 room.1)

  by_order_bytes : (e : ℕ × Finished) (es : Table) (r : Ordering) → nat_cmp offset e.0 ≡ r → e.0 < e.1.end → HasRoom offset f.end (e ∷ es) → bytes_of (with_block es offset f) ≡ bytes_of es + (f.end - offset)
      → bytes_of (match_ordering r ((offset, f) ∷ e ∷ es) ((e.0, f) ∷ es) (e ∷ with_block es offset f)) ≡ bytes_of (e ∷ es) + (f.end - offset)
  by_order_bytes e es Less is byte room rest = omega arith
  by_order_bytes e es Equal is byte room rest =
      let same : offset ≡ e.0 = is_equal offset e.0 is in
      absurd (elim room.0 [ inl ended ↦ omega (arith, byte) | inr later ↦ omega arith ])
  by_order_bytes e es Greater is byte room rest = omega (arith, rest)

  pub added_bytes : (es : Table) → IsStacked es → HasRoom offset f.end es → bytes_of (with_block es offset f) ≡ bytes_of es + (f.end - offset)
  added_bytes [] stacked room = omega arith
  added_bytes (e ∷ es) stacked room = by_order_bytes e es (nat_cmp offset e.0) refl stacked.0 room (added_bytes es stacked.2 room.1)
