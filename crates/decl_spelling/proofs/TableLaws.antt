-- What a table of finished descriptors finds at an offset, and how far what follows an offset is free.
use Rattle.std.proofs.Common.{◌≡◌, ◌≢◌, ℕ, zero, suc, ◌<◌, ◌≤◌, ◌⊎◌, inl, inr, List, [], ◌∷◌, map, Contains, Bool, true, false, cond, Option, Some, None, nat_lt, nat_le, refl, sym, ◌∙◌, ap, subst, arith, nat_cmp, is_eq, Ordering, Less, Equal, Greater}
use Rattle.std.specs.List.{AllByRecursion}
use Rattle.std.specs.Ordering.{MatchOrdering, match_ordering}
use Rattle.std.proofs.lemmas.Bool.Decides.{nat_tests}
use Rattle.wire_bytes.proofs.Steps.{chosen}
use Rattle.decl_spelling.specs.Tables.{Finished, Table, at, with_block, free_to}
use Rattle.decl_spelling.specs.Spelling.{Block}

-- ---- offsets compared

told : (x y : ℕ) (r : Ordering) → nat_cmp x y ≡ r → MatchOrdering r (x < y) (x ≡ y) (y < x)
told x y Less e = grind (arith, nat_tests)
told x y Equal e = grind (arith, nat_tests)
told x y Greater e = grind (arith, nat_tests)

same_start : (x : ℕ) → is_eq (nat_cmp x x) ≡ true
same_start x = grind (arith, nat_tests)

start_is : (x y : ℕ) → is_eq (nat_cmp x y) ≡ true → x ≡ y
start_is x y e = grind (arith, nat_tests)

other_start : (x y : ℕ) → x ≢ y → is_eq (nat_cmp x y) ≡ false
other_start x y e = grind (arith, nat_tests)

pub some_is : {X : Type 0} (x y : X) (a : Option X) → a ≡ Some x → a ≡ Some y → x ≡ y
some_is x y a e h = (cc)

-- ---- what is found

-- the first entry is found, or a later one
pub found_where : (e : ℕ × Finished) (es : Table) (o : ℕ) (f : Finished) → at (e ∷ es) o ≡ Some f → ((e.0 ≡ o) × (e.1 ≡ f)) ⊎ (at es o ≡ Some f)
found_where e es o f found =
    elim (chosen (is_eq (nat_cmp o e.0)) (Some e.1) (at es o) (Some f) found) [
      | inl here ↦ inl (sym (start_is o e.0 here.0), some_is e.1 f (Some e.1) refl here.1)
      | inr later ↦ inr later.1
    ]

pub found_all : (P : ℕ × Finished → Type 0) (done : Table) (o : ℕ) (f : Finished) → AllByRecursion P done → at done o ≡ Some f → P (o, f)
found_all P [] o f all found = absurd (cc)
found_all P (e ∷ es) o f all found =
    elim (found_where e es o f found) [
      | inl here ↦ subst P (λ i. (here.0 i, here.1 i)) all.0
      | inr later ↦ found_all P es o f all.1 later
    ]

-- where nothing is found each entry is elsewhere
pub none_there : (done : Table) (o : ℕ) → at done o ≡ None → AllByRecursion (λ e. e.0 ≢ o) done
none_there [] o none = tt
none_there (e ∷ es) o none =
    elim (chosen (is_eq (nat_cmp o e.0)) (Some e.1) (at es o) None none) [
      | inl here ↦ absurd (let no = here.1 in cc)
      | inr later ↦ (λ same. let yes' = same_start e.0 in let no' : is_eq (nat_cmp e.0 e.0) ≡ false = ap (λ (x : ℕ). is_eq (nat_cmp x e.0)) same ∙ later.0 in cc, none_there es o later.1)
    ]

-- ---- a new entry

pub found_new : (done : Table) (o : ℕ) (f : Finished) → at (with_block done o f) o ≡ Some f
found_new [] o f = rw (same_start o) refl
found_new (e ∷ es) o f = by (nat_cmp o e.0) refl (found_new es o f)
  where
    by : (r : Ordering) → nat_cmp o e.0 ≡ r → at (with_block es o f) o ≡ Some f → at (match_ordering r ((o, f) ∷ e ∷ es) ((e.0, f) ∷ es) (e ∷ with_block es o f)) o ≡ Some f
    by Less p later = rw (same_start o) refl
    by Equal p later = rw p refl
    by Greater p later = rw p later

pub found_still : (done : Table) (o p : ℕ) (f : Finished) → p ≢ o → at (with_block done o f) p ≡ at done p
found_still [] o p f apart = rw (other_start p o apart) refl
found_still (e ∷ es) o p f apart = by (nat_cmp o e.0) refl (found_still es o p f apart)
  where
    by : (r : Ordering) → nat_cmp o e.0 ≡ r → at (with_block es o f) p ≡ at es p → at (match_ordering r ((o, f) ∷ e ∷ es) ((e.0, f) ∷ es) (e ∷ with_block es o f)) p ≡ at (e ∷ es) p
    by Less q later = rw (other_start p o apart) refl
    by Equal q later = rw (other_start p e.0 (λ same. apart (same ∙ sym (told o e.0 Equal q)))) refl
    by Greater q later = ap (λ (r : Option Finished). cond (is_eq (nat_cmp p e.0)) (Some e.1) r) later

pub all_new : (P : ℕ × Finished → Type 0) (done : Table) (o : ℕ) (f : Finished) → P (o, f) → AllByRecursion P done → AllByRecursion P (with_block done o f)
all_new P [] o f new all = (new, tt)
all_new P (e ∷ es) o f new all = by (nat_cmp o e.0) refl (all_new P es o f new all.1)
  where
    by : (r : Ordering) → nat_cmp o e.0 ≡ r → AllByRecursion P (with_block es o f) → AllByRecursion P (match_ordering r ((o, f) ∷ e ∷ es) ((e.0, f) ∷ es) (e ∷ with_block es o f))
    by Less q later = (new, all)
    by Equal q later = (subst (λ (x : ℕ). P (x, f)) (told o e.0 Equal q) new, all.1)
    by Greater q later = (all.0, later)

-- ---- entries in order

-- the offsets rise from a bound on
abbrev pub Rising : ℕ → Table → Type 0
Rising low [] = Unit {0}
Rising low (e ∷ es) = (low ≤ e.0) × Rising (suc e.0) es

pub rising_new : (done : Table) (low o : ℕ) (f : Finished) → low ≤ o → Rising low done → Rising low (with_block done o f)
rising_new [] low o f above rising = (above, tt)
rising_new (e ∷ es) low o f above rising = by (nat_cmp o e.0) refl (λ later. rising_new es (suc e.0) o f later rising.1)
  where
    by : (r : Ordering) → nat_cmp o e.0 ≡ r → (suc e.0 ≤ o → Rising (suc e.0) (with_block es o f)) → Rising low (match_ordering r ((o, f) ∷ e ∷ es) ((e.0, f) ∷ es) (e ∷ with_block es o f))
    by Less q later = (above, (told o e.0 Less q, rising.1))
    by Equal q later = rising
    by Greater q later = (rising.0, later (told o e.0 Greater q))

pub found_above : (done : Table) (low o : ℕ) (f : Finished) → Rising low done → at done o ≡ Some f → low ≤ o
found_above [] low o f rising found = absurd (cc)
found_above (e ∷ es) low o f rising found =
    elim (found_where e es o f found) [
      | inl here ↦ let e-is = here.0 in let low-is = rising.0 in omega arith
      | inr later ↦ let above = found_above es (suc e.0) o f rising.1 later in let low-is = rising.0 in omega arith
    ]

-- ---- entries as blocks

abbrev pub block : ℕ → Finished → Block
block o f = record { start = o; end = f.end; tree = f.tree }

abbrev pub blocks_of : Table → List Block
blocks_of done = map (λ e. block e.0 e.1) done

pub first_has : {X : Type 0} (x : X) (xs : List X) → Contains (x ∷ xs) x
first_has x xs = (0, omega arith, refl)

pub later_has : {X : Type 0} (x y : X) (xs : List X) → Contains xs y → Contains (x ∷ xs) y
later_has x y xs has = (suc has.0, omega (arith, has.1), has.2)

pub has_where : {X : Type 0} (x y : X) (xs : List X) → Contains (x ∷ xs) y → (x ≡ y) ⊎ Contains xs y
has_where x y xs (zero, lt, e) = inl e
has_where x y xs (suc k, lt, e) = inr (k, omega (arith, lt), e)

pub has_none : {X : Type 0} (y : X) → Contains [] y → ⊥
has_none y has = let no = has.1 in omega arith

pub block_found : (done : Table) (o : ℕ) (f : Finished) → at done o ≡ Some f → Contains (blocks_of done) (block o f)
block_found [] o f found = absurd (cc)
block_found (e ∷ es) o f found =
    elim (found_where e es o f found) [
      | inl here ↦ subst (λ (x : Block). Contains (blocks_of (e ∷ es)) x) (λ i. block (here.0 i) (here.1 i)) (first_has (block e.0 e.1) (blocks_of es))
      | inr later ↦ later_has (block e.0 e.1) (block o f) (blocks_of es) (block_found es o f later)
    ]

abbrev pub finished_of : Block → Finished
finished_of b = record { end = b.end; tree = b.tree }

pub found_block : (done : Table) (low : ℕ) (b : Block) → Rising low done → Contains (blocks_of done) b → at done b.start ≡ Some (finished_of b)
found_block [] low b rising has = absurd (has_none b has)
found_block (e ∷ es) low b rising has =
    elim (has_where (block e.0 e.1) b (blocks_of es) has) [
      | inl here ↦ subst (λ (x : Block). at (e ∷ es) x.start ≡ Some (finished_of x)) here (rw (same_start e.0) refl)
      | inr later ↦
          let found : at es b.start ≡ Some (finished_of b) = found_block es (suc e.0) b rising.1 later in
          let above : suc e.0 ≤ b.start = found_above es (suc e.0) b.start (finished_of b) rising.1 found in
          rw (other_start b.start e.0 (omega arith)) found
    ]

-- ---- how far it is free

pub free_within : (o limit : ℕ) (done : Table) → o ≤ limit → free_to o limit done ≤ limit
free_within o limit [] le = omega arith
free_within o limit (e ∷ es) le = by (nat_le e.1.end o) (nat_le e.0 o) (nat_lt e.0 limit) refl (free_within o limit es le)
  where
    by : (a b c : Bool) → nat_lt e.0 limit ≡ c → free_to o limit es ≤ limit → cond a (free_to o limit es) (cond b o (cond c e.0 limit)) ≤ limit
    by true b c q later = later
    by false true c q later = le
    by false false true q later = grind (arith, nat_tests)
    by false false false q later = omega arith

-- What is finished ends at or before the offset, or what is free ends at or before its start, or nothing is free.
pub stop_apart : (o limit low : ℕ) (done : Table) (p : ℕ) (f : Finished) → Rising low done → at done p ≡ Some f → (f.end ≤ o) ⊎ ((free_to o limit done ≤ p) ⊎ (free_to o limit done ≤ o))
stop_apart o limit low [] p f rising found = absurd (cc)
stop_apart o limit low (e ∷ es) p f rising found =
    by (nat_le e.1.end o) (nat_le e.0 o) (nat_lt e.0 limit) refl refl refl (found_where e es p f found) (λ later. stop_apart o limit (suc e.0) es p f rising.1 later) (λ later. found_above es (suc e.0) p f rising.1 later)
  where
    by : (a b c : Bool) → nat_le e.1.end o ≡ a → nat_le e.0 o ≡ b → nat_lt e.0 limit ≡ c → ((e.0 ≡ p) × (e.1 ≡ f)) ⊎ (at es p ≡ Some f)
        → (at es p ≡ Some f → (f.end ≤ o) ⊎ ((free_to o limit es ≤ p) ⊎ (free_to o limit es ≤ o))) → (at es p ≡ Some f → suc e.0 ≤ p)
        → (f.end ≤ o) ⊎ ((cond a (free_to o limit es) (cond b o (cond c e.0 limit)) ≤ p) ⊎ (cond a (free_to o limit es) (cond b o (cond c e.0 limit)) ≤ o))
    by true b c ends q r (inl here) later above = let same : e.1.end ≡ f.end = ap (λ (x : Finished). x.end) here.1 in inl (grind (arith, nat_tests))
    by true b c ends q r (inr there) later above = later there
    by false true c ends q r there later above = inr (inr (omega arith))
    by false false true ends q r (inl here) later above = inr (inl (let same = here.0 in omega arith))
    by false false true ends q r (inr there) later above = inr (inl (let less = above there in omega arith))
    by false false false ends q r (inl here) later above = inr (inl (let same = here.0 in grind (arith, nat_tests)))
    by false false false ends q r (inr there) later above = inr (inl (let less = above there in grind (arith, nat_tests)))

-- Where each entry is apart from the bytes from the offset to an end, these are free.
pub stop_far : (o limit end : ℕ) (done : Table) → o < end → end ≤ limit → AllByRecursion (λ e. (e.1.end ≤ o) ⊎ (end ≤ e.0)) done → end ≤ free_to o limit done
stop_far o limit end [] some within all = within
stop_far o limit end (e ∷ es) some within all = by (nat_le e.1.end o) (nat_le e.0 o) (nat_lt e.0 limit) refl refl all.0 (stop_far o limit end es some within all.1)
  where
    by : (a b c : Bool) → nat_le e.1.end o ≡ a → nat_le e.0 o ≡ b → (e.1.end ≤ o) ⊎ (end ≤ e.0) → end ≤ free_to o limit es → end ≤ cond a (free_to o limit es) (cond b o (cond c e.0 limit))
    by true b c ends q apart later = later
    by false b c ends q (inl before) later = absurd (grind (arith, nat_tests))
    by false true c ends q (inr behind) later = absurd (grind (arith, nat_tests))
    by false false true ends q (inr behind) later = behind
    by false false false ends q (inr behind) later = within
