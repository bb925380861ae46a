-- A memory is a table that is in order and sound.
use Rattle.std.proofs.Common.{ℕ, suc, ◌<◌, ◌≤◌, ◌⊎◌, inl, inr, List, [], ◌∷◌, ◌++◌, Contains, subst, arith}
use Rattle.std.specs.List.{AllByRecursion}
use Rattle.decl_spelling.specs.Sections.{Sections}
use Rattle.decl_spelling.specs.Tables.{Table}
use Rattle.decl_spelling.specs.Spelling.{Block}
use Rattle.decl_spelling.specs.KnownTypes.{Kept}
use Rattle.decl_spelling.proofs.TableLaws.{Rising, block, blocks_of, finished_of, block_found, found_block, has_none, has_where, first_has, later_has}
use Rattle.decl_spelling.proofs.TypeTakes.{Fine}
use Rattle.decl_spelling.proofs.TypeAgain.{Inside}
use Rattle.decl_spelling.proofs.MapLemmas.{all_weaker}
use Rattle.shared_reading.specs.Memory.{InOrder, IsMemory}

-- ---- the same order

rising_from : (low : ℕ) (t : Table) → AllByRecursion (λ e. low ≤ e.0) t → InOrder t → Rising low t
rising_from low [] above order = tt
rising_from low (e ∷ es) above order =
    (above.0, rising_from (suc e.0) es (all_weaker (λ later. e.0 < later.0) (λ later. suc e.0 ≤ later.0) (λ later lt. omega (arith, lt)) es order.0) order.1)

rising_above : (low : ℕ) (t : Table) → Rising low t → AllByRecursion (λ e. low ≤ e.0) t
rising_above low [] rising = tt
rising_above low (e ∷ es) rising =
    (rising.0, all_weaker (λ later. suc e.0 ≤ later.0) (λ later. low ≤ later.0) (λ later le. omega (arith, le, rising.0)) es (rising_above (suc e.0) es rising.1))

order_from : (low : ℕ) (t : Table) → Rising low t → InOrder t
order_from low [] rising = tt
order_from low (e ∷ es) rising =
    (all_weaker (λ later. suc e.0 ≤ later.0) (λ later. e.0 < later.0) (λ later le. omega (arith, le)) es (rising_above (suc e.0) es rising.1), order_from (suc e.0) es rising.1)

all_above : (t : Table) → AllByRecursion (λ e. 0 ≤ e.0) t
all_above [] = tt
all_above (e ∷ es) = (omega arith, all_above es)

pub in_order_rises : (t : Table) → InOrder t → Rising 0 t
in_order_rises t order = rising_from 0 t (all_above t) order

pub fine_memory : (src : Sections) (memory : Table) → IsMemory src memory → Fine src memory
fine_memory src memory is = record { rising = rising_from 0 memory (all_above memory) is.in_order; sound = is.sound }

pub memory_fine : (src : Sections) (memory : Table) → Fine src memory → IsMemory src memory
memory_fine src memory fine = record { in_order = order_from 0 memory fine.rising; sound = fine.sound }

pub no_memory : (src : Sections) → IsMemory src []
no_memory src = record { in_order = tt; sound = record { each = λ b has. absurd (has_none b has); apart = λ a b has_a has_b. absurd (has_none a has_a) } }

-- ---- blocks of a table

-- what is kept is among the blocks
pub kept_blocks : (some all : Table) (low : ℕ) → Rising low some → Kept some all → (b : Block) → Contains (blocks_of some) b → Contains (blocks_of all) b
kept_blocks some all low rising kept b has = block_found all b.start (finished_of b) (kept b.start (finished_of b) (found_block some low b rising has))

pub blocks_kept : (some all : Table) (low : ℕ) → Rising low all → ((b : Block) → Contains (blocks_of some) b → Contains (blocks_of all) b) → Kept some all
blocks_kept some all low rising more o f found = found_block all low (block o f) rising (more (block o f) (block_found some o f found))

pub inside_all : (src : Sections) (all : List Block) (t : Table) → ((b : Block) → Contains (blocks_of t) b → Contains all b) → Inside src all t
inside_all src all [] each = tt
inside_all src all (e ∷ es) each =
    (each (block e.0 e.1) (first_has (block e.0 e.1) (blocks_of es)), inside_all src all es (λ b has. each b (later_has (block e.0 e.1) b (blocks_of es) has)))

pub inside_has : (src : Sections) (all : List Block) (t : Table) → Inside src all t → (b : Block) → Contains (blocks_of t) b → Contains all b
inside_has src all [] inside b has = absurd (has_none b has)
inside_has src all (e ∷ es) inside b has =
    elim (has_where (block e.0 e.1) b (blocks_of es) has) [
      | inl here ↦ subst (Contains all) here inside.0
      | inr later ↦ inside_has src all es inside.1 b later
    ]

-- ---- two lists of blocks

pub has_front : (xs ys : List Block) (b : Block) → Contains xs b → Contains (xs ++ ys) b
has_front [] ys b has = absurd (has_none b has)
has_front (x ∷ xs) ys b has =
    elim (has_where x b xs has) [
      | inl here ↦ subst (Contains (x ∷ xs ++ ys)) here (first_has x (xs ++ ys))
      | inr later ↦ later_has x b (xs ++ ys) (has_front xs ys b later)
    ]

pub has_back : (xs ys : List Block) (b : Block) → Contains ys b → Contains (xs ++ ys) b
has_back [] ys b has = has
has_back (x ∷ xs) ys b has = later_has x b (xs ++ ys) (has_back xs ys b has)

pub has_either : (xs ys : List Block) (b : Block) → Contains (xs ++ ys) b → Contains xs b ⊎ Contains ys b
has_either [] ys b has = inr has
has_either (x ∷ xs) ys b has =
    elim (has_where x b (xs ++ ys) has) [
      | inl here ↦ inl (subst (Contains (x ∷ xs)) here (first_has x xs))
      | inr later ↦ elim (has_either xs ys b later) [ inl front ↦ inl (later_has x b xs front) | inr back ↦ inr back ]
    ]
