-- Where the descriptors stand that were read whole, as the code keeps it: by their offsets, each with its index; and
-- which bytes those of a table have.
use Rattle.std.specs.Prelude.{◌≡◌, ℕ, ◌+◌, ◌-◌, ◌<◌, ◌≤◌, ◌⊎◌, List, [], ◌∷◌, ◌++◌, map, length, take, drop, insert, Bool, false, nat_lt, Option}
use Rattle.std.specs.Prelude.{Some, None}
use Rattle.std.specs.List.{AllByRecursion}
use Rattle.std.specs.Map.{lookup}
use Rattle.std.specs.Ordering.{nat_cmp, is_eq}
use Rattle.std.specs.declared.ops.Bound.TheVariants.{Included, Unbounded}
use Rattle.std.specs.BTreeMap.{insert_entry}
use Rattle.std.specs.BTreeMap.Range.{entries_between}
use Rattle.type_terms.specs.Trees.{Tree}
use Rattle.decl_spelling.specs.Tables.{Finished, Table}
use Rattle.decl_reader.specs.declared.places.Place.{Place}

abbrev pub PlaceEntry : Type 0
PlaceEntry = ℕ × Place

-- with the type of its index
abbrev pub placed_as : (ℕ → Tree) → Place → Finished
placed_as types place = record { end = place.end; tree = types place.index }

abbrev pub placed_entry : (ℕ → Tree) → PlaceEntry → ℕ × Finished
placed_entry types entry = (entry.0, placed_as types entry.1)

abbrev pub placed_of : (ℕ → Tree) → List PlaceEntry → Table
placed_of types entries = map (placed_entry types) entries

-- with one more
abbrev pub with_place : List PlaceEntry → ℕ → Place → List PlaceEntry
with_place entries offset place = insert_entry nat_cmp entries offset place

-- the place at an offset
abbrev pub place_at : List PlaceEntry → ℕ → Option Place
place_at entries offset = lookup (λ start. is_eq (nat_cmp offset start)) entries

-- their indices are below so many
abbrev pub AllPlaced : ℕ → List PlaceEntry → Type 0
AllPlaced size = AllByRecursion (λ entry. entry.1.index < size)

-- those that start at the offset or before it
abbrev pub up_to : ℕ → List PlaceEntry → List PlaceEntry
up_to offset entries = entries_between nat_cmp Unbounded (Included offset) entries

-- those that start at the offset or behind it
abbrev pub from : ℕ → List PlaceEntry → List PlaceEntry
from offset entries = entries_between nat_cmp (Included offset) Unbounded entries

-- whether the last of these has the byte at the offset
abbrev pub Covers : Bool → ℕ → List PlaceEntry → Type 0
Covers found offset entries =
    ((entries ≡ []) × (found ≡ false))
    ⊎ ((front : List PlaceEntry) × (last : PlaceEntry) × (entries ≡ front ++ last ∷ [])
    × (found ≡ nat_lt offset last.1.end))

abbrev pub StartsFirst : Option ℕ → List PlaceEntry → Type 0
StartsFirst (Some start) entries =
    (first : PlaceEntry) × (rest : List PlaceEntry) × (entries ≡ first ∷ rest) × (start ≡ first.0)
StartsFirst None entries = entries ≡ []

-- ---- in a list or in a map

-- their offsets rise
abbrev pub AreInOrder : List PlaceEntry → Type 0
AreInOrder [] = Unit {0}
AreInOrder (entry ∷ rest) = AllByRecursion (λ later. entry.0 < later.0) rest × AreInOrder rest

-- one of both has them all
pub record IsOneOf (listed mapped : List PlaceEntry) : Type 0 where
  pub order : AreInOrder listed
  pub one : (mapped ≡ []) ⊎ (listed ≡ [])

-- the first so many start at an offset or before it, and the others behind it
pub record IsDivided (offset count : ℕ) (entries : List PlaceEntry) : Type 0 where
  pub few : count ≤ length entries
  pub begun : AllByRecursion (λ entry. entry.0 ≤ offset) (take count entries)
  pub later : AllByRecursion (λ entry. offset < entry.0) (drop count entries)

-- where a place goes in the list, for a descriptor that starts at an offset
pub record IsSlot (entries : List PlaceEntry) (offset index : ℕ) : Type 0 where
  pub few : index ≤ length entries
  pub goes : (place : Place) → insert entries index (offset, place) ≡ with_place entries offset place

-- ---- the bytes of the descriptors of a table

-- each ends at a limit or before it
abbrev pub EndsBy : ℕ → Table → Type 0
EndsBy limit = AllByRecursion (λ entry. entry.1.end ≤ limit)

-- how many bytes they have
abbrev pub bytes_of : Table → ℕ
bytes_of [] = 0
bytes_of (entry ∷ rest) = entry.1.end - entry.0 + bytes_of rest

-- none of them has a byte from one offset up to another
abbrev pub HasRoom : ℕ → ℕ → Table → Type 0
HasRoom from to = AllByRecursion (λ entry. (entry.1.end ≤ from) ⊎ (to ≤ entry.0))

-- each has a byte, and ends before those behind it start
abbrev pub IsStacked : Table → Type 0
IsStacked [] = Unit {0}
IsStacked (entry ∷ rest) =
    (entry.0 < entry.1.end) × AllByRecursion (λ later. entry.1.end ≤ later.0) rest × IsStacked rest
