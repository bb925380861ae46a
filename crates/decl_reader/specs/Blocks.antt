-- The descriptors whose types have nodes, as the code keeps them: by their offsets, with these nodes.
use Rattle.std.specs.Prelude.{ℕ, ◌<◌, List, map, slice_index_or}
use Rattle.std.specs.List.{AllByRecursion}
use Rattle.std.specs.Ordering.{nat_cmp}
use Rattle.std.specs.BTreeMap.{insert_entry}
use Rattle.type_terms.specs.declared.descriptors.Node.{Node}
use Rattle.type_terms.specs.Denotation.{tree}
use Rattle.type_terms.specs.Trees.{Tree}
use Rattle.decl_spelling.specs.Tables as of_trees
use Rattle.decl_reader.specs.declared.places.Place.{Place}
use Rattle.decl_reader.specs.declared.reading.Known.{Known}
use Rattle.decl_reader.specs.declared.reading.Known.TheVariants.{Remembered, Read}
use Rattle.decl_reader.specs.declared.table.Finished.{Finished}
use Rattle.decl_reader.specs.Places.{PlaceEntry, placed_as}

abbrev pub Entry : Type 0
Entry = ℕ × Finished

-- with the type that its node denotes
abbrev pub finished_of : List Node → Finished → of_trees.Finished
finished_of nodes finished = record { end = finished.end; tree = tree nodes finished.node }

abbrev pub entry_of : List Node → Entry → ℕ × of_trees.Finished
entry_of nodes entry = (entry.0, finished_of nodes entry.1)

abbrev pub table_of : List Node → List Entry → of_trees.Table
table_of nodes entries = map (entry_of nodes) entries

-- with one more
abbrev pub with_entry : List Entry → ℕ → Finished → List Entry
with_entry entries offset finished = insert_entry nat_cmp entries offset finished

-- their nodes are among so many
abbrev pub AllInside : ℕ → List Entry → Type 0
AllInside size = AllByRecursion (λ entry. entry.1.node < size)

-- ---- by places, with the nodes of their indices

abbrev pub made : List ℕ → Place → Finished
made ids place = record { end = place.end; node = slice_index_or ids place.index 0 }

abbrev pub made_entry : List ℕ → PlaceEntry → Entry
made_entry ids entry = (entry.0, made ids entry.1)

abbrev pub made_of : List ℕ → List PlaceEntry → List Entry
made_of ids entries = map (made_entry ids) entries

-- ---- what is known

-- where a descriptor ends and the type that it spells, by the node of one that is remembered, or by the index of one
-- that was read
abbrev pub known_as : List Node → (ℕ → Tree) → Known → of_trees.Finished
known_as nodes types (Remembered finished) = finished_of nodes finished
known_as nodes types (Read place) = placed_as types place

-- among so many nodes, or among so many that were read
abbrev pub IsThere : ℕ → ℕ → Known → Type 0
IsThere size count (Remembered finished) = finished.node < size
IsThere size count (Read place) = place.index < count
