-- The numbers of predeclared types.
use Rattle.std.specs.Prelude.{◌≡◌, ℕ, List, true, false, length, slice_index_or}
use Rattle.type_terms.specs.declared.descriptors.Node.{Node}
use Rattle.type_terms.specs.Denotation.{tree}
use Rattle.file_layout.specs.Walk.{is_made}
use Rattle.file_layout.specs.Places.{number_from}

-- a node that has no descriptor has the code of its type
abbrev pub IsLabelled : List Node → List ℕ → ℕ → Type 0
IsLabelled nodes numbers id = is_made (tree nodes id) ≡ false
    → slice_index_or numbers id 0 ≡ number_from (tree nodes id) 0

-- Codes were set, and the numbers of nodes that have descriptors are as before.
pub record Labels (nodes : List Node) (old new : List ℕ) : Type 0 where
  pub same : length new ≡ length old
  pub kept : (id : ℕ) → is_made (tree nodes id) ≡ true → slice_index_or new id 0 ≡ slice_index_or old id 0
  pub stays : (id : ℕ) → IsLabelled nodes old id → IsLabelled nodes new id
