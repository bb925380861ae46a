use Rattle.std.proofs.Common.{◌≡◌, ℕ, ◌∷◌, ◌++◌, length, map, take}
use Rattle.std.specs.List.{flat_map}
use Rattle.type_terms.specs.Trees.{Tree}
use Rattle.file_layout.specs.Items.{a_number, type_items}
use Rattle.block_writer.specs.Adding.{meant}
use Rattle.block_writer.proofs.lists.push_types.Given as goal

abbrev pub invariant-loop-id : goal.invariant-loop-id
invariant-loop-id l = (type : ℕ → Tree)
    → map (meant type) l.into.items ≡ map (meant type) l.fn.into.items ++ a_number (length (map type l.types)) ∷ flat_map type_items (map type (take l.id-index l.types))
