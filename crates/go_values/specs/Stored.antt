-- Where the bytes of a text are.
use Rattle.std.proofs.Common.{ℕ, List, ◌≤◌}
use Rattle.std.specs.Prelude.{⊤, take}
use Rattle.std.specs.Arc.{arc_slice_items}
use Rattle.go_values.specs.declared.byte_list.Stored.{Stored}
use Rattle.go_values.specs.declared.byte_list.Stored.TheVariants.{Short, Shared, Owned}

-- The bytes of the text.
unfoldable pub bytes_of : Stored → List ℕ
bytes_of (Short len room) = take len room
bytes_of (Shared text) = arc_slice_items text
bytes_of (Owned text) = text.items

-- A text in place is no longer than its room.
unfoldable pub IsStored : Stored → Type 0
IsStored (Short len room) = len ≤ 30
IsStored (Shared text) = ⊤
IsStored (Owned text) = ⊤
