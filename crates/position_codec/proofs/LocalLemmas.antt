-- Reading a position depends only on the bytes up to where it ends or its fault is met.
use Rattle.std.proofs.Common.{ℕ, List, Bool, true, false, Some, Result, Ok, refl}
use Rattle.std.specs.Prelude.{ℤ, nat_eq, not, ◌==◌}
use Rattle.std.specs.Cmp.Lexicographic.{pointwise}
use Rattle.wire_bytes.specs.declared.fault.ByteFault.{ByteFault}
use Rattle.wire_bytes.specs.declared.fault.ByteFault.TheVariants as faults
use Rattle.wire_bytes.specs.Reading.{Spot, ◌>>=◌, demand, or_fault}
use Rattle.wire_bytes.specs.Uvarint.{uvarint_at}
use Rattle.wire_bytes.specs.Varint.{number_of, varint_at}
use Rattle.wire_bytes.specs.Text.{text_in}
use Rattle.wire_bytes.specs.Local.{IsLocal}
use Rattle.wire_bytes.proofs.LocalLemmas.{TakesSome, IsLocalFrom, done_local, then_from, then_local, from_demand, from_or, from_done, some_then}
use Rattle.wire_bytes.proofs.NumbersLocal.{uvarint_local, uvarint_some, varint_local, varint_some}
use Rattle.position_codec.specs.Place.{Place, half, is_odd, moved, place_at}
use Rattle.position_codec.specs.Position.{moved_at, file_at, line_at, behind_line, behind_column, position_at}

-- what follows a signed number, and what follows an offset
moving : ℕ → ℕ → ℤ → Spot → Result ((ℤ × ℕ) × Spot) ByteFault
moving before start number s = or_fault (faults.Range start (number_of number)) (moved before (half number)) >>= λ now. Ok ((number, now), s)

moving_from : (before start : ℕ) (number : ℤ) → IsLocalFrom start (moving before start number)
unfolding moving
moving_from before start number =
    from_or start (faults.Range start (number_of number)) (moved before (half number)) (λ now s. Ok ((number, now), s)) (refl, refl) (λ now. from_done start (number, now))

moved_local : (before : ℕ) → IsLocal (moved_at before)
unfolding moved_at moving
moved_local before = then_from varint_at (moving before) varint_local varint_some (moving_from before)

moved_some : (before : ℕ) → TakesSome (moved_at before)
unfolding moved_at moving
moved_some before = some_then varint_at (moving before) varint_some (λ start number. (moving_from before start number).steady)

naming : List ℕ → List ℕ → ℕ → ℕ → Spot → Result ((ℕ × List ℕ) × Spot) ByteFault
naming strings before start offset s =
    or_fault (faults.Range start offset) (text_in strings offset) >>= λ file. demand (not (pointwise nat_eq file before)) (faults.Number start) >>= λ other. Ok ((offset, file), s)

file_local : (strings before : List ℕ) → IsLocal (file_at strings before)
unfolding file_at naming
file_local strings before =
    then_from uvarint_at (naming strings before) uvarint_local uvarint_some
    (λ start offset. from_or start (faults.Range start offset) (text_in strings offset) (λ file s. demand (not (pointwise nat_eq file before)) (faults.Number start) >>= λ other. Ok ((offset, file), s)) (refl, refl)
    (λ file. from_demand start (not (pointwise nat_eq file before)) (faults.Number start) (λ s. Ok ((offset, file), s)) (refl, refl) (from_done start (offset, file))))

lining : ℕ → ℤ × ℕ → Spot → Result ((ℤ × ℕ) × Spot) ByteFault
lining start line s = demand (not (number_of line.0 == 0)) (faults.Number start) >>= λ some. Ok (line, s)

line_local : (before : ℕ) → IsLocal (line_at before)
unfolding line_at lining
line_local before =
    then_from (moved_at before) lining (moved_local before) (moved_some before)
    (λ start line. from_demand start (not (number_of line.0 == 0)) (faults.Number start) (λ s. Ok (line, s)) (refl, refl) (from_done start line))

behind_line_local : (strings : List ℕ) (before : Place) (line column : ℕ) (more : Bool) → IsLocal (behind_line strings before line column more)
behind_line_local strings before line column false = done_local _
behind_line_local strings before line column true =
    then_local (file_at strings before.file) (λ file s. Ok (record { place = place_at file.1 line column; name = Some file.0 }, s)) (file_local strings before.file) (λ file. done_local _)

behind_column_local : (strings : List ℕ) (before : Place) (column : ℕ) (more : Bool) → IsLocal (behind_column strings before column more)
behind_column_local strings before column false = done_local _
behind_column_local strings before column true =
    then_local (line_at before.line) (λ line s. behind_line strings before line.1 column (is_odd line.0) s) (line_local before.line) (λ line. behind_line_local strings before line.1 column (is_odd line.0))

pub position_local : (strings : List ℕ) (before : Place) → IsLocal (position_at strings before)
unfolding position_at
position_local strings before =
    then_local (moved_at before.column) (λ column s. behind_column strings before column.1 (is_odd column.0) s) (moved_local before.column)
    (λ column. behind_column_local strings before column.1 (is_odd column.0))
