-- Places, and numbers that go on from one to the next.
use Rattle.std.specs.Prelude.{ℕ, ◌+◌, ◌-◌, ◌/◌, ◌%◌, ◌^◌, ℤ, pos, negsuc, ◌+ℤ◌, ◌-ℤ◌, ◌*ℤ◌, ◌==◌, ◌&&◌, nat_lt}
use Rattle.std.specs.Prelude.{if◌then◌else◌, List, [], length, Bool, Option, Some, None}
use Rattle.go_values.specs.declared.positions.Pos.{Pos}
use Rattle.go_values.specs.declared.positions.Pos.TheVariants.{Nowhere, At}

-- a place in a source file; no file, line 0 and column 0 stand for none
pub record Place : Type 0 where
  pub file : List ℕ
  pub line : ℕ
  pub column : ℕ

abbrev pub place_at : List ℕ → ℕ → ℕ → Place
place_at file line column = record { file = file; line = line; column = column }

abbrev pub no_place : Place
no_place = place_at [] 0 0

-- the place of a position
abbrev pub place_of : Pos → Place
place_of Nowhere = no_place
place_of (At file line column) = place_at file line column

-- the position at a place
abbrev pub pos_of : Place → Pos
pos_of p = if (length p.file == 0) && (p.line == 0) && (p.column == 0) then Nowhere else At p.file p.line p.column

-- A place that is spelled, and the offset under which its file was named, if it was.
pub record Named : Type 0 where
  pub place : Place
  pub name : Option ℕ

-- what the place before the next one is, where the last name stays until there is another
abbrev pub latest : Option ℕ → Option ℕ → Option ℕ
latest (Some o) before = Some o
latest None before = before

-- another line and column of the file that was named last
abbrev pub same_file : Named → ℕ → ℕ → Named
same_file before line column = record { place = place_at before.place.file line column; name = before.name }

abbrev pub moved_on : Named → Named → Named
moved_on before now = record { place = now.place; name = latest now.name before.name }

-- ---- from one number to the next

-- twice the difference, and one more where something follows
abbrev pub delta : ℕ → ℕ → Bool → ℤ
delta from to more = (pos 2 *ℤ (pos to -ℤ pos from)) +ℤ (if more then pos 1 else pos 0)

-- the d of 2d and of 2d + 1
abbrev pub half : ℤ → ℤ
half (pos n) = pos (n / 2)
half (negsuc n) = negsuc (n / 2)

abbrev pub is_odd : ℤ → Bool
is_odd (pos n) = n % 2 == 1
is_odd (negsuc n) = n % 2 == 0

-- a number of 32 bits moved by a difference, if it is still one
abbrev pub moved : ℕ → ℤ → Option ℕ
moved n (pos d) = if nat_lt (n + d) (2 ^ 32) then Some (n + d) else None
moved n (negsuc d) = if nat_lt d n then Some (n - (d + 1)) else None
