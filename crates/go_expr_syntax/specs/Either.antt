-- Two readings of the same tokens, where only later ones show which of them is meant.
use Rattle.std.specs.Prelude.{ℕ, suc, ◌==◌, nat_le, if◌then◌else◌, length, Option, Some, None, Ok, Err}
use Rattle.go_expr_syntax.specs.declared.faults.Fault.{Fault}
use Rattle.go_expr_syntax.specs.declared.faults.Fault.TheVariants.{Unexpected, Deep, DotImport, Call}
use Rattle.go_expr_syntax.specs.Reading.{Reply}

-- How many tokens have to be left at the fault of the first reading, that the second one counts, which has this
-- fault: it goes as far, and
-- further where it is merely Unexpected there.
abbrev pub needed_at : Fault → ℕ
needed_at (Unexpected k) = suc k
needed_at (Deep k began) = k
needed_at (DotImport k) = k
needed_at (Call k at) = k

abbrev pub needed : {X : Type 0} → Reply X → ℕ
needed (Ok z) = length z.1
needed (Err f) = needed_at f

-- which of two faults counts, where the first has so many tokens left
abbrev pub later : Fault → ℕ → Fault → Fault
later first left second = if nat_le (needed_at second) left then second else first

-- the second reading, where the first has this fault with so many tokens left
abbrev pub instead_of : {X : Type 0} → Fault → ℕ → Reply X → Reply X
instead_of f k second = if nat_le (needed second) k then second else Err f

-- where the outermost type begins, if a path is too long in this reading too, with the same token
abbrev pub began_here : {X : Type 0} → ℕ → Reply X → Option ℕ
began_here k (Err (Deep j at)) = if j == k then Some at else None
began_here k _ = None

abbrev pub or_at : ℕ → Option ℕ → ℕ
or_at began (Some at) = at
or_at began None = began

-- The second reading, where the first has this fault. Where a path is too long in both, the outermost type is that
-- of the second: its name stands before the bracket.
abbrev pub after_fault : {X : Type 0} → Fault → Reply X → Reply X
after_fault (Deep k began) second = Err (Deep k (or_at began (began_here k second)))
after_fault (Unexpected k) second = instead_of (Unexpected k) k second
after_fault (DotImport k) second = instead_of (DotImport k) k second
after_fault (Call k at) second = instead_of (Call k at) k second

-- the first reading, unless it fails and the second goes further
abbrev pub either : {X : Type 0} → Reply X → Reply X → Reply X
either (Ok z) second = Ok z
either (Err f) second = after_fault f second
