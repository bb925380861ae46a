-- The turns of the loops that read operators and levels.
use Rattle.std.proofs.Common.{◌≡◌, ℕ, zero, suc, ◌+◌, ◌-◌, ◌<◌, ◌≤◌, min, List, Ok, Err, refl, sym, ap, subst, ◌∙◌, arith}
use Rattle.go_expr_syntax.specs.declared.symbols.Operator.{Operator}
use Rattle.go_expr_syntax.specs.declared.symbols.Symbol.{Symbol}
use Rattle.go_expr_syntax.specs.declared.faults.Fault.{Fault}
use Rattle.go_expr_syntax.specs.declared.faults.Stop.{Stop}
use Rattle.go_expr_syntax.specs.declared.faults.Stop.TheVariants as stop
use Rattle.go_expr_syntax.specs.declared.expressions.Operand.{Operand}
use Rattle.go_expr_syntax.specs.Reading.{Reply, start_of, too_deep, Fails}
use Rattle.go_expr_syntax.specs.Expressions.{binary}
use Rattle.go_expr_syntax.specs.Operands.{Sized, Reader, operator_at, climb_by, climb, level_by, no_expr, expr_of}
use Rattle.go_expr_syntax.proofs.ExprReads.{climb_is}

-- ---- the operators of a level

pub climb_stops : (l : ℕ) (inner : Reader) (x : Sized) (rest : List Symbol) (f : Fault) (total : Reply Sized) → operator_at l rest ≡ Err f → climb l inner x rest ≡ total → total ≡ Ok (x, rest)
climb_stops l inner x rest f total e so =
    let here : climb_by l (climb l inner) inner x rest ≡ Ok (x, rest) = rw e refl in
    sym so ∙ climb_is l inner x rest ∙ here

pub climb_deep : (l : ℕ) (inner : Reader) (x : Operand) (spare : ℕ) (rest : List Symbol) (op : Operator) (after : List Symbol) (total : Reply Sized) → operator_at l rest ≡ Ok (op, after) → spare ≡ 0 → climb l inner (x, spare) rest ≡ total
    → total ≡ too_deep rest
climb_deep l inner x zero rest op after total e z so =
    let here : climb_by l (climb l inner) inner (x, 0) rest ≡ too_deep rest = rw e refl in
    sym so ∙ climb_is l inner (x, 0) rest ∙ here
climb_deep l inner x (suc spare) rest op after total e z so = absurd (omega arith)

climb_err : (l : ℕ) (inner : Reader) (x : Operand) (spare : ℕ) (rest : List Symbol) (op : Operator) (after : List Symbol) (f : Fault) (total : Reply Sized) → operator_at l rest ≡ Ok (op, after) → (spare ≡ 0 → ⊥) → inner after ≡ Err f
    → climb l inner (x, spare) rest ≡ total → total ≡ Err f
climb_err l inner x zero rest op after f total e some h so = absurd (some refl)
climb_err l inner x (suc spare) rest op after f total e some h so =
    let here : climb_by l (climb l inner) inner (x, suc spare) rest ≡ Err f = rw (e, h) refl in
    sym so ∙ climb_is l inner (x, suc spare) rest ∙ here

pub climb_fails : (l : ℕ) (inner : Reader) (x : Operand) (spare : ℕ) (rest : List Symbol) (op : Operator) (after : List Symbol) (s : Stop) (total : Reply Sized) → operator_at l rest ≡ Ok (op, after) → (spare ≡ 0 → ⊥) → Fails s (inner after)
    → climb l inner (x, spare) rest ≡ total → Fails s total
climb_fails l inner x spare rest op after stop.OutOfMemory total e some h so = tt
climb_fails l inner x spare rest op after (stop.At f) total e some h so = climb_err l inner x spare rest op after f total e some h so

pub climb_goes : (l : ℕ) (inner : Reader) (x : Operand) (spare : ℕ) (rest : List Symbol) (op : Operator) (after : List Symbol) (y : Sized) (next : List Symbol) (total : Reply Sized) → operator_at l rest ≡ Ok (op, after) → (spare ≡ 0 → ⊥)
    → inner after ≡ Ok (y, next) → climb l inner (x, spare) rest ≡ total → climb l inner (binary op (start_of rest) x y.0, min (spare - 1) y.1) next ≡ total
climb_goes l inner x zero rest op after y next total e some h so = absurd (some refl)
climb_goes l inner x (suc spare) rest op after y next total e some h so =
    let here : climb_by l (climb l inner) inner (x, suc spare) rest ≡ climb l inner (binary op (start_of rest) x y.0, min spare y.1) next = rw (e, h) refl in
    let less : suc spare - 1 ≡ spare = omega arith in
    ap (λ (k : ℕ). climb l inner (binary op (start_of rest) x y.0, min k y.1) next) less ∙ sym here ∙ sym (climb_is l inner (x, suc spare) rest) ∙ so

-- ---- the levels

-- what stops at a level stops at those above it
level_err : (n : ℕ) (inner : ℕ → Reader) (d j l : ℕ) (ts : List Symbol) (f : Fault) → l ≡ d + j → level_by n inner j ts ≡ Err f → level_by n inner l ts ≡ Err f
level_err n inner zero j l ts f e h = let same : j ≡ l = omega arith in subst (λ i. level_by n inner i ts ≡ Err f) same h
level_err n inner (suc d) j zero ts f e h = absurd (omega arith)
level_err n inner (suc d) j (suc l) ts f e h = let below : level_by n inner l ts ≡ Err f = level_err n inner d j l ts f (omega arith) h in rw below refl

pub level_stops : (n : ℕ) (inner : ℕ → Reader) (j l : ℕ) (ts : List Symbol) (s : Stop) → j ≤ l → Fails s (level_by n inner j ts) → Fails s (level_by n inner l ts)
level_stops n inner j l ts stop.OutOfMemory le h = tt
level_stops n inner j l ts (stop.At f) le h = level_err n inner (l - j) j l ts f (omega arith) h

next_stops : (n : ℕ) (inner : ℕ → Reader) (j : ℕ) (ts : List Symbol) (x : Sized) (rest : List Symbol) (s : Stop) → level_by n inner j ts ≡ Ok (x, rest) → Fails s (climb (suc j) (inner j) x rest) → Fails s (level_by n inner (suc j) ts)
next_stops n inner j ts x rest s e h = rw e h

pub levels_stop : (n : ℕ) (inner : ℕ → Reader) (j l : ℕ) (ts : List Symbol) (x : Sized) (rest : List Symbol) (s : Stop) → level_by n inner j ts ≡ Ok (x, rest) → j < l → Fails s (climb (j + 1) (inner ((j + 1) - 1)) x rest) → Fails s (level_by n inner l ts)
levels_stop n inner j l ts x rest s e less h =
    let up : j + 1 ≡ suc j = omega arith in
    let down : (j + 1) - 1 ≡ j = omega arith in
    level_stops n inner (suc j) l ts s less
    (next_stops n inner j ts x rest s e (subst (λ k. Fails s (climb k (inner j) x rest)) up (subst (λ i. Fails s (climb (j + 1) (inner i) x rest)) down h)))

-- ---- with a node left or not

pub expr_none : (n l : ℕ) (ts : List Symbol) → n ≡ 0 → expr_of n l ts ≡ no_expr ts
unfolding expr_of
expr_none zero l ts e = refl
expr_none (suc n) l ts e = absurd (omega arith)

less_one : (n : ℕ) → suc n - 1 ≡ n
less_one n = omega arith

pub expr_some : (n l : ℕ) (ts : List Symbol) → (n ≡ 0 → ⊥) → expr_of n l ts ≡ level_by (n - 1) (expr_of (n - 1)) l ts
unfolding expr_of
expr_some zero l ts e = absurd (e refl)
expr_some (suc n) l ts e = ap (λ m. level_by m (expr_of m) l ts) (sym (less_one n))
