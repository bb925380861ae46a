-- Steps that come again and again: their number never shows, and they do what each step does.
use Rattle.std.proofs.Common.{◌≡◌, ℕ, zero, suc, ◌<◌, length, List, sym, subst, arith}
use Rattle.go_expr_syntax.specs.declared.symbols.Symbol.{Symbol}
use Rattle.go_expr_syntax.specs.Reading.{Reply, steps_of, steps}
use Rattle.go_expr_syntax.specs.declared.faults.Fault.{Fault}
use Rattle.go_expr_syntax.proofs.Viable.{going, ReadsBy, ReadsAt, like_by}

-- a step asks for what comes later alone
abbrev pub Local : {Y : Type 0} → ((List Symbol → Reply Y) → List Symbol → Reply Y) → Type 0
Local {Y} step = (f g : List Symbol → Reply Y) (ts : List Symbol) → ((vs : List Symbol) → length vs < length ts → f vs ≡ g vs) → step f ts ≡ step g ts

enough : {Y : Type 0} (step : (List Symbol → Reply Y) → List Symbol → Reply Y) → Local step → (f g : ℕ) (ts : List Symbol) → length ts < f → length ts < g → steps_of f step ts ≡ steps_of g step ts
unfolding steps_of
enough step local zero g ts a b = absurd (omega arith)
enough step local (suc f) zero ts a b = absurd (omega arith)
enough step local (suc f) (suc g) ts a b = local (steps_of f step) (steps_of g step) ts (λ vs less. enough step local f g vs (omega arith) (omega arith))

pub steps_is : {Y : Type 0} (step : (List Symbol → Reply Y) → List Symbol → Reply Y) → Local step → (ts : List Symbol) → steps step ts ≡ step (steps step) ts
unfolding steps_of
steps_is step local ts = local (steps_of (length ts) step) (steps step) ts (λ vs less. enough step local (length ts) (suc (length vs)) vs less (omega arith))

steps_up : {Y : Type 0} (Q : List Symbol → Y → List Symbol → Type 0) (W : Fault → List Symbol → Y → List Symbol → Type 0) (step : (List Symbol → Reply Y) → List Symbol → Reply Y) → Local step
    → ((more : List Symbol → Reply Y) (ts : List Symbol) → ((vs : List Symbol) → length vs < length ts → ReadsBy Q W more vs (more vs)) → ReadsBy Q W (step more) ts (step more ts))
    → (n : ℕ) (ts : List Symbol) → length ts < n → ReadsBy Q W (steps step) ts (steps step ts)
steps_up Q W step local h zero ts less = absurd (omega arith)
steps_up Q W step local h (suc n) ts less =
    like_by Q W (steps step) (step (steps step)) ts (steps step ts) (λ r e. steps_is step local r)
    (subst (ReadsBy Q W (step (steps step)) ts) (sym (steps_is step local ts)) (h (steps step) ts (λ vs fewer. steps_up Q W step local h n vs (omega arith))))

pub steps_by : {Y : Type 0} (Q : List Symbol → Y → List Symbol → Type 0) (W : Fault → List Symbol → Y → List Symbol → Type 0) (step : (List Symbol → Reply Y) → List Symbol → Reply Y) → Local step
    → ((more : List Symbol → Reply Y) (ts : List Symbol) → ((vs : List Symbol) → length vs < length ts → ReadsBy Q W more vs (more vs)) → ReadsBy Q W (step more) ts (step more ts))
    → (ts : List Symbol) → ReadsBy Q W (steps step) ts (steps step ts)
steps_by Q W step local h ts = steps_up Q W step local h (suc (length ts)) ts (omega arith)

pub steps_read : {Y : Type 0} (Q : List Symbol → Y → List Symbol → Type 0) (step : (List Symbol → Reply Y) → List Symbol → Reply Y) → Local step
    → ((more : List Symbol → Reply Y) (ts : List Symbol) → ((vs : List Symbol) → length vs < length ts → ReadsAt Q more vs (more vs)) → ReadsAt Q (step more) ts (step more ts))
    → (ts : List Symbol) → ReadsAt Q (steps step) ts (steps step ts)
steps_read Q step local h ts = steps_by Q (going Q) step local h ts
