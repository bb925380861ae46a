-- The value that is found by a number, where each value has a number of its own.
use Rattle.std.proofs.Common.{◌≡◌, ℕ, Option, Some, None, ap, sym, ◌∙◌}
use Rattle.std.specs.Prelude.{IsSome, IfSome}

pub the_value : {T : Type 0} (number : T → ℕ) → ((left right : T) → number left ≡ number right → left ≡ right) → (found : Option T) (n : ℕ)
    → IsSome found → IfSome found (λ value. number value ≡ n) → (value : T) → number value ≡ n → found ≡ Some value
the_value number exact (Some first) n some numbered value e = ap Some (exact first value (numbered ∙ sym e))
the_value number exact None n some numbered value e = cc
