-- Runs of digits are those of the grammar, in both directions.
use Rattle.std.proofs.Common.{ℕ, ◌≡◌, ◌≤◌, ◌<◌, Bool, true, false, cond, ◌&&◌, ◌==◌, List, [], ◌∷◌, sym, ap, ◌∙◌, refl, ◌⊎◌, inl, inr, ⊎_elim, arith, eqb, ltb, nat_lt}
use borrow.Author.Tests.{true-eqb}
use Rattle.std.proofs.lemmas.Bool.{lt-ltb}
use Rattle.std.proofs.lemmas.Bool.Decides.{nat_tests}
use Rattle.std.specs.Char.{digit_value}
use Rattle.go_lexer.specs.Characters.{underscore}
use Rattle.go_lexer.specs.NumberGrammar.{IsDigits, IsDigitsOrNone, IsLedDigits}
use Rattle.go_lexer.specs.Numbers.{digits_after, is_digits, is_led_digits, is_digits_or_none}
use Rattle.go_lexer.proofs.Choices.{chosen}
use Rattle.go_lexer.proofs.Letters.{both}

lt_from : (a b : ℕ) → ltb a b ≡ true → a < b
lt_from a b e = grind (arith, nat_tests)

-- a digit, and what follows it
abbrev After : ℕ → List ℕ → Type 0
After radix [] = Unit {0}
After radix (e ∷ ds) = IsDigits radix (e ∷ ds) ⊎ ((e ≡ underscore) × IsDigits radix ds)

put : (radix d : ℕ) (cs : List ℕ) → digit_value d < radix → After radix cs → IsDigits radix (d ∷ cs)
put radix d [] h a = h
put radix d (e ∷ ds) h a = (h, a)

module _ (radix : ℕ) where
  first_take : (c : ℕ) (cs : List ℕ) → (digits_after radix true cs ≡ true → After radix cs) → digits_after radix false (c ∷ cs) ≡ true → IsDigits radix (c ∷ cs)
  first_take c cs f e = ⊎_elim
      (λ h. cc (h.1))
      (λ h. let k = both (nat_lt (digit_value c) radix) (digits_after radix true cs) h.1 in put radix c cs (lt_from (digit_value c) radix k.0) (f k.1))
      (chosen (c == underscore) (false && digits_after radix false cs) (nat_lt (digit_value c) radix && digits_after radix true cs) true e)

  mutual
    digits_take : (cs : List ℕ) → digits_after radix false cs ≡ true → IsDigits radix cs
    digits_take [] e = cc
    digits_take (c ∷ cs) e = first_take c cs (after_take cs) e

    after_take : (cs : List ℕ) → digits_after radix true cs ≡ true → After radix cs
    after_take [] e = tt
    after_take (c ∷ cs) e = ⊎_elim
        (λ h. inr (true-eqb c underscore (sym h.0), digits_take cs h.1))
        (λ h. let k = both (nat_lt (digit_value c) radix) (digits_after radix true cs) h.1 in inl (put radix c cs (lt_from (digit_value c) radix k.0) (after_take cs k.1)))
        (chosen (c == underscore) (true && digits_after radix false cs) (nat_lt (digit_value c) radix && digits_after radix true cs) true e)

if_yes : {A : Type 0} (b : Bool) (x y : A) → b ≡ true → cond b x y ≡ x
if_yes b x y h = ap (λ t. cond t x y) h

if_no : {A : Type 0} (b : Bool) (x y : A) → b ≡ false → cond b x y ≡ y
if_no b x y h = ap (λ t. cond t x y) h

pub is_underscore : (c : ℕ) → c ≡ underscore → eqb c underscore ≡ true
is_underscore c e = grind (arith, nat_tests)

pub no_underscore : (radix c : ℕ) → radix ≤ 36 → digit_value c < radix → eqb c underscore ≡ false
no_underscore radix c most h = by_eqb (eqb c underscore) refl
  where
    by_eqb : (b : Bool) → eqb c underscore ≡ b → b ≡ false
    by_eqb true e = let same : c ≡ underscore = true-eqb c underscore (sym e) in (let k : digit_value c ≡ 36 = ap digit_value same in absurd (omega arith))
    by_eqb false e = refl

pub head_digit : (radix c : ℕ) (cs : List ℕ) → IsDigits radix (c ∷ cs) → digit_value c < radix
head_digit radix c [] h = h
head_digit radix c (d ∷ cs) h = h.0

module _ (radix : ℕ) (most : radix ≤ 36) where
  -- after a digit it makes no difference to a digit
  same_after : (c : ℕ) (cs : List ℕ) → digit_value c < radix → digits_after radix true (c ∷ cs) ≡ digits_after radix false (c ∷ cs)
  same_after c cs h =
      let n = no_underscore radix c most h in
      if_no (c == underscore) (true && digits_after radix false cs) (nat_lt (digit_value c) radix && digits_after radix true cs) n
      ∙ sym (if_no (c == underscore) (false && digits_after radix false cs) (nat_lt (digit_value c) radix && digits_after radix true cs) n)

  first_again : (c : ℕ) (cs : List ℕ) → digit_value c < radix → digits_after radix true cs ≡ true → digits_after radix false (c ∷ cs) ≡ true
  first_again c cs h e =
      if_no (c == underscore) (false && digits_after radix false cs) (nat_lt (digit_value c) radix && digits_after radix true cs) (no_underscore radix c most h)
      ∙ ap (λ b. b && digits_after radix true cs) (lt-ltb (digit_value c) radix h) ∙ e

  after_by : (d : ℕ) (cs : List ℕ) → IsDigits radix (d ∷ cs) ⊎ ((d ≡ underscore) × IsDigits radix cs) → (IsDigits radix (d ∷ cs) → is_digits radix (d ∷ cs) ≡ true) → (IsDigits radix cs → is_digits radix cs ≡ true)
      → digits_after radix true (d ∷ cs) ≡ true
  after_by d cs (inl h) f g = same_after d cs (head_digit radix d cs h) ∙ f h
  after_by d cs (inr h) f g = if_yes (d == underscore) (true && digits_after radix false cs) (nat_lt (digit_value d) radix && digits_after radix true cs) (is_underscore d h.0) ∙ g h.1

  pub digits_again : (cs : List ℕ) → IsDigits radix cs → is_digits radix cs ≡ true
  digits_again [] h = absurd h
  digits_again (c ∷ []) h = first_again c [] h refl
  digits_again (c ∷ d ∷ cs) h = first_again c (d ∷ cs) h.0 (after_by d cs h.1 (digits_again (d ∷ cs)) (digits_again cs))

  pub led_again : (cs : List ℕ) → IsLedDigits radix cs → is_led_digits radix cs ≡ true
  led_again [] h = absurd h
  led_again (c ∷ cs) (inl h) = if_yes (c == underscore) (is_digits radix cs) (is_digits radix (c ∷ cs)) (is_underscore c h.0) ∙ digits_again cs h.1
  led_again (c ∷ cs) (inr h) = if_no (c == underscore) (is_digits radix cs) (is_digits radix (c ∷ cs)) (no_underscore radix c most (head_digit radix c cs h)) ∙ digits_again (c ∷ cs) h

  pub or_none_again : (cs : List ℕ) → IsDigitsOrNone radix cs → is_digits_or_none radix cs ≡ true
  or_none_again [] h = refl
  or_none_again (c ∷ cs) h = digits_again (c ∷ cs) h

pub digits_takes : (radix : ℕ) (cs : List ℕ) → is_digits radix cs ≡ true → IsDigits radix cs
digits_takes radix cs e = digits_take radix cs e

pub led_takes : (radix : ℕ) (cs : List ℕ) → is_led_digits radix cs ≡ true → IsLedDigits radix cs
led_takes radix [] e = cc
led_takes radix (c ∷ cs) e = ⊎_elim
    (λ h. inl (true-eqb c underscore (sym h.0), digits_takes radix cs h.1))
    (λ h. inr (digits_takes radix (c ∷ cs) h.1))
    (chosen (c == underscore) (is_digits radix cs) (is_digits radix (c ∷ cs)) true e)

pub or_none_takes : (radix : ℕ) (cs : List ℕ) → is_digits_or_none radix cs ≡ true → IsDigitsOrNone radix cs
or_none_takes radix [] e = tt
or_none_takes radix (c ∷ cs) e = digits_takes radix (c ∷ cs) e
