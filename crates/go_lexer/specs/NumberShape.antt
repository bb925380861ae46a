-- What looks like a number, by its parts: a prefix, a run of digits, a point and a run, an exponent, `i`. Each may be
-- missing, and each goes as far as it can.
use Rattle.std.specs.Prelude.{◌≡◌, ℕ, Bool, true, false, ◌==◌, ◌||◌, nat_lt, ◌⊎◌, List, [], ◌∷◌, ◌++◌, Option, Some}
use Rattle.std.specs.Prelude.{None}
use Rattle.std.specs.Char.{digit_value}
use Rattle.go_lexer.specs.declared.numbers.Base.{Base}
use Rattle.go_lexer.specs.declared.numbers.Base.TheVariants.{Decimal, Binary, Octal, Hexadecimal}
use Rattle.go_lexer.specs.Characters.{digit_zero, letter_i, minus, plus, point, underscore, Each, Ends}
use Rattle.go_lexer.specs.NumberGrammar.{IsLetter}

-- the text goes on with such a character
abbrev pub GoesOn : (ℕ → Type 0) → List ℕ → Type 0
GoesOn P [] = ⊥
GoesOn P (c ∷ cs) = P c

-- what a run has: digits and `_`, and the letters from A to F where the base is 16
abbrev pub is_in_run : Base → ℕ → Bool
is_in_run Hexadecimal c = nat_lt (digit_value c) 16 || c == underscore
is_in_run _ c = nat_lt (digit_value c) 10 || c == underscore

abbrev pub IsPrefixLetter : ℕ → Type 0
IsPrefixLetter c = IsLetter 120 88 c ⊎ (IsLetter 111 79 c ⊎ IsLetter 98 66 c)

-- a prefix that says a base, and the text behind it
pub data IsPrefix : Base → List ℕ → List ℕ → Type 0 where
  hexadecimal : (letter : ℕ) (rest : List ℕ) → IsLetter 120 88 letter
      → IsPrefix Hexadecimal (digit_zero ∷ letter ∷ []) rest
  octal : (letter : ℕ) (rest : List ℕ) → IsLetter 111 79 letter → IsPrefix Octal (digit_zero ∷ letter ∷ []) rest
  binary : (letter : ℕ) (rest : List ℕ) → IsLetter 98 66 letter → IsPrefix Binary (digit_zero ∷ letter ∷ []) rest
  no_prefix : (rest : List ℕ) → ((letter : ℕ) (more : List ℕ) → rest ≡ digit_zero ∷ letter ∷ more
      → IsPrefixLetter letter → ⊥) → IsPrefix Decimal [] rest

-- the letter of an exponent: `p`, and where the base isn't 16 also `e`
abbrev pub IsScaleLetter : Base → ℕ → Type 0
IsScaleLetter Hexadecimal c = IsLetter 112 80 c
IsScaleLetter _ c = IsLetter 112 80 c ⊎ IsLetter 101 69 c

abbrev pub IsPlusOrMinus : ℕ → Type 0
IsPlusOrMinus c = (c ≡ plus) ⊎ (c ≡ minus)

-- a sign or none, and the text behind it
pub data IsSignPart : List ℕ → List ℕ → Type 0 where
  signed : (c : ℕ) (rest : List ℕ) → IsPlusOrMinus c → IsSignPart (c ∷ []) rest
  unsigned : (rest : List ℕ) → (GoesOn IsPlusOrMinus rest → ⊥) → IsSignPart [] rest

pub record Scale : Type 0 where
  pub letter : ℕ
  pub sign : List ℕ
  pub digits : List ℕ

-- the parts: the digits before the point and those after one, the exponent, and whether `i` ends them
pub record Parts : Type 0 where
  pub base : Base
  pub prefix : List ℕ
  pub whole : List ℕ
  pub fraction : Option (List ℕ)
  pub scale : Option Scale
  pub imaginary : Bool

-- each part with all that stands behind it, up to this text
abbrev pub from_unit : Bool → List ℕ → List ℕ
from_unit true rest = letter_i ∷ rest
from_unit false rest = rest

abbrev pub from_scale : Option Scale → List ℕ → List ℕ
from_scale (Some s) rest = s.letter ∷ (s.sign ++ (s.digits ++ rest))
from_scale None rest = rest

abbrev pub from_fraction : Option (List ℕ) → List ℕ → List ℕ
from_fraction (Some digits) rest = point ∷ (digits ++ rest)
from_fraction None rest = rest

abbrev pub behind_fraction : Parts → List ℕ → List ℕ
behind_fraction p rest = from_scale p.scale (from_unit p.imaginary rest)

abbrev pub behind_whole : Parts → List ℕ → List ℕ
behind_whole p rest = from_fraction p.fraction (behind_fraction p rest)

abbrev pub behind_prefix : Parts → List ℕ → List ℕ
behind_prefix p rest = p.whole ++ behind_whole p rest

abbrev pub written : Parts → List ℕ → List ℕ
written p rest = p.prefix ++ behind_prefix p rest

-- a part, or its absence, goes as far as it can
abbrev pub IsFraction : Base → Option (List ℕ) → List ℕ → Type 0
IsFraction base (Some digits) rest = Each (is_in_run base) digits × Ends (is_in_run base) rest
IsFraction base None rest = GoesOn (λ c. c ≡ point) rest → ⊥

abbrev pub IsScale : Base → Option Scale → List ℕ → Type 0
IsScale base (Some s) rest = IsScaleLetter base s.letter × IsSignPart s.sign (s.digits ++ rest)
    × Each (is_in_run Decimal) s.digits × Ends (is_in_run Decimal) rest
IsScale base None rest = GoesOn (IsScaleLetter base) rest → ⊥

abbrev pub IsUnit : Bool → List ℕ → Type 0
IsUnit true rest = Unit {0}
IsUnit false rest = GoesOn (λ c. c ≡ letter_i) rest → ⊥

pub record GoFar (p : Parts) (rest : List ℕ) : Type 0 where
  pub prefix : IsPrefix p.base p.prefix (behind_prefix p rest)
  pub whole : Each (is_in_run p.base) p.whole
  pub ends : Ends (is_in_run p.base) (behind_whole p rest)
  pub fraction : IsFraction p.base p.fraction (behind_fraction p rest)
  pub scale : IsScale p.base p.scale (from_unit p.imaginary rest)
  pub unit : IsUnit p.imaginary rest

-- These characters, with this text behind them, are all that looks like a number.
pub record LooksLikeNumber (literal rest : List ℕ) : Type 0 where
  pub parts : Parts
  pub is : written parts [] ≡ literal
  pub far : GoFar parts rest
