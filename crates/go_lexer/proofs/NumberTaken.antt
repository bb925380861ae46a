-- What is read as a number is a number of the grammar.
use Rattle.std.proofs.Common.{ℕ, ◌≡◌, Bool, true, false, cond, ◌&&◌, ◌||◌, ◌==◌, List, [], ◌∷◌, ◌++◌, Option, Some, None, sym, ap, ◌∙◌, refl, subst, inl, inr, ⊎_elim, eqb, append_assoc}
use borrow.Author.Tests.{true-eqb}
use Rattle.go_lexer.specs.declared.token_kinds.TokenKind.{TokenKind}
use Rattle.go_lexer.specs.declared.token_kinds.TokenKind.TheVariants.{Floating, Imaginary}
use Rattle.go_lexer.specs.declared.classes.Class.TheVariants.{Digits}
use Rattle.go_lexer.specs.declared.numbers.Base.{Base}
use Rattle.go_lexer.specs.declared.numbers.Base.TheVariants.{Decimal, Binary, Octal, Hexadecimal}
use Rattle.go_lexer.specs.Characters.{plus, minus, point, digit_zero, letter_i, split, strip, front_while, after_while}
use Rattle.go_lexer.specs.Classes.{in_class}
use Rattle.go_lexer.specs.NumberGrammar.{IsLetter, IsInteger, decimal, zero_or_octal, binary, octal, hexadecimal, IsSign, no_sign, a_plus, a_minus, IsExponent, exponent as scale_of, IsExponentOrNone, IsFloat, whole_and_point, whole_and_exponent, fraction_alone, hexadecimal_and_point, hexadecimal_and_exponent, hexadecimal_fraction, IsNumber, integer, float, imaginary_digits, imaginary_integer, imaginary_float}
use Rattle.go_lexer.specs.Numbers.{prefix_base, based, prefixed, after_zero, base_of, run, Mantissa, fraction_after, mantissa_in, mantissa, Exponent, is_decimal_letter, is_binary_letter, is_exponent_letter, after_sign, exponent, is_digits, is_led_digits, is_digits_or_none, leads_with_zero, is_whole, is_decimal_mantissa, is_hexadecimal_mantissa, is_unscaled, is_scaled, after_exponent, number_kind, number_piece, number}
use Rattle.go_lexer.specs.Pieces.{token}
use Rattle.go_lexer.proofs.Choices.{chosen}
use Rattle.go_lexer.proofs.DigitGrammar.{digits_takes, led_takes, or_none_takes}
use Rattle.go_lexer.proofs.FrontBytes.{front-after}
use Rattle.go_lexer.proofs.Letters.{both}

-- the spelling of a base's prefix
pub data IsPrefix : Base → List ℕ → Type 0 where
  no_prefix : IsPrefix Decimal []
  binary_prefix : (letter : ℕ) → IsLetter 98 66 letter → IsPrefix Binary (digit_zero ∷ letter ∷ [])
  octal_prefix : (letter : ℕ) → IsLetter 111 79 letter → IsPrefix Octal (digit_zero ∷ letter ∷ [])
  hexadecimal_prefix : (letter : ℕ) → IsLetter 120 88 letter → IsPrefix Hexadecimal (digit_zero ∷ letter ∷ [])

pub either : (c small large : ℕ) → (c == small || c == large) ≡ true → IsLetter small large c
either c small large e = by_test (c == small) refl e
  where
    by_test : (b : Bool) → (c == small) ≡ b → (b || c == large) ≡ true → IsLetter small large c
    by_test true h k = inl (true-eqb c small (sym h))
    by_test false h k = inr (true-eqb c large (sym k))

letter_prefix : (c : ℕ) (o : Option Base) → prefix_base c ≡ o → (base : Base) → o ≡ Some base → IsPrefix base (digit_zero ∷ c ∷ [])
letter_prefix c o e base s = ⊎_elim
    (λ h. let k : Hexadecimal ≡ base = cc (h.1) in subst (λ x. IsPrefix x (digit_zero ∷ c ∷ [])) k (hexadecimal_prefix c (either c 120 88 h.0)))
    (λ h. ⊎_elim
    (λ x. let k : Octal ≡ base = cc (x.1) in subst (λ y. IsPrefix y (digit_zero ∷ c ∷ [])) k (octal_prefix c (either c 111 79 x.0)))
    (λ x. ⊎_elim
    (λ y. let k : Binary ≡ base = cc (y.1) in subst (λ z. IsPrefix z (digit_zero ∷ c ∷ [])) k (binary_prefix c (either c 98 66 y.0)))
    (λ y. cc (y.1))
    (chosen (c == 98 || c == 66) _ _ _ x.1))
    (chosen (c == 111 || c == 79) _ _ _ h.1))
    (chosen (c == 120 || c == 88) _ _ _ (e ∙ s))

abbrev Prefixed : List ℕ → Base × List ℕ → Type 0
Prefixed cs b = (front : List ℕ) × (cs ≡ front ++ b.1) × IsPrefix b.0 front

based_parts : (cs digits : List ℕ) (c : ℕ) (o : Option Base) → cs ≡ digit_zero ∷ c ∷ digits → prefix_base c ≡ o → Prefixed cs (based cs digits o)
based_parts cs digits c (Some base) e h = (digit_zero ∷ c ∷ [], e, letter_prefix c (Some base) h base refl)
based_parts cs digits c None e h = ([], refl, no_prefix)

prefixed_parts : (cs rest : List ℕ) → cs ≡ digit_zero ∷ rest → Prefixed cs (prefixed cs (split rest))
prefixed_parts cs [] e = ([], refl, no_prefix)
prefixed_parts cs (c ∷ digits) e = based_parts cs digits c (prefix_base c) e refl

pub strip_is : (p : ℕ) (cs rest : List ℕ) → strip p cs ≡ Some rest → cs ≡ p ∷ rest
strip_is p [] rest e = cc
strip_is p (c ∷ cs) rest e = by_test (eqb c p) refl e
  where
    by_test : (b : Bool) → eqb c p ≡ b → cond b (Some cs) None ≡ Some rest → c ∷ cs ≡ p ∷ rest
    by_test true h k = let same : cs ≡ rest = (cc) in let x = true-eqb c p (sym h) in (λ i. x i ∷ same i)
    by_test false h k = cc

zero_parts : (cs : List ℕ) (o : Option (List ℕ)) → strip digit_zero cs ≡ o → Prefixed cs (after_zero cs o)
zero_parts cs None e = ([], refl, no_prefix)
zero_parts cs (Some rest) e = prefixed_parts cs rest (strip_is digit_zero cs rest e)

base_parts : (cs : List ℕ) → Prefixed cs (base_of cs)
base_parts cs = zero_parts cs (strip digit_zero cs) refl

-- the digits and the point
abbrev pub spelled : List ℕ → Option (List ℕ) → List ℕ
spelled whole None = whole
spelled whole (Some fraction) = whole ++ (point ∷ fraction)

abbrev MantissaParts : Base → List ℕ → Mantissa → Type 0
MantissaParts base digits m = (m.base ≡ base) × (digits ≡ spelled m.whole m.fraction ++ m.rest)

fraction_parts : (base : Base) (digits whole after : List ℕ) (o : Option (List ℕ)) → digits ≡ whole ++ after → strip point after ≡ o → MantissaParts base digits (fraction_after base whole after o)
fraction_parts base digits whole after None e h = (refl, e)
fraction_parts base digits whole after (Some more) e h = (
  refl,
  e ∙ ap (λ l. whole ++ l) (strip_is point after more h ∙ ap (λ l. point ∷ l) (sym (front-after (run base) more)))
      ∙ sym (append_assoc whole (point ∷ front_while (run base) more) (after_while (run base) more)),
)

mantissa_parts : (b : Base × List ℕ) → MantissaParts b.0 b.1 (mantissa_in b)
mantissa_parts b = fraction_parts b.0 b.1 (front_while (run b.0) b.1) (after_while (run b.0) b.1) (strip point (after_while (run b.0) b.1)) (sym (front-after (run b.0) b.1)) refl

-- the exponent
sign_parts : (cs : List ℕ) → (sign : List ℕ) × (cs ≡ sign ++ after_sign cs) × IsSign sign
sign_parts [] = ([], refl, no_sign)
sign_parts (c ∷ cs) = by_plus (c == plus) refl
  where
    by_minus : (b : Bool) → (c == minus) ≡ b → (sign : List ℕ) × (c ∷ cs ≡ sign ++ cond b cs (c ∷ cs)) × IsSign sign
    by_minus true h = (minus ∷ [], ap (λ x. x ∷ cs) (true-eqb c minus (sym h)), a_minus)
    by_minus false h = ([], refl, no_sign)

    by_plus : (b : Bool) → (c == plus) ≡ b → (sign : List ℕ) × (c ∷ cs ≡ sign ++ cond (b || c == minus) cs (c ∷ cs)) × IsSign sign
    by_plus true h = (plus ∷ [], ap (λ x. x ∷ cs) (true-eqb c plus (sym h)), a_plus)
    by_plus false h = by_minus (c == minus) refl

abbrev ExponentParts : Base → List ℕ → Option Exponent → Type 0
ExponentParts base cs None = Unit {0}
ExponentParts base cs (Some e) = (sign : List ℕ) × IsSign sign × (is_exponent_letter base e.letter ≡ true) × (cs ≡ (e.letter ∷ (sign ++ e.digits)) ++ e.rest)

exponent_by : (base : Base) (c : ℕ) (cs : List ℕ) (b : Bool) → is_exponent_letter base c ≡ b
    → ExponentParts base (c ∷ cs) (cond b (Some (record { letter = c; digits = front_while (in_class Digits) (after_sign cs); rest = after_while (in_class Digits) (after_sign cs) })) None)
exponent_by base c cs true h =
    let s = sign_parts cs in
    (s.0, s.2, h, ap (λ l. c ∷ l) (s.1 ∙ ap (λ l. s.0 ++ l) (sym (front-after (in_class Digits) (after_sign cs))) ∙ sym (append_assoc s.0 (front_while (in_class Digits) (after_sign cs)) (after_while (in_class Digits) (after_sign cs)))))
exponent_by base c cs false h = tt

exponent_parts : (base : Base) (cs : List ℕ) → ExponentParts base cs (exponent base cs)
exponent_parts base [] = tt
exponent_parts base (c ∷ cs) = exponent_by base c cs (is_exponent_letter base c) refl

-- what is judged to be a number is one
whole_is : (base : Base) (front digits : List ℕ) → IsPrefix base front → is_whole base false digits ≡ true → IsInteger (front ++ digits)
whole_is base front digits no_prefix e = by_zero (leads_with_zero digits) refl e
  where
    by_zero : (b : Bool) → leads_with_zero digits ≡ b → cond (b && true) (is_digits 8 digits) (is_digits 10 digits) ≡ true → IsInteger digits
    by_zero true h k = zero_or_octal digits h (digits_takes 8 digits k)
    by_zero false h k = decimal digits h (digits_takes 10 digits k)
whole_is base front digits (binary_prefix letter l) e = binary letter digits l (led_takes 2 digits e)
whole_is base front digits (octal_prefix letter l) e = octal letter digits l (led_takes 8 digits e)
whole_is base front digits (hexadecimal_prefix letter l) e = hexadecimal letter digits l (led_takes 16 digits e)

imaginary_is : (base : Base) (front digits : List ℕ) → IsPrefix base front → is_whole base true digits ≡ true → IsNumber Imaginary ((front ++ digits) ++ (letter_i ∷ []))
imaginary_is base front digits no_prefix e = by_zero (leads_with_zero digits) e
  where
    by_zero : (b : Bool) → cond (b && false) (is_digits 8 digits) (is_digits 10 digits) ≡ true → IsNumber Imaginary (digits ++ (letter_i ∷ []))
    by_zero true k = imaginary_digits digits (digits_takes 10 digits k)
    by_zero false k = imaginary_digits digits (digits_takes 10 digits k)
imaginary_is base front digits (binary_prefix letter l) e = imaginary_integer (digit_zero ∷ letter ∷ digits) (binary letter digits l (led_takes 2 digits e))
imaginary_is base front digits (octal_prefix letter l) e = imaginary_integer (digit_zero ∷ letter ∷ digits) (octal letter digits l (led_takes 8 digits e))
imaginary_is base front digits (hexadecimal_prefix letter l) e = imaginary_integer (digit_zero ∷ letter ∷ digits) (hexadecimal letter digits l (led_takes 16 digits e))

pub append_nil : (xs : List ℕ) → xs ++ [] ≡ xs
append_nil [] = refl
append_nil (x ∷ xs) = ap (λ l. x ∷ l) (append_nil xs)

point_is : (whole fraction : List ℕ) → is_decimal_mantissa whole (Some fraction) ≡ true → IsFloat (whole ++ (point ∷ fraction))
point_is [] fraction e = subst (λ l. IsFloat (point ∷ l)) (append_nil fraction) (fraction_alone fraction [] (digits_takes 10 fraction e) tt)
point_is (c ∷ cs) fraction e =
    let h = both (is_digits 10 (c ∷ cs)) (is_digits_or_none 10 fraction) e in
    subst (λ l. IsFloat ((c ∷ cs) ++ (point ∷ l))) (append_nil fraction) (whole_and_point (c ∷ cs) fraction [] (digits_takes 10 (c ∷ cs) h.0) (or_none_takes 10 fraction h.1) tt)

unscaled_is : (base : Base) (front whole : List ℕ) (fraction : Option (List ℕ)) → IsPrefix base front → is_unscaled false base whole fraction ≡ true → IsNumber (number_kind fraction false) (front ++ spelled whole fraction)
unscaled_is base front whole None p e = integer (front ++ whole) (whole_is base front whole p e)
unscaled_is base front whole (Some fraction) no_prefix e = float (whole ++ (point ∷ fraction)) (point_is whole fraction e)
unscaled_is base front whole (Some fraction) (binary_prefix letter l) e = cc
unscaled_is base front whole (Some fraction) (octal_prefix letter l) e = cc
unscaled_is base front whole (Some fraction) (hexadecimal_prefix letter l) e = cc

unscaled_imaginary : (base : Base) (front whole : List ℕ) (fraction : Option (List ℕ)) → IsPrefix base front → is_unscaled true base whole fraction ≡ true → IsNumber Imaginary ((front ++ spelled whole fraction) ++ (letter_i ∷ []))
unscaled_imaginary base front whole None p e = imaginary_is base front whole p e
unscaled_imaginary base front whole (Some fraction) no_prefix e = imaginary_float (whole ++ (point ∷ fraction)) (point_is whole fraction e)
unscaled_imaginary base front whole (Some fraction) (binary_prefix letter l) e = cc
unscaled_imaginary base front whole (Some fraction) (octal_prefix letter l) e = cc
unscaled_imaginary base front whole (Some fraction) (hexadecimal_prefix letter l) e = cc

decimal_scaled : (whole : List ℕ) (fraction : Option (List ℕ)) (scale : List ℕ) → IsExponent is_decimal_letter scale → is_decimal_mantissa whole fraction ≡ true → IsFloat (spelled whole fraction ++ scale)
decimal_scaled whole None scale x e = whole_and_exponent whole scale (digits_takes 10 whole e) x
decimal_scaled [] (Some fraction) scale x e = fraction_alone fraction scale (digits_takes 10 fraction e) (some_scale scale x)
  where
    some_scale : (s : List ℕ) → IsExponent is_decimal_letter s → IsExponentOrNone is_decimal_letter s
    some_scale [] y = tt
    some_scale (c ∷ cs) y = y
decimal_scaled (c ∷ cs) (Some fraction) scale x e =
    let h = both (is_digits 10 (c ∷ cs)) (is_digits_or_none 10 fraction) e in
    subst IsFloat (sym (append_assoc (c ∷ cs) (point ∷ fraction) scale)) (whole_and_point (c ∷ cs) fraction scale (digits_takes 10 (c ∷ cs) h.0) (or_none_takes 10 fraction h.1) (some_scale scale x))
  where
    some_scale : (s : List ℕ) → IsExponent is_decimal_letter s → IsExponentOrNone is_decimal_letter s
    some_scale [] y = tt
    some_scale (d ∷ ds) y = y

hexadecimal_scaled : (letter : ℕ) (whole : List ℕ) (fraction : Option (List ℕ)) (scale : List ℕ) → IsLetter 120 88 letter → IsExponent is_binary_letter scale → is_hexadecimal_mantissa whole fraction ≡ true
    → IsFloat (digit_zero ∷ letter ∷ (spelled whole fraction ++ scale))
hexadecimal_scaled letter whole None scale l x e = hexadecimal_and_exponent letter whole scale l (led_takes 16 whole e) x
hexadecimal_scaled letter [] (Some fraction) scale l x e = hexadecimal_fraction letter fraction scale l (digits_takes 16 fraction e) x
hexadecimal_scaled letter (c ∷ cs) (Some fraction) scale l x e =
    let h = both (is_led_digits 16 (c ∷ cs)) (is_digits_or_none 16 fraction) e in
    subst (λ s. IsFloat (digit_zero ∷ letter ∷ s)) (sym (append_assoc (c ∷ cs) (point ∷ fraction) scale)) (hexadecimal_and_point letter (c ∷ cs) fraction scale l (led_takes 16 (c ∷ cs) h.0) (or_none_takes 16 fraction h.1) x)

scaled_is : (base : Base) (front whole : List ℕ) (fraction : Option (List ℕ)) (letter : ℕ) (sign digits : List ℕ) → IsPrefix base front → IsSign sign → is_exponent_letter base letter ≡ true
    → is_scaled base whole fraction letter digits ≡ true → IsFloat (front ++ (spelled whole fraction ++ (letter ∷ (sign ++ digits))))
scaled_is base front whole fraction letter sign digits no_prefix s x e =
    let a = both (is_decimal_letter letter && is_digits 10 digits) (is_decimal_mantissa whole fraction) e in
    let b = both (is_decimal_letter letter) (is_digits 10 digits) a.0 in
    decimal_scaled whole fraction (letter ∷ (sign ++ digits)) (scale_of letter sign digits b.0 s (digits_takes 10 digits b.1)) a.1
scaled_is base front whole fraction letter sign digits (binary_prefix c l) s x e = cc
scaled_is base front whole fraction letter sign digits (octal_prefix c l) s x e = cc
scaled_is base front whole fraction letter sign digits (hexadecimal_prefix c l) s x e =
    let a = both (is_digits 10 digits) (is_hexadecimal_mantissa whole fraction) e in
    hexadecimal_scaled c whole fraction (letter ∷ (sign ++ digits)) l (scale_of letter sign digits x s (digits_takes 10 digits a.0)) a.1

-- a number at the front of a text
abbrev pub NumberIn : TokenKind → List ℕ → List ℕ → Type 0
NumberIn kind cs rest = (text : List ℕ) × (cs ≡ text ++ rest) × IsNumber kind text

floating_kind : (fraction : Option (List ℕ)) → Floating ≡ number_kind fraction true
floating_kind None = refl
floating_kind (Some f) = refl

module _ (cs : List ℕ) where
  parts : (base : Base) (front : List ℕ) (m : Mantissa) (e : Option Exponent) (o : Option (List ℕ)) (kind : TokenKind) (owes : Bool) (rest : List ℕ)
      → IsPrefix m.base front → cs ≡ front ++ (spelled m.whole m.fraction ++ m.rest) → ExponentParts m.base m.rest e → strip letter_i (after_exponent m e) ≡ o
      → number_piece cs m e o ≡ token kind owes rest → NumberIn kind cs rest
  parts base front m None None kind owes rest p c x s e = ⊎_elim
      (λ h.
      let k : number_kind m.fraction false ≡ kind = cc (h.1) in
      let r : m.rest ≡ rest = cc (h.1) in
      (front ++ spelled m.whole m.fraction, c ∙ sym (append_assoc front (spelled m.whole m.fraction) m.rest) ∙ ap (λ l. (front ++ spelled m.whole m.fraction) ++ l) r, subst (λ t. IsNumber t (front ++ spelled m.whole m.fraction)) k (unscaled_is m.base front m.whole m.fraction p h.0)))
      (λ h. cc (h.1))
      (chosen (is_unscaled false m.base m.whole m.fraction) _ _ _ e)
  parts base front m None (Some left) kind owes rest p c x s e = ⊎_elim
      (λ h.
      let k : Imaginary ≡ kind = cc (h.1) in
      let r : left ≡ rest = cc (h.1) in
      let text : List ℕ = front ++ spelled m.whole m.fraction in
      (text ++ (letter_i ∷ []), c ∙ sym (append_assoc front (spelled m.whole m.fraction) m.rest) ∙ ap (λ l. text ++ l) (strip_is letter_i m.rest left s ∙ ap (λ l. letter_i ∷ l) r) ∙ sym (append_assoc text (letter_i ∷ []) rest), subst (λ t. IsNumber t (text ++ (letter_i ∷ []))) k (unscaled_imaginary m.base front m.whole m.fraction p h.0)))
      (λ h. cc (h.1))
      (chosen (is_unscaled true m.base m.whole m.fraction) _ _ _ e)
  parts base front m (Some y) None kind owes rest p c x s e = ⊎_elim
      (λ h.
      let k : number_kind m.fraction true ≡ kind = cc (h.1) in
      let r : y.rest ≡ rest = cc (h.1) in
      let scale : List ℕ = y.letter ∷ (x.0 ++ y.digits) in
      let text : List ℕ = front ++ (spelled m.whole m.fraction ++ scale) in (
        text,
        c ∙ ap (λ l. front ++ (spelled m.whole m.fraction ++ l)) x.3 ∙ ap (λ l. front ++ l) (sym (append_assoc (spelled m.whole m.fraction) scale y.rest)) ∙ sym (append_assoc front (spelled m.whole m.fraction ++ scale) y.rest) ∙ ap (λ l. text ++ l) r,
        subst (λ t. IsNumber t text) (floating_kind m.fraction ∙ k) (float text (scaled_is m.base front m.whole m.fraction y.letter x.0 y.digits p x.1 x.2 h.0)),
      ))
      (λ h. cc (h.1))
      (chosen (is_scaled m.base m.whole m.fraction y.letter y.digits) _ _ _ e)
  parts base front m (Some y) (Some left) kind owes rest p c x s e = ⊎_elim
      (λ h.
      let k : Imaginary ≡ kind = cc (h.1) in
      let r : left ≡ rest = cc (h.1) in
      let scale : List ℕ = y.letter ∷ (x.0 ++ y.digits) in
      let text : List ℕ = front ++ (spelled m.whole m.fraction ++ scale) in (
        text ++ (letter_i ∷ []),
        c ∙ ap (λ l. front ++ (spelled m.whole m.fraction ++ l)) x.3 ∙ ap (λ l. front ++ l) (sym (append_assoc (spelled m.whole m.fraction) scale y.rest)) ∙ sym (append_assoc front (spelled m.whole m.fraction ++ scale) y.rest)
            ∙ ap (λ l. text ++ l) (strip_is letter_i y.rest left s ∙ ap (λ l. letter_i ∷ l) r) ∙ sym (append_assoc text (letter_i ∷ []) rest),
        subst (λ t. IsNumber t (text ++ (letter_i ∷ []))) k (imaginary_float text (scaled_is m.base front m.whole m.fraction y.letter x.0 y.digits p x.1 x.2 h.0)),
      ))
      (λ h. cc (h.1))
      (chosen (is_scaled m.base m.whole m.fraction y.letter y.digits) _ _ _ e)

pub number_takes : (cs : List ℕ) (kind : TokenKind) (owes : Bool) (rest : List ℕ) → number cs ≡ token kind owes rest → NumberIn kind cs rest
number_takes cs kind owes rest e =
    let b = base_of cs in
    let p = base_parts cs in
    let q = mantissa_parts b in
    let m : Mantissa = mantissa cs in
    let x : Option Exponent = exponent m.base m.rest in
    parts cs m.base p.0 m x (strip letter_i (after_exponent m x)) kind owes rest (subst (λ y. IsPrefix y p.0) (sym q.0) p.2) (p.1 ∙ ap (λ l. p.0 ++ l) q.1) (exponent_parts m.base m.rest) refl e
