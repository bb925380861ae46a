-- The bytes of the characters at the front of a text.
use Rattle.std.proofs.Common.{◌≡◌, ◌<◌, ◌-◌, ◌+◌, ℕ, Bool, true, false, List, [], ◌∷◌, ◌++◌, length, take, sym, ap, ◌∙◌, refl, arith, cond}
use Rattle.std.proofs.Math.Seq.{take_at}
use Rattle.std.proofs.lemmas.List.{length-append}
use Rattle.std.proofs.lemmas.Str.{encodes-append, encodes-chars, encode_ascii}
use Rattle.std.specs.Str.{chars, IsUtf8, encode_utf8_all}
use Rattle.std.specs.Char.{encode_utf8}
use Rattle.std.proofs.Common.{nat_lt, ◌||◌, ◌==◌}
use Rattle.std.proofs.lemmas.Bool.Decides.{nat_tests}
use Rattle.std.specs.Char.{digit_value}
use Rattle.go_lexer.specs.declared.classes.Class.{Class}
use Rattle.go_lexer.specs.declared.classes.Class.TheVariants.{Name, Line, Raw, Digits, Hexadecimal}
use Rattle.go_lexer.specs.Characters.{front_while, after_while, underscore}
use Rattle.go_lexer.specs.Classes.{in_class, is_digit_class, is_decimal}

front_by : (p : ℕ → Bool) (b : Bool) (c : ℕ) (cs : List ℕ) → front_while p cs ++ after_while p cs ≡ cs → cond b (c ∷ front_while p cs) [] ++ cond b (after_while p cs) (c ∷ cs) ≡ c ∷ cs
front_by p true c cs h = ap (λ l. c ∷ l) h
front_by p false c cs h = refl

pub front-after : (p : ℕ → Bool) (cs : List ℕ) → front_while p cs ++ after_while p cs ≡ cs
front-after p [] = refl
front-after p (c ∷ cs) = front_by p (p c) c cs (front-after p cs)

pub front_bytes : (p : ℕ → Bool) (text rest : List ℕ) → IsUtf8 text → IsUtf8 rest → chars rest ≡ after_while p (chars text) → take (length text - length rest) text ≡ encode_utf8_all (front_while p (chars text))
front_bytes p text rest u v e =
    let front : List ℕ = encode_utf8_all (front_while p (chars text)) in
    let after : encode_utf8_all (after_while p (chars text)) ≡ rest = ap encode_utf8_all (sym e) ∙ encodes-chars rest v in
    let parts : front ++ rest ≡ text = ap (λ l. front ++ l) (sym after) ∙ sym (encodes-append (front_while p (chars text)) (after_while p (chars text))) ∙ ap encode_utf8_all (front-after p (chars text)) ∙ encodes-chars text u in
    let long : length front + length rest ≡ length text = sym (length-append front rest) ∙ ap length parts in
    ap (take (length text - length rest)) (sym parts) ∙ take_at front rest (length text - length rest) (omega arith)

ascii_by : (b : Bool) (c : ℕ) (cs : List ℕ) → (b ≡ true → c < 128) → encode_utf8_all cs ≡ cs → encode_utf8_all (cond b (c ∷ cs) []) ≡ cond b (c ∷ cs) []
ascii_by true c cs h e = let one : encode_utf8 c ≡ c ∷ [] = encode_ascii c (h refl) in rw (one, e)
ascii_by false c cs h e = refl

-- characters below 128 are their own bytes
pub ascii_front : (p : ℕ → Bool) → ((c : ℕ) → p c ≡ true → c < 128) → (cs : List ℕ) → encode_utf8_all (front_while p cs) ≡ front_while p cs
ascii_front p low [] = refl
ascii_front p low (c ∷ cs) = ascii_by (p c) c (front_while p cs) (low c) (ascii_front p low cs)

decimal_low : (c : ℕ) → is_decimal c || c == underscore ≡ true → c < 128
decimal_low c h = grind (arith, nat_tests)

hexadecimal_low : (c : ℕ) → nat_lt (digit_value c) 16 || c == underscore ≡ true → c < 128
hexadecimal_low c h = grind (arith, nat_tests)

pub digits_low : (class : Class) → is_digit_class class ≡ true → (c : ℕ) → in_class class c ≡ true → c < 128
digits_low Name e c h = cc
digits_low Line e c h = cc
digits_low Raw e c h = cc
digits_low Digits e c h = decimal_low c h
digits_low Hexadecimal e c h = hexadecimal_low c h
