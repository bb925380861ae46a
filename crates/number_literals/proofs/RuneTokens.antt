-- Each token that is a rune literal has a value.
use Rattle.std.proofs.Common.{◌≡◌, ◌≤◌, ◌<◌, ◌+◌, ◌*◌, ◌^◌, ℕ, zero, suc, Bool, true, false, ◌||◌, ◌==◌, List, [], ◌∷◌, ◌++◌, sym, ap, ◌∙◌, refl, subst, arith, eqb, nat_lt}
use borrow.Author.Tests.{true-eqb}
use Rattle.std.proofs.lemmas.Bool.{lt-ltb, false≢true}
use Rattle.std.proofs.lemmas.Bool.Decides.{nat_tests}
use Rattle.std.proofs.lemmas.Str.{encodes-append, encode_ascii}
use Rattle.std.proofs.Math.Nat.{pow-zero}
use Rattle.std.specs.Char.{digit_value, encode_utf8}
use Rattle.std.specs.Str.{encode_utf8_all, all_scalars}
use Rattle.go_lexer.specs.Characters.{single_quote, backslash, Each}
use Rattle.go_lexer.specs.Escapes.{is_simple, is_code_point}
use Rattle.go_lexer.specs.Grammar.{AreDigits, IsEscape, simple, IsRuneText, rune_character, rune_escaped}
use Rattle.go_lexer.specs.Grammar as grammar
use Rattle.go_lexer.specs.NumberGrammar.{IsNumber, integer, float, imaginary_digits, imaginary_integer, imaginary_float}
use Rattle.go_lexer.specs.TokenTexts.{Spells, identifier, keyword, number, rune, string, raw_string, mark, inserted, IsTokenOf, bytes_at}
use Rattle.go_lexer.specs.declared.token_kinds.Token.{Token}
use Rattle.go_lexer.specs.declared.token_kinds.TokenKind.{TokenKind}
use Rattle.go_lexer.specs.declared.token_kinds.TokenKind.TheVariants.{Rune}
use Rattle.number_literals.specs.PlaceValues.{place_sum}
use Rattle.number_literals.specs.Runes.{AreDigitsOf, IsRuneEscape, alert, backspace, form_feed, new_line, carriage_return, horizontal_tab, vertical_tab, a_backslash, quote, octal, hexadecimal, short_code_point, long_code_point, IsRuneInside, character, escaped, HasRune, quoted}
use Rattle.number_literals.proofs.Laws.{low, digit_low, ascii}
use Rattle.number_literals.proofs.RuneLaws.{digit_in, alone}
use Rattle.number_literals.proofs.Sums.{longer}

-- digits of the lexical grammar
horner : (base n before : ℕ) (cs : List ℕ) (value : ℕ) → AreDigits base n before cs value → AreDigitsOf base n cs × (value ≡ before * base ^ n + place_sum base cs)
horner base zero before [] value h =
    let none : before * base ^ 0 + 0 ≡ before = ap (λ p. before * p + 0) (pow-zero base) ∙ (let e : before * 1 + 0 ≡ before = omega arith in e) in
    ((tt, refl), sym h ∙ sym none)
horner base zero before (c ∷ cs) value h = absurd h
horner base (suc n) before [] value h = absurd h
horner base (suc n) before (c ∷ cs) value h =
    let r = horner base n (before * base + digit_value c) cs value h.1 in (
      ((lt-ltb (digit_value c) base h.0, r.0.0), ap suc r.0.1),
      r.1 ∙ longer base before (digit_value c) n (place_sum base cs) ∙ ap (λ k. before * base ^ suc n + (digit_value c * base ^ k + place_sum base cs)) (sym r.0.1),
    )

from_zero : (base n : ℕ) (cs : List ℕ) (value : ℕ) → AreDigits base n 0 cs value → AreDigitsOf base n cs × (value ≡ place_sum base cs)
from_zero base n cs value h =
    let r = horner base n 0 cs value h in
    (r.0, r.1 ∙ (let e : 0 * base ^ n + place_sum base cs ≡ place_sum base cs = omega arith in e))

low_digits : (base : ℕ) → base ≤ 16 → (cs : List ℕ) → Each (digit_in base) cs → Each low cs
low_digits base most [] h = tt
low_digits base most (c ∷ cs) h = (digit_low base c most (below (digit_value c) h.0), low_digits base most cs h.1)
  where
    below : (a : ℕ) → nat_lt a base ≡ true → a < base
    below a e = grind (arith, nat_tests)

record EscapeValued (escape : List ℕ) : Type 0 where
  value : ℕ
  has : IsRuneEscape escape value
  bytes : encode_utf8_all escape ≡ escape

pick : (P : ℕ → Type 0) (m c : ℕ) (others : Bool) → P m → (others ≡ true → P c) → (m == c || others) ≡ true → P c
pick P m c others here other h = by_test (eqb m c) refl h
  where
    by_test : (t : Bool) → eqb m c ≡ t → (t || others) ≡ true → P c
    by_test true e k = subst P (true-eqb m c (sym e)) here
    by_test false e k = other k

either : (P : Type 0) (a b : Bool) → (a ≡ true → P) → (b ≡ true → P) → (a || b) ≡ true → P
either P true b f g h = f refl
either P false b f g h = g h

abbrev IsSimple : ℕ → Type 0
IsSimple c = EscapeValued (c ∷ [])

at : (c v : ℕ) → low c ≡ true → IsRuneEscape (c ∷ []) v → IsSimple c
at c v l h = record { value = v; has = h; bytes = ascii (c ∷ []) (l, tt) }

simple_valued : (c : ℕ) → is_simple single_quote c ≡ true → IsSimple c
simple_valued c h = either (IsSimple c) _ _
    (pick IsSimple 97 c _ (at 97 7 refl alert)
    (pick IsSimple 98 c _ (at 98 8 refl backspace)
    (pick IsSimple 102 c _ (at 102 12 refl form_feed)
    (pick IsSimple 110 c _ (at 110 10 refl new_line)
    (pick IsSimple 114 c _ (at 114 13 refl carriage_return)
    (pick IsSimple 116 c _ (at 116 9 refl horizontal_tab)
    (pick IsSimple 118 c _ (at 118 11 refl vertical_tab)
    (pick IsSimple 92 c _ (at 92 92 refl a_backslash) (λ e. absurd (false≢true e))))))))))
    (λ e. subst IsSimple (sym (true-eqb c single_quote (sym e))) (at 39 39 refl quote))
    h

escape_valued : (escape : List ℕ) → IsEscape single_quote escape → EscapeValued escape
escape_valued escape (simple c h) = simple_valued c h
escape_valued escape (grammar.hexadecimal cs value h l) =
    let r = from_zero 16 2 cs value h in
    record { value = place_sum 16 cs; has = hexadecimal cs r.0; bytes = ascii (120 ∷ cs) (refl, low_digits 16 (omega arith) cs r.0.0) }
escape_valued escape (grammar.octal cs value h l) =
    let r = from_zero 8 3 cs value h in
    record { value = place_sum 8 cs; has = octal cs r.0 (omega (arith, l, r.1)); bytes = ascii cs (low_digits 8 (omega arith) cs r.0.0) }
escape_valued escape (grammar.short_code_point cs value h l) =
    let r = from_zero 16 4 cs value h in
    record { value = place_sum 16 cs; has = short_code_point cs r.0 (subst (λ v. is_code_point v ≡ true) r.1 l); bytes = ascii (117 ∷ cs) (refl, low_digits 16 (omega arith) cs r.0.0) }
escape_valued escape (grammar.long_code_point cs value h l) =
    let r = from_zero 16 8 cs value h in
    record { value = place_sum 16 cs; has = long_code_point cs r.0 (subst (λ v. is_code_point v ≡ true) r.1 l); bytes = ascii (85 ∷ cs) (refl, low_digits 16 (omega arith) cs r.0.0) }

-- the literal
abbrev HasValue : List ℕ → Type 0
HasValue bytes = (v : ℕ) × HasRune bytes v

closed : (q : ℕ) (inside : List ℕ) → q < 128 → encode_utf8_all (q ∷ (inside ++ (q ∷ []))) ≡ q ∷ (encode_utf8_all inside ++ (q ∷ []))
closed q inside small =
    let one : encode_utf8 q ≡ q ∷ [] = encode_ascii q small in
    ap (λ l. l ++ encode_utf8_all (inside ++ (q ∷ []))) one
    ∙ ap (λ l. q ∷ l) (encodes-append inside (q ∷ []) ∙ ap (λ l. encode_utf8_all inside ++ (l ++ [])) one)

inside_valued : (inside : List ℕ) → IsRuneText inside → all_scalars (single_quote ∷ (inside ++ (single_quote ∷ []))) ≡ true → (v : ℕ) × IsRuneInside (encode_utf8_all inside) v
inside_valued inside (rune_character c q f b) s = (c, subst (λ l. IsRuneInside l c) (sym (alone c)) (character c s q f b))
inside_valued inside (rune_escaped escape x) s =
    let e : EscapeValued escape = escape_valued escape x in
    let one : encode_utf8 backslash ≡ backslash ∷ [] = encode_ascii backslash (omega arith) in
    let bytes : encode_utf8_all (backslash ∷ escape) ≡ backslash ∷ escape = ap (λ l. l ++ encode_utf8_all escape) one ∙ ap (λ l. backslash ∷ l) e.bytes in
    (e.value, subst (λ l. IsRuneInside l e.value) (sym bytes) (escaped escape e.value e.has))

no_number : (kind : TokenKind) (text : List ℕ) → IsNumber kind text → kind ≡ Rune → ⊥
no_number kind text (integer t h) e = cc
no_number kind text (float t h) e = cc
no_number kind text (imaginary_digits t h) e = cc
no_number kind text (imaginary_integer t h) e = cc
no_number kind text (imaginary_float t h) e = cc

spelled_valued : (kind : TokenKind) (text : List ℕ) → Spells kind text → kind ≡ Rune → all_scalars text ≡ true → HasValue (encode_utf8_all text)
spelled_valued kind text (identifier name h k) e s = cc
spelled_valued kind text (keyword k) e s = cc
spelled_valued kind text (number d literal h) e s = absurd (no_number d literal h e)
spelled_valued kind text (rune inside h) e s =
    let v = inside_valued inside h s in
    (v.0, subst (λ l. HasRune l v.0) (sym (closed single_quote inside (omega arith))) (quoted (encode_utf8_all inside) v.0 v.1))
spelled_valued kind text (string inside h) e s = cc
spelled_valued kind text (raw_string inside h) e s = cc
spelled_valued kind text (mark t h) e s = cc
spelled_valued kind text inserted e s = cc

pub token_valued : (source : List ℕ) (t : Token) → IsTokenOf source t → t.kind ≡ Rune → HasValue (bytes_at source t)
token_valued source t h e = subst HasValue h.utf8 (spelled_valued t.kind h.characters h.spells e h.scalars)
