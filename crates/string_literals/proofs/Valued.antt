-- Each string of the lexical grammar has a value.
use Rattle.std.proofs.Common.{◌≡◌, ◌≢◌, ◌≤◌, ◌<◌, ◌+◌, ◌*◌, ℕ, zero, suc, Bool, true, false, cond, eqb, ltb, ◌||◌, List, [], ◌∷◌, ◌++◌, refl, sym, ap, ◌∙◌, subst, arith}
use lib.Utf8.{encode}
use borrow.Author.Tests.{true-eqb}
use Rattle.std.specs.Prelude.{encode_utf8, encode_utf8_all, ◌==◌, not}
use Rattle.std.specs.Char.{digit_value}
use Rattle.std.proofs.lemmas.Bool.{eqb-false, false≢true}
use Rattle.std.proofs.lemmas.Bool.Decides.{nat_tests}
use Rattle.std.proofs.lemmas.Str.{encodes-append, encode_ascii}
use Rattle.go_lexer.specs.Characters.{line_feed, double_quote, back_quote, backslash}
use Rattle.go_lexer.specs.Escapes.{is_simple}
use Rattle.go_lexer.specs.Grammar.{AreDigits, Each, IsEscape as IsLexed, simple, hexadecimal as lexed_hexadecimal, octal as lexed_octal, short_code_point as lexed_short, long_code_point as lexed_long, IsStringText, nothing as lexed_nothing, character, escaped as lexed_escaped}
use Rattle.go_lexer.specs.NumberGrammar.{IsNumber, integer, float, imaginary_digits, imaginary_integer, imaginary_float}
use Rattle.go_lexer.specs.TokenTexts.{Spells, identifier, keyword, number, rune, string, raw_string, mark, inserted, IsTokenOf, bytes_at}
use Rattle.go_lexer.specs.declared.token_kinds.Token.{Token}
use Rattle.go_lexer.specs.declared.token_kinds.TokenKind.{TokenKind}
use Rattle.go_lexer.specs.declared.token_kinds.TokenKind.TheVariants.{Text}
use Rattle.string_literals.specs.Values.{carriage_return}
use Rattle.string_literals.specs.Grammar.{IsEscape, alert, backspace, form_feed, new_line, return, horizontal_tab, vertical_tab, a_backslash, quote, octal, hexadecimal, short_code_point, long_code_point, IsText, nothing, byte, escaped, IsRawText, raw_nothing, raw_return, raw_byte, raw, interpreted, literal_of, IsValued}

by_cond : (P : List ℕ → Type 0) (t : Bool) (xs ys : List ℕ) → (t ≡ true → P xs) → P ys → P (cond t xs ys)
by_cond P true xs ys p q = p refl
by_cond P false xs ys p q = q

-- a property of lists that each byte of at least 128 keeps at the front holds of a character's bytes, if it holds of them where it is one byte
over_bytes : (P : List ℕ → Type 0) (bs : List ℕ) (c : ℕ) → ((b : ℕ) (xs : List ℕ) → 128 ≤ b → P xs → P (b ∷ xs)) → P bs → (c < 128 → P (c ∷ bs)) → P (encode_utf8 c ++ bs)
unfolding encode
over_bytes P bs c high rest low =
    by_cond (λ l. P (l ++ bs)) (ltb c 128) _ _ (λ t. low (grind (arith, nat_tests)))
    (by_cond (λ l. P (l ++ bs)) (ltb c 2048) _ _ (λ _. high _ _ (omega arith) (high _ _ (omega arith) rest))
    (by_cond (λ l. P (l ++ bs)) (ltb c 65536) _ _ (λ _. high _ _ (omega arith) (high _ _ (omega arith) (high _ _ (omega arith) rest)))
    (high _ _ (omega arith) (high _ _ (omega arith) (high _ _ (omega arith) (high _ _ (omega arith) rest))))))

-- interpreted literals
abbrev IsTextValued : List ℕ → Type 0
IsTextValued bs = (value : List ℕ) × IsText bs value

char_valued : (c : ℕ) (bs : List ℕ) → c ≢ double_quote → c ≢ line_feed → c ≢ backslash → IsTextValued bs → IsTextValued (encode_utf8 c ++ bs)
char_valued c bs q f n t =
    over_bytes IsTextValued bs c (λ b xs big r. (b ∷ r.0, byte b xs r.0 (λ e. omega (arith, big, e)) (λ e. omega (arith, big, e)) (λ e. omega (arith, big, e)) r.1)) t (λ _. (c ∷ t.0, byte c bs t.0 q f n t.1))

-- an escape has the same bytes as characters, and stands for some bytes
abbrev IsEscapeValued : List ℕ → Type 0
IsEscapeValued escape = (bytes : List ℕ) × IsEscape escape bytes × (encode_utf8_all escape ≡ escape)

ascii_all : (c : ℕ) (cs : List ℕ) → c < 128 → encode_utf8_all cs ≡ cs → encode_utf8_all (c ∷ cs) ≡ c ∷ cs
ascii_all c cs low h = (λ i. encode_ascii c low i ++ h i)

digits_all : (base n before : ℕ) (cs : List ℕ) (value : ℕ) → base ≤ 16 → AreDigits base n before cs value → encode_utf8_all cs ≡ cs
digits_all base n before [] value small h = refl
digits_all base zero before (c ∷ cs) value small h = absurd h
digits_all base (suc n) before (c ∷ cs) value small h = ascii_all c cs (low c (omega (arith, small, h.0))) (digits_all base n (before * base + digit_value c) cs value small h.1)
  where
    low : (c : ℕ) → digit_value c < 16 → c < 128
    low c h = grind (arith, nat_tests)

pick : (P : ℕ → Type 0) (m c : ℕ) (others : Bool) → P m → (others ≡ true → P c) → (eqb m c || others) ≡ true → P c
pick P m c others here other h = by_test (eqb m c) refl h
  where
    by_test : (t : Bool) → eqb m c ≡ t → (t || others) ≡ true → P c
    by_test true e h = subst P (true-eqb m c (sym e)) here
    by_test false e h = other h

one_byte : (c : ℕ) → c < 128 → encode_utf8_all (c ∷ []) ≡ c ∷ []
one_byte c low = ascii_all c [] low refl

abbrev IsSimple : ℕ → Type 0
IsSimple c = IsEscapeValued (c ∷ [])

either : (P : Type 0) (a b : Bool) → (a ≡ true → P) → (b ≡ true → P) → (a || b) ≡ true → P
either P true b f g h = f refl
either P false b f g h = g h

simple_valued : (c : ℕ) → is_simple double_quote c ≡ true → IsEscapeValued (c ∷ [])
simple_valued c h = either (IsSimple c) _ _
    (pick IsSimple 97 c _ (7 ∷ [], alert, one_byte 97 (omega arith))
    (pick IsSimple 98 c _ (8 ∷ [], backspace, one_byte 98 (omega arith))
    (pick IsSimple 102 c _ (12 ∷ [], form_feed, one_byte 102 (omega arith))
    (pick IsSimple 110 c _ (10 ∷ [], new_line, one_byte 110 (omega arith))
    (pick IsSimple 114 c _ (13 ∷ [], return, one_byte 114 (omega arith))
    (pick IsSimple 116 c _ (9 ∷ [], horizontal_tab, one_byte 116 (omega arith))
    (pick IsSimple 118 c _ (11 ∷ [], vertical_tab, one_byte 118 (omega arith))
    (pick IsSimple 92 c _ (92 ∷ [], a_backslash, one_byte 92 (omega arith)) (λ e. absurd (false≢true e))))))))))
    (λ e. subst IsSimple (sym (true-eqb c double_quote (sym e))) (34 ∷ [], quote, one_byte 34 (omega arith)))
    h

escape_valued : (escape : List ℕ) → IsLexed double_quote escape → IsEscapeValued escape
escape_valued escape (simple c h) = simple_valued c h
escape_valued escape (lexed_hexadecimal cs value h l) = (value ∷ [], hexadecimal cs value h l, ascii_all 120 cs (omega arith) (digits_all 16 2 0 cs value (omega arith) h))
escape_valued escape (lexed_octal cs value h l) = (value ∷ [], octal cs value h l, digits_all 8 3 0 cs value (omega arith) h)
escape_valued escape (lexed_short cs value h l) = (encode_utf8 value, short_code_point cs value h l, ascii_all 117 cs (omega arith) (digits_all 16 4 0 cs value (omega arith) h))
escape_valued escape (lexed_long cs value h l) = (encode_utf8 value, long_code_point cs value h l, ascii_all 85 cs (omega arith) (digits_all 16 8 0 cs value (omega arith) h))

text_valued : (inside : List ℕ) → IsStringText inside → IsTextValued (encode_utf8_all inside)
text_valued inside lexed_nothing = ([], nothing)
text_valued inside (character c cs q f n t) = char_valued c (encode_utf8_all cs) q f n (text_valued cs t)
text_valued inside (lexed_escaped escape cs x t) =
    let e = escape_valued escape x in
    let r = text_valued cs t in
    let bytes : encode_utf8_all (backslash ∷ (escape ++ cs)) ≡ backslash ∷ (escape ++ encode_utf8_all cs) =
    ap (λ l. l ++ encode_utf8_all (escape ++ cs)) (encode_ascii backslash (omega arith)) ∙ ap (λ l. backslash ∷ l) (encodes-append escape cs ∙ ap (λ l. l ++ encode_utf8_all cs) e.2) in
    subst IsTextValued (sym bytes) (e.0 ++ r.0, escaped escape e.0 (encode_utf8_all cs) r.0 e.1 r.1)

pub interpreted_valued : (inside : List ℕ) → IsStringText inside → IsValued (literal_of double_quote inside)
interpreted_valued inside h = let r = text_valued inside h in (r.0, interpreted (encode_utf8_all inside) r.0 r.1)

-- raw literals
abbrev IsRawValued : List ℕ → Type 0
IsRawValued bs = (value : List ℕ) × IsRawText bs value

raw_step : (b : ℕ) (bs : List ℕ) → b ≢ back_quote → IsRawValued bs → IsRawValued (b ∷ bs)
raw_step b bs q t = by_test (eqb b carriage_return) refl
  where
    by_test : (u : Bool) → eqb b carriage_return ≡ u → IsRawValued (b ∷ bs)
    by_test true e = subst (λ c. IsRawValued (c ∷ bs)) (sym (true-eqb b carriage_return (sym e))) (t.0, raw_return bs t.0 t.1)
    by_test false e = (b ∷ t.0, raw_byte b bs t.0 q (eqb-false b carriage_return e) t.1)

raw_text_valued : (inside : List ℕ) → Each (λ c. not (c == back_quote)) inside → IsRawValued (encode_utf8_all inside)
raw_text_valued [] h = ([], raw_nothing)
raw_text_valued (c ∷ cs) h =
    over_bytes IsRawValued (encode_utf8_all cs) c (λ b xs big t. raw_step b xs (λ e. omega (arith, big, e)) t) (raw_text_valued cs h.1)
    (λ _. raw_step c (encode_utf8_all cs) (eqb-false c back_quote (other (eqb c back_quote) h.0)) (raw_text_valued cs h.1))
  where
    other : (t : Bool) → not t ≡ true → t ≡ false
    other true e = absurd (false≢true e)
    other false e = refl

pub raw_valued : (inside : List ℕ) → Each (λ c. not (c == back_quote)) inside → IsValued (literal_of back_quote inside)
raw_valued inside h = let r = raw_text_valued inside h in (r.0, raw (encode_utf8_all inside) r.0 r.1)

-- tokens
closed : (q : ℕ) (inside : List ℕ) → q < 128 → encode_utf8_all (q ∷ (inside ++ (q ∷ []))) ≡ literal_of q inside
closed q inside low =
    let one : encode_utf8 q ≡ q ∷ [] = encode_ascii q low in
    ap (λ l. l ++ encode_utf8_all (inside ++ (q ∷ []))) one
    ∙ ap (λ l. q ∷ l) (encodes-append inside (q ∷ []) ∙ ap (λ l. encode_utf8_all inside ++ (l ++ [])) one)

no_number : (kind : TokenKind) (text : List ℕ) → IsNumber kind text → kind ≡ Text → ⊥
no_number kind text (integer t h) e = cc
no_number kind text (float t h) e = cc
no_number kind text (imaginary_digits t h) e = cc
no_number kind text (imaginary_integer t h) e = cc
no_number kind text (imaginary_float t h) e = cc

spelled_valued : (kind : TokenKind) (text : List ℕ) → Spells kind text → kind ≡ Text → IsValued (encode_utf8_all text)
spelled_valued kind text (identifier name h k) e = cc
spelled_valued kind text (keyword k) e = cc
spelled_valued kind text (number d literal h) e = absurd (no_number d literal h e)
spelled_valued kind text (rune inside h) e = cc
spelled_valued kind text (string inside h) e = subst IsValued (sym (closed double_quote inside (omega arith))) (interpreted_valued inside h)
spelled_valued kind text (raw_string inside h) e = subst IsValued (sym (closed back_quote inside (omega arith))) (raw_valued inside h)
spelled_valued kind text (mark t h) e = cc
spelled_valued kind text inserted e = cc

pub token_valued : (source : List ℕ) (t : Token) → IsTokenOf source t → t.kind ≡ Text → IsValued (bytes_at source t)
token_valued source t h e = subst IsValued h.utf8 (spelled_valued t.kind h.characters h.spells e)
