-- What the rules give a literal is what reading it gives.
use Rattle.std.proofs.Common.{◌≡◌, ◌<◌, ◌+◌, ◌*◌, ℕ, zero, suc, true, false, cond, eqb, List, [], ◌∷◌, ◌++◌, length, append_assoc, Option, Some, None, Result, Ok, Err, IfOk, refl, sym, ap, ◌∙◌, arith}
use Rattle.std.specs.Char.{digit_value}
use Rattle.std.proofs.lemmas.Bool.{lt-ltb, ne_eqb}
use Rattle.std.proofs.lemmas.Bool.Decides.{nat_tests}
use Rattle.go_lexer.specs.Characters.{double_quote, back_quote, backslash}
use Rattle.go_lexer.specs.Escapes.{is_code_point}
use Rattle.go_lexer.specs.Grammar.{AreDigits}
use Rattle.string_literals.specs.declared.escapes.Meaning.TheVariants.{Byte, CodePoint}
use Rattle.string_literals.specs.declared.escapes.Piece.{Piece}
use Rattle.string_literals.specs.Escapes.{bytes_of, simple, digits, byte_escape, code_point_escape, numbered, escape_by, escape}
use Rattle.string_literals.specs.Values.{carriage_return, plain, escaped as escaped_piece, text_after, raw_text, value_of}
use Rattle.string_literals.specs.Grammar.{IsEscape, alert, backspace, form_feed, new_line, return, horizontal_tab, vertical_tab, a_backslash, quote, octal, hexadecimal, short_code_point, long_code_point, IsText, nothing, byte, escaped, IsRawText, raw_nothing, raw_return, raw_byte, HasValue, raw, interpreted}

digits_again : (base n before : ℕ) (front rest : List ℕ) (value : ℕ) → AreDigits base n before front value → digits base n before (front ++ rest) ≡ Some value
digits_again base zero before [] rest value h = ap Some h
digits_again base zero before (c ∷ cs) rest value h = absurd h
digits_again base (suc n) before [] rest value h = absurd h
digits_again base (suc n) before (c ∷ cs) rest value h =
    ap (λ t. cond t (digits base n (before * base + digit_value c) (cs ++ rest)) None) (lt-ltb (digit_value c) base h.0) ∙ digits_again base n (before * base + digit_value c) cs rest value h.1

digits_long : (base n before : ℕ) (front : List ℕ) (value : ℕ) → AreDigits base n before front value → length front ≡ n
digits_long base zero before [] value h = refl
digits_long base zero before (c ∷ cs) value h = absurd h
digits_long base (suc n) before [] value h = absurd h
digits_long base (suc n) before (c ∷ cs) value h = ap suc (digits_long base n (before * base + digit_value c) cs value h.1)

-- an escape stands for what the piece read stands for, whatever follows it
record Reads (front bytes : List ℕ) (p : Piece) : Type 0 where
  means : bytes_of p.meaning ≡ bytes
  long : length front ≡ p.more
  read : (rest : List ℕ) → escape (front ++ rest) ≡ Some p

abbrev IsRead : List ℕ → List ℕ → Type 0
IsRead front bytes = (p : Piece) × Reads front bytes p

simply : (b value : ℕ) → simple b ≡ Some value → IsRead (b ∷ []) (value ∷ [])
simply b value h = (record { meaning = Byte value; more = 1 }, record { means = refl; long = refl; read = λ rest. ap (λ o. escape_by o b rest) h })

byte_again : (more value : ℕ) (o : Option ℕ) → o ≡ Some value → value < 256 → byte_escape more o ≡ Some (record { meaning = Byte value; more = more })
byte_again more value o e l = ap (byte_escape more) e ∙ ap (λ t. cond t (Some (record { meaning = Byte value; more = more })) None) (lt-ltb value 256 l)

code_point_again : (more value : ℕ) (o : Option ℕ) → o ≡ Some value → is_code_point value ≡ true → code_point_escape more o ≡ Some (record { meaning = CodePoint value; more = more })
code_point_again more value o e h = ap (code_point_escape more) e ∙ ap (λ t. cond t (Some (record { meaning = CodePoint value; more = more })) None) h

-- an octal digit is no other escape's first byte
octal_simple : (c : ℕ) → digit_value c < 8 → simple c ≡ None
octal_simple c h = grind (arith, nat_tests)

octal_letters : (c : ℕ) → digit_value c < 8 → (eqb c 120 ≡ false) × (eqb c 117 ≡ false) × (eqb c 85 ≡ false)
octal_letters c h = (grind (arith, nat_tests), grind (arith, nat_tests), grind (arith, nat_tests))

octal_numbered : (c : ℕ) (bs : List ℕ) → digit_value c < 8 → numbered c bs ≡ byte_escape 3 (digits 8 3 0 (c ∷ bs))
octal_numbered c bs h = let n = octal_letters c h in rw (n.0, n.1, n.2)

octal_again : (front : List ℕ) (value : ℕ) → AreDigits 8 3 0 front value → value < 256 → IsRead front (value ∷ [])
octal_again [] value h l = absurd h
octal_again (c ∷ cs) value h l = (
  record { meaning = Byte value; more = 3 },
  record {
    means = refl;
    long = digits_long 8 3 0 (c ∷ cs) value h;
    read = λ rest. ap (λ o. escape_by o c (cs ++ rest)) (octal_simple c h.0) ∙ octal_numbered c (cs ++ rest) h.0 ∙ byte_again 3 value (digits 8 3 0 (c ∷ (cs ++ rest))) (digits_again 8 3 0 (c ∷ cs) rest value h) l;
  },
)

escape_again : (front bytes : List ℕ) → IsEscape front bytes → IsRead front bytes
escape_again front bytes alert = simply 97 7 refl
escape_again front bytes backspace = simply 98 8 refl
escape_again front bytes form_feed = simply 102 12 refl
escape_again front bytes new_line = simply 110 10 refl
escape_again front bytes return = simply 114 13 refl
escape_again front bytes horizontal_tab = simply 116 9 refl
escape_again front bytes vertical_tab = simply 118 11 refl
escape_again front bytes a_backslash = simply 92 92 refl
escape_again front bytes quote = simply 34 34 refl
escape_again front bytes (octal ds value h l) = octal_again ds value h l
escape_again front bytes (hexadecimal ds value h l) = (
  record { meaning = Byte value; more = 3 },
  record {
    means = refl;
    long = ap suc (digits_long 16 2 0 ds value h);
    read = λ rest. byte_again 3 value (digits 16 2 0 (ds ++ rest)) (digits_again 16 2 0 ds rest value h) l;
  },
)
escape_again front bytes (short_code_point ds value h l) = (
  record { meaning = CodePoint value; more = 5 },
  record {
    means = refl;
    long = ap suc (digits_long 16 4 0 ds value h);
    read = λ rest. code_point_again 5 value (digits 16 4 0 (ds ++ rest)) (digits_again 16 4 0 ds rest value h) l;
  },
)
escape_again front bytes (long_code_point ds value h l) = (
  record { meaning = CodePoint value; more = 9 },
  record {
    means = refl;
    long = ap suc (digits_long 16 8 0 ds value h);
    read = λ rest. code_point_again 9 value (digits 16 8 0 (ds ++ rest)) (digits_again 16 8 0 ds rest value h) l;
  },
)

-- the bytes of a piece are passed over
passed : (front rest : List ℕ) → text_after (length front) (front ++ rest) ≡ text_after 0 rest
passed [] rest = refl
passed (c ∷ cs) rest = passed cs rest

-- the value at a byte that isn't the closing quote
abbrev from_piece : Piece → List ℕ → List ℕ
from_piece p bs = bytes_of p.meaning ++ text_after p.more bs

text_again : (inside value rest : List ℕ) → IsText inside value → text_after 0 (inside ++ (double_quote ∷ rest)) ≡ value
text_again inside value rest nothing = refl
text_again inside value rest (byte b bs tail q f n t) =
    let after : List ℕ = bs ++ (double_quote ∷ rest) in
    ap (λ u. cond u [] (from_piece (cond (eqb b backslash) (escaped_piece (escape after)) (plain b)) after)) (ne_eqb b double_quote q)
    ∙ ap (λ u. from_piece (cond u (escaped_piece (escape after)) (plain b)) after) (ne_eqb b backslash n)
    ∙ ap (λ l. b ∷ l) (text_again bs tail rest t)
text_again inside value rest (escaped e bytes bs tail x t) =
    let after : List ℕ = bs ++ (double_quote ∷ rest) in
    let found = escape_again e bytes x in
    ap (λ l. from_piece (escaped_piece (escape l)) l) (append_assoc e bs (double_quote ∷ rest))
    ∙ ap (λ o. from_piece (escaped_piece o) (e ++ after)) (found.1.read after)
    ∙ ap (λ l. l ++ text_after found.0.more (e ++ after)) found.1.means
    ∙ ap (λ k. bytes ++ text_after k (e ++ after)) (sym found.1.long)
    ∙ ap (λ l. bytes ++ l) (passed e after ∙ text_again bs tail rest t)

raw_again : (inside value rest : List ℕ) → IsRawText inside value → raw_text (inside ++ (back_quote ∷ rest)) ≡ value
raw_again inside value rest raw_nothing = refl
raw_again inside value rest (raw_return bs tail t) = raw_again bs tail rest t
raw_again inside value rest (raw_byte b bs tail q n t) =
    let after : List ℕ = bs ++ (back_quote ∷ rest) in
    ap (λ u. cond u [] (cond (eqb b carriage_return) (raw_text after) (b ∷ raw_text after))) (ne_eqb b back_quote q)
    ∙ ap (λ u. cond u (raw_text after) (b ∷ raw_text after)) (ne_eqb b carriage_return n)
    ∙ ap (λ l. b ∷ l) (raw_again bs tail rest t)

pub value_again : (literal value : List ℕ) → HasValue literal value → value_of literal ≡ value
value_again literal value (raw inside bytes h) = raw_again inside bytes [] h
value_again literal value (interpreted inside bytes h) = text_again inside bytes [] h

pub same_value : (literal value other : List ℕ) → HasValue literal value → HasValue literal other → value ≡ other
same_value literal value other h g = sym (value_again literal value h) ∙ value_again literal other g

-- what was read is the value by the rules
pub read_found : {E : Type 0} (literal : List ℕ) (result : Result (List ℕ) E) → IfOk result (λ value. value ≡ value_of literal) → IfOk result (λ value. (bytes : List ℕ) → HasValue literal bytes → value ≡ bytes)
read_found literal (Ok value) e = λ bytes h. e ∙ value_again literal bytes h
read_found literal (Err e) _ = tt
