-- Each token of a source spells what its kind says.
use Rattle.std.proofs.Common.{◌≡◌, ◌≢◌, ◌≤◌, ◌<◌, ◌-◌, ◌+◌, ℕ, Bool, true, false, ◌&&◌, List, [], ◌∷◌, ◌++◌, length, take, drop, Option, Some, None, sym, ap, ◌∙◌, refl, arith, append_assoc, min}
use Rattle.std.specs.List.{All}
use Rattle.std.specs.Str.{encode_utf8_all, all_scalars}
use lib.Utf8.{scalar}
use Rattle.std.proofs.lemmas.List.{length-append, length-take, take_at, drop_at}
use Rattle.std.proofs.lemmas.List.Elements.{All-nil, All-cons}
use Rattle.std.proofs.lemmas.Str.{encodes-append, length-le-encodes}
use Rattle.code_tables.specs.declared.words.Keyword.{Keyword}
use Rattle.code_tables.specs.Keyword.{keyword_text}
use Rattle.code_tables.specs.declared.words.Keyword.TheVariants as w
use Rattle.go_lexer.specs.declared.token_kinds.Token.{Token}
use Rattle.go_lexer.specs.declared.token_kinds.TokenKind.{TokenKind}
use Rattle.go_lexer.specs.declared.token_kinds.TokenKind.TheVariants.{Inserted}
use Rattle.go_lexer.specs.Characters.{byte_order_mark, star, slash, single_quote, double_quote, back_quote}
use Rattle.go_lexer.specs.Grammar.{IsClosed, here, later, IsPiece, white_space, line_comment, general_comment, IsMark, IsName}
use Rattle.go_lexer.specs.Grammar as grammar
use Rattle.go_lexer.specs.Lexing.{place}
use Rattle.go_lexer.specs.NumberGrammar.{IsDigits, IsInteger, decimal, zero_or_octal, binary, octal, hexadecimal, IsFloat, whole_and_point, whole_and_exponent, fraction_alone, hexadecimal_and_point, hexadecimal_and_exponent, hexadecimal_fraction, IsNumber, integer, float, imaginary_digits, imaginary_integer, imaginary_float}
use Rattle.go_lexer.specs.Pieces.{Piece, blank, token, stop}
use Rattle.go_lexer.specs.TokenGrammar.{spanned, AreTokens, end_of_file, semicolon_at_end_of_file, between, end_of_line, semicolon_at_end_of_line, plain_token, last_of_line_token, IsUnmarked, marked, empty, unmarked, IsLexed}
use Rattle.go_lexer.specs.TokenGrammar as tokens
use Rattle.go_lexer.specs.TokenTexts.{Spells, identifier, keyword, number, rune, string, raw_string, mark, inserted, bytes_at, IsTokenOf, Rise}

-- the characters that a piece takes
abbrev Takes : List ℕ → Piece → Type 0
Takes text (blank breaks rest) = (front : List ℕ) × (text ≡ front ++ rest)
Takes text (token kind owes rest) = (front : List ℕ) × (text ≡ front ++ rest) × Spells kind front
Takes text (stop breach at) = Unit {0}

closed_takes : (text inside rest : List ℕ) → IsClosed text inside rest → (front : List ℕ) × (text ≡ front ++ rest)
closed_takes text inside rest (here r) = (star ∷ slash ∷ [], refl)
closed_takes text inside rest (later c cs i r n h) = let k = closed_takes cs i r h in (c ∷ k.0, ap (λ l. c ∷ l) k.1)

quoted : (q : ℕ) (inside rest : List ℕ) → q ∷ (inside ++ (q ∷ rest)) ≡ (q ∷ (inside ++ (q ∷ []))) ++ rest
quoted q inside rest = ap (λ l. q ∷ l) (sym (append_assoc inside (q ∷ []) rest))

takes : (text : List ℕ) (p : Piece) → IsPiece text p → Takes text p
takes text p (white_space c rest h) = (c ∷ [], refl)
takes text p (line_comment inside rest h k) = (slash ∷ slash ∷ inside, refl)
takes text p (general_comment t inside rest h) = let k = closed_takes t inside rest h in (slash ∷ star ∷ k.0, ap (λ l. slash ∷ star ∷ l) k.1)
takes text p (grammar.identifier name rest h e n) = (name, refl, identifier name h n)
takes text p (grammar.keyword k rest e) = (keyword_text k, refl, keyword k)
takes text p (grammar.number kind literal rest h b e) = (literal, refl, number kind literal h)
takes text p (grammar.rune inside rest h) = (single_quote ∷ (inside ++ (single_quote ∷ [])), quoted single_quote inside rest, rune inside h)
takes text p (grammar.string inside rest h) = (double_quote ∷ (inside ++ (double_quote ∷ [])), quoted double_quote inside rest, string inside h)
takes text p (grammar.raw_string inside rest h) = (back_quote ∷ (inside ++ (back_quote ∷ [])), quoted back_quote inside rest, raw_string inside h)
takes text p (grammar.mark t rest h l c b) = (t, refl, mark t h)

-- a text at the end of a source
record Stands (source text : List ℕ) : Type 0 where
  before : List ℕ
  utf8 : encode_utf8_all (before ++ text) ≡ source
  scalars : all_scalars (before ++ text) ≡ true

both : (a b c : Bool) → ((a && b) && c) ≡ (a && (b && c))
both true b c = refl
both false b c = refl

scalars-append : (xs ys : List ℕ) → all_scalars (xs ++ ys) ≡ (all_scalars xs && all_scalars ys)
scalars-append [] ys = refl
scalars-append (x ∷ xs) ys = ap (λ b. scalar x && b) (scalars-append xs ys) ∙ sym (both (scalar x) (all_scalars xs) (all_scalars ys))

left : (a b : Bool) → (a && b) ≡ true → a ≡ true
left true b e = refl
left false b e = e

right : (a b : Bool) → (a && b) ≡ true → b ≡ true
right true b e = e
right false b e = cc

module _ (source : List ℕ) where
  abbrev moved : (text front rest : List ℕ) → Stands source text → text ≡ front ++ rest → Stands source rest
  moved text front rest s e =
      let same : (s.before ++ front) ++ rest ≡ s.before ++ text = append_assoc s.before front rest ∙ ap (λ l. s.before ++ l) (sym e) in
      record { before = s.before ++ front; utf8 = ap encode_utf8_all same ∙ s.utf8; scalars = ap all_scalars same ∙ s.scalars }

  parts : (text : List ℕ) (s : Stands source text) → encode_utf8_all s.before ++ encode_utf8_all text ≡ source
  parts text s = sym (encodes-append s.before text) ∙ s.utf8

  place_is : (text : List ℕ) (s : Stands source text) → place (length source) text ≡ length (encode_utf8_all s.before)
  place_is text s =
      let long : length (encode_utf8_all s.before) + length (encode_utf8_all text) ≡ length source = sym (length-append (encode_utf8_all s.before) (encode_utf8_all text)) ∙ ap length (parts text s) in
      omega arith

  spelled : (kind : TokenKind) (text front rest : List ℕ) → Stands source text → text ≡ front ++ rest → Spells kind front → IsTokenOf source (spanned kind (place (length source) text) (place (length source) rest))
  spelled kind text front rest s e h =
      let r : Stands source rest = moved text front rest s e in
      let b : List ℕ = encode_utf8_all s.before in
      let f : List ℕ = encode_utf8_all front in
      let start : place (length source) text ≡ length b = place_is text s in
      let end : place (length source) rest ≡ length (encode_utf8_all (s.before ++ front)) = place_is rest r in
      let long : length (encode_utf8_all (s.before ++ front)) ≡ length b + length f = ap length (encodes-append s.before front) ∙ length-append b f in
      let whole : b ++ (f ++ encode_utf8_all rest) ≡ source = ap (λ l. b ++ l) (sym (encodes-append front rest)) ∙ ap (λ l. b ++ encode_utf8_all l) (sym e) ∙ parts text s in
      let all : all_scalars (s.before ++ (front ++ rest)) ≡ true = ap (λ l. all_scalars (s.before ++ l)) (sym e) ∙ s.scalars in
      record {
        characters = front;
        rises = omega arith;
        inside = omega arith;
        scalars = left (all_scalars front) (all_scalars rest) (sym (scalars-append front rest) ∙ right (all_scalars s.before) (all_scalars (front ++ rest)) (sym (scalars-append s.before (front ++ rest)) ∙ all));
        utf8 = sym (
            ap (λ l. take (place (length source) rest - place (length source) text) l)
            (ap (drop (place (length source) text)) (sym whole) ∙ drop_at b (f ++ encode_utf8_all rest) (place (length source) text) (sym start))
            ∙ take_at f (encode_utf8_all rest) (place (length source) rest - place (length source) text) (omega arith));
        spells = h;
      }

  semicolon : (at : ℕ) → at ≤ length source → IsTokenOf source (tokens.inserted at)
  semicolon at h =
      let none : at - at ≡ 0 = omega arith in
      record { characters = []; rises = omega arith; inside = h; scalars = refl; utf8 = ap (λ n. take n (drop at source)) (sym none); spells = inserted }

  -- a semicolon that is owed stands before what is left
  abbrev Due : ℕ → ℕ → Option ℕ → Type 0
  Due from place_of None = from ≤ place_of
  Due from place_of (Some at) = (from ≤ at) × (at ≤ place_of)

  due : (from place_of : ℕ) (owed : Option ℕ) → Due from place_of owed → from ≤ place_of
  due from place_of None h = h
  due from place_of (Some at) h = omega arith

  later_due : (from place_of there : ℕ) (owed : Option ℕ) → place_of ≤ there → Due from place_of owed → Due from there owed
  later_due from place_of there None l h = omega arith
  later_due from place_of there (Some at) l h = (h.0, omega arith)

  abbrev Good : ℕ → List Token → Type 0
  Good from items = Rise from (length source) items × All (IsTokenOf source) items

  inside : (text : List ℕ) → place (length source) text ≤ length source
  inside text = omega arith

  further : (text front rest : List ℕ) → Stands source text → text ≡ front ++ rest → place (length source) text ≤ place (length source) rest
  further text front rest s e =
      let f : List ℕ = encode_utf8_all front in
      let long : length (encode_utf8_all text) ≡ length f + length (encode_utf8_all rest) = ap (λ l. length (encode_utf8_all l)) e ∙ ap length (encodes-append front rest) ∙ length-append f (encode_utf8_all rest) in
      omega arith

  put : (from : ℕ) (t : Token) (items : List Token) → from ≤ t.start → IsTokenOf source t → Good t.end items → Good from (t ∷ items)
  put from t items l h g = ((l, h.rises, g.0), All-cons (IsTokenOf source) t items h g.1)

  all_good : (owed : Option ℕ) (text : List ℕ) (items : List Token) → AreTokens (length source) owed text items → (from : ℕ) → Stands source text → Due from (place (length source) text) owed → Good from items
  all_good owed text items end_of_file from s d = (omega arith, All-nil (IsTokenOf source))
  all_good owed text items (semicolon_at_end_of_file at) from s d =
      put from (tokens.inserted at) [] d.0 (semicolon at (omega arith)) (omega arith, All-nil (IsTokenOf source))
  all_good owed text items (between o t rest ts p h) from s d =
      let k = takes t (blank false rest) p in
      all_good o rest ts h from (moved t k.0 rest s k.1) (later_due from (place (length source) t) (place (length source) rest) o (further t k.0 rest s k.1) d)
  all_good owed text items (end_of_line t rest ts p h) from s d =
      let k = takes t (blank true rest) p in
      let f = further t k.0 rest s k.1 in
      all_good None rest ts h from (moved t k.0 rest s k.1) (omega arith)
  all_good owed text items (semicolon_at_end_of_line at t rest ts p h) from s d =
      let k = takes t (blank true rest) p in
      let f = further t k.0 rest s k.1 in
      let i = inside t in
      put from (tokens.inserted at) ts d.0 (semicolon at (omega arith)) (all_good None rest ts h at (moved t k.0 rest s k.1) (omega arith))
  all_good owed text items (plain_token o kind t rest ts p h) from s d =
      let k = takes t (token kind false rest) p in
      put from (spanned kind (place (length source) t) (place (length source) rest)) ts (due from (place (length source) t) o d) (spelled kind t k.0 rest s k.1 k.2)
      (all_good None rest ts h (place (length source) rest) (moved t k.0 rest s k.1) (omega arith))
  all_good owed text items (last_of_line_token o kind t rest ts p h) from s d =
      let k = takes t (token kind true rest) p in
      put from (spanned kind (place (length source) t) (place (length source) rest)) ts (due from (place (length source) t) o d) (spelled kind t k.0 rest s k.1 k.2)
      (all_good (Some (place (length source) rest)) rest ts h (place (length source) rest) (moved t k.0 rest s k.1) (omega arith, omega arith))

unmarked_stands : (source characters text : List ℕ) → IsUnmarked characters text → Stands source characters → Stands source text
unmarked_stands source characters text (marked t) s = moved source (byte_order_mark ∷ t) (byte_order_mark ∷ []) t s refl
unmarked_stands source characters text empty s = s
unmarked_stands source characters text (unmarked c t n) s = s

good : (source : List ℕ) (items : List Token) → IsLexed source items → Good source 0 items
good source items l =
    all_good source None l.text items l.are 0
    (unmarked_stands source l.characters l.text l.start (record { before = []; utf8 = l.utf8; scalars = l.scalars }))
    (omega arith)

pub all_rise : (source : List ℕ) (items : List Token) → IsLexed source items → Rise 0 (length source) items
all_rise source items l = (good source items l).0

pub all_are : (source : List ℕ) (items : List Token) → IsLexed source items → All (IsTokenOf source) items
all_are source items l = (good source items l).1

-- only an inserted semicolon has no characters
some_digits : (radix : ℕ) (cs : List ℕ) → IsDigits radix cs → 0 < length cs
some_digits radix [] h = absurd h
some_digits radix (c ∷ cs) h = omega arith

longer : (a b : List ℕ) → 0 < length a → 0 < length (a ++ b)
longer [] b h = absurd (omega arith)
longer (c ∷ a) b h = omega arith

ended : (a b : List ℕ) (c : ℕ) → 0 < length (a ++ (c ∷ b))
ended [] b c = omega arith
ended (d ∷ a) b c = omega arith

some_integer : (text : List ℕ) → IsInteger text → 0 < length text
some_integer text (decimal digits l h) = some_digits 10 digits h
some_integer text (zero_or_octal digits l h) = some_digits 8 digits h
some_integer text (binary letter digits l h) = omega arith
some_integer text (octal letter digits l h) = omega arith
some_integer text (hexadecimal letter digits l h) = omega arith

some_float : (text : List ℕ) → IsFloat text → 0 < length text
some_float text (whole_and_point digits fraction scale a b c) = longer digits _ (some_digits 10 digits a)
some_float text (whole_and_exponent digits scale a b) = longer digits scale (some_digits 10 digits a)
some_float text (fraction_alone fraction scale a b) = omega arith
some_float text (hexadecimal_and_point letter digits fraction scale a b c d) = omega arith
some_float text (hexadecimal_and_exponent letter digits scale a b c) = omega arith
some_float text (hexadecimal_fraction letter fraction scale a b c) = omega arith

some_number : (kind : TokenKind) (text : List ℕ) → IsNumber kind text → 0 < length text
some_number kind text (integer t h) = some_integer t h
some_number kind text (float t h) = some_float t h
some_number kind text (imaginary_digits t h) = ended t [] _
some_number kind text (imaginary_integer t h) = ended t [] _
some_number kind text (imaginary_float t h) = ended t [] _

some_mark : (text : List ℕ) → IsMark text → 0 < length text
some_mark [] h = absurd h
some_mark (c ∷ cs) h = omega arith

some_name : (text : List ℕ) → IsName text → 0 < length text
some_name [] h = absurd h
some_name (c ∷ cs) h = omega arith

some_keyword : (k : Keyword) → 0 < length (keyword_text k)
some_keyword w.Break = omega arith
some_keyword w.Case = omega arith
some_keyword w.Chan = omega arith
some_keyword w.Const = omega arith
some_keyword w.Continue = omega arith
some_keyword w.Default = omega arith
some_keyword w.Defer = omega arith
some_keyword w.Else = omega arith
some_keyword w.Fallthrough = omega arith
some_keyword w.For = omega arith
some_keyword w.Func = omega arith
some_keyword w.Go = omega arith
some_keyword w.Goto = omega arith
some_keyword w.If = omega arith
some_keyword w.Import = omega arith
some_keyword w.Interface = omega arith
some_keyword w.Map = omega arith
some_keyword w.Package = omega arith
some_keyword w.Range = omega arith
some_keyword w.Return = omega arith
some_keyword w.Select = omega arith
some_keyword w.Struct = omega arith
some_keyword w.Switch = omega arith
some_keyword w.«Type» = omega arith
some_keyword w.Var = omega arith

some_characters : (kind : TokenKind) (text : List ℕ) → Spells kind text → kind ≢ Inserted → 0 < length text
some_characters kind text (identifier name h k) n = some_name name h
some_characters kind text (keyword k) n = some_keyword k
some_characters kind text (number d literal h) n = some_number d literal h
some_characters kind text (rune inside h) n = omega arith
some_characters kind text (string inside h) n = omega arith
some_characters kind text (raw_string inside h) n = omega arith
some_characters kind text (mark t h) n = some_mark t h
some_characters kind text inserted n = absurd (n refl)

pub some_bytes : (source : List ℕ) (t : Token) → IsTokenOf source t → t.kind ≢ Inserted → t.start < t.end
some_bytes source t h n =
    let some : 0 < length h.characters = some_characters t.kind h.characters h.spells n in
    let most : length h.characters ≤ length (encode_utf8_all h.characters) = length-le-encodes h.characters in
    let same : length (encode_utf8_all h.characters) ≡ length (bytes_at source t) = ap length h.utf8 in
    let long : length (bytes_at source t) ≡ min (t.end - t.start) (length (drop t.start source)) = length-take (t.end - t.start) (drop t.start source) in
    omega arith
