-- Each piece takes a character at least.
use Rattle.std.proofs.Common.{◌≡◌, ◌≤◌, ◌<◌, ℕ, zero, suc, Bool, true, false, cond, List, [], ◌∷◌, length, Option, Some, None, sym, ap, refl, subst, arith, eqb, ◌||◌, ◌==◌}
use Rattle.go_lexer.specs.declared.numbers.Base.{Base}
use Rattle.go_lexer.specs.declared.numbers.Base.TheVariants.{Decimal}
use Rattle.go_lexer.specs.declared.classes.Class.TheVariants.{Line, Raw, Digits}
use Rattle.go_lexer.specs.Characters.{front_while, after_while, split, strip, strip_pair, line_feed, double_quote, single_quote, back_quote, backslash, star, slash, point, digit_zero, letter_i, plus, minus}
use Rattle.go_lexer.specs.Classes.{in_class, is_letter, is_space, is_decimal, continues_name}
use Rattle.go_lexer.specs.Comments.{general, general_by, commented}
use Rattle.go_lexer.specs.Escapes.{Escape, whole, wrong, cut, escape}
use Rattle.go_lexer.specs.Literals.{Closing, closed, line_ends, text_ends, bad_escape, Element, goes, ends, escaped, element, closing_by, closing, text_literal, string_literal, raw_end, rune_end, rune_escape, rune_literal}
use Rattle.go_lexer.specs.Marks.{is_single, is_pair, is_triple}
use Rattle.go_lexer.specs.Numbers.{prefix_base, based, prefixed, after_zero, base_of, run, Mantissa, fraction_after, mantissa_in, mantissa, Exponent, exponent, is_exponent_letter, after_sign, is_number, after_exponent, number_piece, number}
use Rattle.go_lexer.specs.Pieces.{Piece, blank, token, stop}
use Rattle.go_lexer.specs.Words.{word_piece, word}
use Rattle.go_lexer.specs.Front.{mark_one, mark_two, mark, after_point, after_slash, piece}
use Rattle.code_tables.specs.declared.words.Keyword.{Keyword}
use borrow.Author.Tests.{true-eqb}
use Rattle.std.proofs.Common.{option_and_then}
use Rattle.go_lexer.proofs.Shorter.{escape_shorter}

-- what follows a piece is shorter than n
abbrev pub IsShorter : ℕ → Piece → Type 0
IsShorter n (blank breaks rest) = length rest < n
IsShorter n (token kind owes rest) = length rest < n
IsShorter n (stop breach rest) = Unit {0}

if_shorter : (n : ℕ) (b : Bool) (p q : Piece) → (b ≡ true → IsShorter n p) → (b ≡ false → IsShorter n q) → IsShorter n (cond b p q)
if_shorter n true p q f g = f refl
if_shorter n false p q f g = g refl

after_by : (b : Bool) (c : ℕ) (cs xs : List ℕ) → length xs ≤ length cs → length (cond b xs (c ∷ cs)) ≤ length (c ∷ cs)
after_by true c cs xs h = omega arith
after_by false c cs xs h = omega arith

pub after_long : (p : ℕ → Bool) (cs : List ℕ) → length (after_while p cs) ≤ length cs
after_long p [] = omega arith
after_long p (c ∷ cs) = after_by (p c) c cs (after_while p cs) (after_long p cs)

-- one that begins with a character that passes
after_some : (p : ℕ → Bool) (c : ℕ) (cs : List ℕ) → p c ≡ true → length (after_while p (c ∷ cs)) ≤ length cs
after_some p c cs h = let e : after_while p (c ∷ cs) ≡ after_while p cs = ap (λ b. cond b (after_while p cs) (c ∷ cs)) h in omega (arith, ap length e, after_long p cs)

-- what follows, where something does
abbrev IsShorterRest : ℕ → Option (List ℕ) → Type 0
IsShorterRest n (Some rest) = length rest < n
IsShorterRest n None = Unit {0}

strip_by : (b : Bool) (c : ℕ) (cs : List ℕ) → IsShorterRest (length (c ∷ cs)) (cond b (Some cs) None)
strip_by true c cs = omega arith
strip_by false c cs = tt

strip_shorter : (p : ℕ) (cs : List ℕ) → IsShorterRest (length cs) (strip p cs)
strip_shorter p [] = tt
strip_shorter p (c ∷ cs) = strip_by (eqb c p) c cs

-- comments
abbrev IsShorterComment : ℕ → Option (Bool × List ℕ) → Type 0
IsShorterComment n (Some found) = length found.1 < n
IsShorterComment n None = Unit {0}

longer_comment : (m n : ℕ) (o : Option (Bool × List ℕ)) → m ≤ n → IsShorterComment m o → IsShorterComment n o
longer_comment m n (Some found) le h = omega arith
longer_comment m n None le h = tt

general_step : (n : ℕ) (more : Option (Bool × List ℕ)) (breaks : Bool) (o : Option (List ℕ)) → IsShorterComment n more → IsShorterRest n o → IsShorterComment n (general_by more breaks o)
general_step n more breaks (Some rest) h k = k
general_step n more breaks None h k = h

second_shorter : (n q : ℕ) (o : Option (List ℕ)) → IsShorterRest n o → IsShorterRest n (option_and_then (strip q) o)
second_shorter n q None h = tt
second_shorter n q (Some rest) h = less (length rest) n (strip q rest) (omega arith) (strip_shorter q rest)
  where
    less : (m n : ℕ) (o : Option (List ℕ)) → m ≤ n → IsShorterRest m o → IsShorterRest n o
    less m n (Some rest) le h = omega arith
    less m n None le h = tt

general_shorter : (breaks : Bool) (cs : List ℕ) → IsShorterComment (length cs) (general breaks cs)
general_shorter breaks [] = tt
general_shorter breaks (c ∷ cs) =
    general_step (length (c ∷ cs)) (general (breaks || c == line_feed) cs) breaks (strip_pair star slash (c ∷ cs))
    (longer_comment (length cs) (length (c ∷ cs)) (general (breaks || c == line_feed) cs) (omega arith) (general_shorter (breaks || c == line_feed) cs))
    (second_shorter (length (c ∷ cs)) slash (strip star (c ∷ cs)) (strip_shorter star (c ∷ cs)))

commented_shorter : (n : ℕ) (start : List ℕ) (o : Option (Bool × List ℕ)) → IsShorterComment n o → IsShorter n (commented start o)
commented_shorter n start (Some found) h = h
commented_shorter n start None h = tt

-- literals
abbrev IsShorterClosing : ℕ → Closing → Type 0
IsShorterClosing n (closed rest) = length rest < n
IsShorterClosing n line_ends = Unit {0}
IsShorterClosing n text_ends = Unit {0}
IsShorterClosing n (bad_escape at) = Unit {0}

abbrev IsShorterElement : ℕ → Element → Type 0
IsShorterElement n (goes rest) = length rest < n
IsShorterElement n (ends how) = IsShorterClosing n how

longer_closing : (m n : ℕ) (how : Closing) → m ≤ n → IsShorterClosing m how → IsShorterClosing n how
longer_closing m n (closed rest) le h = omega arith
longer_closing m n line_ends le h = tt
longer_closing m n text_ends le h = tt
longer_closing m n (bad_escape at) le h = tt

if_element : (n : ℕ) (b : Bool) (x y : Element) → IsShorterElement n x → IsShorterElement n y → IsShorterElement n (cond b x y)
if_element n true x y h k = h
if_element n false x y h k = k

escaped_by : (n : ℕ) (at : List ℕ) (x : Escape) → ((rest : List ℕ) → x ≡ whole rest → length rest < n) → IsShorterElement n (escaped at x)
escaped_by n at (whole rest) h = h rest refl
escaped_by n at wrong h = tt
escaped_by n at cut h = tt

element_short : (cs : List ℕ) → IsShorterElement (length cs) (element cs)
element_short [] = tt
element_short (c ∷ cs) =
    if_element (length (c ∷ cs)) (eqb c double_quote) _ _ (omega arith)
    (if_element (length (c ∷ cs)) (eqb c line_feed) _ _ tt
    (if_element (length (c ∷ cs)) (eqb c backslash) _ _
    (escaped_by (length (c ∷ cs)) (c ∷ cs) (escape double_quote cs) (λ rest e. omega (arith, escape_shorter double_quote cs rest e)))
    (omega arith)))

closing_step : (m n : ℕ) (x : Element) → IsShorterElement m x → ((cs : List ℕ) → IsShorterClosing (length cs) (closing n cs)) → IsShorterClosing m (closing_by (closing n) x)
closing_step m n (goes rest) h more = longer_closing (length rest) m (closing n rest) (omega arith) (more rest)
closing_step m n (ends how) h more = h

closing_shorter : (n : ℕ) (cs : List ℕ) → IsShorterClosing (length cs) (closing n cs)
closing_shorter zero cs = tt
closing_shorter (suc n) cs = closing_step (length cs) n (element cs) (element_short cs) (closing_shorter n)

literal_shorter : (n : ℕ) (start : List ℕ) (how : Closing) → IsShorterClosing n how → IsShorter n (text_literal start how)
literal_shorter n start (closed rest) h = h
literal_shorter n start line_ends h = tt
literal_shorter n start text_ends h = tt
literal_shorter n start (bad_escape at) h = tt

raw_by : (n : ℕ) (start cs : List ℕ) → length cs ≤ n → IsShorter n (raw_end start (split cs))
raw_by n start [] h = tt
raw_by n start (c ∷ cs) h = omega arith

rune_end_shorter : (n : ℕ) (start cs : List ℕ) → length cs ≤ n → IsShorter n (rune_end start cs)
rune_end_shorter n start [] h = tt
rune_end_shorter n start (c ∷ cs) h = if_shorter n (eqb c single_quote) _ _ (λ _. omega arith) (λ _. if_shorter n (eqb c line_feed) _ _ (λ _. tt) (λ _. tt))

rune_escape_shorter : (n : ℕ) (start at : List ℕ) (x : Escape) → ((rest : List ℕ) → x ≡ whole rest → length rest ≤ n) → IsShorter n (rune_escape start at x)
rune_escape_shorter n start at (whole rest) h = rune_end_shorter n start rest (h rest refl)
rune_escape_shorter n start at wrong h = tt
rune_escape_shorter n start at cut h = tt

rune_shorter : (n : ℕ) (start cs : List ℕ) → length cs ≤ n → IsShorter n (rune_literal start cs)
rune_shorter n start [] h = tt
rune_shorter n start (c ∷ cs) h =
    if_shorter n (eqb c single_quote) _ _ (λ _. tt)
    (λ _. if_shorter n (eqb c line_feed) _ _ (λ _. tt)
    (λ _. if_shorter n (eqb c backslash) _ _ (λ _. rune_escape_shorter n start (c ∷ cs) (escape single_quote cs) (λ rest e. omega (arith, escape_shorter single_quote cs rest e)))
    (λ _. rune_end_shorter n start cs (omega arith))))

-- words and marks
pub name_goes : (c : ℕ) → is_letter c ≡ true → continues_name c ≡ true
unfolding continues_name
name_goes c h = rw h

word_by : (n : ℕ) (o : Option Keyword) (rest : List ℕ) → length rest < n → IsShorter n (word_piece o rest)
word_by n (Some keyword) rest h = h
word_by n None rest h = h

one_shorter : (start : List ℕ) (a : ℕ) (rest : List ℕ) → IsShorter (suc (length rest)) (mark_one start a rest)
one_shorter start a rest = if_shorter (suc (length rest)) (is_single a) _ _ (λ _. omega arith) (λ _. tt)

two_shorter : (start : List ℕ) (a : ℕ) (after : List ℕ) → IsShorter (suc (length after)) (mark_two start a after (split after))
two_shorter start a [] = one_shorter start a []
two_shorter start a (b ∷ rest) = if_shorter (suc (length (b ∷ rest))) (is_pair a b) _ _ (λ _. omega arith) (λ _. one_shorter start a (b ∷ rest))

mark_shorter : (start : List ℕ) (a : ℕ) (after : List ℕ) → IsShorter (suc (length after)) (mark start a after)
mark_shorter start a [] = one_shorter start a []
mark_shorter start a (b ∷ []) = two_shorter start a (b ∷ [])
mark_shorter start a (b ∷ c ∷ rest) = if_shorter (suc (length (b ∷ c ∷ rest))) (is_triple a b c) _ _ (λ _. omega arith) (λ _. two_shorter start a (b ∷ c ∷ rest))

-- numbers
sign_by : (b : Bool) (c : ℕ) (cs : List ℕ) → length (cond b cs (c ∷ cs)) ≤ suc (length cs)
sign_by true c cs = omega arith
sign_by false c cs = omega arith

sign_long : (cs : List ℕ) → length (after_sign cs) ≤ length cs
sign_long [] = omega arith
sign_long (c ∷ cs) = sign_by (c == plus || c == minus) c cs

abbrev IsLong : ℕ → Option Exponent → Type 0
IsLong n (Some e) = length e.rest ≤ n
IsLong n None = Unit {0}

exponent_by : (n : ℕ) (b : Bool) (x : Exponent) → length x.rest ≤ n → IsLong n (cond b (Some x) None)
exponent_by n true x h = h
exponent_by n false x h = tt

exponent_long : (base : Base) (cs : List ℕ) → IsLong (length cs) (exponent base cs)
exponent_long base [] = tt
exponent_long base (c ∷ cs) = exponent_by (length (c ∷ cs)) (is_exponent_letter base c) _ (omega (arith, after_long (in_class Digits) (after_sign cs), sign_long cs))

end_long : (n : ℕ) (m : Mantissa) (e : Option Exponent) → length m.rest ≤ n → IsLong (length m.rest) e → length (after_exponent m e) ≤ n
end_long n m (Some e) h k = omega arith
end_long n m None h k = h

piece_long : (n : ℕ) (start : List ℕ) (m : Mantissa) (e : Option Exponent) (o : Option (List ℕ)) → length (after_exponent m e) < n → IsShorterRest n o → IsShorter n (number_piece start m e o)
piece_long n start m e None h k = if_shorter n (is_number false m e) _ _ (λ _. h) (λ _. tt)
piece_long n start m e (Some rest) h k = if_shorter n (is_number true m e) _ _ (λ _. k) (λ _. tt)

rest_longer : (m n : ℕ) (o : Option (List ℕ)) → m ≤ n → IsShorterRest m o → IsShorterRest n o
rest_longer m n (Some rest) le h = omega arith
rest_longer m n None le h = tt

-- a number whose mantissa takes a character
number_long : (n : ℕ) (cs : List ℕ) → length (mantissa cs).rest < n → IsShorter n (number cs)
number_long n cs h =
    let m : Mantissa = mantissa cs in
    let e : Option Exponent = exponent m.base m.rest in
    let long : length (after_exponent m e) ≤ length m.rest = end_long (length m.rest) m e (omega arith) (exponent_long m.base m.rest) in
    piece_long n cs m e (strip letter_i (after_exponent m e)) (omega arith) (rest_longer (length (after_exponent m e)) n (strip letter_i (after_exponent m e)) (omega arith) (strip_shorter letter_i (after_exponent m e)))

fraction_long : (n : ℕ) (base : Base) (front after : List ℕ) (o : Option (List ℕ)) → length after < n → IsShorterRest n o → length (fraction_after base front after o).rest < n
fraction_long n base front after None h k = h
fraction_long n base front after (Some more) h k = omega (arith, after_long (run base) more)

mantissa_long : (n : ℕ) (b : Base × List ℕ) → length (after_while (run b.0) b.1) < n → length (mantissa_in b).rest < n
mantissa_long n b h =
    let after : List ℕ = after_while (run b.0) b.1 in
    fraction_long n b.0 (front_while (run b.0) b.1) after (strip point after) h (rest_longer (length after) n (strip point after) (omega arith) (strip_shorter point after))

-- the digits take a character
abbrev TakesSome : ℕ → Base × List ℕ → Type 0
TakesSome n b = length (after_while (run b.0) b.1) < n

based_some : (n : ℕ) (text digits : List ℕ) (o : Option Base) → length digits < n → TakesSome n (Decimal, text) → TakesSome n (based text digits o)
based_some n text digits (Some base) h k = omega (arith, after_long (run base) digits)
based_some n text digits None h k = k

prefixed_some : (n : ℕ) (text cs : List ℕ) → length cs < n → TakesSome n (Decimal, text) → TakesSome n (prefixed text (split cs))
prefixed_some n text [] h k = k
prefixed_some n text (c ∷ digits) h k = based_some n text digits (prefix_base c) (omega arith) k

zero_some : (n : ℕ) (text : List ℕ) (o : Option (List ℕ)) → IsShorterRest n o → TakesSome n (Decimal, text) → TakesSome n (after_zero text o)
zero_some n text None h k = k
zero_some n text (Some rest) h k = prefixed_some n text rest h k

decimal_runs : (a : ℕ) → is_decimal a ≡ true → run Decimal a ≡ true
decimal_runs a h = rw h

digit_number : (a : ℕ) (after : List ℕ) → is_decimal a ≡ true → IsShorter (suc (length after)) (number (a ∷ after))
digit_number a after h =
    number_long (suc (length after)) (a ∷ after) (mantissa_long (suc (length after)) (base_of (a ∷ after))
    (zero_some (suc (length after)) (a ∷ after) (strip digit_zero (a ∷ after)) (strip_shorter digit_zero (a ∷ after)) (omega (arith, after_some (run Decimal) a after (decimal_runs a h)))))

point_number : (a : ℕ) (after : List ℕ) → a ≡ point → IsShorter (suc (length after)) (number (a ∷ after))
point_number a after e = subst (λ (x : ℕ). IsShorter (suc (length after)) (number (x ∷ after))) (sym e) (number_long (suc (length after)) (point ∷ after) (omega (arith, after_long (run Decimal) after)))

point_by : (start : List ℕ) (a : ℕ) (after : List ℕ) → a ≡ point → start ≡ a ∷ after → IsShorter (suc (length after)) (after_point start a after (split after))
point_by start a [] e s = mark_shorter start a []
point_by start a (b ∷ behind) e s =
    if_shorter (suc (length (b ∷ behind))) (is_decimal b) _ _
    (λ _. subst (λ (x : List ℕ). IsShorter (suc (length (b ∷ behind))) (number x)) (sym s) (point_number a (b ∷ behind) e))
    (λ _. mark_shorter start a (b ∷ behind))

slash_by : (start : List ℕ) (a : ℕ) (after : List ℕ) → IsShorter (suc (length after)) (after_slash start a after (split after))
slash_by start a [] = mark_shorter start a []
slash_by start a (b ∷ behind) =
    if_shorter (suc (length (b ∷ behind))) (eqb b slash) _ _ (λ _. omega (arith, after_long (in_class Line) behind))
    (λ _. if_shorter (suc (length (b ∷ behind))) (eqb b star) _ _
    (λ _. commented_shorter (suc (length (b ∷ behind))) start (general false behind) (longer_comment (length behind) (suc (length (b ∷ behind))) (general false behind) (omega arith) (general_shorter false behind)))
    (λ _. mark_shorter start a (b ∷ behind)))

string_shorter : (start inside : List ℕ) → IsShorter (suc (length inside)) (string_literal start inside)
string_shorter start inside = literal_shorter (suc (length inside)) start (closing (length inside) inside) (longer_closing (length inside) (suc (length inside)) (closing (length inside) inside) (omega arith) (closing_shorter (length inside) inside))

word_shorter : (a : ℕ) (after : List ℕ) → is_letter a ≡ true → IsShorter (suc (length after)) (word (a ∷ after))
word_shorter a after h = word_by (suc (length after)) _ _ (omega (arith, after_some continues_name a after (name_goes a h)))

pub piece_shorter : (cs : List ℕ) → IsShorter (length cs) (piece cs)
piece_shorter [] = tt
piece_shorter (a ∷ after) =
    let n : ℕ = suc (length after) in
    if_shorter n (is_space a) _ _ (λ _. omega arith)
    (λ _. if_shorter n (is_decimal a) _ _ (digit_number a after)
    (λ _. if_shorter n (eqb a point) _ _ (λ e. point_by (a ∷ after) a after (true-eqb a point (sym e)) refl)
    (λ _. if_shorter n (eqb a slash) _ _ (λ _. slash_by (a ∷ after) a after)
    (λ _. if_shorter n (eqb a double_quote) _ _ (λ _. string_shorter (a ∷ after) after)
    (λ _. if_shorter n (eqb a single_quote) _ _ (λ _. rune_shorter n (a ∷ after) after (omega arith))
    (λ _. if_shorter n (eqb a back_quote) _ _ (λ _. raw_by n (a ∷ after) (after_while (in_class Raw) after) (omega (arith, after_long (in_class Raw) after)))
    (λ _. if_shorter n (is_letter a) _ _ (word_shorter a after)
    (λ _. mark_shorter (a ∷ after) a after))))))))
