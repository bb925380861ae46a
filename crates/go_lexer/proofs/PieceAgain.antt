-- A piece of the grammar is read.
use Rattle.std.proofs.Common.{◌≡◌, ◌≢◌, ◌≤◌, ◌<◌, ◌+◌, ℕ, zero, suc, Bool, true, false, cond, ◌||◌, ◌==◌, List, [], ◌∷◌, ◌++◌, length, Option, Some, None, sym, ap, ◌∙◌, refl, subst, inl, inr, ⊎_elim, arith, eqb, append_assoc}
use borrow.Author.Tests.{true-eqb}
use Rattle.std.proofs.lemmas.List.{length-append}
use Rattle.std.proofs.lemmas.Str.{encodes_same}
use Rattle.std.specs.Str.{encode_utf8_all}
use Rattle.code_tables.specs.declared.words.Keyword.{Keyword}
use Rattle.code_tables.specs.Keyword.{keyword_text}
use Rattle.go_lexer.specs.declared.token_kinds.TokenKind.TheVariants.{Rune, Mark}
use Rattle.go_lexer.specs.declared.classes.Class.TheVariants.{Line, Raw}
use Rattle.go_lexer.specs.Characters.{after_while, split, strip_pair, line_feed, double_quote, single_quote, back_quote, backslash, slash, star, point}
use Rattle.go_lexer.specs.Classes.{is_letter, continues_name, is_space, is_decimal, in_class}
use Rattle.go_lexer.specs.Comments.{general, general_by, commented}
use Rattle.go_lexer.specs.Escapes.{escape}
use Rattle.go_lexer.specs.Literals.{Closing, closed, text_ends, goes, ends, escaped as escaped_element, element, closing_by, closing, text_literal, raw_end, rune_end, rune_escape, rune_literal}
use Rattle.go_lexer.specs.Marks.{is_single, is_pair, is_triple}
use Rattle.go_lexer.specs.Numbers.{number as read_number}
use Rattle.go_lexer.specs.Pieces.{Piece, blank, token}
use Rattle.go_lexer.specs.Words.{keyword_of, word_piece, word}
use Rattle.go_lexer.specs.Front.{mark as read_mark, after_point, after_slash, piece}
use Rattle.go_lexer.specs.Grammar.{Each, Ends, IsName, IsStringText, nothing, character, escaped, IsRuneText, rune_character, rune_escaped, IsClosed, here, later, has_line_feed, IsMark, IsLongest, BeginsComment, BeginsNumber, mark_owes, IsPiece, white_space, line_comment, general_comment, identifier, keyword, number, rune, string, raw_string, mark}
use Rattle.go_lexer.proofs.EscapeFaults.{double_plain, single_plain, escape_again}
use Rattle.go_lexer.proofs.Keywords.{keyword_is, keyword_again, text_bytes}
use Rattle.go_lexer.proofs.Lengths.{name_goes}
use Rattle.go_lexer.proofs.Letters.{each, both, off, single_begins, letter_no_space, letter_no_decimal, letter_no_point, letter_no_slash, letter_no_double, letter_no_single, letter_no_back, decimal_no_space, word_letters}
use Rattle.go_lexer.proofs.MarkHeads.{pair_single, triple_single}
use Rattle.go_lexer.proofs.NumberShapes.{number_reads}
use Rattle.go_lexer.proofs.Runs.{after_again, front_again}
use Rattle.go_lexer.proofs.Taken.{or-assoc, or-false, pair_is}

if_yes : {A : Type 0} (b : Bool) (x y : A) → b ≡ true → cond b x y ≡ x
if_yes b x y h = ap (λ t. cond t x y) h

if_no : {A : Type 0} (b : Bool) (x y : A) → b ≡ false → cond b x y ≡ y
if_no b x y h = ap (λ t. cond t x y) h

pub apart : (c d : ℕ) → c ≢ d → eqb c d ≡ false
apart c d n = by_eqb (eqb c d) refl
  where
    by_eqb : (b : Bool) → eqb c d ≡ b → b ≡ false
    by_eqb true h = absurd (n (true-eqb c d (sym h)))
    by_eqb false h = refl

-- strings
closing_goes : (n : ℕ) (cs rest : List ℕ) (how : Closing) → element cs ≡ goes rest → closing n rest ≡ how → closing (suc n) cs ≡ how
closing_goes n cs rest how e h = ap (closing_by (closing n)) e ∙ h

at_once : (tail : List ℕ) (how : Closing) → element tail ≡ ends how → (n : ℕ) → length tail ≤ n → closing n tail ≡ how
at_once [] how e zero l = let h : ends text_ends ≡ ends how = e in cc
at_once (c ∷ cs) how e zero l = absurd (omega arith)
at_once tail how e (suc n) l = ap (closing_by (closing n)) e

-- a string's text ends as what stands behind its characters and escapes says
pub closing_ends : (inside : List ℕ) → IsStringText inside → (tail : List ℕ) (how : Closing) → element tail ≡ ends how → (n : ℕ) → length (inside ++ tail) ≤ n → closing n (inside ++ tail) ≡ how
closing_ends inside nothing tail how h n l = at_once tail how h n l
closing_ends inside (character c cs q f b t) tail how h zero l = absurd (omega arith)
closing_ends inside (character c cs q f b t) tail how h (suc n) l =
    closing_goes n (c ∷ (cs ++ tail)) (cs ++ tail) how
    (if_no (eqb c double_quote) _ _ (apart c double_quote q) ∙ if_no (eqb c line_feed) _ _ (apart c line_feed f) ∙ if_no (eqb c backslash) _ _ (apart c backslash b))
    (closing_ends cs t tail how h n (omega arith))
closing_ends inside (escaped e cs x t) tail how h zero l = absurd (omega arith)
closing_ends inside (escaped e cs x t) tail how h (suc n) l =
    let after : List ℕ = cs ++ tail in
    let regroup : (e ++ cs) ++ tail ≡ e ++ after = append_assoc e cs tail in
    let long : length ((e ++ cs) ++ tail) ≡ length e + length after = ap length regroup ∙ length-append e after in
    closing_goes n (backslash ∷ ((e ++ cs) ++ tail)) after how
    (ap (escaped_element (backslash ∷ ((e ++ cs) ++ tail))) (ap (escape double_quote) regroup ∙ escape_again double_quote double_plain e after x))
    (closing_ends cs t tail how h n (omega arith))

closing_again : (inside rest : List ℕ) → IsStringText inside → (n : ℕ) → length (inside ++ (double_quote ∷ rest)) ≤ n → closing n (inside ++ (double_quote ∷ rest)) ≡ closed rest
closing_again inside rest t n l = closing_ends inside t (double_quote ∷ rest) (closed rest) refl n l

-- runes
pub rune_text_reads : (start inside mid : List ℕ) → IsRuneText inside → rune_literal start (inside ++ mid) ≡ rune_end start mid
rune_text_reads start inside mid (rune_character c q f b) =
    if_no (eqb c single_quote) _ _ (apart c single_quote q) ∙ if_no (eqb c line_feed) _ _ (apart c line_feed f) ∙ if_no (eqb c backslash) _ _ (apart c backslash b)
rune_text_reads start inside mid (rune_escaped e x) =
    ap (rune_escape start (backslash ∷ (e ++ mid))) (escape_again single_quote single_plain e mid x)

rune_again : (start inside rest : List ℕ) → IsRuneText inside → rune_literal start (inside ++ (single_quote ∷ rest)) ≡ token Rune true rest
rune_again start inside rest t = rune_text_reads start inside (single_quote ∷ rest) t

-- comments
abbrev found : Bool → List ℕ → Option (Bool × List ℕ)
found b rest = Some (b, rest)

pub pair_none_by : (cs : List ℕ) (o : Option (List ℕ)) → strip_pair star slash cs ≡ o → ((other : List ℕ) → cs ≢ star ∷ slash ∷ other) → o ≡ None
pair_none_by cs (Some rest) e n = absurd (n rest (pair_is star slash cs rest e))
pair_none_by cs None e n = refl

pub general_again : (breaks : Bool) (text inside rest : List ℕ) → IsClosed text inside rest → general breaks text ≡ found (breaks || has_line_feed inside) rest
general_again breaks text inside rest (here left) = ap (λ b. found b left) (or-false breaks)
general_again breaks text inside rest (later c cs more left n h) =
    ap (general_by (general (breaks || c == line_feed) cs) breaks) (pair_none_by (c ∷ cs) (strip_pair star slash (c ∷ cs)) refl n)
    ∙ general_again (breaks || c == line_feed) cs more left h ∙ ap (λ b. found b left) (or-assoc breaks (c == line_feed) (has_line_feed more))

-- names
letter_piece : (c : ℕ) (after : List ℕ) → is_letter c ≡ true → piece (c ∷ after) ≡ word (c ∷ after)
letter_piece c after h =
    if_no (is_space c) _ _ (letter_no_space c h) ∙ if_no (is_decimal c) _ _ (letter_no_decimal c h) ∙ if_no (eqb c point) _ _ (letter_no_point c h) ∙ if_no (eqb c slash) _ _ (letter_no_slash c h)
    ∙ if_no (eqb c double_quote) _ _ (letter_no_double c h) ∙ if_no (eqb c single_quote) _ _ (letter_no_single c h) ∙ if_no (eqb c back_quote) _ _ (letter_no_back c h) ∙ if_yes (is_letter c) _ _ h

name_piece : (name rest : List ℕ) → IsName name → Ends continues_name rest → piece (name ++ rest) ≡ word_piece (keyword_of (encode_utf8_all name)) rest
name_piece [] rest n e = absurd n
name_piece (c ∷ cs) rest n e =
    let goes : Each continues_name (c ∷ cs) = (name_goes c n.0, n.1) in
    letter_piece c (cs ++ rest) n.0
    ∙ ap (λ w. word_piece (keyword_of (encode_utf8_all w)) (after_while continues_name (c ∷ (cs ++ rest)))) (front_again continues_name (c ∷ cs) rest goes e)
    ∙ ap (word_piece (keyword_of (encode_utf8_all (c ∷ cs)))) (after_again continues_name (c ∷ cs) rest goes e)

no_keyword : (name : List ℕ) (o : Option Keyword) → keyword_of (encode_utf8_all name) ≡ o → ((k : Keyword) → name ≢ keyword_text k) → o ≡ None
no_keyword name (Some k) e n = absurd (n k (encodes_same name (keyword_text k) (keyword_is (encode_utf8_all name) k e ∙ sym (text_bytes k))))
no_keyword name None e n = refl

each_name : (cs : List ℕ) → each is_letter cs ≡ true → Each continues_name cs
each_name [] h = tt
each_name (c ∷ cs) h = let k = both (is_letter c) (each is_letter cs) h in (name_goes c k.0, each_name cs k.1)

letters_name : (cs : List ℕ) → 0 < length cs → each is_letter cs ≡ true → IsName cs
letters_name [] s h = absurd (omega arith)
letters_name (c ∷ cs) s h = let k = both (is_letter c) (each is_letter cs) h in (k.0, each_name cs k.1)

text_some : (k : Keyword) → 0 < length (keyword_text k)
text_some k = word_some (keyword_text k) k refl
  where
    word_some : (w : List ℕ) (k : Keyword) → keyword_text k ≡ w → 0 < length w
    word_some [] k e = let h : None ≡ Some k = ap keyword_of (sym e) ∙ keyword_again k in cc
    word_some (c ∷ cs) k e = omega arith

-- numbers
digit_piece : (c : ℕ) (after : List ℕ) → is_decimal c ≡ true → piece (c ∷ after) ≡ read_number (c ∷ after)
digit_piece c after h = if_no (is_space c) _ _ (decimal_no_space c h) ∙ if_yes (is_decimal c) _ _ h

point_piece : (c d : ℕ) (after : List ℕ) → c ≡ point → is_decimal d ≡ true → piece (c ∷ d ∷ after) ≡ read_number (c ∷ d ∷ after)
point_piece c d after e h = subst (λ x. piece (x ∷ d ∷ after) ≡ read_number (x ∷ d ∷ after)) (sym e) (if_yes (is_decimal d) _ _ h)

pub number_piece : (text : List ℕ) → BeginsNumber text → piece text ≡ read_number text
number_piece [] b = absurd b
number_piece (c ∷ []) b = digit_piece c [] b
number_piece (c ∷ d ∷ cs) b = ⊎_elim (digit_piece c (d ∷ cs)) (λ h. point_piece c d cs h.0 h.1) b

-- marks
point_mark : (start : List ℕ) (a : ℕ) (after : List ℕ) → a ≡ point → (BeginsNumber (a ∷ after) → ⊥) → after_point start a after (split after) ≡ read_mark start a after
point_mark start a [] e n = refl
point_mark start a (b ∷ behind) e n = by_digit (is_decimal b) refl
  where
    by_digit : (t : Bool) → is_decimal b ≡ t → cond t (read_number start) (read_mark start a (b ∷ behind)) ≡ read_mark start a (b ∷ behind)
    by_digit true h = absurd (n (inr (e, h)))
    by_digit false h = refl

slash_mark : (start : List ℕ) (a : ℕ) (after : List ℕ) → a ≡ slash → (BeginsComment (a ∷ after) → ⊥) → after_slash start a after (split after) ≡ read_mark start a after
slash_mark start a [] e n = refl
slash_mark start a (b ∷ behind) e n =
    if_no (eqb b slash) _ _ (apart b slash (λ h. n (e, inl h))) ∙ if_no (eqb b star) _ _ (apart b star (λ h. n (e, inr h)))

choice : (x y m : Piece) (b : Bool) → (b ≡ true → x ≡ m) → y ≡ m → cond b x y ≡ m
choice x y m true f h = f refl
choice x y m false f h = h

mark_piece : (a : ℕ) (after : List ℕ) → is_single a ≡ true → (BeginsComment (a ∷ after) → ⊥) → (BeginsNumber (a ∷ after) → ⊥) → piece (a ∷ after) ≡ read_mark (a ∷ after) a after
mark_piece a after s nc nn =
    let begins = single_begins a s in
    let space = both _ _ begins in
    let decimal = both _ _ space.1 in
    let double = both _ _ decimal.1 in
    let single = both _ _ double.1 in
    let back = both _ _ single.1 in
    if_no (is_space a) _ _ (off (is_space a) space.0) ∙ if_no (is_decimal a) _ _ (off (is_decimal a) decimal.0)
    ∙ choice _ _ (read_mark (a ∷ after) a after) (eqb a point) (λ h. point_mark (a ∷ after) a after (true-eqb a point (sym h)) nn)
    (choice _ _ (read_mark (a ∷ after) a after) (eqb a slash) (λ h. slash_mark (a ∷ after) a after (true-eqb a slash (sym h)) nc)
    (if_no (eqb a double_quote) _ _ (off (eqb a double_quote) double.0) ∙ if_no (eqb a single_quote) _ _ (off (eqb a single_quote) single.0) ∙ if_no (eqb a back_quote) _ _ (off (eqb a back_quote) back.0) ∙ if_no (is_letter a) _ _ (off (is_letter a) back.1)))

pub no_longer : (b : Bool) → (b ≡ true → ⊥) → b ≡ false
no_longer true n = absurd (n refl)
no_longer false n = refl

no_pair : (a b : ℕ) (text rest : List ℕ) → length text ≡ 1 → IsLongest text (a ∷ b ∷ rest) → is_pair a b ≡ false
no_pair a b text rest l h = no_longer (is_pair a b) (λ m. let k : 2 ≤ length text = h (a ∷ b ∷ []) rest m refl in omega (arith, k))

no_triple : (a b c : ℕ) (text rest : List ℕ) → length text ≤ 2 → IsLongest text (a ∷ b ∷ c ∷ rest) → is_triple a b c ≡ false
no_triple a b c text rest l h = no_longer (is_triple a b c) (λ m. let k : 3 ≤ length text = h (a ∷ b ∷ c ∷ []) rest m refl in omega (arith, k))

mark_again : (text rest : List ℕ) → IsMark text → IsLongest text (text ++ rest) → (BeginsComment (text ++ rest) → ⊥) → (BeginsNumber (text ++ rest) → ⊥) → piece (text ++ rest) ≡ token Mark (mark_owes text) rest
mark_again [] rest m l nc nn = absurd m
mark_again (a ∷ []) [] m l nc nn = mark_piece a [] m nc nn ∙ if_yes (is_single a) _ _ m
mark_again (a ∷ []) (b ∷ []) m l nc nn = mark_piece a (b ∷ []) m nc nn ∙ if_no (is_pair a b) _ _ (no_pair a b (a ∷ []) [] refl l) ∙ if_yes (is_single a) _ _ m
mark_again (a ∷ []) (b ∷ c ∷ rest) m l nc nn =
    mark_piece a (b ∷ c ∷ rest) m nc nn ∙ if_no (is_triple a b c) _ _ (no_triple a b c (a ∷ []) rest (omega arith) l) ∙ if_no (is_pair a b) _ _ (no_pair a b (a ∷ []) (c ∷ rest) refl l) ∙ if_yes (is_single a) _ _ m
mark_again (a ∷ b ∷ []) [] m l nc nn = mark_piece a (b ∷ []) (pair_single a b m) nc nn ∙ if_yes (is_pair a b) _ _ m
mark_again (a ∷ b ∷ []) (c ∷ rest) m l nc nn =
    mark_piece a (b ∷ c ∷ rest) (pair_single a b m) nc nn ∙ if_no (is_triple a b c) _ _ (no_triple a b c (a ∷ b ∷ []) rest (omega arith) l) ∙ if_yes (is_pair a b) _ _ m
mark_again (a ∷ b ∷ c ∷ []) rest m l nc nn = mark_piece a (b ∷ c ∷ rest) (triple_single a b c m) nc nn ∙ if_yes (is_triple a b c) _ _ m
mark_again (a ∷ b ∷ c ∷ d ∷ more) rest m l nc nn = absurd m

pub piece_again : (cs : List ℕ) (p : Piece) → IsPiece cs p → piece cs ≡ p
piece_again cs p (white_space c rest h) = if_yes (is_space c) _ _ h
piece_again cs p (line_comment inside rest h e) = ap (blank false) (after_again (in_class Line) inside rest h e)
piece_again cs p (general_comment text inside rest h) = ap (commented (slash ∷ star ∷ text)) (general_again false text inside rest h)
piece_again cs p (identifier name rest n e k) = name_piece name rest n e ∙ ap (λ o. word_piece o rest) (no_keyword name (keyword_of (encode_utf8_all name)) refl k)
piece_again cs p (keyword k rest e) =
    name_piece (keyword_text k) rest (letters_name (keyword_text k) (text_some k) (word_letters k)) e
    ∙ ap (λ w. word_piece (keyword_of w) rest) (text_bytes k) ∙ ap (λ o. word_piece o rest) (keyword_again k)
piece_again cs p (number kind literal rest n b l) = number_piece (literal ++ rest) b ∙ number_reads kind literal rest n l
piece_again cs p (rune inside rest t) = rune_again (single_quote ∷ (inside ++ (single_quote ∷ rest))) inside rest t
piece_again cs p (string inside rest t) =
    let left : List ℕ = inside ++ (double_quote ∷ rest) in
    ap (text_literal (double_quote ∷ left)) (closing_again inside rest t (length left) (omega arith))
piece_again cs p (raw_string inside rest h) = ap (λ l. raw_end (back_quote ∷ (inside ++ (back_quote ∷ rest))) (split l)) (after_again (in_class Raw) inside (back_quote ∷ rest) h refl)
piece_again cs p (mark text rest m l nc nn) = mark_again text rest m l nc nn
