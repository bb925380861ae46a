-- A breach of the grammar is met.
use Rattle.std.proofs.Common.{◌≡◌, ◌≢◌, ℕ, Bool, true, false, cond, ◌||◌, ◌==◌, List, [], ◌∷◌, ◌++◌, length, None, sym, ap, ◌∙◌, refl, subst, arith, eqb, append-nil}
use Rattle.go_lexer.specs.declared.pieces.Breach.{Breach}
use Rattle.go_lexer.specs.declared.pieces.Breach.TheVariants.{BadChar, CutString}
use Rattle.go_lexer.specs.declared.classes.Class.TheVariants.{Raw}
use Rattle.go_lexer.specs.Characters.{after_while, split, strip_pair, line_feed, double_quote, single_quote, back_quote, backslash, slash, star, point, Each}
use Rattle.go_lexer.specs.Classes.{is_letter, is_space, is_decimal, in_class}
use Rattle.go_lexer.specs.Comments.{general, general_by, commented}
use Rattle.go_lexer.specs.FaultGrammar.{IsWrongEscape, IsCut, at_end, in_escape, HasNoEnd, BeginsNothing, IsBreach, no_piece, no_number, comment_cut, raw_string_cut, string_line_ends, string_cut, string_escape, rune_empty, rune_goes_on, rune_line_begins, rune_line_ends, rune_escape, rune_cut, rune_cut_after}
use Rattle.go_lexer.specs.Front.{mark, piece}
use Rattle.go_lexer.specs.Grammar.{IsStringText}
use Rattle.go_lexer.specs.Literals.{Closing, line_ends, text_ends, bad_escape, ends, escaped, element, text_literal, raw_end, rune_end, rune_escape as read_rune_escape, rune_literal}
use Rattle.go_lexer.specs.Marks.{is_single, is_pair, is_triple}
use Rattle.go_lexer.specs.Pieces.{stop}
use Rattle.go_lexer.proofs.EscapeFaults.{double_plain, single_plain, cut_again, wrong_again}
use Rattle.go_lexer.proofs.MarkHeads.{pair_single, triple_single}
use Rattle.go_lexer.proofs.NumberShapes.{number_fails}
use Rattle.go_lexer.proofs.PieceAgain.{apart, closing_ends, rune_text_reads, pair_none_by, number_piece, no_longer}
use Rattle.go_lexer.proofs.Runs.{after_again}

if_no : {A : Type 0} (b : Bool) (x y : A) → b ≡ false → cond b x y ≡ y
if_no b x y h = ap (λ t. cond t x y) h

-- a character that begins no piece
not_both : (b : Bool) → b ≡ true → b ≡ false → ⊥
not_both b t f = let h : true ≡ false = sym t ∙ f in cc

no_pair : (a b : ℕ) → is_single a ≡ false → is_pair a b ≡ false
no_pair a b h = no_longer (is_pair a b) (λ m. not_both (is_single a) (pair_single a b m) h)

no_triple : (a b c : ℕ) → is_single a ≡ false → is_triple a b c ≡ false
no_triple a b c h = no_longer (is_triple a b c) (λ m. not_both (is_single a) (triple_single a b c m) h)

no_mark : (start : List ℕ) (a : ℕ) (after : List ℕ) → is_single a ≡ false → mark start a after ≡ stop BadChar start
no_mark start a [] h = if_no (is_single a) _ _ h
no_mark start a (b ∷ []) h = if_no (is_pair a b) _ _ (no_pair a b h) ∙ if_no (is_single a) _ _ h
no_mark start a (b ∷ c ∷ rest) h = if_no (is_triple a b c) _ _ (no_triple a b c h) ∙ if_no (is_pair a b) _ _ (no_pair a b h) ∙ if_no (is_single a) _ _ h

marks_other : (a b : ℕ) → is_single b ≡ true → is_single a ≡ false → a ≢ b
marks_other a b t f e = not_both (is_single b) t (subst (λ x. is_single x ≡ false) e f)

nothing_begins : (a : ℕ) (after : List ℕ) → BeginsNothing a → piece (a ∷ after) ≡ stop BadChar (a ∷ after)
nothing_begins a after n =
    if_no (is_space a) _ _ n.space ∙ if_no (is_decimal a) _ _ n.digit ∙ if_no (eqb a point) _ _ (apart a point (marks_other a point refl n.mark))
    ∙ if_no (eqb a slash) _ _ (apart a slash (marks_other a slash refl n.mark)) ∙ if_no (eqb a double_quote) _ _ (apart a double_quote n.double)
    ∙ if_no (eqb a single_quote) _ _ (apart a single_quote n.single) ∙ if_no (eqb a back_quote) _ _ (apart a back_quote n.back) ∙ if_no (is_letter a) _ _ n.letter
    ∙ no_mark (a ∷ after) a after n.mark

-- comments and raw strings
general_none : (breaks : Bool) (text : List ℕ) → HasNoEnd text → general breaks text ≡ None
general_none breaks [] h = refl
general_none breaks (c ∷ cs) h =
    ap (general_by (general (breaks || c == line_feed) cs) breaks) (pair_none_by (c ∷ cs) (strip_pair star slash (c ∷ cs)) refl (λ other. h [] other))
    ∙ general_none (breaks || c == line_feed) cs (λ before rest e. h (c ∷ before) rest (ap (λ l. c ∷ l) e))

all_raw : (inside : List ℕ) → Each (in_class Raw) inside → after_while (in_class Raw) inside ≡ []
all_raw inside h = ap (after_while (in_class Raw)) (sym (append-nil inside)) ∙ after_again (in_class Raw) inside [] h tt

-- strings
string_ends : (inside tail : List ℕ) (how : Closing) → IsStringText inside → element tail ≡ ends how → piece (double_quote ∷ (inside ++ tail)) ≡ text_literal (double_quote ∷ (inside ++ tail)) how
string_ends inside tail how t e =
    ap (text_literal (double_quote ∷ (inside ++ tail))) (closing_ends inside t tail how e (length (inside ++ tail)) (omega arith))

cut_element : (end : List ℕ) → IsCut end → element end ≡ ends text_ends
cut_element end at_end = refl
cut_element end (in_escape cs h) = ap (escaped (backslash ∷ cs)) (cut_again double_quote double_plain cs h)

wrong_element : (after : List ℕ) → IsWrongEscape double_quote after → element (backslash ∷ after) ≡ ends (bad_escape (backslash ∷ after))
wrong_element after h = ap (escaped (backslash ∷ after)) (wrong_again double_quote double_plain after h)

-- runes
rune_goes : (start : List ℕ) (c : ℕ) (rest : List ℕ) → c ≢ single_quote → c ≢ line_feed → rune_end start (c ∷ rest) ≡ stop BadChar start
rune_goes start c rest q f = if_no (eqb c single_quote) _ _ (apart c single_quote q) ∙ if_no (eqb c line_feed) _ _ (apart c line_feed f)

rune_cut_again : (start end : List ℕ) → IsCut end → rune_literal start end ≡ stop CutString start
rune_cut_again start end at_end = refl
rune_cut_again start end (in_escape cs h) = ap (read_rune_escape start (backslash ∷ cs)) (cut_again single_quote single_plain cs h)

pub breach_again : (text : List ℕ) (b : Breach) (at : List ℕ) → IsBreach text b at → piece text ≡ stop b at
breach_again text b at (no_piece c cs n) = nothing_begins c cs n
breach_again text b at (no_number literal rest begins looks n) = number_piece (literal ++ rest) begins ∙ number_fails literal rest looks n
breach_again text b at (comment_cut inside h) = ap (commented (slash ∷ star ∷ inside)) (general_none false inside h)
breach_again text b at (raw_string_cut inside h) = ap (λ l. raw_end (back_quote ∷ inside) (split l)) (all_raw inside h)
breach_again text b at (string_line_ends inside rest t) = string_ends inside (line_feed ∷ rest) line_ends t refl
breach_again text b at (string_cut inside end t h) = string_ends inside end text_ends t (cut_element end h)
breach_again text b at (string_escape inside after t h) = string_ends inside (backslash ∷ after) (bad_escape (backslash ∷ after)) t (wrong_element after h)
breach_again text b at (rune_empty rest) = refl
breach_again text b at (rune_goes_on inside c rest t q f) =
    rune_text_reads (single_quote ∷ (inside ++ (c ∷ rest))) inside (c ∷ rest) t ∙ rune_goes (single_quote ∷ (inside ++ (c ∷ rest))) c rest q f
breach_again text b at (rune_line_begins rest) = refl
breach_again text b at (rune_line_ends inside rest t) = rune_text_reads (single_quote ∷ (inside ++ (line_feed ∷ rest))) inside (line_feed ∷ rest) t
breach_again text b at (rune_escape after h) = ap (read_rune_escape (single_quote ∷ backslash ∷ after) (backslash ∷ after)) (wrong_again single_quote single_plain after h)
breach_again text b at (rune_cut end h) = rune_cut_again (single_quote ∷ end) end h
breach_again text b at (rune_cut_after inside t) =
    ap (rune_literal (single_quote ∷ inside)) (sym (append-nil inside)) ∙ rune_text_reads (single_quote ∷ inside) inside [] t
