-- Each piece that is read stands there by the grammar.
use Rattle.std.proofs.Common.{◌≡◌, ◌≢◌, ◌≤◌, ◌<◌, ℕ, zero, suc, Bool, true, false, cond, not, ◌||◌, ◌==◌, List, [], ◌∷◌, ◌++◌, length, ◌+◌, Option, Some, None, sym, ap, ◌∙◌, refl, subst, arith, eqb, append_assoc, append-nil}
use borrow.Author.Tests.{true-eqb}
use Rattle.std.proofs.lemmas.Bool.Decides.{nat_tests}
use Rattle.std.specs.Prelude.{option_and_then}
use Rattle.std.proofs.lemmas.List.{length-append}
use Rattle.go_lexer.specs.declared.classes.Class.TheVariants.{Line, Raw}
use Rattle.go_lexer.specs.Characters.{front_while, after_while, split, strip, strip_pair, line_feed, double_quote, single_quote, back_quote, backslash, star, slash}
use Rattle.go_lexer.specs.Classes.{in_class}
use Rattle.go_lexer.specs.Comments.{general, general_by, commented}
use Rattle.go_lexer.specs.Escapes.{Escape, whole, wrong, cut, escape}
use Rattle.go_lexer.specs.Literals.{Closing, closed, line_ends, text_ends, bad_escape, Element, goes, ends, escaped as escaped_element, element, closing_by, closing, text_literal, string_literal, raw_end, raw_literal, rune_end, rune_escape, rune_literal}
use Rattle.go_lexer.specs.Pieces.{Piece, blank, token, stop}
use Rattle.go_lexer.specs.Grammar.{Each, Ends, IsStringText, nothing, character, escaped, IsRuneText, rune_character, rune_escaped, IsClosed, here, later, has_line_feed, IsPiece, line_comment, general_comment as comment_piece, rune, string, raw_string}
use Rattle.go_lexer.proofs.FrontBytes.{front-after}
use Rattle.go_lexer.proofs.Runs.{each_front, ends_after}
use Rattle.go_lexer.specs.declared.pieces.Breach.{Breach}
use Rattle.go_lexer.specs.declared.pieces.Breach.TheVariants.{BadChar, OpenString, BadEscape, CutString, CutComment}
use Rattle.go_lexer.specs.FaultGrammar.{IsWrongEscape, IsCut, at_end, in_escape, HasNoEnd, IsBreach, comment_cut, raw_string_cut, string_line_ends, string_cut, string_escape, rune_empty, rune_goes_on, rune_line_begins, rune_line_ends, rune_escape as rune_escape_wrong, rune_cut, rune_cut_after}
use Rattle.go_lexer.proofs.EscapeFaults.{double_plain, single_plain, cut_takes, wrong_takes}
use Rattle.go_lexer.proofs.EscapeGrammar.{EscapeIn, escape_takes}

-- what is read is a piece of the grammar, or a breach of it
abbrev pub Stands : List ℕ → Piece → Type 0
Stands cs (blank breaks rest) = IsPiece cs (blank breaks rest)
Stands cs (token kind owes rest) = IsPiece cs (token kind owes rest)
Stands cs (stop breach at) = IsBreach cs breach at

pub if_stands : (cs : List ℕ) (b : Bool) (p q : Piece) → (b ≡ true → Stands cs p) → (b ≡ false → Stands cs q) → Stands cs (cond b p q)
if_stands cs true p q f g = f refl
if_stands cs false p q f g = g refl

-- a piece of another way to write the same text
pub piece_at : (cs ds : List ℕ) (p : Piece) → cs ≡ ds → IsPiece ds p → IsPiece cs p
piece_at cs ds p e h = subst (λ l. IsPiece l p) (sym e) h

-- a breach of another way to write the same text
pub breach_at : (cs ds : List ℕ) (b : Breach) (at : List ℕ) → cs ≡ ds → IsBreach ds b at → IsBreach cs b at
breach_at cs ds b at e h = subst (λ l. IsBreach l b at) (sym e) h

pub breach_here : (cs ds : List ℕ) (b : Breach) → cs ≡ ds → IsBreach ds b ds → IsBreach cs b cs
breach_here cs ds b e h = subst (λ l. IsBreach l b l) (sym e) h

pub differs : (c d : ℕ) → eqb c d ≡ false → c ≢ d
differs c d e same = let h : eqb d d ≡ false = subst (λ x. eqb x d ≡ false) same e in (let k : eqb d d ≡ true = grind (arith, nat_tests) in cc)

pub is : (c d : ℕ) → eqb c d ≡ true → c ≡ d
is c d e = true-eqb c d (sym e)

-- comments
pub line_stands : (cs behind : List ℕ) → cs ≡ slash ∷ slash ∷ behind → IsPiece cs (blank false (after_while (in_class Line) behind))
line_stands cs behind e =
    piece_at cs (slash ∷ slash ∷ (front_while (in_class Line) behind ++ after_while (in_class Line) behind)) _ (e ∙ ap (λ l. slash ∷ slash ∷ l) (sym (front-after (in_class Line) behind)))
    (line_comment (front_while (in_class Line) behind) (after_while (in_class Line) behind) (each_front (in_class Line) behind) (ends_after (in_class Line) behind))

abbrev Closes : Bool → List ℕ → Option (Bool × List ℕ) → Type 0
Closes breaks cs (Some found) = (inside : List ℕ) × IsClosed cs inside found.1 × (found.0 ≡ (breaks || has_line_feed inside))
Closes breaks cs None = HasNoEnd cs

pub or-assoc : (a b c : Bool) → ((a || b) || c) ≡ (a || (b || c))
or-assoc true b c = refl
or-assoc false b c = refl

pub or-false : (a : Bool) → a ≡ (a || false)
or-false true = refl
or-false false = refl

-- `*/` at the front of a text
pub pair_is : (p q : ℕ) (cs rest : List ℕ) → strip_pair p q cs ≡ Some rest → cs ≡ p ∷ q ∷ rest
pair_is p q [] rest e = cc
pair_is p q (c ∷ []) rest e = first (eqb c p) e
  where
    first : (b : Bool) → option_and_then (strip q) (cond b (Some []) None) ≡ Some rest → c ∷ [] ≡ p ∷ q ∷ rest
    first true e = cc
    first false e = cc
pair_is p q (c ∷ d ∷ cs) rest e = first (eqb c p) refl e
  where
    second : (b : Bool) → eqb d q ≡ b → eqb c p ≡ true → cond b (Some cs) None ≡ Some rest → c ∷ d ∷ cs ≡ p ∷ q ∷ rest
    second true k h e = let same : cs ≡ rest = (cc) in let x = is c p h in let y = is d q k in (λ i. x i ∷ y i ∷ same i)
    second false k h e = cc

    first : (b : Bool) → eqb c p ≡ b → option_and_then (strip q) (cond b (Some (d ∷ cs)) None) ≡ Some rest → c ∷ d ∷ cs ≡ p ∷ q ∷ rest
    first true h e = second (eqb d q) refl h e
    first false h e = cc

pub eqb_same : (p : ℕ) → eqb p p ≡ true
eqb_same p = grind (arith, nat_tests)

pub pair_stands : (p q : ℕ) (rest : List ℕ) → strip_pair p q (p ∷ q ∷ rest) ≡ Some rest
pair_stands p q rest =
    ap (λ b. option_and_then (strip q) (cond b (Some (q ∷ rest)) None)) (eqb_same p) ∙ ap (λ b. cond b (Some rest) None) (eqb_same q)

none_stands : (p q : ℕ) (cs rest : List ℕ) → strip_pair p q cs ≡ None → cs ≢ p ∷ q ∷ rest
none_stands p q cs rest e same = let h : None ≡ Some rest = sym e ∙ ap (strip_pair p q) same ∙ pair_stands p q rest in cc

no_end_by : (c : ℕ) (cs : List ℕ) → ((rest : List ℕ) → strip_pair star slash (c ∷ cs) ≡ None → c ∷ cs ≢ star ∷ slash ∷ rest) → strip_pair star slash (c ∷ cs) ≡ None → HasNoEnd cs → HasNoEnd (c ∷ cs)
no_end_by c cs first e h [] rest k = first rest e k
no_end_by c cs first e h (x ∷ before) rest k = let tail : cs ≡ before ++ (star ∷ slash ∷ rest) = (cc) in h before rest tail

no_end_nil : HasNoEnd []
no_end_nil [] rest e = cc
no_end_nil (c ∷ before) rest e = cc

closes_by : (breaks : Bool) (c : ℕ) (cs : List ℕ) (more : Option (Bool × List ℕ)) (o : Option (List ℕ)) → strip_pair star slash (c ∷ cs) ≡ o → Closes (breaks || c == line_feed) cs more → Closes breaks (c ∷ cs) (general_by more breaks o)
closes_by breaks c cs more (Some rest) e h = ([], subst (λ l. IsClosed l [] rest) (sym (pair_is star slash (c ∷ cs) rest e)) (here rest), or-false breaks)
closes_by breaks c cs (Some found) None e h =
    (c ∷ h.0, later c cs h.0 found.1 (λ other. none_stands star slash (c ∷ cs) other e) h.1, h.2 ∙ or-assoc breaks (c == line_feed) (has_line_feed h.0))
closes_by breaks c cs None None e h = no_end_by c cs (none_stands star slash (c ∷ cs)) e h

pub general_closes : (breaks : Bool) (cs : List ℕ) → Closes breaks cs (general breaks cs)
general_closes breaks [] = no_end_nil
general_closes breaks (c ∷ cs) = closes_by breaks c cs (general (breaks || c == line_feed) cs) (strip_pair star slash (c ∷ cs)) refl (general_closes (breaks || c == line_feed) cs)

pub commented_stands : (cs behind : List ℕ) (o : Option (Bool × List ℕ)) → cs ≡ slash ∷ star ∷ behind → Closes false behind o → Stands cs (commented cs o)
commented_stands cs behind (Some found) e h =
    piece_at cs (slash ∷ star ∷ behind) (blank found.0 found.1) e (subst (λ b. IsPiece (slash ∷ star ∷ behind) (blank b found.1)) (sym h.2) (comment_piece behind h.0 found.1 h.1))
commented_stands cs behind None e h = breach_here cs (slash ∷ star ∷ behind) CutComment e (comment_cut behind h)

-- strings
abbrev StringIn : List ℕ → List ℕ → Type 0
StringIn cs tail = (inside : List ℕ) × (cs ≡ inside ++ tail) × IsStringText inside

-- how the text of a string ends
abbrev Ended : List ℕ → Closing → Type 0
Ended cs (closed rest) = StringIn cs (double_quote ∷ rest)
Ended cs line_ends = (rest : List ℕ) × StringIn cs (line_feed ∷ rest)
Ended cs text_ends = (end : List ℕ) × StringIn cs end × IsCut end
Ended cs (bad_escape at) = (after : List ℕ) × StringIn cs (backslash ∷ after) × IsWrongEscape double_quote after × (at ≡ backslash ∷ after)

-- a character or an escape, which may stand before more of a string's text
abbrev ElementIn : List ℕ → List ℕ → Type 0
ElementIn cs rest = (front : List ℕ) × (cs ≡ front ++ rest) × ((more : List ℕ) → IsStringText more → IsStringText (front ++ more)) × (length rest < length cs)

abbrev Opens : List ℕ → Element → Type 0
Opens cs (goes rest) = ElementIn cs rest
Opens cs (ends how) = Ended cs how

if_opens : (cs : List ℕ) (b : Bool) (x y : Element) → (b ≡ true → Opens cs x) → (b ≡ false → Opens cs y) → Opens cs (cond b x y)
if_opens cs true x y f g = f refl
if_opens cs false x y f g = g refl

string_here : (c d : ℕ) (cs : List ℕ) → c ≡ d → StringIn (c ∷ cs) (d ∷ cs)
string_here c d cs e = ([], ap (λ x. x ∷ cs) e, nothing)

escape_opens : (c : ℕ) (cs : List ℕ) (x : Escape) → c ≡ backslash → escape double_quote cs ≡ x → Opens (c ∷ cs) (escaped_element (c ∷ cs) x)
escape_opens c cs (whole rest) e h =
    let s : EscapeIn double_quote cs rest = escape_takes double_quote cs rest h in
    let long : length cs ≡ length s.0 + length rest = ap length s.1 ∙ length-append s.0 rest in
    (backslash ∷ s.0, (λ i. e i ∷ s.1 i), (λ more t. escaped s.0 more s.2 t), omega arith)
escape_opens c cs wrong e h = (cs, string_here c backslash cs e, wrong_takes double_quote double_plain cs h, ap (λ x. x ∷ cs) e)
escape_opens c cs cut e h = (backslash ∷ cs, string_here c backslash cs e, in_escape cs (cut_takes double_quote cs h))

element_opens : (cs : List ℕ) → Opens cs (element cs)
element_opens [] = ([], ([], refl, nothing), at_end)
element_opens (c ∷ cs) =
    if_opens (c ∷ cs) (eqb c double_quote) _ _ (λ h. string_here c double_quote cs (is c double_quote h))
    (λ q. if_opens (c ∷ cs) (eqb c line_feed) _ _ (λ h. (cs, string_here c line_feed cs (is c line_feed h)))
    (λ f. if_opens (c ∷ cs) (eqb c backslash) _ _ (λ h. escape_opens c cs (escape double_quote cs) (is c backslash h) refl)
    (λ b. (c ∷ [], refl, (λ more t. character c more (differs c double_quote q) (differs c line_feed f) (differs c backslash b) t), omega arith))))

behind : (cs mid tail : List ℕ) → ElementIn cs mid → StringIn mid tail → StringIn cs tail
behind cs mid tail h s = (h.0 ++ s.0, h.1 ∙ ap (λ l. h.0 ++ l) s.1 ∙ sym (append_assoc h.0 s.0 tail), h.2 s.0 s.2)

put_before : (cs mid : List ℕ) (how : Closing) → ElementIn cs mid → Ended mid how → Ended cs how
put_before cs mid (closed rest) h s = behind cs mid (double_quote ∷ rest) h s
put_before cs mid line_ends h s = (s.0, behind cs mid (line_feed ∷ s.0) h s.1)
put_before cs mid text_ends h s = (s.0, behind cs mid s.0 h s.1, s.2)
put_before cs mid (bad_escape at) h s = (s.0, behind cs mid (backslash ∷ s.0) h s.1, s.2, s.3)

ended_by : (n : ℕ) (cs : List ℕ) (x : Element) → Opens cs x → length cs ≤ suc n → ((mid : List ℕ) → length mid ≤ n → Ended mid (closing n mid)) → Ended cs (closing_by (closing n) x)
ended_by n cs (goes mid) h l again = put_before cs mid (closing n mid) h (again mid (omega (arith, h.3)))
ended_by n cs (ends how) h l again = h

pub closing_ended : (n : ℕ) (cs : List ℕ) → length cs ≤ n → Ended cs (closing n cs)
closing_ended zero [] l = ([], ([], refl, nothing), at_end)
closing_ended zero (c ∷ cs) l = absurd (omega arith)
closing_ended (suc n) cs l = ended_by n cs (element cs) (element_opens cs) l (closing_ended n)

string_by : (cs inside : List ℕ) (how : Closing) → cs ≡ double_quote ∷ inside → Ended inside how → Stands cs (text_literal cs how)
string_by cs inside (closed rest) e s =
    piece_at cs (double_quote ∷ (s.0 ++ (double_quote ∷ rest))) _ (e ∙ ap (λ l. double_quote ∷ l) s.1) (string s.0 rest s.2)
string_by cs inside line_ends e s =
    breach_here cs (double_quote ∷ (s.1.0 ++ (line_feed ∷ s.0))) OpenString (e ∙ ap (λ l. double_quote ∷ l) s.1.1) (string_line_ends s.1.0 s.0 s.1.2)
string_by cs inside text_ends e s =
    breach_here cs (double_quote ∷ (s.1.0 ++ s.0)) CutString (e ∙ ap (λ l. double_quote ∷ l) s.1.1) (string_cut s.1.0 s.0 s.1.2 s.2)
string_by cs inside (bad_escape at) e s =
    subst (IsBreach cs BadEscape) (sym s.3)
    (breach_at cs (double_quote ∷ (s.1.0 ++ (backslash ∷ s.0))) BadEscape (backslash ∷ s.0) (e ∙ ap (λ l. double_quote ∷ l) s.1.1) (string_escape s.1.0 s.0 s.1.2 s.2))

pub string_stands : (cs inside : List ℕ) → cs ≡ double_quote ∷ inside → Stands cs (string_literal cs inside)
string_stands cs inside e = string_by cs inside (closing (length inside) inside) e (closing_ended (length inside) inside (omega arith))

-- raw strings
raw_by : (cs front rest : List ℕ) → cs ≡ back_quote ∷ (front ++ rest) → Each (in_class Raw) front → Ends (in_class Raw) rest → Stands cs (raw_end cs (split rest))
raw_by cs front [] e h k = breach_here cs (back_quote ∷ front) CutString (e ∙ ap (λ l. back_quote ∷ l) (append-nil front)) (raw_string_cut front h)
raw_by cs front (c ∷ rest) e h k =
    let quote : c ≡ back_quote = is c back_quote (not_off (eqb c back_quote) k) in
    piece_at cs (back_quote ∷ (front ++ (back_quote ∷ rest))) _ (e ∙ ap (λ x. back_quote ∷ (front ++ (x ∷ rest))) quote) (raw_string front rest h)
  where
    not_off : (b : Bool) → not b ≡ false → b ≡ true
    not_off true e = refl
    not_off false e = sym e

pub raw_stands : (cs inside : List ℕ) → cs ≡ back_quote ∷ inside → Stands cs (raw_literal cs inside)
raw_stands cs inside e =
    raw_by cs (front_while (in_class Raw) inside) (after_while (in_class Raw) inside) (e ∙ ap (λ l. back_quote ∷ l) (sym (front-after (in_class Raw) inside)))
    (each_front (in_class Raw) inside) (ends_after (in_class Raw) inside)

-- runes
rune_end_stands : (cs text mid : List ℕ) → cs ≡ single_quote ∷ (text ++ mid) → IsRuneText text → Stands cs (rune_end cs mid)
rune_end_stands cs text [] e h = breach_here cs (single_quote ∷ text) CutString (e ∙ ap (λ l. single_quote ∷ l) (append-nil text)) (rune_cut_after text h)
rune_end_stands cs text (c ∷ rest) e h =
    if_stands cs (eqb c single_quote) _ _
    (λ q. piece_at cs (single_quote ∷ (text ++ (single_quote ∷ rest))) _ (e ∙ ap (λ x. single_quote ∷ (text ++ (x ∷ rest))) (is c single_quote q)) (rune text rest h))
    (λ q. if_stands cs (eqb c line_feed) _ _
    (λ f. breach_here cs (single_quote ∷ (text ++ (line_feed ∷ rest))) OpenString (e ∙ ap (λ x. single_quote ∷ (text ++ (x ∷ rest))) (is c line_feed f)) (rune_line_ends text rest h))
    (λ f. breach_here cs (single_quote ∷ (text ++ (c ∷ rest))) BadChar e (rune_goes_on text c rest h (differs c single_quote q) (differs c line_feed f))))

rune_escape_stands : (cs at inside : List ℕ) (x : Escape) → cs ≡ single_quote ∷ backslash ∷ inside → at ≡ backslash ∷ inside → escape single_quote inside ≡ x → Stands cs (rune_escape cs at x)
rune_escape_stands cs at inside (whole rest) e a h =
    let s : EscapeIn single_quote inside rest = escape_takes single_quote inside rest h in
    rune_end_stands cs (backslash ∷ s.0) rest (e ∙ ap (λ l. single_quote ∷ backslash ∷ l) s.1) (rune_escaped s.0 s.2)
rune_escape_stands cs at inside wrong e a h =
    subst (IsBreach cs BadEscape) (sym a) (breach_at cs (single_quote ∷ backslash ∷ inside) BadEscape (backslash ∷ inside) e (rune_escape_wrong inside (wrong_takes single_quote single_plain inside h)))
rune_escape_stands cs at inside cut e a h =
    breach_here cs (single_quote ∷ backslash ∷ inside) CutString e (rune_cut (backslash ∷ inside) (in_escape inside (cut_takes single_quote inside h)))

pub rune_stands : (cs inside : List ℕ) → cs ≡ single_quote ∷ inside → Stands cs (rune_literal cs inside)
rune_stands cs [] e = breach_here cs (single_quote ∷ []) CutString e (rune_cut [] at_end)
rune_stands cs (c ∷ inside) e =
    if_stands cs (eqb c single_quote) _ _ (λ h. breach_here cs (single_quote ∷ single_quote ∷ inside) BadChar (e ∙ ap (λ x. single_quote ∷ x ∷ inside) (is c single_quote h)) (rune_empty inside))
    (λ q. if_stands cs (eqb c line_feed) _ _ (λ h. breach_here cs (single_quote ∷ line_feed ∷ inside) OpenString (e ∙ ap (λ x. single_quote ∷ x ∷ inside) (is c line_feed h)) (rune_line_begins inside))
    (λ f. if_stands cs (eqb c backslash) _ _
    (λ h. rune_escape_stands cs (c ∷ inside) inside (escape single_quote inside) (e ∙ ap (λ x. single_quote ∷ x ∷ inside) (is c backslash h)) (ap (λ x. x ∷ inside) (is c backslash h)) refl)
    (λ b. rune_end_stands cs (c ∷ []) inside e (rune_character c (differs c single_quote q) (differs c line_feed f) (differs c backslash b)))))
