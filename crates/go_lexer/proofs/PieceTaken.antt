-- What is read at the front of a text is a piece of the grammar.
use Rattle.std.proofs.Common.{◌≡◌, ◌≢◌, ℕ, Bool, true, false, cond, List, [], ◌∷◌, ◌++◌, Option, Some, None, sym, ap, ◌∙◌, refl, subst, inl, inr, ⊎_elim, eqb, arith}
use Rattle.std.specs.Str.{encode_utf8_all}
use Rattle.std.proofs.lemmas.Str.{encodes_same}
use Rattle.code_tables.specs.declared.words.Keyword.{Keyword}
use Rattle.code_tables.specs.Keyword.{keyword_text}
use Rattle.go_lexer.specs.Characters.{front_while, after_while, split, double_quote, single_quote, back_quote, slash, star, point}
use Rattle.go_lexer.specs.Classes.{is_letter, continues_name, is_space, is_decimal}
use Rattle.go_lexer.specs.Comments.{general}
use Rattle.go_lexer.specs.Numbers.{number}
use Rattle.go_lexer.specs.Words.{keyword_of, word_piece, word}
use Rattle.go_lexer.specs.Front.{after_point, after_slash, mark, piece}
use Rattle.go_lexer.specs.Grammar.{Each, Ends, IsName, BeginsComment, BeginsNumber, IsPiece, white_space, identifier, keyword}
use Rattle.go_lexer.specs.Grammar as grammar
use Rattle.go_lexer.proofs.FrontBytes.{front-after}
use Rattle.go_lexer.proofs.Keywords.{keyword_is, keyword_again, text_bytes}
use Rattle.go_lexer.proofs.Lengths.{name_goes}
use Rattle.go_lexer.proofs.MarkGrammar.{mark_stands}
use Rattle.go_lexer.proofs.NumberShapes.{fits, kind_of, Judged, reads, written_front, fit_number, no_number_reads, Looks, looks}
use Rattle.go_lexer.proofs.Runs.{each_front, ends_after}
use Rattle.go_lexer.specs.declared.pieces.Breach.TheVariants.{BadNumber}
use Rattle.go_lexer.specs.FaultGrammar.{BeginsNothing, IsBreach, no_piece, no_number}
use Rattle.go_lexer.specs.Marks.{is_single}
use Rattle.go_lexer.specs.NumberShape.{Parts, GoFar, written}
use Rattle.go_lexer.proofs.Taken.{Stands, if_stands, piece_at, breach_at, differs, is, line_stands, general_closes, commented_stands, string_stands, raw_stands, rune_stands}

-- numbers
judged_stands : (cs : List ℕ) (p : Parts) (rest : List ℕ) → cs ≡ written p rest → GoFar p rest → BeginsNumber cs → (fit : Bool) → fits p ≡ fit → Stands cs (Judged (written p rest) fit (kind_of p) rest)
judged_stands cs p rest e g b true f =
    let text : cs ≡ written p [] ++ rest = e ∙ written_front p rest in
    piece_at cs (written p [] ++ rest) _ text
    (grammar.number (kind_of p) (written p []) rest (fit_number p rest g f) (subst BeginsNumber text b) (record { parts = p; is = refl; far = g }))
judged_stands cs p rest e g b false f =
    let text : cs ≡ written p [] ++ rest = e ∙ written_front p rest in
    let breach : IsBreach (written p [] ++ rest) BadNumber (written p [] ++ rest) =
    no_number (written p []) rest (subst BeginsNumber text b) (record { parts = p; is = refl; far = g }) (no_number_reads p rest g f) in
    breach_at cs (written p [] ++ rest) BadNumber (written p rest) text (subst (IsBreach (written p [] ++ rest) BadNumber) (sym (written_front p rest)) breach)

number_stands : (cs : List ℕ) → BeginsNumber cs → Stands cs (number cs)
number_stands cs b =
    let l : Looks cs = looks cs in
    subst (Stands cs) (sym (ap number l.is_there ∙ reads l.parts l.rest l.far))
    (judged_stands cs l.parts l.rest l.is_there l.far b (fits l.parts) refl)

begins_digit : (a : ℕ) (after : List ℕ) → is_decimal a ≡ true → BeginsNumber (a ∷ after)
begins_digit a [] h = h
begins_digit a (b ∷ after) h = inl h

-- words
name_front : (a : ℕ) (after : List ℕ) → is_letter a ≡ true → IsName (front_while continues_name (a ∷ after))
name_front a after h =
    let e : front_while continues_name (a ∷ after) ≡ a ∷ front_while continues_name after = ap (λ b. cond b (a ∷ front_while continues_name after) []) (name_goes a h) in
    subst IsName (sym e) (h, each_front continues_name after)

word_by : (cs front rest : List ℕ) (o : Option Keyword) → cs ≡ front ++ rest → IsName front → Ends continues_name rest → keyword_of (encode_utf8_all front) ≡ o → Stands cs (word_piece o rest)
word_by cs front rest (Some k) e n r h =
    let text : front ≡ keyword_text k = encodes_same front (keyword_text k) (keyword_is (encode_utf8_all front) k h ∙ sym (text_bytes k)) in
    piece_at cs (keyword_text k ++ rest) _ (e ∙ ap (λ l. l ++ rest) text) (keyword k rest r)
word_by cs front rest None e n r h =
    piece_at cs (front ++ rest) _ e (identifier front rest n r (λ k same. let again : None ≡ Some k = sym h ∙ ap (λ w. keyword_of (encode_utf8_all w)) same ∙ ap keyword_of (text_bytes k) ∙ keyword_again k in cc))

word_stands : (a : ℕ) (after : List ℕ) → is_letter a ≡ true → Stands (a ∷ after) (word (a ∷ after))
word_stands a after h =
    word_by (a ∷ after) (front_while continues_name (a ∷ after)) (after_while continues_name (a ∷ after)) (keyword_of (encode_utf8_all (front_while continues_name (a ∷ after))))
    (sym (front-after continues_name (a ∷ after))) (name_front a after h) (ends_after continues_name (a ∷ after)) refl

-- a point, and a slash
no_digit : (a : ℕ) → is_decimal a ≡ false → is_decimal a ≡ true → ⊥
no_digit a f t = let h : false ≡ true = sym f ∙ t in cc

point_slash : (a : ℕ) → a ≡ point → a ≡ slash → ⊥
point_slash a p s = let h : point ≡ slash = sym p ∙ s in omega (arith, h)

point_single : (a : ℕ) (P : Type 0) → a ≡ point → is_single a ≡ false → P
point_single a P e h = let k : is_single point ≡ false = subst (λ x. is_single x ≡ false) e h in absurd (let t : true ≡ false = k in cc)

slash_single : (a : ℕ) (P : Type 0) → a ≡ slash → is_single a ≡ false → P
slash_single a P e h = let k : is_single slash ≡ false = subst (λ x. is_single x ≡ false) e h in absurd (let t : true ≡ false = k in cc)

point_stands : (a : ℕ) (after : List ℕ) → a ≡ point → is_decimal a ≡ false → Stands (a ∷ after) (after_point (a ∷ after) a after (split after))
point_stands a [] p d = mark_stands (a ∷ []) a [] (point_single a _ p) (λ h. h) (no_digit a d)
point_stands a (b ∷ behind) p d =
    if_stands (a ∷ b ∷ behind) (is_decimal b) _ _ (λ h. number_stands (a ∷ b ∷ behind) (inr (p, h)))
    (λ h. mark_stands (a ∷ b ∷ behind) a (b ∷ behind) (point_single a _ p) (λ k. point_slash a p k.0) (λ k. ⊎_elim (no_digit a d) (λ w. no_digit b h w.1) k))

slash_stands : (a : ℕ) (after : List ℕ) → a ≡ slash → is_decimal a ≡ false → Stands (a ∷ after) (after_slash (a ∷ after) a after (split after))
slash_stands a [] s d = mark_stands (a ∷ []) a [] (slash_single a _ s) (λ h. h) (no_digit a d)
slash_stands a (b ∷ behind) s d =
    if_stands (a ∷ b ∷ behind) (eqb b slash) _ _ (λ h. line_stands (a ∷ b ∷ behind) behind (let y = is b slash h in (λ i. s i ∷ y i ∷ behind)))
    (λ h. if_stands (a ∷ b ∷ behind) (eqb b star) _ _
    (λ k. commented_stands (a ∷ b ∷ behind) behind (general false behind) (let y = is b star k in (λ i. s i ∷ y i ∷ behind)) (general_closes false behind))
    (λ k. mark_stands (a ∷ b ∷ behind) a (b ∷ behind) (slash_single a _ s) (λ w. ⊎_elim (differs b slash h) (differs b star k) w.1) (λ w. ⊎_elim (no_digit a d) (λ v. point_slash a v.0 s) w)))

other_stands : (a : ℕ) (after : List ℕ) → is_decimal a ≡ false → a ≢ point → a ≢ slash → (is_single a ≡ false → BeginsNothing a) → Stands (a ∷ after) (mark (a ∷ after) a after)
other_stands a [] d p s n = mark_stands (a ∷ []) a [] (λ h. no_piece a [] (n h)) (λ h. h) (no_digit a d)
other_stands a (b ∷ behind) d p s n = mark_stands (a ∷ b ∷ behind) a (b ∷ behind) (λ h. no_piece a (b ∷ behind) (n h)) (λ h. s h.0) (λ h. ⊎_elim (no_digit a d) (λ w. p w.0) h)

pub some_stands : (a : ℕ) (after : List ℕ) → Stands (a ∷ after) (piece (a ∷ after))
some_stands a after =
    let cs : List ℕ = a ∷ after in
    if_stands cs (is_space a) _ _ (white_space a after)
    (λ space. if_stands cs (is_decimal a) _ _ (λ h. number_stands cs (begins_digit a after h))
    (λ d. if_stands cs (eqb a point) _ _ (λ h. point_stands a after (is a point h) d)
    (λ p. if_stands cs (eqb a slash) _ _ (λ h. slash_stands a after (is a slash h) d)
    (λ s. if_stands cs (eqb a double_quote) _ _ (λ h. string_stands cs after (ap (λ x. x ∷ after) (is a double_quote h)))
    (λ double. if_stands cs (eqb a single_quote) _ _ (λ h. rune_stands cs after (ap (λ x. x ∷ after) (is a single_quote h)))
    (λ single. if_stands cs (eqb a back_quote) _ _ (λ h. raw_stands cs after (ap (λ x. x ∷ after) (is a back_quote h)))
    (λ back. if_stands cs (is_letter a) _ _ (word_stands a after)
    (λ letter. other_stands a after d (differs a point p) (differs a slash s) (λ mark. record {
      space = space;
      letter = letter;
      digit = d;
      mark = mark;
      double = differs a double_quote double;
      single = differs a single_quote single;
      back = differs a back_quote back;
    })))))))))
