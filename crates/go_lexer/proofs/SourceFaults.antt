-- The first fault that is read is that of the grammar, in both directions.
use Rattle.std.proofs.Common.{◌≡◌, ◌≢◌, ◌≤◌, ◌<◌, ℕ, zero, suc, Bool, true, false, cond, List, [], ◌∷◌, ◌++◌, length, Option, Some, None, Result, Ok, Err, sym, ap, ◌∙◌, refl, subst, arith, eqb}
use borrow.Author.Tests.{true-eqb}
use Rattle.std.proofs.lemmas.Bool.Decides.{nat_tests}
use Rattle.std.specs.Str.{chars, encode_utf8_all}
use Rattle.go_lexer.specs.declared.token_kinds.Token.{Token}
use Rattle.go_lexer.specs.declared.token_kinds.TokenKind.{TokenKind}
use Rattle.go_lexer.specs.declared.token_kinds.LexFault.{LexFault}
use Rattle.go_lexer.specs.declared.token_kinds.LexFault.TheVariants as fault
use Rattle.go_lexer.specs.declared.pieces.Breach.{Breach}
use Rattle.go_lexer.specs.declared.pieces.Breach.TheVariants.{BadChar, OpenString, BadEscape, BadNumber, CutString, CutComment}
use Rattle.go_lexer.specs.declared.source.Ending.{Ending}
use Rattle.go_lexer.specs.declared.source.Ending.TheVariants.{File, BadUtf8, Nul}
use Rattle.go_lexer.specs.FaultGrammar.{IsBreach, no_piece, no_number, comment_cut, raw_string_cut, string_line_ends, string_cut, string_escape, rune_empty, rune_goes_on, rune_line_begins, rune_line_ends, rune_escape, rune_cut, rune_cut_after, IsTextOf, IsEndFault, nul, no_utf8, Reaches, here, after_blank, after_token, IsFaultAt, text_ends, bad_char, open_string, bad_escape, bad_number, string_at_end, in_string, comment_at_end, in_comment, IsFirstFault}
use Rattle.go_lexer.specs.Front.{piece}
use Rattle.go_lexer.specs.Grammar.{BeginsNumber}
use Rattle.go_lexer.specs.Lexing.{place, cut_string, cut_comment, fault_at, paid_if, owed_after, owes_at, finish, with_front, lexed_by, lexed, lexed_text, lexed_source}
use Rattle.go_lexer.specs.Pieces.{Piece, blank, token, stop}
use Rattle.go_lexer.specs.Source.{is_nul, text_of, ending_at, ending_of, after_mark}
use Rattle.go_lexer.specs.TokenGrammar.{spanned}
use Rattle.go_lexer.proofs.FaultAgain.{breach_again}
use Rattle.go_lexer.proofs.Lengths.{IsShorter, piece_shorter}
use Rattle.go_lexer.proofs.PieceAgain.{piece_again}
use Rattle.go_lexer.proofs.PieceTaken.{some_stands}
use Rattle.go_lexer.proofs.SourceTexts.{after_of, text_takes, text_again, chars_again, after_again, head_of, ending_is}
use Rattle.go_lexer.proofs.Taken.{Stands}
use Rattle.go_lexer.proofs.Turns.{lexed_piece}
use Rattle.go_lexer.proofs.Whole.{mark_takes, mark_again}

abbrev Answer : Type 0
Answer = Result (List Token) LexFault

front_err : (front : List Token) (r : Answer) (f : LexFault) → with_front front r ≡ Err f → r ≡ Err f
front_err front (Ok rest) f e = cc
front_err front (Err g) f e = e

apart : (c d : ℕ) → c ≢ d → eqb c d ≡ false
apart c d n = by_eqb (eqb c d) refl
  where
    by_eqb : (b : Bool) → eqb c d ≡ b → b ≡ false
    by_eqb true h = absurd (n (true-eqb c d (sym h)))
    by_eqb false h = refl

differs : (c d : ℕ) → eqb c d ≡ false → c ≢ d
differs c d e s = let h : eqb c d ≡ true = grind (arith, nat_tests) in let k : true ≡ false = sym h ∙ e in cc

-- the bytes after the text
abbrev End : List ℕ → Ending
End after = ending_at (head_of after)

end_by : (total b : ℕ) (bs : List ℕ) (f : LexFault) (t : Bool) → eqb b 0 ≡ t → finish (cond t Nul BadUtf8) total None ≡ Err f → IsEndFault total (b ∷ bs) f
end_by total b bs f true e h =
    let g : fault.Nul total ≡ f = (cc) in
    subst (λ x. IsEndFault total (x ∷ bs) f) (let s : 0 ≡ b = sym (true-eqb b 0 (sym e)) in s) (subst (IsEndFault total (0 ∷ bs)) g (nul bs))
end_by total b bs f false e h = let g : fault.BadUtf8 total ≡ f = (cc) in subst (IsEndFault total (b ∷ bs)) g (no_utf8 b bs (differs b 0 e))

owed_same : (x : Ending) (total : ℕ) (owed : Option ℕ) (f : LexFault) → finish x total owed ≡ Err f → finish x total None ≡ Err f
owed_same File total owed f e = cc
owed_same BadUtf8 total owed f e = e
owed_same Nul total owed f e = e

end_takes : (total : ℕ) (owed : Option ℕ) (after : List ℕ) (f : LexFault) → finish (End after) total owed ≡ Err f → IsEndFault total after f
end_takes total owed [] f e = cc
end_takes total owed (b ∷ bs) f e = end_by total b bs f (is_nul b) refl (owed_same (ending_at (Some b)) total owed f e)

end_again : (total : ℕ) (owed : Option ℕ) (after : List ℕ) (f : LexFault) → IsEndFault total after f → finish (End after) total owed ≡ Err f
end_again total owed after f (nul bs) = refl
end_again total owed after f (no_utf8 b bs n) = ap (λ t. finish (cond t Nul BadUtf8) total owed) (apart b 0 n)

-- a breach, as a fault
abbrev failed : LexFault → Answer
failed f = Err f

string_end : (x : Ending) (total at : ℕ) (f : LexFault) → x ≢ File → failed (cut_string x total at) ≡ Err f → finish x total None ≡ Err f
string_end File total at f n e = absurd (n refl)
string_end BadUtf8 total at f n e = e
string_end Nul total at f n e = e

comment_end : (x : Ending) (total at : ℕ) (f : LexFault) → x ≢ File → failed (cut_comment x total at) ≡ Err f → finish x total None ≡ Err f
comment_end File total at f n e = absurd (n refl)
comment_end BadUtf8 total at f n e = e
comment_end Nul total at f n e = e

no_file : (b : ℕ) → ending_at (Some b) ≢ File
no_file b = by_nul (is_nul b)
  where
    by_nul : (t : Bool) → cond t Nul BadUtf8 ≢ File
    by_nul true e = cc
    by_nul false e = cc

met : (total : ℕ) (after text : List ℕ) (f g : LexFault) → IsFaultAt total after text f → failed f ≡ Err g → IsFaultAt total after text g
met total after text f g h e = let k : f ≡ g = (cc) in subst (IsFaultAt total after text) k h

string_takes : (total : ℕ) (after text at : List ℕ) (f : LexFault) → IsBreach text CutString at → failed (cut_string (End after) total (place total at)) ≡ Err f → IsFaultAt total after text f
string_takes total [] text at f h e = met total [] text (fault.OpenString (place total at)) f (string_at_end text at h refl) e
string_takes total (b ∷ bs) text at f h e =
    in_string text at f h (end_takes total None (b ∷ bs) f (string_end (ending_at (Some b)) total (place total at) f (no_file b) e))

comment_takes : (total : ℕ) (after text at : List ℕ) (f : LexFault) → IsBreach text CutComment at → failed (cut_comment (End after) total (place total at)) ≡ Err f → IsFaultAt total after text f
comment_takes total [] text at f h e = met total [] text (fault.OpenComment (place total at)) f (comment_at_end text at h refl) e
comment_takes total (b ∷ bs) text at f h e =
    in_comment text at f h (end_takes total None (b ∷ bs) f (comment_end (ending_at (Some b)) total (place total at) f (no_file b) e))

breach_takes : (total : ℕ) (after text : List ℕ) (b : Breach) (at : List ℕ) (f : LexFault) → IsBreach text b at → failed (fault_at (End after) total b (place total at)) ≡ Err f → IsFaultAt total after text f
breach_takes total after text BadChar at f h e = met total after text (fault.BadChar (place total at)) f (bad_char text at h) e
breach_takes total after text OpenString at f h e = met total after text (fault.OpenString (place total at)) f (open_string text at h) e
breach_takes total after text BadEscape at f h e = met total after text (fault.BadEscape (place total at)) f (bad_escape text at h) e
breach_takes total after text BadNumber at f h e = met total after text (fault.BadNumber (place total at)) f (bad_number text at h) e
breach_takes total after text CutString at f h e = string_takes total after text at f h e
breach_takes total after text CutComment at f h e = comment_takes total after text at f h e

-- reading stops at a fault of the grammar
record Met (total : ℕ) (after text : List ℕ) (f : LexFault) : Type 0 where
  mid : List ℕ
  reaches : Reaches text mid
  stands : IsFaultAt total after mid f

abbrev MeetsAs : ℕ → List ℕ → ℕ → Type 0
MeetsAs total after n = (owed : Option ℕ) (rest : List ℕ) (f : LexFault) → length rest ≤ n → lexed (End after) total n owed rest ≡ Err f → Met total after rest f

ended : (total : ℕ) (after : List ℕ) (owed : Option ℕ) (f : LexFault) → finish (End after) total owed ≡ Err f → Met total after [] f
ended total after owed f e = record { mid = []; reaches = here []; stands = text_ends f (end_takes total owed after f e) }

after_piece : (total : ℕ) (after : List ℕ) (n : ℕ) (owed : Option ℕ) (cs : List ℕ) (x : Piece) (f : LexFault) → MeetsAs total after n → Stands cs x → IsShorter (suc n) x → lexed_by (End after) total (lexed (End after) total n) owed cs x ≡ Err f → Met total after cs f
after_piece total after n owed cs (blank breaks rest) f g s l e =
    let m : Met total after rest f = g (owed_after breaks owed) rest f (omega arith) (front_err (paid_if breaks owed) (lexed (End after) total n (owed_after breaks owed) rest) f e) in
    record { mid = m.mid; reaches = after_blank breaks cs rest m.mid s m.reaches; stands = m.stands }
after_piece total after n owed cs (token kind owes rest) f g s l e =
    let m : Met total after rest f = g (owes_at owes (place total rest)) rest f (omega arith) (front_err (spanned kind (place total cs) (place total rest) ∷ []) (lexed (End after) total n (owes_at owes (place total rest)) rest) f e) in
    record { mid = m.mid; reaches = after_token kind owes cs rest m.mid s m.reaches; stands = m.stands }
after_piece total after n owed cs (stop breach at) f g s l e = record { mid = cs; reaches = here cs; stands = breach_takes total after cs breach at f s e }

wider : (m n : ℕ) (x : Piece) → m ≤ n → IsShorter m x → IsShorter n x
wider m n (blank breaks rest) le h = omega arith
wider m n (token kind owes rest) le h = omega arith
wider m n (stop breach at) le h = tt

meets : (total : ℕ) (after : List ℕ) (n : ℕ) → MeetsAs total after n
meets total after zero owed [] f l e = ended total after owed f e
meets total after zero owed (c ∷ cs) f l e = absurd (omega arith)
meets total after (suc n) owed [] f l e = ended total after owed f e
meets total after (suc n) owed (c ∷ cs) f l e =
    after_piece total after n owed (c ∷ cs) (piece (c ∷ cs)) f (meets total after n) (some_stands c cs) (wider (length (c ∷ cs)) (suc n) (piece (c ∷ cs)) (omega arith) (piece_shorter (c ∷ cs))) e

-- a fault of the grammar is met
begins_some : (text : List ℕ) → BeginsNumber text → 0 < length text
begins_some [] h = absurd h
begins_some (c ∷ cs) h = omega arith

breach_some : (text : List ℕ) (b : Breach) (at : List ℕ) → IsBreach text b at → 0 < length text
breach_some text b at (no_piece c cs n) = omega arith
breach_some text b at (no_number literal rest begins l n) = begins_some (literal ++ rest) begins
breach_some text b at (comment_cut inside h) = omega arith
breach_some text b at (raw_string_cut inside h) = omega arith
breach_some text b at (string_line_ends inside rest t) = omega arith
breach_some text b at (string_cut inside end t h) = omega arith
breach_some text b at (string_escape inside after t h) = omega arith
breach_some text b at (rune_empty rest) = omega arith
breach_some text b at (rune_goes_on inside c rest t q f) = omega arith
breach_some text b at (rune_line_begins rest) = omega arith
breach_some text b at (rune_line_ends inside rest t) = omega arith
breach_some text b at (rune_escape after h) = omega arith
breach_some text b at (rune_cut end h) = omega arith
breach_some text b at (rune_cut_after inside t) = omega arith

string_cut_off : (total at : ℕ) (after : List ℕ) (f : LexFault) → IsEndFault total after f → cut_string (End after) total at ≡ f
string_cut_off total at after f (nul bs) = refl
string_cut_off total at after f (no_utf8 b bs n) = ap (λ t. cut_string (cond t Nul BadUtf8) total at) (apart b 0 n)

comment_cut_off : (total at : ℕ) (after : List ℕ) (f : LexFault) → IsEndFault total after f → cut_comment (End after) total at ≡ f
comment_cut_off total at after f (nul bs) = refl
comment_cut_off total at after f (no_utf8 b bs n) = ap (λ t. cut_comment (cond t Nul BadUtf8) total at) (apart b 0 n)

module _ (total : ℕ) (after : List ℕ) where
  abbrev Fails : List ℕ → LexFault → Type 0
  Fails text f = (owed : Option ℕ) → lexed_text (End after) total owed text ≡ Err f

  begins : (c : ℕ) (cs : List ℕ) (p : Piece) (f : LexFault) (owed : Option ℕ) → piece (c ∷ cs) ≡ p → lexed_by (End after) total (lexed_text (End after) total) owed (c ∷ cs) p ≡ Err f → lexed_text (End after) total owed (c ∷ cs) ≡ Err f
  begins c cs p f owed e h = sym (lexed_piece (End after) total owed (c ∷ cs) (omega arith)) ∙ ap (lexed_by (End after) total (lexed_text (End after) total) owed (c ∷ cs)) e ∙ h

  blank_fails : (text : List ℕ) (breaks : Bool) (rest : List ℕ) (f : LexFault) → piece text ≡ blank breaks rest → Fails rest f → Fails text f
  blank_fails [] breaks rest f e h owed = cc
  blank_fails (c ∷ cs) breaks rest f e h owed = begins c cs (blank breaks rest) f owed e (ap (with_front (paid_if breaks owed)) (h (owed_after breaks owed)))

  token_fails : (text : List ℕ) (kind : TokenKind) (owes : Bool) (rest : List ℕ) (f : LexFault) → piece text ≡ token kind owes rest → Fails rest f → Fails text f
  token_fails [] kind owes rest f e h owed = cc
  token_fails (c ∷ cs) kind owes rest f e h owed =
      begins c cs (token kind owes rest) f owed e (ap (with_front (spanned kind (place total (c ∷ cs)) (place total rest) ∷ [])) (h (owes_at owes (place total rest))))

  breach_fails : (text : List ℕ) (b : Breach) (at : List ℕ) (f : LexFault) → IsBreach text b at → fault_at (End after) total b (place total at) ≡ f → Fails text f
  breach_fails [] b at f h e owed = absurd (omega (arith, breach_some [] b at h))
  breach_fails (c ∷ cs) b at f h e owed = begins c cs (stop b at) f owed (breach_again (c ∷ cs) b at h) (ap Err e)

  fault_fails : (text : List ℕ) (f : LexFault) → IsFaultAt total after text f → Fails text f
  fault_fails text f (text_ends g h) owed = end_again total owed after g h
  fault_fails text f (bad_char t at h) owed = breach_fails t BadChar at (fault.BadChar (place total at)) h refl owed
  fault_fails text f (open_string t at h) owed = breach_fails t OpenString at (fault.OpenString (place total at)) h refl owed
  fault_fails text f (bad_escape t at h) owed = breach_fails t BadEscape at (fault.BadEscape (place total at)) h refl owed
  fault_fails text f (bad_number t at h) owed = breach_fails t BadNumber at (fault.BadNumber (place total at)) h refl owed
  fault_fails text f (string_at_end t at h e) owed = breach_fails t CutString at (fault.OpenString (place total at)) h (ap (λ l. cut_string (End l) total (place total at)) e) owed
  fault_fails text f (in_string t at g h e) owed = breach_fails t CutString at g h (string_cut_off total (place total at) after g e) owed
  fault_fails text f (comment_at_end t at h e) owed = breach_fails t CutComment at (fault.OpenComment (place total at)) h (ap (λ l. cut_comment (End l) total (place total at)) e) owed
  fault_fails text f (in_comment t at g h e) owed = breach_fails t CutComment at g h (comment_cut_off total (place total at) after g e) owed

  reaches_fails : (text end : List ℕ) → Reaches text end → (f : LexFault) → Fails end f → Fails text f
  reaches_fails text end (here t) f h = h
  reaches_fails text end (after_blank breaks t rest e p r) f h = blank_fails t breaks rest f (piece_again t (blank breaks rest) p) (reaches_fails rest e r f h)
  reaches_fails text end (after_token kind owes t rest e p r) f h = token_fails t kind owes rest f (piece_again t (token kind owes rest) p) (reaches_fails rest e r f h)

-- both directions
pub fault_takes : (src : List ℕ) (f : LexFault) → lexed_source src ≡ Err f → IsFirstFault src f
unfolding lexed_source
fault_takes src f e =
    let characters : List ℕ = chars (text_of src) in
    let text : List ℕ = after_mark characters in
    let are : IsTextOf src characters (after_of src) = text_takes src in
    let same : encode_utf8_all characters ≡ text_of src = text_again src characters (after_of src) are in
    let total : ℕ = length (encode_utf8_all characters) in
    let m : Met total (after_of src) text f =
    meets total (after_of src) (length text) None text f (omega arith)
    (ap (λ x. lexed_text x total None text) (sym (ending_is src)) ∙ ap (λ t. lexed_text (ending_of src) (length t) None text) same ∙ e) in
    record {
      characters = characters;
      after = after_of src;
      text = text;
      rest = m.mid;
      are = are;
      start = mark_takes characters;
      reaches = m.reaches;
      stands = m.stands;
    }

pub fault_again : (src : List ℕ) (f : LexFault) → IsFirstFault src f → lexed_source src ≡ Err f
unfolding lexed_source
fault_again src f h =
    let total : ℕ = length (encode_utf8_all h.characters) in
    let text : encode_utf8_all h.characters ≡ text_of src = text_again src h.characters h.after h.are in
    let same : after_mark (chars (text_of src)) ≡ h.text = ap after_mark (chars_again src h.characters h.after h.are) ∙ mark_again h.characters h.text h.start in
    let end : ending_of src ≡ End h.after = ending_is src ∙ ap End (sym (after_again src h.characters h.after h.are)) in
    ap (λ t. lexed_text (ending_of src) (length t) None (after_mark (chars (text_of src)))) (sym text)
    ∙ ap (λ x. lexed_text x total None (after_mark (chars (text_of src)))) end
    ∙ ap (lexed_text (End h.after) total None) same
    ∙ reaches_fails total h.after h.text h.rest h.reaches f (fault_fails total h.after h.rest f h.stands) None
