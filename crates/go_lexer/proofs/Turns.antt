-- One piece more, or the end of the text.
use Rattle.std.proofs.Common.{◌≡◌, ◌≤◌, ◌<◌, ℕ, zero, suc, List, [], ◌∷◌, ◌++◌, length, Option, Result, Ok, Err, sym, ap, ◌∙◌, refl, arith, append_assoc, Bool}
use Rattle.go_lexer.specs.declared.token_kinds.Token.{Token}
use Rattle.go_lexer.specs.declared.token_kinds.TokenKind.{TokenKind}
use Rattle.go_lexer.specs.declared.token_kinds.LexFault.{LexFault}
use Rattle.go_lexer.specs.declared.pieces.Breach.{Breach}
use Rattle.go_lexer.specs.declared.source.Ending.{Ending}
use Rattle.go_lexer.specs.Pieces.{Piece, blank, token, stop}
use Rattle.go_lexer.specs.Front.{piece}
use Rattle.go_lexer.specs.Lexing.{place, fault_at, paid_if, owed_after, owes_at, finish, with_front, lexed_by, lexed, lexed_text, Fails}
use Rattle.std.specs.Str.{chars, IsUtf8, encode_utf8_all}
use Rattle.std.proofs.lemmas.Str.{encodes-chars, chars-nil}
use Rattle.std.proofs.Common.{subst}
use Rattle.go_lexer.specs.declared.token_kinds.LexFault.TheVariants as fault
use Rattle.go_lexer.proofs.Lengths.{IsShorter, piece_shorter}

pub with_front-with_front : (xs ys : List Token) (r : Result (List Token) LexFault) → with_front xs (with_front ys r) ≡ with_front (xs ++ ys) r
with_front-with_front xs ys (Ok zs) = ap Ok (sym (append_assoc xs ys zs))
with_front-with_front xs ys (Err f) = refl

pub with_front-nil : (r : Result (List Token) LexFault) → with_front [] r ≡ r
with_front-nil (Ok xs) = refl
with_front-nil (Err f) = refl

abbrev More : Type 0
More = Option ℕ → List ℕ → Result (List Token) LexFault

by_same : (ending : Ending) (total n : ℕ) (f g : More) (owed : Option ℕ) (cs : List ℕ) (x : Piece) → IsShorter n x → ((o : Option ℕ) (rest : List ℕ) → length rest < n → f o rest ≡ g o rest)
    → lexed_by ending total f owed cs x ≡ lexed_by ending total g owed cs x
by_same ending total n f g owed cs (blank breaks rest) h e = ap (with_front (paid_if breaks owed)) (e (owed_after breaks owed) rest h)
by_same ending total n f g owed cs (token kind owes rest) h e = ap (with_front (record { kind = kind; start = place total cs; end = place total rest } ∷ [])) (e (owes_at owes (place total rest)) rest h)
by_same ending total n f g owed cs (stop breach rest) h e = refl

-- more turns than characters change nothing
enough : (ending : Ending) (total m n : ℕ) (owed : Option ℕ) (cs : List ℕ) → length cs ≤ m → length cs ≤ n → lexed ending total m owed cs ≡ lexed ending total n owed cs
enough ending total zero zero owed cs a b = refl
enough ending total zero (suc n) owed [] a b = refl
enough ending total zero (suc n) owed (c ∷ cs) a b = absurd (omega arith)
enough ending total (suc m) zero owed [] a b = refl
enough ending total (suc m) zero owed (c ∷ cs) a b = absurd (omega arith)
enough ending total (suc m) (suc n) owed [] a b = refl
enough ending total (suc m) (suc n) owed (c ∷ cs) a b =
    by_same ending total (length (c ∷ cs)) (lexed ending total m) (lexed ending total n) owed (c ∷ cs) (piece (c ∷ cs)) (piece_shorter (c ∷ cs))
    (λ o rest less. enough ending total m n o rest (omega arith) (omega arith))

-- reading a text is reading its first piece and then what is left
pub lexed_piece : (ending : Ending) (total : ℕ) (owed : Option ℕ) (cs : List ℕ) → 0 < length cs → lexed_by ending total (lexed_text ending total) owed cs (piece cs) ≡ lexed_text ending total owed cs
lexed_piece ending total owed [] some = absurd (omega arith)
lexed_piece ending total owed (c ∷ cs) some =
    by_same ending total (length (c ∷ cs)) (lexed_text ending total) (lexed ending total (length cs)) owed (c ∷ cs) (piece (c ∷ cs)) (piece_shorter (c ∷ cs))
    (λ o rest less. enough ending total (length rest) (length cs) o rest (omega arith) (omega arith))

pub blank_smaller : (breaks : Bool) (cs rest : List ℕ) → blank breaks rest ≡ piece cs → length rest < length cs
blank_smaller breaks cs rest e = subst (IsShorter (length cs)) (sym e) (piece_shorter cs)

pub token_smaller : (kind : TokenKind) (owes : Bool) (cs rest : List ℕ) → token kind owes rest ≡ piece cs → length rest < length cs
token_smaller kind owes cs rest e = subst (IsShorter (length cs)) (sym e) (piece_shorter cs)

-- the piece at the front, put before what is left
took : (ending : Ending) (total : ℕ) (owed : Option ℕ) (cs : List ℕ) (x : Piece) (old : List Token) → x ≡ piece cs → 0 < length cs
    → with_front old (lexed_by ending total (lexed_text ending total) owed cs x) ≡ with_front old (lexed_text ending total owed cs)
took ending total owed cs x old e some = ap (λ p. with_front old (lexed_by ending total (lexed_text ending total) owed cs p)) e ∙ ap (with_front old) (lexed_piece ending total owed cs some)

pub took_blank : (ending : Ending) (total : ℕ) (owed after : Option ℕ) (breaks : Bool) (cs rest : List ℕ) (old new : List Token) (all : Result (List Token) LexFault)
    → blank breaks rest ≡ piece cs → 0 < length cs → new ≡ old ++ paid_if breaks owed → after ≡ owed_after breaks owed
    → with_front old (lexed_text ending total owed cs) ≡ all → with_front new (lexed_text ending total after rest) ≡ all
took_blank ending total owed after breaks cs rest old new all e some n a h =
    ap (λ l. with_front l (lexed_text ending total after rest)) n
    ∙ ap (λ o. with_front (old ++ paid_if breaks owed) (lexed_text ending total o rest)) a
    ∙ sym (with_front-with_front old (paid_if breaks owed) (lexed_text ending total (owed_after breaks owed) rest))
    ∙ took ending total owed cs (blank breaks rest) old e some ∙ h

pub took_token : (ending : Ending) (total : ℕ) (owed after : Option ℕ) (kind : TokenKind) (owes : Bool) (cs rest : List ℕ) (start end : ℕ) (old new : List Token) (all : Result (List Token) LexFault)
    → token kind owes rest ≡ piece cs → 0 < length cs → start ≡ place total cs → end ≡ place total rest
    → new ≡ old ++ (record { kind = kind; start = start; end = end } ∷ []) → after ≡ owes_at owes end
    → with_front old (lexed_text ending total owed cs) ≡ all → with_front new (lexed_text ending total after rest) ≡ all
took_token ending total owed after kind owes cs rest start end old new all e some s f n a h =
    let item : ℕ → ℕ → List Token = λ i j. record { kind = kind; start = i; end = j } ∷ [] in
    ap (λ l. with_front l (lexed_text ending total after rest)) n
    ∙ ap (λ o. with_front (old ++ item start end) (lexed_text ending total o rest)) a
    ∙ ap (λ i. with_front (old ++ item i end) (lexed_text ending total (owes_at owes end) rest)) s
    ∙ ap (λ j. with_front (old ++ item (place total cs) j) (lexed_text ending total (owes_at owes j) rest)) f
    ∙ sym (with_front-with_front old (item (place total cs) (place total rest)) (lexed_text ending total (owes_at owes (place total rest)) rest))
    ∙ took ending total owed cs (token kind owes rest) old e some ∙ h

fails_is : (f : LexFault) (read : Result (List Token) LexFault) → read ≡ Err f → Fails f read
fails_is (fault.BadUtf8 at) read h = h
fails_is (fault.Nul at) read h = h
fails_is (fault.BadChar at) read h = h
fails_is (fault.OpenString at) read h = h
fails_is (fault.OpenComment at) read h = h
fails_is (fault.BadEscape at) read h = h
fails_is (fault.BadNumber at) read h = h
fails_is fault.OutOfMemory read h = tt

pub took_stop : (ending : Ending) (total : ℕ) (owed : Option ℕ) (breach : Breach) (cs at : List ℕ) (f : LexFault) (p : ℕ) (old : List Token) (all : Result (List Token) LexFault)
    → stop breach at ≡ piece cs → 0 < length cs → p ≡ place total at → f ≡ fault_at ending total breach p → with_front old (lexed_text ending total owed cs) ≡ all → Fails f all
took_stop ending total owed breach cs at f p old all e some q g h =
    fails_is f all (sym h ∙ sym (took ending total owed cs (stop breach at) old e some) ∙ ap (λ i. Err (fault_at ending total breach i)) (sym q) ∙ ap Err (sym g))

pub took_all : (ending : Ending) (total : ℕ) (owed : Option ℕ) (cs : List ℕ) (old : List Token) (all : Result (List Token) LexFault) → length cs ≡ 0 → with_front old (lexed_text ending total owed cs) ≡ all → with_front old (finish ending total owed) ≡ all
took_all ending total owed [] old all e h = h
took_all ending total owed (c ∷ cs) old all e h = absurd (omega arith)

some_by : (cs bs : List ℕ) → encode_utf8_all cs ≡ bs → 0 < length bs → 0 < length cs
some_by [] bs e h = absurd (omega (arith, ap length e))
some_by (c ∷ cs) bs e h = omega arith

-- a text of some bytes has some characters
pub chars_some : (bs : List ℕ) → IsUtf8 bs → 0 < length bs → 0 < length (chars bs)
chars_some bs u h = some_by (chars bs) bs (encodes-chars bs u) h

pub chars_none : (bs : List ℕ) → length bs ≡ 0 → length (chars bs) ≡ 0
chars_none [] h = ap length chars-nil
chars_none (b ∷ bs) h = absurd (omega arith)
