-- The tokens that are read are those of the grammar, in both directions.
use Rattle.std.proofs.Common.{◌≡◌, ◌≢◌, ◌≤◌, ◌<◌, ◌+◌, ℕ, zero, suc, Bool, true, false, cond, not, List, [], ◌∷◌, ◌++◌, length, take, Option, Some, None, Result, Ok, Err, sym, ap, ◌∙◌, refl, subst, arith, eqb}
use borrow.Author.Tests.{true-eqb}
use Rattle.std.proofs.lemmas.Bool.Decides.{nat_tests}
use Rattle.std.proofs.Math.Seq.{take-length}
use Rattle.std.specs.Prelude.{slice_get}
use Rattle.std.specs.List.{position_or_len, before_first}
use Rattle.std.specs.Str.{chars, IsUtf8, is_utf8}
use Rattle.std.specs.Str.Lossy.{utf8_valid_len, valid_len_up_to}
use Rattle.std.proofs.Common.{min}
use Rattle.std.proofs.lemmas.List.{length-take}
use Rattle.std.proofs.lemmas.Option.{slice_get_past}
use Rattle.std.proofs.lemmas.List.Sums.{prefix_len-le-length}
use Rattle.std.proofs.lemmas.Str.{IsUtf8-nil, IsUtf8-from_is_utf8}
use Rattle.std.proofs.lemmas.Str.{chars-encodes, encodes-chars, scalars-chars, utf8_valid_len-IsUtf8, utf8_valid_len_le}
use Rattle.go_lexer.specs.declared.token_kinds.Token.{Token}
use Rattle.go_lexer.specs.declared.token_kinds.TokenKind.{TokenKind}
use Rattle.go_lexer.specs.declared.token_kinds.LexFault.{LexFault}
use Rattle.go_lexer.specs.declared.pieces.Breach.{Breach}
use Rattle.go_lexer.specs.declared.source.Ending.{Ending}
use Rattle.go_lexer.specs.declared.source.Ending.TheVariants.{File, BadUtf8, Nul}
use Rattle.go_lexer.specs.Characters.{byte_order_mark}
use Rattle.go_lexer.specs.Front.{piece}
use Rattle.go_lexer.specs.Grammar.{Each, IsPiece}
use Rattle.go_lexer.specs.Lexing.{place, paid_if, owed_after, owes_at, finish, with_front, lexed_by, lexed, lexed_text, lexed_source}
use Rattle.go_lexer.specs.Pieces.{Piece, blank, token, stop}
use Rattle.go_lexer.specs.Source.{is_nul, valid_front, text_of, ending_at, ending_of, rest_or, after_mark}
use Rattle.go_lexer.specs.TokenGrammar.{inserted, spanned, AreTokens, end_of_file, semicolon_at_end_of_file, between, end_of_line, semicolon_at_end_of_line, plain_token, last_of_line_token, IsUnmarked, marked, empty, unmarked, IsLexed}
use Rattle.go_lexer.proofs.Lengths.{IsShorter, piece_shorter}
use Rattle.go_lexer.proofs.PieceAgain.{piece_again}
use Rattle.go_lexer.proofs.PieceTaken.{some_stands}
use Rattle.go_lexer.proofs.Taken.{Stands}
use Rattle.go_lexer.proofs.Turns.{lexed_piece}

abbrev Answer : Type 0
Answer = Result (List Token) LexFault

-- what stands before an answer's tokens
front_ok : (front : List Token) (r : Answer) (ts : List Token) → with_front front r ≡ Ok ts → (rest : List Token) × (r ≡ Ok rest) × (front ++ rest ≡ ts)
front_ok front (Ok rest) ts e = (rest, refl, (let h : front ++ rest ≡ ts = (cc) in h))
front_ok front (Err f) ts e = cc

-- reading gives tokens of the grammar
ended : (total : ℕ) (owed : Option ℕ) (ts : List Token) → finish File total owed ≡ Ok ts → AreTokens total owed [] ts
ended total None ts e = let h : [] ≡ ts = (cc) in subst (AreTokens total None []) h end_of_file
ended total (Some at) ts e = let h : inserted at ∷ [] ≡ ts = (cc) in subst (AreTokens total (Some at) []) h (semicolon_at_end_of_file at)

abbrev LexesAs : ℕ → ℕ → Type 0
LexesAs total n = (owed : Option ℕ) (rest : List ℕ) (ts : List Token) → length rest ≤ n → lexed File total n owed rest ≡ Ok ts → AreTokens total owed rest ts

after_blank : (total n : ℕ) (owed : Option ℕ) (cs rest : List ℕ) (breaks : Bool) (ts : List Token) → LexesAs total n → length rest ≤ n → IsPiece cs (blank breaks rest)
    → with_front (paid_if breaks owed) (lexed File total n (owed_after breaks owed) rest) ≡ Ok ts → AreTokens total owed cs ts
after_blank total n owed cs rest false ts g l p e =
    let h = front_ok [] (lexed File total n owed rest) ts e in
    subst (AreTokens total owed cs) h.2 (between owed cs rest h.0 p (g owed rest h.0 l h.1))
after_blank total n None cs rest true ts g l p e =
    let h = front_ok [] (lexed File total n None rest) ts e in
    subst (AreTokens total None cs) h.2 (end_of_line cs rest h.0 p (g None rest h.0 l h.1))
after_blank total n (Some at) cs rest true ts g l p e =
    let h = front_ok (inserted at ∷ []) (lexed File total n None rest) ts e in
    subst (AreTokens total (Some at) cs) h.2 (semicolon_at_end_of_line at cs rest h.0 p (g None rest h.0 l h.1))

after_token : (total n : ℕ) (owed : Option ℕ) (cs rest : List ℕ) (kind : TokenKind) (owes : Bool) (ts : List Token) → LexesAs total n → length rest ≤ n → IsPiece cs (token kind owes rest)
    → with_front (spanned kind (place total cs) (place total rest) ∷ []) (lexed File total n (owes_at owes (place total rest)) rest) ≡ Ok ts → AreTokens total owed cs ts
after_token total n owed cs rest kind false ts g l p e =
    let h = front_ok (spanned kind (place total cs) (place total rest) ∷ []) (lexed File total n None rest) ts e in
    subst (AreTokens total owed cs) h.2 (plain_token owed kind cs rest h.0 p (g None rest h.0 l h.1))
after_token total n owed cs rest kind true ts g l p e =
    let h = front_ok (spanned kind (place total cs) (place total rest) ∷ []) (lexed File total n (Some (place total rest)) rest) ts e in
    subst (AreTokens total owed cs) h.2 (last_of_line_token owed kind cs rest h.0 p (g (Some (place total rest)) rest h.0 l h.1))

after_piece : (total n : ℕ) (owed : Option ℕ) (cs : List ℕ) (x : Piece) (ts : List Token) → LexesAs total n → Stands cs x → IsShorter (suc n) x → lexed_by File total (lexed File total n) owed cs x ≡ Ok ts → AreTokens total owed cs ts
after_piece total n owed cs (blank breaks rest) ts g s l e = after_blank total n owed cs rest breaks ts g (omega arith) s e
after_piece total n owed cs (token kind owes rest) ts g s l e = after_token total n owed cs rest kind owes ts g (omega arith) s e
after_piece total n owed cs (stop breach at) ts g s l e = cc

wider : (m n : ℕ) (x : Piece) → m ≤ n → IsShorter m x → IsShorter n x
wider m n (blank breaks rest) le h = omega arith
wider m n (token kind owes rest) le h = omega arith
wider m n (stop breach at) le h = tt

tokens_take : (total n : ℕ) → LexesAs total n
tokens_take total zero owed [] ts l e = ended total owed ts e
tokens_take total zero owed (c ∷ cs) ts l e = absurd (omega arith)
tokens_take total (suc n) owed [] ts l e = ended total owed ts e
tokens_take total (suc n) owed (c ∷ cs) ts l e =
    after_piece total n owed (c ∷ cs) (piece (c ∷ cs)) ts (tokens_take total n) (some_stands c cs) (wider (length (c ∷ cs)) (suc n) (piece (c ∷ cs)) (omega arith) (piece_shorter (c ∷ cs))) e

-- tokens of the grammar are read
piece_some : (cs : List ℕ) (p : Piece) → piece cs ≡ p → (stop_free : (b : Breach) (at : List ℕ) → p ≢ stop b at) → 0 < length cs
piece_some [] p e f = absurd (f _ [] (sym e))
piece_some (c ∷ cs) p e f = omega arith

read_piece : (total : ℕ) (owed : Option ℕ) (cs : List ℕ) (p : Piece) (r : Answer) → IsPiece cs p → ((b : Breach) (at : List ℕ) → p ≢ stop b at) → lexed_by File total (lexed_text File total) owed cs p ≡ r → lexed_text File total owed cs ≡ r
read_piece total owed cs p r h f e =
    sym (lexed_piece File total owed cs (piece_some cs p (piece_again cs p h) f)) ∙ ap (lexed_by File total (lexed_text File total) owed cs) (piece_again cs p h) ∙ e

pub tokens_again : (total : ℕ) (owed : Option ℕ) (cs : List ℕ) (ts : List Token) → AreTokens total owed cs ts → lexed_text File total owed cs ≡ Ok ts
tokens_again total owed cs ts end_of_file = refl
tokens_again total owed cs ts (semicolon_at_end_of_file at) = refl
tokens_again total owed cs ts (between o text rest tokens p h) = read_piece total o text (blank false rest) (Ok tokens) p (λ b at e. cc) (ap (with_front []) (tokens_again total o rest tokens h))
tokens_again total owed cs ts (end_of_line text rest tokens p h) = read_piece total None text (blank true rest) (Ok tokens) p (λ b at e. cc) (ap (with_front []) (tokens_again total None rest tokens h))
tokens_again total owed cs ts (semicolon_at_end_of_line at text rest tokens p h) =
    read_piece total (Some at) text (blank true rest) (Ok (inserted at ∷ tokens)) p (λ b a e. cc) (ap (with_front (inserted at ∷ [])) (tokens_again total None rest tokens h))
tokens_again total owed cs ts (plain_token o kind text rest tokens p h) =
    read_piece total o text (token kind false rest) (Ok (spanned kind (place total text) (place total rest) ∷ tokens)) p (λ b at e. cc) (ap (with_front (spanned kind (place total text) (place total rest) ∷ [])) (tokens_again total None rest tokens h))
tokens_again total owed cs ts (last_of_line_token o kind text rest tokens p h) =
    read_piece total o text (token kind true rest) (Ok (spanned kind (place total text) (place total rest) ∷ tokens)) p (λ b at e. cc)
    (ap (with_front (spanned kind (place total text) (place total rest) ∷ [])) (tokens_again total (Some (place total rest)) rest tokens h))

-- a byte order mark
unmarked_by : (c : ℕ) (cs : List ℕ) (b : Bool) → eqb c byte_order_mark ≡ b → IsUnmarked (c ∷ cs) (rest_or (c ∷ cs) (cond b (Some cs) None))
unmarked_by c cs true e = subst (λ x. IsUnmarked (x ∷ cs) cs) (true-eqb byte_order_mark c (let h : eqb byte_order_mark c ≡ true = grind (arith, nat_tests) in sym h)) (marked cs)
unmarked_by c cs false e = unmarked c cs (λ same. let h : eqb c byte_order_mark ≡ true = grind (arith, nat_tests) in (let k : false ≡ true = sym e ∙ h in cc))

pub mark_takes : (cs : List ℕ) → IsUnmarked cs (after_mark cs)
mark_takes [] = empty
mark_takes (c ∷ cs) = unmarked_by c cs (eqb c byte_order_mark) refl

pub mark_again : (cs text : List ℕ) → IsUnmarked cs text → after_mark cs ≡ text
mark_again cs text (marked rest) = refl
mark_again cs text empty = refl
mark_again cs text (unmarked c rest n) = by_eqb (eqb c byte_order_mark) refl
  where
    by_eqb : (b : Bool) → eqb c byte_order_mark ≡ b → rest_or (c ∷ rest) (cond b (Some rest) None) ≡ c ∷ rest
    by_eqb true e = absurd (n (true-eqb c byte_order_mark (sym e)))
    by_eqb false e = refl

-- the source
abbrev not_nul : ℕ → Bool
not_nul b = not (is_nul b)

counts_by : (b : Bool) (c n : ℕ) (cs : List ℕ) → not_nul c ≡ b → (n ≡ length cs → Each not_nul cs) → cond b (1 + n) 0 ≡ suc (length cs) → (not_nul c ≡ true) × Each not_nul cs
counts_by true c n cs e f h = (e, f (omega arith))
counts_by false c n cs e f h = absurd (omega arith)

-- no zero byte stands before the end
no_nul_takes : (cs : List ℕ) → position_or_len is_nul cs ≡ length cs → Each not_nul cs
no_nul_takes [] h = tt
no_nul_takes (c ∷ cs) h = counts_by (not_nul c) c (position_or_len is_nul cs) cs refl (no_nul_takes cs) h

no_nul_again : (cs : List ℕ) → Each not_nul cs → position_or_len is_nul cs ≡ length cs
no_nul_again [] h = refl
no_nul_again (c ∷ cs) h = ap (λ b. cond b (1 + position_or_len is_nul cs) 0) h.0 ∙ (let k : position_or_len is_nul cs ≡ length cs = no_nul_again cs h.1 in omega arith)

valid_by : (bs : List ℕ) (n : ℕ) (b : Bool) → is_utf8 (take (suc n) bs) ≡ b → valid_len_up_to bs n ≤ n → cond b (suc n) (valid_len_up_to bs n) ≡ suc n → is_utf8 (take (suc n) bs) ≡ true
valid_by bs n true e l h = e
valid_by bs n false e l h = absurd (omega arith)

up_to_by : (bs : List ℕ) (n : ℕ) (b : Bool) → valid_len_up_to bs n ≤ n → cond b (suc n) (valid_len_up_to bs n) ≤ suc n
up_to_by bs n true l = omega arith
up_to_by bs n false l = omega arith

up_to_le : (bs : List ℕ) (n : ℕ) → valid_len_up_to bs n ≤ n
up_to_le bs zero = omega arith
up_to_le bs (suc n) = up_to_by bs n (is_utf8 (take (suc n) bs)) (up_to_le bs n)

all_valid : (bs : List ℕ) (n : ℕ) → length bs ≡ n → valid_len_up_to bs n ≡ n → IsUtf8 bs
all_valid [] n l h = IsUtf8-nil
all_valid (b ∷ bs) zero l h = absurd (omega arith)
all_valid (b ∷ bs) (suc n) l h =
    subst IsUtf8 (ap (λ k. take k (b ∷ bs)) (sym l) ∙ take-length (b ∷ bs))
    (IsUtf8-from_is_utf8 (take (suc n) (b ∷ bs)) (valid_by (b ∷ bs) n (is_utf8 (take (suc n) (b ∷ bs))) refl (up_to_le (b ∷ bs) n) h))

valid_utf8 : (bs : List ℕ) → utf8_valid_len bs ≡ length bs → IsUtf8 bs
unfolding utf8_valid_len
valid_utf8 bs h = all_valid bs (length bs) refl h

past : (src : List ℕ) (n : ℕ) → slice_get src n ≡ None → length src ≤ n
past [] n e = omega arith
past (b ∷ src) zero e = cc
past (b ∷ src) (suc n) e = let h : length src ≤ n = past src n e in omega arith

get_by : (src : List ℕ) (n : ℕ) (o : Option ℕ) → slice_get src n ≡ o → ending_at o ≡ File → length src ≤ n
get_by src n None e h = past src n e
get_by src n (Some b) e h = absurd (by_nul (is_nul b) h)
  where
    by_nul : (t : Bool) → cond t Nul BadUtf8 ≡ File → ⊥
    by_nul true e = cc
    by_nul false e = cc

pub file_takes : (src : List ℕ) → ending_of src ≡ File → IsUtf8 src × Each not_nul src × (text_of src ≡ src)
file_takes src e =
    let valid : List ℕ = valid_front src in
    let all : length src ≤ length (text_of src) = get_by src (length (text_of src)) (slice_get src (length (text_of src))) refl e in
    let long : length (text_of src) ≡ min (position_or_len is_nul valid) (length valid) = length-take (position_or_len is_nul valid) valid in
    let valid_long : length valid ≡ min (utf8_valid_len src) (length src) = length-take (utf8_valid_len src) src in
    let most : utf8_valid_len src ≤ length src = utf8_valid_len_le src in
    let place : position_or_len is_nul valid ≤ length valid = prefix_len-le-length (λ (x : ℕ). not (is_nul x)) valid in
    let whole : utf8_valid_len src ≡ length src = omega arith in
    let same : valid ≡ src = ap (λ n. take n src) whole ∙ take-length src in
    let end : position_or_len is_nul valid ≡ length valid = omega arith in
    (valid_utf8 src whole, subst (Each not_nul) same (no_nul_takes valid end), ap (λ n. take n valid) end ∙ take-length valid ∙ same)

pub file_again : (src : List ℕ) → IsUtf8 src → Each not_nul src → (text_of src ≡ src) × (ending_of src ≡ File)
file_again src u n =
    let same : valid_front src ≡ src = ap (λ k. take k src) (utf8_valid_len-IsUtf8 src u) ∙ take-length src in
    let text : text_of src ≡ src = ap (before_first is_nul) same ∙ ap (λ k. take k src) (no_nul_again src n) ∙ take-length src in
    (text, ap (λ t. ending_at (slice_get src (length t))) text ∙ ap ending_at (slice_get_past src (length src) (omega arith)))

-- only a source that ends as a whole has tokens
finish_ok : (ending : Ending) (total : ℕ) (owed : Option ℕ) (ts : List Token) → finish ending total owed ≡ Ok ts → ending ≡ File
finish_ok File total owed ts e = refl
finish_ok BadUtf8 total owed ts e = cc
finish_ok Nul total owed ts e = cc

by_ok : (ending : Ending) (total : ℕ) (more : Option ℕ → List ℕ → Answer) (owed : Option ℕ) (cs : List ℕ) (x : Piece) (ts : List Token) → ((o : Option ℕ) (rest : List ℕ) (us : List Token) → more o rest ≡ Ok us → ending ≡ File)
    → lexed_by ending total more owed cs x ≡ Ok ts → ending ≡ File
by_ok ending total more owed cs (blank breaks rest) ts f e = let h = front_ok (paid_if breaks owed) (more (owed_after breaks owed) rest) ts e in f (owed_after breaks owed) rest h.0 h.1
by_ok ending total more owed cs (token kind owes rest) ts f e =
    let h = front_ok (spanned kind (place total cs) (place total rest) ∷ []) (more (owes_at owes (place total rest)) rest) ts e in f (owes_at owes (place total rest)) rest h.0 h.1
by_ok ending total more owed cs (stop breach at) ts f e = cc

lexed_ok : (ending : Ending) (total n : ℕ) (owed : Option ℕ) (cs : List ℕ) (ts : List Token) → lexed ending total n owed cs ≡ Ok ts → ending ≡ File
lexed_ok ending total zero owed cs ts e = finish_ok ending total owed ts e
lexed_ok ending total (suc n) owed [] ts e = finish_ok ending total owed ts e
lexed_ok ending total (suc n) owed (c ∷ cs) ts e = by_ok ending total (lexed ending total n) owed (c ∷ cs) (piece (c ∷ cs)) ts (lexed_ok ending total n) e

-- both directions
pub source_takes : (src : List ℕ) (ts : List Token) → lexed_source src ≡ Ok ts → IsLexed src ts
unfolding lexed_source
source_takes src ts e =
    let start : List ℕ = after_mark (chars (text_of src)) in
    let file : ending_of src ≡ File = lexed_ok (ending_of src) (length (text_of src)) (length start) None start ts e in
    let is = file_takes src file in
    let text : text_of src ≡ src = is.2 in
    let read : lexed_text File (length src) None (after_mark (chars src)) ≡ Ok ts = sym (ap (λ t. lexed_text (ending_of src) (length t) None (after_mark (chars t))) text ∙ ap (λ x. lexed_text x (length src) None (after_mark (chars src))) file) ∙ e in
    record {
      characters = chars src;
      text = after_mark (chars src);
      scalars = scalars-chars src is.0;
      utf8 = encodes-chars src is.0;
      no_nul = is.1;
      start = mark_takes (chars src);
      are = tokens_take (length src) (length (after_mark (chars src))) None (after_mark (chars src)) ts (omega arith) read;
    }

pub source_again : (src : List ℕ) (ts : List Token) → IsLexed src ts → lexed_source src ≡ Ok ts
unfolding lexed_source
source_again src ts h =
    let u : IsUtf8 src = (h.characters, (h.scalars, h.utf8)) in
    let is = file_again src u h.no_nul in
    let same : chars src ≡ h.characters = ap chars (sym h.utf8) ∙ chars-encodes h.characters h.scalars in
    let start : after_mark (chars src) ≡ h.text = ap after_mark same ∙ mark_again h.characters h.text h.start in
    ap (λ t. lexed_text (ending_of src) (length t) None (after_mark (chars t))) is.0
    ∙ ap (λ x. lexed_text x (length src) None (after_mark (chars src))) is.1
    ∙ ap (lexed_text File (length src) None) start
    ∙ tokens_again (length src) None h.text ts h.are
