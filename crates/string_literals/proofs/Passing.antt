-- One piece of an interpreted literal more, at the front of a slice.
use Rattle.std.proofs.Common.{◌≡◌, ◌≤◌, ◌-◌, ◌++◌, ℕ, zero, suc, cond, List, [], ◌∷◌, length, take, drop, get_or, append_assoc, length-drop, refl, sym, ap, ◌∙◌, arith}
use Rattle.std.proofs.lemmas.Bool.{ne_eqb}
use Rattle.std.proofs.Math.Seq.{take-length}
use Rattle.go_lexer.specs.Characters.{double_quote}
use Rattle.string_literals.specs.declared.escapes.Piece.{Piece}
use Rattle.string_literals.specs.Escapes.{bytes_of}
use Rattle.string_literals.specs.Values.{piece, text_after}

-- what a slice leaves behind so many items
pub behind : (n : ℕ) (bs : List ℕ) → take (length bs - n) (drop n bs) ≡ drop n bs
behind n bs = ap (λ k. take k (drop n bs)) (sym (length-drop n bs)) ∙ take-length (drop n bs)

pub behind_first : (b : ℕ) (bs : List ℕ) → take (length (b ∷ bs) - 1) (drop 1 (b ∷ bs)) ≡ bs
behind_first b bs = behind 1 (b ∷ bs)

passes : (more : ℕ) (bs : List ℕ) → text_after more bs ≡ text_after 0 (drop more bs)
passes zero [] = refl
passes zero (b ∷ bs) = refl
passes (suc more) [] = refl
passes (suc more) (b ∷ bs) = passes more bs

-- one turn of the loop
pub piece_more : (so now bs : List ℕ) (p : Piece) → 1 ≤ length bs → (get_or bs 0 0 ≡ double_quote → ⊥) → p ≡ piece (get_or bs 0 0) (take (length bs - 1) (drop 1 bs)) → now ≡ so ++ bytes_of p.meaning
    → now ++ text_after 0 (take (length (take (length bs - 1) (drop 1 bs)) - p.more) (drop p.more (take (length bs - 1) (drop 1 bs)))) ≡ so ++ text_after 0 bs
piece_more so now [] p long other is grown = absurd (omega arith)
piece_more so now (c ∷ bs) p long other is grown =
    let rest = behind_first c bs in
    let front : p ≡ piece c bs = is ∙ ap (piece c) rest in
    ap (λ l. now ++ text_after 0 l) (behind p.more (take (length (c ∷ bs) - 1) bs))
    ∙ ap (λ l. now ++ text_after 0 (drop p.more l)) rest
    ∙ ap (λ l. now ++ l) (sym (passes p.more bs))
    ∙ ap (λ l. l ++ text_after p.more bs) grown
    ∙ append_assoc so (bytes_of p.meaning) (text_after p.more bs)
    ∙ ap (λ q. so ++ (bytes_of q.meaning ++ text_after q.more bs)) front
    ∙ ap (λ t. so ++ cond t [] (bytes_of (piece c bs).meaning ++ text_after (piece c bs).more bs)) (sym (ne_eqb c double_quote other))
