-- Where the text of a source may be cut.
use Rattle.std.proofs.Common.{◌≡◌, ◌<◌, ℕ, Bool, true, false, not, List, length, get_or, ap, refl, arith}
use borrow.Author.Tests.{true-eqb}
use Rattle.std.proofs.lemmas.List.Sums.{prefix_len-le-length, prefix_len_stops}
use Rattle.std.specs.List.{position_or_len}
use Rattle.std.specs.Str.{IsCharBoundary}
use Rattle.go_lexer.specs.Source.{is_nul}

not_false : (b : Bool) → not b ≡ false → true ≡ b
not_false true h = refl
not_false false h = h

pub nul_boundary : (xs : List ℕ) (place : ℕ) → place ≡ position_or_len is_nul xs → IsCharBoundary xs place
nul_boundary xs place e =
    let most = prefix_len-le-length (λ (x : ℕ). not (is_nul x)) xs in (
      omega (arith, most),
      λ some high.
          let here : position_or_len is_nul xs < length xs = omega arith in
          let nul : get_or xs (position_or_len is_nul xs) 0 ≡ 0 = true-eqb _ 0 (not_false (is_nul (get_or xs (position_or_len is_nul xs) 0)) (prefix_len_stops (λ (x : ℕ). not (is_nul x)) xs 0 here)) in
          let same : get_or xs place 0 ≡ get_or xs (position_or_len is_nul xs) 0 = ap (λ n. get_or xs n 0) e in
          absurd (omega arith),
    )
