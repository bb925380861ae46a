-- The longest mark is read.
use Rattle.std.proofs.Common.{◌≡◌, ℕ, true, false, List, [], ◌∷◌, length, sym, ◌∙◌, refl, subst, arith}
use Rattle.go_lexer.specs.Characters.{split}
use Rattle.go_lexer.specs.Marks.{is_single, is_pair, is_triple}
use Rattle.go_lexer.specs.Front.{mark_one, mark_two, mark}
use Rattle.go_lexer.specs.Grammar.{IsMark, IsLongest, BeginsComment, BeginsNumber, mark_owes, IsPiece}
use Rattle.go_lexer.specs.Grammar as grammar
use Rattle.go_lexer.specs.declared.pieces.Breach.TheVariants.{BadChar}
use Rattle.go_lexer.specs.FaultGrammar.{IsBreach}
use Rattle.go_lexer.proofs.Taken.{Stands, if_stands}

abbrev pub NoPair : List ℕ → Type 0
NoPair (a ∷ b ∷ cs) = is_pair a b ≡ false
NoPair _ = Unit {0}

abbrev pub NoTriple : List ℕ → Type 0
NoTriple (a ∷ b ∷ c ∷ cs) = is_triple a b c ≡ false
NoTriple _ = Unit {0}

-- no mark has more than three characters
longest_three : (text cs : List ℕ) → length text ≡ 3 → IsLongest text cs
longest_three text cs l (a ∷ []) rest m e = omega arith
longest_three text cs l (a ∷ b ∷ []) rest m e = omega arith
longest_three text cs l (a ∷ b ∷ c ∷ []) rest m e = omega arith
longest_three text cs l [] rest m e = absurd m
longest_three text cs l (a ∷ b ∷ c ∷ d ∷ more) rest m e = absurd m

longest_two : (text cs : List ℕ) → length text ≡ 2 → NoTriple cs → IsLongest text cs
longest_two text cs l n (a ∷ []) rest m e = omega arith
longest_two text cs l n (a ∷ b ∷ []) rest m e = omega arith
longest_two text cs l n (a ∷ b ∷ c ∷ []) rest m e = let h : is_triple a b c ≡ false = subst NoTriple e n in (let k : true ≡ false = sym m ∙ h in cc)
longest_two text cs l n [] rest m e = absurd m
longest_two text cs l n (a ∷ b ∷ c ∷ d ∷ more) rest m e = absurd m

longest_one : (text cs : List ℕ) → length text ≡ 1 → NoPair cs → NoTriple cs → IsLongest text cs
longest_one text cs l p n (a ∷ []) rest m e = omega arith
longest_one text cs l p n (a ∷ b ∷ []) rest m e = let h : is_pair a b ≡ false = subst NoPair e p in (let k : true ≡ false = sym m ∙ h in cc)
longest_one text cs l p n (a ∷ b ∷ c ∷ []) rest m e = let h : is_triple a b c ≡ false = subst NoTriple e n in (let k : true ≡ false = sym m ∙ h in cc)
longest_one text cs l p n [] rest m e = absurd m
longest_one text cs l p n (a ∷ b ∷ c ∷ d ∷ more) rest m e = absurd m

abbrev Never : Type 0 → Type 0
Never P = P → ⊥

module _ (start : List ℕ) (a : ℕ) where
  one_stands : (after : List ℕ) → (is_single a ≡ false → IsBreach (a ∷ after) BadChar start) → NoPair (a ∷ after) → NoTriple (a ∷ after) → Never (BeginsComment (a ∷ after)) → Never (BeginsNumber (a ∷ after)) → Stands (a ∷ after) (mark_one start a after)
  one_stands after bad p n nc nn = if_stands (a ∷ after) (is_single a) _ _ (λ m. grammar.mark (a ∷ []) after m (longest_one (a ∷ []) (a ∷ after) refl p n) nc nn) bad

  two_stands : (after : List ℕ) → (is_single a ≡ false → IsBreach (a ∷ after) BadChar start) → NoTriple (a ∷ after) → Never (BeginsComment (a ∷ after)) → Never (BeginsNumber (a ∷ after)) → Stands (a ∷ after) (mark_two start a after (split after))
  two_stands [] bad n nc nn = one_stands [] bad tt n nc nn
  two_stands (b ∷ rest) bad n nc nn =
      if_stands (a ∷ b ∷ rest) (is_pair a b) _ _ (λ m. grammar.mark (a ∷ b ∷ []) rest m (longest_two (a ∷ b ∷ []) (a ∷ b ∷ rest) refl n) nc nn)
      (λ p. one_stands (b ∷ rest) bad p n nc nn)

  pub mark_stands : (after : List ℕ) → (is_single a ≡ false → IsBreach (a ∷ after) BadChar start) → (BeginsComment (a ∷ after) → ⊥) → (BeginsNumber (a ∷ after) → ⊥) → Stands (a ∷ after) (mark start a after)
  mark_stands [] bad nc nn = one_stands [] bad tt tt nc nn
  mark_stands (b ∷ []) bad nc nn = two_stands (b ∷ []) bad tt nc nn
  mark_stands (b ∷ c ∷ rest) bad nc nn =
      if_stands (a ∷ b ∷ c ∷ rest) (is_triple a b c) _ _ (λ m. grammar.mark (a ∷ b ∷ c ∷ []) rest m (longest_three (a ∷ b ∷ c ∷ []) (a ∷ b ∷ c ∷ rest) refl) nc nn)
      (λ n. two_stands (b ∷ c ∷ rest) bad n nc nn)
