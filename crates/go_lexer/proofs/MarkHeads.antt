-- The first characters of longer marks are marks themselves.
use Rattle.std.proofs.Common.{◌≡◌, ℕ, Bool, true, false, ◌&&◌, ◌||◌, nat_eq, List, [], ◌∷◌, sym, ◌∙◌, refl, subst}
use borrow.Author.Tests.{true-eqb}
use Rattle.std.specs.List.{list_any}
use Rattle.std.specs.Cmp.Lexicographic.{pointwise}
use Rattle.go_lexer.specs.Marks.{pair_marks, triple_marks, is_single, is_pair, is_triple}
use Rattle.go_lexer.proofs.Letters.{both}

abbrev head_single : List ℕ → Bool
head_single [] = false
head_single (c ∷ cs) = is_single c

abbrev heads : List (List ℕ) → Bool
heads [] = true
heads (m ∷ ms) = head_single m && heads ms

head_by : (a : ℕ) (cs m : List ℕ) (b : Bool) → pointwise nat_eq m (a ∷ cs) ≡ b → b ≡ true → head_single m ≡ true → is_single a ≡ true
head_by a cs [] b e t h = cc
head_by a cs (c ∷ m) b e t h = subst (λ x. is_single x ≡ true) (true-eqb c a (sym (both (nat_eq c a) (pointwise nat_eq m cs) (e ∙ t)).0)) h

any_by : (a : ℕ) (cs m : List ℕ) (b rest : Bool) → pointwise nat_eq m (a ∷ cs) ≡ b → (b || rest) ≡ true → head_single m ≡ true → (rest ≡ true → is_single a ≡ true) → is_single a ≡ true
any_by a cs m true rest e t h f = head_by a cs m true e refl h
any_by a cs m false rest e t h f = f t

any_head : (a : ℕ) (cs : List ℕ) (ms : List (List ℕ)) → list_any (λ (m : List ℕ). pointwise nat_eq m (a ∷ cs)) ms ≡ true → heads ms ≡ true → is_single a ≡ true
any_head a cs [] e h = cc
any_head a cs (m ∷ ms) e h =
    any_by a cs m (pointwise nat_eq m (a ∷ cs)) (list_any (λ (m : List ℕ). pointwise nat_eq m (a ∷ cs)) ms) refl e (both (head_single m) (heads ms) h).0
    (λ t. any_head a cs ms t (both (head_single m) (heads ms) h).1)

pub pair_single : (a b : ℕ) → is_pair a b ≡ true → is_single a ≡ true
pair_single a b h = any_head a (b ∷ []) pair_marks h refl

pub triple_single : (a b c : ℕ) → is_triple a b c ≡ true → is_single a ≡ true
triple_single a b c h = any_head a (b ∷ c ∷ []) triple_marks h refl
