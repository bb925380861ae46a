-- Runs of characters of a class.
use Rattle.std.proofs.Common.{◌≡◌, ℕ, Bool, true, false, cond, List, [], ◌∷◌, ◌++◌, ap, ◌∙◌, refl}
use Rattle.go_lexer.specs.Characters.{front_while, after_while}
use Rattle.go_lexer.specs.Grammar.{Each, Ends}

each_by : (p : ℕ → Bool) (b : Bool) (c : ℕ) (cs : List ℕ) → p c ≡ b → Each p (front_while p cs) → Each p (cond b (c ∷ front_while p cs) [])
each_by p true c cs e h = (e, h)
each_by p false c cs e h = tt

pub each_front : (p : ℕ → Bool) (cs : List ℕ) → Each p (front_while p cs)
each_front p [] = tt
each_front p (c ∷ cs) = each_by p (p c) c cs refl (each_front p cs)

ends_by : (p : ℕ → Bool) (b : Bool) (c : ℕ) (cs : List ℕ) → p c ≡ b → Ends p (after_while p cs) → Ends p (cond b (after_while p cs) (c ∷ cs))
ends_by p true c cs e h = h
ends_by p false c cs e h = e

pub ends_after : (p : ℕ → Bool) (cs : List ℕ) → Ends p (after_while p cs)
ends_after p [] = tt
ends_after p (c ∷ cs) = ends_by p (p c) c cs refl (ends_after p cs)

after_none : (p : ℕ → Bool) (rest : List ℕ) → Ends p rest → after_while p rest ≡ rest
after_none p [] e = refl
after_none p (c ∷ cs) e = ap (λ b. cond b (after_while p cs) (c ∷ cs)) e

front_none : (p : ℕ → Bool) (rest : List ℕ) → Ends p rest → front_while p rest ≡ []
front_none p [] e = refl
front_none p (c ∷ cs) e = ap (λ b. cond b (c ∷ front_while p cs) []) e

pub after_again : (p : ℕ → Bool) (front rest : List ℕ) → Each p front → Ends p rest → after_while p (front ++ rest) ≡ rest
after_again p [] rest h e = after_none p rest e
after_again p (c ∷ cs) rest h e = ap (λ b. cond b (after_while p (cs ++ rest)) (c ∷ (cs ++ rest))) h.0 ∙ after_again p cs rest h.1 e

pub front_again : (p : ℕ → Bool) (front rest : List ℕ) → Each p front → Ends p rest → front_while p (front ++ rest) ≡ front
front_again p [] rest h e = front_none p rest e
front_again p (c ∷ cs) rest h e = ap (λ b. cond b (c ∷ front_while p (cs ++ rest)) []) h.0 ∙ ap (λ l. c ∷ l) (front_again p cs rest h.1 e)
