-- What is listed and what is found.
use Rattle.std.proofs.Common.{◌≡◌, ◌<◌, ◌++◌, ℕ, zero, suc, Bool, true, false, cond, List, [], ◌∷◌, length, slice_index_or, Option, Some, None, refl, sym, ap, subst, ◌∙◌, arith, bytes_eq}
use Rattle.std.specs.Cmp.Lexicographic.{bytes_decides}
use Rattle.std.specs.List.{AllByRecursion, Contains}
use Rattle.universe_names.specs.declared.names.Predeclared.{Predeclared}
use Rattle.universe_names.specs.Universe.{Entry, standing_for, universe}

-- each of these is found among all
abbrev AreFound : List Entry → List Entry → Type 0
AreFound all es = AllByRecursion (λ e. standing_for e.name all ≡ Some e.meaning) es

found_at : (all es : List Entry) (k : ℕ) (e d : Entry) → AreFound all es → k < length es → slice_index_or es k d ≡ e → standing_for e.name all ≡ Some e.meaning
found_at all [] k e d h inside is = absurd (omega (arith, inside))
found_at all (x ∷ xs) zero e d h inside is = subst (λ y. standing_for y.name all ≡ Some y.meaning) is h.0
found_at all (x ∷ xs) (suc k) e d h inside is = found_at all xs k e d h.1 (omega (arith, inside)) is

all_found : AreFound universe universe
all_found = (refl, (refl, (refl, (refl, (refl, (refl, (refl, (refl, (refl, (refl, (refl, (refl, (refl, (refl, (refl, (refl, (refl, (refl, (refl, (refl, (refl, (refl, (refl, (refl, (refl, (refl, tt))))))))))))))))))))))))))

pub each : (e : Entry) → Contains universe e → standing_for e.name universe ≡ Some e.meaning
each e (k, inside, is) = found_at universe universe k e e all_found inside is

same_meaning : (a b : Predeclared) → Some a ≡ Some b → a ≡ b
same_meaning a b e = cc

as_entry : (e : Entry) (name : List ℕ) (meaning : Predeclared) → name ≡ e.name → e.meaning ≡ meaning → e ≡ record { name = name; meaning = meaning }
as_entry e name meaning p q = ap (λ n. record { name = n; meaning = e.meaning }) (sym p) ∙ ap (λ m. record { name = name; meaning = m }) q

behind : (x y : Entry) (xs : List Entry) → Contains xs y → Contains (x ∷ xs) y
behind x y xs (k, inside, is) = (suc k, omega (arith, inside), is)

by_test : (name : List ℕ) (meaning : Predeclared) (e : Entry) (es : List Entry) (b : Bool) → bytes_eq name e.name ≡ b → (standing_for name es ≡ Some meaning → Contains es (record { name = name; meaning = meaning }))
    → cond b (Some e.meaning) (standing_for name es) ≡ Some meaning → Contains (e ∷ es) (record { name = name; meaning = meaning })
by_test name meaning e es true t rest is = (zero, omega arith, as_entry e name meaning ((bytes_decides name e.name).0 t) (same_meaning e.meaning meaning is))
by_test name meaning e es false t rest is = behind e (record { name = name; meaning = meaning }) es (rest is)

found_among : (es : List Entry) (name : List ℕ) (meaning : Predeclared) → standing_for name es ≡ Some meaning → Contains es (record { name = name; meaning = meaning })
found_among [] name meaning is = absurd cc
found_among (e ∷ es) name meaning is = by_test name meaning e es (bytes_eq name e.name) refl (found_among es name meaning) is

pub only : (name : List ℕ) (meaning : Predeclared) → standing_for name universe ≡ Some meaning → Contains universe (record { name = name; meaning = meaning })
only name meaning is = found_among universe name meaning is

-- ---- two lists

some_meaning : (m : Predeclared) (r : Option Predeclared) (b : Bool) → cond b (Some m) r ≡ None → (b ≡ false) × (r ≡ None)
some_meaning m r true is = absurd cc
some_meaning m r false is = (refl, is)

pub found_behind : (name : List ℕ) (xs ys : List Entry) → standing_for name xs ≡ None → standing_for name (xs ++ ys) ≡ standing_for name ys
found_behind name [] ys none = refl
found_behind name (x ∷ xs) ys none =
    let h = some_meaning x.meaning (standing_for name xs) (bytes_eq name x.name) none in
    ap (λ b. cond b (Some x.meaning) (standing_for name (xs ++ ys))) h.0 ∙ found_behind name xs ys h.1

here_or_behind : (m x : Predeclared) (r s : Option Predeclared) (b : Bool) → (r ≡ Some m → s ≡ Some m) → cond b (Some x) r ≡ Some m → cond b (Some x) s ≡ Some m
here_or_behind m x r s true f is = is
here_or_behind m x r s false f is = f is

pub found_first : (name : List ℕ) (xs ys : List Entry) (m : Predeclared) → standing_for name xs ≡ Some m → standing_for name (xs ++ ys) ≡ Some m
found_first name [] ys m is = absurd cc
found_first name (x ∷ xs) ys m is = here_or_behind m x.meaning (standing_for name xs) (standing_for name (xs ++ ys)) (bytes_eq name x.name) (found_first name xs ys m) is
