-- Where no name is repeated, no two are equal.
use Rattle.std.proofs.Common.{◌≡◌, ◌≢◌, Bool, true, false, cond, List, [], ◌∷◌, ◌++◌, refl, ap, ◌∙◌, bytes_eq}
use Rattle.std.specs.List.{AllByRecursion}
use Rattle.std.specs.Cmp.Lexicographic.{bytes_decides}
use Rattle.source_places.specs.declared.places.Place.{Place}
use Rattle.repeated_names.specs.Names.{Named}
use Rattle.repeated_names.specs.Repeats.{later, equal_to, repeats, AllDiffer}

both_empty : (xs ys : List Place) → xs ++ ys ≡ [] → (xs ≡ []) × (ys ≡ [])
both_empty [] ys e = (refl, e)
both_empty (x ∷ xs) ys e = absurd cc

empty_both : (xs ys : List Place) → xs ≡ [] → ys ≡ [] → xs ++ ys ≡ []
empty_both xs ys e f = ap (λ k. k ++ ys) e ∙ f

none_equal : (x y : Named) (rest : List Place) (b : Bool) → bytes_eq x.text y.text ≡ b → cond b (later x.place y.place ∷ rest) rest ≡ [] → (x.text ≢ y.text) × (rest ≡ [])
none_equal x y rest true e f = absurd cc
none_equal x y rest false e f = (λ same. let t : bytes_eq x.text y.text ≡ true = (bytes_decides x.text y.text).1 same in absurd cc, f)

equal_none : (x y : Named) (rest : List Place) (b : Bool) → bytes_eq x.text y.text ≡ b → x.text ≢ y.text → rest ≡ [] → cond b (later x.place y.place ∷ rest) rest ≡ []
equal_none x y rest true e differ f = absurd (differ ((bytes_decides x.text y.text).0 e))
equal_none x y rest false e differ f = f

no_equal : (x : Named) (ys : List Named) → equal_to x ys ≡ [] → AllByRecursion (λ y. x.text ≢ y.text) ys
no_equal x [] e = tt
no_equal x (y ∷ ys) e = let h = none_equal x y (equal_to x ys) (bytes_eq x.text y.text) refl e in (h.0, no_equal x ys h.1)

not_equal : (x : Named) (ys : List Named) → AllByRecursion (λ y. x.text ≢ y.text) ys → equal_to x ys ≡ []
not_equal x [] h = refl
not_equal x (y ∷ ys) h = equal_none x y (equal_to x ys) (bytes_eq x.text y.text) refl h.0 (not_equal x ys h.1)

pub differ : (names : List Named) → repeats names ≡ [] → AllDiffer names
differ [] e = tt
differ (x ∷ xs) e = let h = both_empty (equal_to x xs) (repeats xs) e in (no_equal x xs h.0, differ xs h.1)

pub none : (names : List Named) → AllDiffer names → repeats names ≡ []
none [] h = refl
none (x ∷ xs) h = empty_both (equal_to x xs) (repeats xs) (not_equal x xs h.0) (none xs h.1)
