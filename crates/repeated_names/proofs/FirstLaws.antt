-- The first of places in two lists, and the later ones of two places.
use Rattle.std.proofs.Common.{◌≡◌, Bool, true, false, List, [], ◌∷◌, ◌++◌, Option, Some, None, refl, sym, ap, ◌∙◌, arith, option_map}
use Rattle.std.proofs.lemmas.Bool.Decides.{nat_tests}
use Rattle.source_places.specs.declared.places.Place.{Place}
use Rattle.source_places.specs.Places.{is_before}
use Rattle.repeated_names.specs.Firsts.{at_first, first_of_two, first}
use Rattle.repeated_names.specs.Repeats.{later}

-- ---- the order of places

never_itself : (a : Place) → is_before a a ≡ false
never_itself a = grind (arith, nat_tests)

not_both : (a b : Place) → is_before a b ≡ true → is_before b a ≡ false
not_both a b e = grind (arith, nat_tests)

on_and_on : (a b c : Place) → is_before b a ≡ true → is_before c b ≡ true → is_before c a ≡ true
on_and_on a b c e f = grind (arith, nat_tests)

behind_both : (a b c : Place) → is_before b a ≡ false → is_before c b ≡ false → is_before c a ≡ false
behind_both a b c e f = grind (arith, nat_tests)

-- what is before one that isn't behind the other
before_one : (a b c : Place) → is_before c a ≡ true → is_before b a ≡ false → is_before c b ≡ true
before_one a b c e f = grind (arith, nat_tests)

-- ---- joining

three : (p x y : Place) (b c : Bool) → is_before x p ≡ b → is_before y x ≡ c → at_first p (Some (at_first x (Some y))) ≡ at_first (at_first p (Some x)) (Some y)
three p x y true true e f = let k : is_before y p ≡ true = on_and_on p x y e f in rw (f, k, e, f) refl
three p x y true false e f = rw (f, e, f) refl
three p x y false true e f = rw (f, e) refl
three p x y false false e f = let k : is_before y p ≡ false = behind_both p x y e f in rw (f, e, k) refl

first_of_three : (p : Place) (a b : Option Place) → at_first p (first_of_two a b) ≡ at_first (at_first p a) b
first_of_three p None b = refl
first_of_three p (Some x) None = refl
first_of_three p (Some x) (Some y) = three p x y _ _ refl refl

pub first_append : (xs ys : List Place) → first (xs ++ ys) ≡ first_of_two (first xs) (first ys)
first_append [] ys = refl
first_append (x ∷ xs) ys = ap (λ k. Some (at_first x k)) (first_append xs ys) ∙ ap Some (first_of_three x (first xs) (first ys))

-- ---- the later one of a place and the first of two

later_two : (p y z : Place) (a b c : Bool) → is_before z y ≡ a → is_before p z ≡ b → is_before p y ≡ c → later p (at_first y (Some z)) ≡ at_first (later p y) (Some (later p z))
later_two p y z true true c e f g = let k : is_before p y ≡ true = on_and_on y z p e f in rw (e, f, k, e) refl
later_two p y z true false true e f g = rw (e, f, g, g) refl
later_two p y z true false false e f g = let k : is_before p p ≡ false = never_itself p in rw (e, f, g, k) refl
later_two p y z false true true e f g = rw (e, f, g, e) refl
later_two p y z false true false e f g = let k : is_before z p ≡ false = not_both p z f in rw (e, f, g, k) refl
later_two p y z false false true e f g = let k : is_before p z ≡ true = before_one y z p g e in absurd cc
later_two p y z false false false e f g = let k : is_before p p ≡ false = never_itself p in rw (e, f, g, k) refl

pub later_first : (p y : Place) (r : Option Place) → later p (at_first y r) ≡ at_first (later p y) (option_map (later p) r)
later_first p y None = refl
later_first p y (Some z) = later_two p y z _ _ _ refl refl refl

-- ---- joining what was found

pub first_none : (a : Option Place) → first_of_two a None ≡ a
first_none None = refl
first_none (Some x) = refl

pub joined_again : (a b c : Option Place) → first_of_two (first_of_two a b) c ≡ first_of_two a (first_of_two b c)
joined_again None b c = refl
joined_again (Some x) b c = sym (ap Some (first_of_three x b c))
