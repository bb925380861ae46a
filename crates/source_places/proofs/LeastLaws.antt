-- The least place: it is the first that is listed of those before which none stands.
use Rattle.std.proofs.Common.{◌≡◌, Bool, true, false, cond, List, [], ◌∷◌, ◌++◌, Option, Some, None, refl, sym, ap, subst, ◌∙◌, arith}
use Rattle.std.specs.List.{AllByRecursion}
use Rattle.std.proofs.lemmas.Bool.Decides.{nat_tests}
use Rattle.source_places.specs.declared.places.Place.{Place}
use Rattle.source_places.specs.declared.places.Found.{Found}
use Rattle.source_places.specs.Places.{is_before, earlier, least, IsLeast}

-- ---- the order of places

not_both : (a b : Place) → is_before a b ≡ true → is_before b a ≡ false
not_both a b e = grind (arith, nat_tests)

on_and_on : (a b c : Place) → is_before b a ≡ true → is_before c b ≡ true → is_before c a ≡ true
on_and_on a b c e f = grind (arith, nat_tests)

behind_both : (a b c : Place) → is_before b a ≡ false → is_before c b ≡ false → is_before c a ≡ false
behind_both a b c e f = grind (arith, nat_tests)

-- what is before one that isn't behind the other
before_one : (a b c : Place) → is_before c a ≡ true → is_before b a ≡ false → is_before c b ≡ true
before_one a b c e f = grind (arith, nat_tests)

module _ {C : Type 0} where
  pub earlier_none : (a : Option (Found C)) → earlier a None ≡ a
  earlier_none None = refl
  earlier_none (Some a) = refl

  three : (a b c : Found C) (p q r : Bool) → is_before b.place a.place ≡ p → is_before c.place b.place ≡ q → is_before c.place a.place ≡ r
      → earlier (earlier (Some a) (Some b)) (Some c) ≡ earlier (Some a) (earlier (Some b) (Some c))
  three a b c true true r e f g = let k : is_before c.place a.place ≡ true = on_and_on a.place b.place c.place e f in rw (e, f, k) refl
  three a b c true false r e f g = rw (e, f, e) refl
  three a b c false true r e f g = rw (e, f) refl
  three a b c false false r e f g = let k : is_before c.place a.place ≡ false = behind_both a.place b.place c.place e f in rw (e, f, e, k) refl

  pub earlier_assoc : (a b c : Option (Found C)) → earlier (earlier a b) c ≡ earlier a (earlier b c)
  earlier_assoc None b c = refl
  earlier_assoc (Some a) None c = refl
  earlier_assoc (Some a) (Some b) None = earlier_none _
  earlier_assoc (Some a) (Some b) (Some c) = three a b c _ _ _ refl refl refl

  pub least_append : (xs ys : List (Found C)) → least (xs ++ ys) ≡ earlier (least xs) (least ys)
  least_append [] ys = refl
  least_append (x ∷ xs) ys = ap (earlier (Some x)) (least_append xs ys) ∙ sym (earlier_assoc (Some x) (least xs) (least ys))

  -- ---- what is least

  pub none_least : (xs : List (Found C)) → least xs ≡ None → xs ≡ []
  none_least [] e = refl
  none_least (x ∷ xs) e = absurd (some_of x (least xs) e)
    where
      some_of : (x : Found C) (r : Option (Found C)) → earlier (Some x) r ≡ None → ⊥
      some_of x None e = absurd cc
      some_of x (Some y) e = by_test x y (is_before y.place x.place) e
        where
          by_test : (x y : Found C) (p : Bool) → cond p (Some y) (Some x) ≡ None → ⊥
          by_test x y true e = absurd cc
          by_test x y false e = absurd cc

  -- none of them stands before
  Behind : Found C → List (Found C) → Type 0
  Behind x xs = AllByRecursion (λ y. is_before y.place x.place ≡ false) xs

  still_behind : (x z : Found C) (ys : List (Found C)) → is_before z.place x.place ≡ false → AllByRecursion (λ y. is_before y.place z.place ≡ false) ys → AllByRecursion (λ y. is_before y.place x.place ≡ false) ys
  still_behind x z [] e h = tt
  still_behind x z (y ∷ ys) e h = (behind_both x.place z.place y.place e h.0, still_behind x z ys e h.1)

  passed_behind : (x z : Found C) (ys : List (Found C)) → is_before z.place x.place ≡ false → AllByRecursion (λ y. is_before z.place y.place ≡ true) ys → AllByRecursion (λ y. is_before y.place x.place ≡ false) ys
  passed_behind x z [] e h = tt
  passed_behind x z (y ∷ ys) e h = (behind_both x.place z.place y.place e (not_both z.place y.place h.0), passed_behind x z ys e h.1)

  all_append : (P : Found C → Type 0) (xs ys : List (Found C)) → AllByRecursion P xs → AllByRecursion P ys → AllByRecursion P (xs ++ ys)
  all_append P [] ys h g = g
  all_append P (x ∷ xs) ys h g = (h.0, all_append P xs ys h.1 g)

  some_is : (a b : Found C) → Some a ≡ Some b → a ≡ b
  some_is a b e = cc

  by_test : (y : Found C) (ys : List (Found C)) (x z : Found C) → IsLeast ys z → (p : Bool) → is_before z.place y.place ≡ p → cond p (Some z) (Some y) ≡ Some x → IsLeast (y ∷ ys) x
  by_test y ys x z l true t e = subst (λ w. IsLeast (y ∷ ys) w) (some_is z x e) (record { front = y ∷ l.front; rest = l.rest; split = ap (λ k. y ∷ k) l.split; passed = (t, l.passed); first = l.first })
  by_test y ys x z l false t e = subst (λ w. IsLeast (y ∷ ys) w) (some_is y x e) (record { front = []; rest = ys; split = refl; passed = tt; first = subst (λ k. AllByRecursion (λ w. is_before w.place y.place ≡ false) k) (sym l.split) (all_append _ l.front (z ∷ l.rest) (passed_behind y z l.front t l.passed) (t, still_behind y z l.rest t l.first)) })

  with_first : (y : Found C) (ys : List (Found C)) (x : Found C) → ((z : Found C) → least ys ≡ Some z → IsLeast ys z) → (r : Option (Found C)) → least ys ≡ r → earlier (Some y) r ≡ Some x → IsLeast (y ∷ ys) x
  with_first y ys x rest None none e = let same : y ≡ x = some_is y x e in let nothing : ys ≡ [] = none_least ys none in
      subst (λ z. IsLeast (y ∷ ys) z) same (subst (λ l. IsLeast (y ∷ l) y) (sym nothing) (record { front = []; rest = []; split = refl; passed = tt; first = tt }))
  with_first y ys x rest (Some z) is e = by_test y ys x z (rest z is) (is_before z.place y.place) refl e

  pub is_least : (xs : List (Found C)) (x : Found C) → least xs ≡ Some x → IsLeast xs x
  is_least [] x e = absurd cc
  is_least (y ∷ ys) x e = with_first y ys x (λ z. is_least ys z) (least ys) refl e

  -- ---- and back

  least_behind : (x : Found C) (ys : List (Found C)) → AllByRecursion (λ y. is_before y.place x.place ≡ false) ys → earlier (Some x) (least ys) ≡ Some x
  least_behind x [] h = refl
  least_behind x (y ∷ ys) h = sym (earlier_assoc (Some x) (Some y) (least ys)) ∙ ap (λ w. earlier w (least ys)) (kept x y h.0) ∙ least_behind x ys h.1
    where
      kept : (x y : Found C) → is_before y.place x.place ≡ false → earlier (Some x) (Some y) ≡ Some x
      kept x y e = rw e refl

  least_passed : (x : Found C) (front rest : List (Found C)) → AllByRecursion (λ y. is_before x.place y.place ≡ true) front → least rest ≡ Some x → least (front ++ rest) ≡ Some x
  least_passed x [] rest h e = e
  least_passed x (y ∷ ys) rest h e = ap (earlier (Some y)) (least_passed x ys rest h.1 e) ∙ taken x y h.0
    where
      taken : (x y : Found C) → is_before x.place y.place ≡ true → earlier (Some y) (Some x) ≡ Some x
      taken x y e = rw e refl

  pub least_is : (xs : List (Found C)) (x : Found C) → IsLeast xs x → least xs ≡ Some x
  least_is xs x l = ap least l.split ∙ least_passed x l.front (x ∷ l.rest) l.passed (least_behind x l.rest l.first)
