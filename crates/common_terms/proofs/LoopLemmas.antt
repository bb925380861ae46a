-- Loops over lists of terms.
use Rattle.std.proofs.Common.{◌≡◌, Bool, List, ◌∷◌, Ok, Err, refl, ap, sym, subst, ◌∙◌, inl, inr}
use Rattle.std.specs.Prelude.{Result, IsOkAnd}
use Rattle.interface_opening.specs.Elements.{Term}
use Rattle.interface_opening.specs.Terms.{◌>>=◌, common, with_term, meet_one, meet_lists}
use Rattle.common_terms.specs.Comparing.{compared, AtCommon, AtOne, AtLists}

-- From a list and what was found a loop comes to what is left of the list, and to what was found then.
pub data Comes {I S F : Type 0} (act : I → S → Result S F) (first : List I) (began : S) : List I → S → Type 0 where
  begins : Comes act first began first began
  goes : (i : I) (rest : List I) (s t : S) → Comes act first began (i ∷ rest) s → act i s ≡ Ok t → Comes act first began rest t

module _ {T F : Type 0} (same_term : Term T → Term T → Bool) (covered : Term T → Term T → Result Bool F) where
  abbrev pub one_act : Term T → Term T → List (Term T) → Result (List (Term T)) F
  one_act x y found = compared same_term covered x y found

  abbrev pub lists_act : List (Term T) → Term T → List (Term T) → Result (List (Term T)) F
  lists_act ys x found = meet_one same_term covered x ys found

  bind_again : {Z S : Type 0} (r : Result Z F) (f : Z → S) (g : S → Result S F) → (r >>= λ z. g (f z)) ≡ ((r >>= λ z. Ok (f z)) >>= g)
  bind_again (Ok z) f g = refl
  bind_again (Err e) f g = refl

  module _ (x : Term T) where
    one_step : (y : Term T) (ys found : List (Term T)) → meet_one same_term covered x (y ∷ ys) found ≡ (compared same_term covered x y found >>= meet_one same_term covered x ys)
    one_step y ys found = bind_again (common same_term covered x y) (with_term same_term covered found) (meet_one same_term covered x ys)

    module _ (ys began : List (Term T)) where
      pub one_same : (items s : List (Term T)) → Comes (one_act x) ys began items s → meet_one same_term covered x ys began ≡ meet_one same_term covered x items s
      one_same items s begins = refl
      one_same items s (goes y rest r t was is) =
          one_same (y ∷ items) r was ∙ one_step y items r ∙ ap (λ a. a >>= meet_one same_term covered x items) is

      pub one_fails : (y : Term T) (rest s : List (Term T)) (f : F) → Comes (one_act x) ys began (y ∷ rest) s → compared same_term covered x y s ≡ Err f
          → meet_one same_term covered x ys began ≡ Err f
      one_fails y rest s f was is = one_same (y ∷ rest) s was ∙ one_step y rest s ∙ ap (λ a. a >>= meet_one same_term covered x rest) is

      module _ {X : Type 0} (needs : Term T → Term T → X → Type 0) where
        pub one_at : (items s : List (Term T)) → Comes (one_act x) ys began items s → (a : X) → AtOne same_term covered needs x items s a → AtOne same_term covered needs x ys began a
        one_at items s begins a held = held
        one_at items s (goes y rest r t was is) a held =
            one_at (y ∷ items) r was a (inr (subst (λ r. IsOkAnd r (λ more. AtOne same_term covered needs x items more a)) (sym is) held))

        pub one_here : (y : Term T) (rest s : List (Term T)) → Comes (one_act x) ys began (y ∷ rest) s → (a : X) → AtCommon same_term covered needs x y a
            → AtOne same_term covered needs x ys began a
        one_here y rest s was a held = one_at (y ∷ rest) s was a (inl held)

  module _ (ys : List (Term T)) (xs began : List (Term T)) where
    pub lists_same : (items s : List (Term T)) → Comes (lists_act ys) xs began items s → meet_lists same_term covered xs ys began ≡ meet_lists same_term covered items ys s
    lists_same items s begins = refl
    lists_same items s (goes x rest r t was is) = lists_same (x ∷ items) r was ∙ ap (λ a. a >>= meet_lists same_term covered items ys) is

    pub lists_fail : (x : Term T) (rest s : List (Term T)) (f : F) → Comes (lists_act ys) xs began (x ∷ rest) s → meet_one same_term covered x ys s ≡ Err f
        → meet_lists same_term covered xs ys began ≡ Err f
    lists_fail x rest s f was is = lists_same (x ∷ rest) s was ∙ ap (λ a. a >>= meet_lists same_term covered rest ys) is

    module _ {X : Type 0} (needs : Term T → Term T → X → Type 0) where
      pub lists_at : (items s : List (Term T)) → Comes (lists_act ys) xs began items s → (a : X) → AtLists same_term covered needs items ys s a
          → AtLists same_term covered needs xs ys began a
      lists_at items s begins a held = held
      lists_at items s (goes x rest r t was is) a held =
          lists_at (x ∷ items) r was a (inr (subst (λ r. IsOkAnd r (λ more. AtLists same_term covered needs items ys more a)) (sym is) held))

      pub lists_here : (x : Term T) (rest s : List (Term T)) → Comes (lists_act ys) xs began (x ∷ rest) s → (a : X) → AtOne same_term covered needs x ys s a
          → AtLists same_term covered needs xs ys began a
      lists_here x rest s was a held = lists_at (x ∷ rest) s was a (inl held)
