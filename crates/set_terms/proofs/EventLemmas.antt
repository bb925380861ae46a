-- The loop over events, whatever stands for types.
use Rattle.std.proofs.Common.{◌≡◌, Bool, List, [], ◌∷◌, Ok, Err, refl, ap, sym, subst, ◌∙◌, inl, inr}
use Rattle.std.specs.Prelude.{Result, IsOkAnd}
use Rattle.interface_opening.specs.Elements.{Term, Event, has_term, has_interface, ends_element}
use Rattle.interface_opening.specs.Terms.{Sum, ◌>>=◌, meet, with_whole, sum_of, put_sum, happens, all_happen, terms_of}
use Rattle.common_terms.proofs.LoopLemmas.{Comes, begins, goes}
use Rattle.set_terms.specs.Needed.{changed, AtEvent, AtEvents}

bind_again : {F X Y Z : Type 0} (r : Result X F) (f : X → Y) (g : Y → Z) → (r >>= λ c. Ok (g (f c))) ≡ ((r >>= λ c. Ok (f c)) >>= λ s. Ok (g s))
bind_again (Ok x) f g = refl
bind_again (Err e) f g = refl

module _ {T F : Type 0} (same : T → T → Bool) (same_term : Term T → Term T → Bool) (covered : Term T → Term T → Result Bool F) where
  abbrev pub act : Event T → List (Sum T) → Result (List (Sum T)) F
  act = happens same same_term covered

  abbrev pub change : List (Sum T) → Event T → Result (Sum T) F
  change sums event = changed same same_term covered (sum_of same same_term covered sums) (λ x. x) event

  happens_by : (event : Event T) (sums : List (Sum T)) → act event sums ≡ (change sums event >>= λ s. Ok (put_sum same same_term covered sums s))
  happens_by (has_term holder x) sums = refl
  happens_by (has_interface holder of) sums = refl
  happens_by (ends_element holder) sums =
      bind_again (meet same_term covered (sum_of same same_term covered sums holder).whole (sum_of same same_term covered sums holder).union)
      (with_whole same same_term covered (sum_of same same_term covered sums holder)) (put_sum same same_term covered sums)

  module _ (began : List (Event T)) where
    abbrev pub Coming : List (Event T) → List (Sum T) → Type 0
    Coming rest sums = Comes act began [] rest sums

    all_same : (items : List (Event T)) (s : List (Sum T)) → Coming items s → all_happen same same_term covered began [] ≡ all_happen same same_term covered items s
    all_same items s begins = refl
    all_same items s (goes event rest r t was is) = all_same (event ∷ items) r was ∙ ap (λ a. a >>= all_happen same same_term covered items) is

    module _ (event : Event T) (rest : List (Event T)) (s : List (Sum T)) (comes : Coming (event ∷ rest) s) where
      pub events_go : (sum : Sum T) → change s event ≡ Ok sum → Coming rest (put_sum same same_term covered s sum)
      events_go sum is = goes event rest s (put_sum same same_term covered s sum) comes (happens_by event s ∙ ap (λ r. r >>= λ s'. Ok (put_sum same same_term covered s s')) is)

      pub events_fail : (f : F) → change s event ≡ Err f → (x : T) → terms_of same same_term covered began x ≡ Err f
      events_fail f is x =
          let fails : act event s ≡ Err f = happens_by event s ∙ ap (λ r. r >>= λ s'. Ok (put_sum same same_term covered s s')) is in
          ap (λ r. r >>= λ sums. Ok (sum_of same same_term covered sums x).union)
          (all_same (event ∷ rest) s comes ∙ ap (λ a. a >>= all_happen same same_term covered rest) fails)

    pub events_end : (s : List (Sum T)) → Coming [] s → (x : T) → terms_of same same_term covered began x ≡ Ok (sum_of same same_term covered s x).union
    events_end s comes x = ap (λ r. r >>= λ sums. Ok (sum_of same same_term covered sums x).union) (all_same [] s comes)

    module _ {X : Type 0} (needs : Term T → Term T → X → Type 0) where
      events_at : (items : List (Event T)) (s : List (Sum T)) → Coming items s → (a : X) → AtEvents same_term covered needs same items s a → AtEvents same_term covered needs same began [] a
      events_at items s begins a held = held
      events_at items s (goes event rest r t was is) a held =
          events_at (event ∷ items) r was a (inr (subst (λ r. IsOkAnd r (λ more. AtEvents same_term covered needs same items more a)) (sym is) held))

      pub events_here : (event : Event T) (rest : List (Event T)) (s : List (Sum T)) → Coming (event ∷ rest) s → (a : X)
          → AtEvent same_term covered needs (sum_of same same_term covered s) event a → AtEvents same_term covered needs same began [] a
      events_here event rest s comes a held = events_at (event ∷ rest) s comes a (inl held)
