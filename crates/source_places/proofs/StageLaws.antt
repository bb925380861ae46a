-- One refusal at most, and one where a rule is broken.
use Rattle.std.proofs.Common.{◌≡◌, ◌⊎◌, inl, inr, ◌<◌, ◌≤◌, ℕ, zero, suc, List, [], ◌∷◌, Option, Some, None, refl, ap, subst, arith}
use Rattle.std.specs.List.{Contains}
use Rattle.source_places.specs.declared.places.Found.{Found}
use Rattle.source_places.specs.declared.stages.Refusal.{Refusal}
use Rattle.source_places.specs.Places.{least}
use Rattle.source_places.specs.Stages.{IsRefusal, AreKept}
use Rattle.source_places.proofs.LeastLaws.{none_least}

same_order : (m n : ℕ) → (m < n → ⊥) → (n < m → ⊥) → m ≡ n
same_order m n p q = omega (arith, p, q)

in_list : {K : Type 0} (P : K → Type 0) (x : K) (xs : List K) → P x → ((code : K) → Contains xs code → P code) → (code : K) → Contains (x ∷ xs) code → P code
in_list P x xs first rest code (zero, below, is) = subst P is first
in_list P x xs first rest code (suc k, below, is) = rest code (k, omega (arith, below), is)

module _ {K C : Type 0} (order : K → ℕ) where
  some_place : (places : K → List (Found C)) (code : K) (x : Found C) → places code ≡ [] → least (places code) ≡ Some x → ⊥
  some_place places code x none e = let f : least (places code) ≡ None = ap least none in absurd cc

  pub none_kept : (places : K → List (Found C)) (r : Refusal K C) → AreKept places → IsRefusal order places r → ⊥
  none_kept places r kept is = some_place places r.code r.found (kept r.code) is.place

  not_earlier : (places : K → List (Found C)) (r s : Refusal K C) → IsRefusal order places r → IsRefusal order places s → order r.code < order s.code → ⊥
  not_earlier places r s a b less = some_place places r.code r.found (b.earlier r.code less) a.place

  same_found : (places : K → List (Found C)) (c d : K) (x y : Found C) → c ≡ d → least (places c) ≡ Some x → least (places d) ≡ Some y → x ≡ y
  same_found places c d x y e p q = let k : least (places c) ≡ least (places d) = ap (λ z. least (places z)) e in cc

  both : (c d : K) (x y : Found C) (r s : Refusal K C) → r ≡ record { code = c; found = x } → s ≡ record { code = d; found = y } → c ≡ d → x ≡ y → r ≡ s
  both c d x y r s e f p q = cc

  pub one_refusal : ((a b : K) → order a ≡ order b → a ≡ b) → (places : K → List (Found C)) (r s : Refusal K C) → IsRefusal order places r → IsRefusal order places s → r ≡ s
  one_refusal distinct places r s a b =
      let code : r.code ≡ s.code = distinct r.code s.code (same_order (order r.code) (order s.code) (not_earlier places r s a b) (not_earlier places s r b a)) in
      both r.code s.code r.found s.found r s refl refl code (same_found places r.code s.code r.found s.found code a.place b.place)

  -- ---- some outcome

  -- of the codes in a list none that is earlier has a place, or this one is the first with a place
  pub data Among (places : K → List (Found C)) (codes : List K) : Type 0 where
    all_kept : ((code : K) → Contains codes code → places code ≡ []) → Among places codes
    refused : (r : Refusal K C) → ((code : K) → Contains codes code → order code < order r.code → places code ≡ []) → least (places r.code) ≡ Some r.found → Among places codes

  with_code : (places : K → List (Found C)) (x : K) (xs : List K) (found : Option (Found C)) → least (places x) ≡ found → Among places xs → Among places (x ∷ xs)
  with_code places x xs None none (all_kept h) = all_kept (in_list (λ code. places code ≡ []) x xs (none_least (places x) none) h)
  with_code places x xs None none (refused r h e) = refused r (in_list (λ code. order code < order r.code → places code ≡ []) x xs (λ less. none_least (places x) none) h) e
  with_code places x xs (Some y) is (all_kept h) = refused (record { code = x; found = y }) (in_list (λ code. order code < order x → places code ≡ []) x xs (λ less. absurd (omega (arith, less))) (λ code has less. h code has)) is
  with_code places x xs (Some y) is (refused r h e) = by_order (leq (order r.code) (order x))
    where
      leq : (m n : ℕ) → (m ≤ n) ⊎ (n < m)
      leq m n = grind arith

      by_order : (order r.code ≤ order x) ⊎ (order x < order r.code) → Among places (x ∷ xs)
      by_order (inl at_most) = refused r (in_list (λ code. order code < order r.code → places code ≡ []) x xs (λ less. absurd (omega (arith, less, at_most))) h) e
      by_order (inr less) = refused (record { code = x; found = y }) (in_list (λ code. order code < order x → places code ≡ []) x xs (λ own. absurd (omega (arith, own))) (λ code has below. h code has (omega (arith, below, less)))) is

  among : (places : K → List (Found C)) (codes : List K) → Among places codes
  among places [] = all_kept (λ code has. absurd (omega (arith, has.1)))
  among places (x ∷ xs) = with_code places x xs (least (places x)) refl (among places xs)

  pub outcome : (codes : List K) → ((code : K) → Contains codes code) → (places : K → List (Found C)) → AreKept places ⊎ ((r : Refusal K C) × IsRefusal order places r)
  outcome codes whole places = of_all (among places codes)
    where
      of_all : Among places codes → AreKept places ⊎ ((r : Refusal K C) × IsRefusal order places r)
      of_all (all_kept h) = inl (λ code. h code (whole code))
      of_all (refused r h e) = inr (r, record { earlier = λ code less. h code (whole code) less; place = e })
