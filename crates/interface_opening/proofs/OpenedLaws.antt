-- Instances of what each opening keeps: that none is opened twice, how many are, and what they have.
use Rattle.std.proofs.Common.{◌≡◌, ◌≢◌, ℕ, zero, suc, ◌+◌, ◌<◌, ◌≤◌, List, [], ◌∷◌, ◌++◌, length, Bool, true, false, ◌||◌, Ok, Some, refl, sym, ap, subst, ◌∙◌, arith, append_assoc, length-append, get_or}
use Rattle.std.specs.List.{AllPairs, AllZip, list_any, flat_map}
use Rattle.std.proofs.lemmas.List.{append-nil}
use Rattle.std.proofs.lemmas.List.Quantifiers.{all_pairs_push}
use Rattle.interface_opening.specs.Elements.{Interface, Opened, Looks}
use Rattle.interface_opening.specs.Opening.{Item, has, opened_with, opening, none_opened}
use Rattle.interface_opening.specs.Having.{HasAll}
use Rattle.interface_opening.proofs.OpeningLemmas.{IsSame, opening_keeps}

-- ---- lists

pub or_first : (a b : Bool) → a ≡ true → (a || b) ≡ true
or_first true b e = refl
or_first false b e = absurd cc

pub or_later : (a b : Bool) → b ≡ true → (a || b) ≡ true
or_later true b e = refl
or_later false b e = e

module _ {T : Type 0} (same : T → T → Bool) (reflexive : (a : T) → same a a ≡ true) where
  pub is_there : (x d : T) (xs : List T) (k : ℕ) → k < length xs → x ≡ get_or xs k d → list_any (same x) xs ≡ true
  is_there x d [] k below is = absurd (omega (arith, below))
  is_there x d (y ∷ ys) zero below is = or_first (same x y) (list_any (same x) ys) (subst (λ (z : T). same x z ≡ true) is (reflexive x))
  is_there x d (y ∷ ys) (suc k) below is = or_later (same x y) (list_any (same x) ys) (is_there x d ys k (omega (arith, below)) is)

  once_more : (xs : List T) (x : T) → list_any (same x) xs ≡ false → AllPairs (λ a b. a ≢ b) xs → AllPairs (λ a b. a ≢ b) (xs ++ x ∷ [])
  once_more xs x new once = all_pairs_push (λ a b. a ≢ b) xs x once (λ k d below is. absurd (differs (sym (is_there x d xs k below (sym is)) ∙ new)))
    where
      differs : true ≡ false → ⊥
      differs e = absurd cc

pub any_last : {X : Type 0} (test : X → Bool) (xs : List X) (x : X) → list_any test (xs ++ x ∷ []) ≡ (list_any test xs || test x)
any_last test [] x = or_false (test x)
  where
    or_false : (b : Bool) → (b || false) ≡ b
    or_false true = refl
    or_false false = refl
any_last test (y ∷ ys) x = ap (λ (b : Bool). test y || b) (any_last test ys x) ∙ regroup (test y) (list_any test ys) (test x)
  where
    regroup : (a b c : Bool) → (a || (b || c)) ≡ ((a || b) || c)
    regroup true b c = refl
    regroup false b c = refl

flat_last : {X Y : Type 0} (f : X → List Y) (xs : List X) (x : X) → flat_map f (xs ++ x ∷ []) ≡ flat_map f xs ++ f x
flat_last f [] x = append-nil (f x)
flat_last f (y ∷ ys) x = ap (λ (all : List _). f y ++ all) (flat_last f ys x) ∙ sym (append_assoc (f y) (flat_map f ys) (f x))

-- ---- what was opened

module _ {T Q M F : Type 0} (look : Looks T Q M F) (reflexive : (a : T) → look.same a a ≡ true) where
  abbrev Once : ℕ → Opened T M → Type 0
  Once n s = AllPairs (λ a b. a ≢ b) s.types

  pub opened_once : (n : ℕ) (items : List (Item T Q)) (s : Opened T M) → opening look n items none_opened ≡ Ok s → AllPairs (λ a b. a ≢ b) s.types
  opened_once n items s e =
      (opening_keeps look Once (λ m a b is once. subst (AllPairs (λ x y. x ≢ y)) is.types once)
      (λ m x it a once new shows. once_more look.same reflexive a.types x new once) n items none_opened s (λ i j d less below. absurd (omega (arith, below))) e).1

  -- what is left and what was opened come to the same
  abbrev Counts : ℕ → ℕ → Opened T M → Type 0
  Counts total n s = n + length s.types ≡ total

  pub opened_within : (n : ℕ) (items : List (Item T Q)) (s : Opened T M) → opening look n items none_opened ≡ Ok s → length s.types ≤ n
  opened_within n items s e = omega (arith, kept.1)
    where
      kept : (m : ℕ) × Counts n m s
      kept =
          opening_keeps look (Counts n) (λ m a b is counts. subst (λ (xs : List T). m + length xs ≡ n) is.types counts)
          (λ m x it a counts new shows. omega (arith, counts, length-append a.types (x ∷ []))) n items none_opened s (omega arith) e

  abbrev Has : ℕ → Opened T M → Type 0
  Has n s = HasAll look s

  has_same : (n : ℕ) (a b : Opened T M) → IsSame look a b → Has n a → Has n b
  has_same n a b is all = record {
    interfaces = all.interfaces;
    shown = subst (λ (xs : List T). AllZip (λ x it. look.beneath x ≡ Ok (Some it)) xs all.interfaces) is.types all.shown;
    methods = sym is.methods ∙ all.methods;
    flag = sym is.flag ∙ all.flag;
  }

  abbrev AreShown : List T → List (Interface T Q M) → Type 0
  AreShown types its = AllZip (λ x it. look.beneath x ≡ Ok (Some it)) types its

  one_shown : (types : List T) (its : List (Interface T Q M)) (x : T) (it : Interface T Q M) → AreShown types its → look.beneath x ≡ Ok (Some it) → AreShown (types ++ x ∷ []) (its ++ it ∷ [])
  one_shown [] [] x it all one = (one, tt)
  one_shown [] (j ∷ js) x it all one = absurd all
  one_shown (y ∷ ys) [] x it all one = absurd all
  one_shown (y ∷ ys) (j ∷ js) x it all one = (all.0, one_shown ys js x it all.1 one)

  has_more : (n : ℕ) (x : T) (it : Interface T Q M) (s : Opened T M) → Has (suc n) s → has look s.types x ≡ false → look.beneath x ≡ Ok (Some it) → Has n (opened_with look x it s)
  has_more n x it s all new shows = record {
    interfaces = all.interfaces ++ it ∷ [];
    shown = one_shown s.types all.interfaces x it all.shown shows;
    methods = ap (λ (own : List M). own ++ it.own) all.methods ∙ sym (flat_last (λ (i : Interface T Q M). i.own) all.interfaces it);
    flag = ap (λ (b : Bool). b || it.flag) all.flag ∙ sym (any_last (λ (i : Interface T Q M). i.flag) all.interfaces it);
  }

  pub opened_has : (n : ℕ) (items : List (Item T Q)) (s : Opened T M) → opening look n items none_opened ≡ Ok s → HasAll look s
  opened_has n items s e = (opening_keeps look Has has_same has_more n items none_opened s (record { interfaces = []; shown = tt; methods = refl; flag = refl }) e).1
