-- An opening goes item by item.
use Rattle.std.proofs.Common.{◌≡◌, ℕ, zero, suc, List, [], ◌∷◌, ◌++◌, Ok, Err, refl, ap}
use Rattle.interface_opening.specs.Elements.{Interface, Opened, Looks}
use Rattle.interface_opening.specs.Opening.{Item, goes, stops, opens, step, joining, passed, next, inside, opened_with, at_limit, onward, opening}

module _ {T Q M F : Type 0} (look : Looks T Q M F) where
  pub nothing_left : (n : ℕ) (s : Opened T M) → opening look n [] s ≡ Ok s
  unfolding opening
  nothing_left zero s = refl
  nothing_left (suc n) s = refl

  module _ (item : Item T Q) (rest : List (Item T Q)) (s : Opened T M) where
    pub item_goes : (n : ℕ) (t : Opened T M) → step look item rest s ≡ goes t → opening look n (item ∷ rest) s ≡ opening look n rest t
    unfolding opening
    item_goes zero t is = ap (λ r. at_limit look (passed look r (joining look item) rest (next look rest))) is
    item_goes (suc n) t is = ap (λ r. onward look (opening look n) (passed look r (joining look item) rest (next look rest))) is

    pub item_stops : (n : ℕ) (f : F) → step look item rest s ≡ stops f → opening look n (item ∷ rest) s ≡ Err f
    unfolding opening
    item_stops zero f is = ap (λ r. at_limit look (passed look r (joining look item) rest (next look rest))) is
    item_stops (suc n) f is = ap (λ r. onward look (opening look n) (passed look r (joining look item) rest (next look rest))) is

    module _ (t : Opened T M) (x : T) (it : Interface T Q M) (is : step look item rest s ≡ opens x it t) where
      pub item_opens : (n : ℕ) → opening look (suc n) (item ∷ rest) s ≡ opening look n (inside look x it ++ (joining look item x ++ rest)) (opened_with look x it t)
      unfolding opening
      item_opens n = ap (λ r. onward look (opening look n) (passed look r (joining look item) rest (next look rest))) is

      pub item_over : opening look 0 (item ∷ rest) s ≡ Err look.too_many
      unfolding opening
      item_over = ap (λ r. at_limit look (passed look r (joining look item) rest (next look rest))) is
