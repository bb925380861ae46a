-- The way of an opening, over what is still to be done.
use Rattle.std.proofs.Common.{◌≡◌, ℕ, zero, suc, List, [], ◌∷◌, ◌++◌, Ok, Err, refl, ap, subst}
use Rattle.go_values.specs.declared.qualified.QName.{QName}
use Rattle.type_terms.specs.Trees.{Tree}
use Rattle.interface_opening.specs.Elements.{Interface, Opened, Looks}
use Rattle.interface_opening.specs.Opening.{Item, Step, goes, stops, opens, Next, done, faulty, found, step, joining, passed, next, inside, opened_with, at_limit, onward, opening}
use Rattle.replacement.specs.Expansion.{Entries}
use Rattle.type_sets.specs.Interfaces.{SetMethod as Method}
use Rattle.type_sets.specs.TypeSets.{looks}
use Rattle.opened_interfaces.specs.Ways.{ComesTo, here, on, into, Needs, AtItem, OnWay}

module _ {T Q M F : Type 0} (look : Looks T Q M F) where
  pub comes_again : (m k : ℕ) (due more : List (Item T Q)) (known later : Opened T M) (n : ℕ) (items : List (Item T Q)) (s : Opened T M)
      → ComesTo look m due known n items s → ComesTo look k more later m due known → ComesTo look k more later n items s
  comes_again m k due more known later n items s here second = second
  comes_again m k due more known later n items s (on n' item rest s' t is way) second =
      on n item rest s t is (comes_again m k due more known later n rest t way second)
  comes_again m k due more known later (suc n) items s (into n' item rest s' t x it is way) second =
      into n item rest s t x it is (comes_again m k due more known later n (inside look x it ++ (joining look item x ++ rest)) (opened_with look x it t) way second)

  module _ (item : Item T Q) (rest : List (Item T Q)) (s : Opened T M) where
    abbrev by_step : Step T Q M F → Next T Q M F
    by_step r = passed look r (joining look item) rest (next look rest)

    pub next_on : (t : Opened T M) → step look item rest s ≡ goes t → next look (item ∷ rest) s ≡ next look rest t
    next_on t is = ap by_step is

    pub next_stops : (f : F) → step look item rest s ≡ stops f → next look (item ∷ rest) s ≡ faulty f
    next_stops f is = ap by_step is

    pub next_opens : (x : T) (it : Interface T Q M) (t : Opened T M) → step look item rest s ≡ opens x it t
        → next look (item ∷ rest) s ≡ found x it t (joining look item x ++ rest)
    next_opens x it t is = ap by_step is

  -- where the next interface is opened
  abbrev Lands : ℕ → List (Item T Q) → Opened T M → Next T Q M F → Type 0
  Lands n items s (done t) = Unit {0}
  Lands n items s (faulty f) = Unit {0}
  Lands n items s (found x it t rest) = ComesTo look n (inside look x it ++ rest) (opened_with look x it t) (suc n) items s

  lands_on : (n : ℕ) (item : Item T Q) (rest : List (Item T Q)) (s t : Opened T M) → step look item rest s ≡ goes t → (r : Next T Q M F) → Lands n rest t r → Lands n (item ∷ rest) s r
  lands_on n item rest s t is (done u) way = tt
  lands_on n item rest s t is (faulty f) way = tt
  lands_on n item rest s t is (found x it u more) way = on (suc n) item rest s t is way

  lands_by : (n : ℕ) (item : Item T Q) (rest : List (Item T Q)) (s : Opened T M) → ((t : Opened T M) → Lands n rest t (next look rest t))
      → (r : Step T Q M F) → step look item rest s ≡ r → Lands n (item ∷ rest) s (passed look r (joining look item) rest (next look rest))
  lands_by n item rest s later (goes t) is = lands_on n item rest s t is (next look rest t) (later t)
  lands_by n item rest s later (stops f) is = tt
  lands_by n item rest s later (opens x it t) is = into n item rest s t x it is here

  lands : (n : ℕ) (items : List (Item T Q)) (s : Opened T M) → Lands n items s (next look items s)
  lands n [] s = tt
  lands n (item ∷ rest) s = lands_by n item rest s (λ t. lands n rest t) (step look item rest s) refl

  pub next_comes : (n : ℕ) (items : List (Item T Q)) (s : Opened T M) (x : T) (it : Interface T Q M) (t : Opened T M) (rest : List (Item T Q))
      → next look items s ≡ found x it t rest → ComesTo look n (inside look x it ++ rest) (opened_with look x it t) (suc n) items s
  next_comes n items s x it t rest is = subst (Lands n items s) is (lands n items s)

  module _ (items : List (Item T Q)) (s : Opened T M) where
    pub opening_done : (n : ℕ) (t : Opened T M) → next look items s ≡ done t → opening look n items s ≡ Ok t
    unfolding opening
    opening_done zero t is = ap (at_limit look) is
    opening_done (suc n) t is = ap (onward look (opening look n)) is

    pub opening_faulty : (n : ℕ) (f : F) → next look items s ≡ faulty f → opening look n items s ≡ Err f
    unfolding opening
    opening_faulty zero f is = ap (at_limit look) is
    opening_faulty (suc n) f is = ap (onward look (opening look n)) is

    module _ (x : T) (it : Interface T Q M) (t : Opened T M) (rest : List (Item T Q)) (is : next look items s ≡ found x it t rest) where
      pub opening_over : opening look zero items s ≡ Err look.too_many
      unfolding opening
      opening_over = ap (at_limit look) is

      pub opening_into : (n : ℕ) → opening look (suc n) items s ≡ opening look n (inside look x it ++ rest) (opened_with look x it t)
      unfolding opening
      opening_into n = ap (onward look (opening look n)) is

module _ (entries : Entries) (names : List QName) {X : Type 0} (needs : Needs X) where
  pub way_here : (n : ℕ) (item : Item Tree QName) (rest : List (Item Tree QName)) (s : Opened Tree Method) (a : X) → AtItem entries names needs item a
      → OnWay entries names needs n (item ∷ rest) s a
  way_here n item rest s a at = record { left = n; item = item; rest = rest; known = s; comes = here; at = at }

  pub way_later : (m n : ℕ) (due items : List (Item Tree QName)) (known s : Opened Tree Method) → ComesTo (looks entries names) m due known n items s
      → (a : X) → OnWay entries names needs m due known a → OnWay entries names needs n items s a
  way_later m n due items known s comes a w = record {
    left = w.left;
    item = w.item;
    rest = w.rest;
    known = w.known;
    comes = comes_again (looks entries names) m w.left due (w.item ∷ w.rest) known w.known n items s comes w.comes;
    at = w.at;
  }
