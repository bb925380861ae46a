-- On which names expansions and underlying types depend.
use Rattle.std.proofs.Common.{◌≡◌, ℕ, zero, suc, cond, List, [], ◌∷◌, ◌++◌, length, Option, Some, None, Ok, Err, refl, ap, sym, subst, ◌∙◌, inl, inr}
use Rattle.std.specs.Prelude.{Result, IsSomeAnd, IsOkAnd}
use Rattle.std.specs.List.{list_any}
use Rattle.go_values.specs.declared.qualified.QName.{QName}
use Rattle.type_terms.specs.Trees.{Tree}
use Rattle.type_terms.specs.TreeEquality.{same_name}
use Rattle.replacement.specs.declared.faults.SetFault.{SetFault}
use Rattle.replacement.specs.declared.faults.SetFault.TheVariants.{AliasCycle}
use Rattle.replacement.specs.Expansion.{Entries, Applied, known, then, alias_use, defined_use, alias_side, defined_side, alias_right, led, expanded_from, expanded, beneath, underlying}
use Rattle.replacement.specs.Calls.{itself, further, AsksAlias, AsksDefined, AsksExpanding, AsksUnder}

More : Type 0
More = List QName → Tree → Result Tree SetFault

then_agrees : (first second : Tree → Result Tree SetFault) (r : Result Tree SetFault) → ((right : Tree) → r ≡ Ok right → first right ≡ second right) → then r first ≡ then r second
then_agrees first second (Ok right) each = each right refl
then_agrees first second (Err fault) each = refl

module _ (entries other : Entries) where
  Agrees : Tree → Type 0
  Agrees type = (q : QName) → AsksExpanding entries type q → other q ≡ entries q

  led_agrees : (more more' : List QName → Tree → Result Tree SetFault) (met : List QName) (type : Tree) → ((q : QName) → AsksExpanding entries type q → other q ≡ entries q)
      → ((head : Applied) (right : Tree) → alias_use type ≡ Some head → alias_right entries head ≡ Ok right → more (met ++ head.name ∷ []) right ≡ more' (met ++ head.name ∷ []) right)
      → (o : Option Applied) → alias_use type ≡ o → led other more met type o ≡ led entries more' met type o
  led_agrees more more' met type same each None is = refl
  led_agrees more more' met type same each (Some head) is =
      let asked : AsksAlias type head.name = subst (λ o. IsSomeAnd o (λ h. head.name ≡ h.name)) (sym is) refl in
      let entry = same head.name (type, itself type, asked) in
      ap (λ e. cond {A = Result Tree SetFault} (list_any (same_name head.name) met) (Err (AliasCycle head.name)) (then (then (known e head.name) (alias_side head)) (more (met ++ head.name ∷ [])))) entry
      ∙ ap (cond {A = Result Tree SetFault} (list_any (same_name head.name) met) (Err (AliasCycle head.name)))
      (then_agrees (more (met ++ head.name ∷ [])) (more' (met ++ head.name ∷ [])) (alias_right entries head) (λ right there. each head right is there))

  from_agrees : (n : ℕ) (met : List QName) (type : Tree) → ((q : QName) → AsksExpanding entries type q → other q ≡ entries q) → expanded_from other n met type ≡ expanded_from entries n met type
  unfolding expanded_from
  from_agrees zero met type same = led_agrees (λ _ t. Ok t) (λ _ t. Ok t) met type same (λ head right is there. refl) (alias_use type) refl
  from_agrees (suc n) met type same =
      led_agrees (expanded_from other n) (expanded_from entries n) met type same
      (λ head right is there. from_agrees n (met ++ head.name ∷ []) right (λ q asks. same q (asks.0, further type head right asks.0 is there asks.1, asks.2))) (alias_use type) refl

  module _ (names : List QName) (type : Tree) where
    pub expanded_agrees : ((q : QName) → AsksExpanding entries type q → other q ≡ entries q) → expanded other names type ≡ expanded entries names type
    expanded_agrees same = from_agrees (length names) [] type same

    beneath_agrees : (found : Tree) → ((q : QName) → AsksDefined found q → other q ≡ entries q) → (o : Option Applied) → defined_use found ≡ o → beneath other found o ≡ beneath entries found o
    beneath_agrees found same None is = refl
    beneath_agrees found same (Some head) is =
        ap (λ e. then (known e head.name) (defined_side head)) (same head.name (subst (λ o. IsSomeAnd o (λ h. head.name ≡ h.name)) (sym is) refl))

    pub underlying_agrees : ((q : QName) → AsksUnder entries names type q → other q ≡ entries q) → underlying other names type ≡ underlying entries names type
    underlying_agrees same =
        ap (λ r. then r (λ found. beneath other found (defined_use found))) (expanded_agrees (λ q asks. same q (inl asks)))
        ∙ then_agrees (λ found. beneath other found (defined_use found)) (λ found. beneath entries found (defined_use found)) (expanded entries names type)
        (λ found is. beneath_agrees found (λ q asks. same q (inr (subst (λ r. IsOkAnd r (λ f. AsksDefined f q)) (sym is) asks))) (defined_use found) refl)
