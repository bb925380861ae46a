-- More names to be met change nothing, once there are as many as the environment has.
use Rattle.std.proofs.Common.{◌≡◌, ℕ, ◌+◌, ◌≤◌, ◌⊎◌, zero, suc, Bool, true, false, cond, ◌||◌, List, [], ◌∷◌, ◌++◌, length, length-append, Option, Some, None, Ok, Err, refl, ap, sym, subst, ◌∙◌, inl, inr, arith, true≢false}
use Rattle.std.specs.Prelude.{Result}
use Rattle.std.specs.List.{list_any, IsDistinct}
use Rattle.std.proofs.lemmas.Map.Made.{length-le_from_is_member}
use Rattle.std.proofs.lemmas.Map.Keys.{IsDistinct-push}
use Rattle.go_values.specs.declared.qualified.QName.{QName}
use Rattle.go_values.specs.contracts.qualified.QNameEq.TheImpl.Laws as qname_laws
use Rattle.go_values.specs.Exact.{exact_qname}
use Rattle.environments.specs.Environments.{Entry}
use Rattle.type_terms.specs.Trees.{Tree}
use Rattle.type_terms.specs.TreeEquality.{same_name}
use Rattle.replacement.specs.declared.faults.SetFault.{SetFault}
use Rattle.replacement.specs.declared.faults.SetFault.TheVariants.{AliasCycle}
use Rattle.replacement.specs.Expansion.{Entries, Applied, AreNames, known, then, alias_use, alias_side, alias_right, led, expanded_from, expanded}

or_cases : (a b : Bool) → (a || b) ≡ true → (a ≡ true) ⊎ (b ≡ true)
or_cases true b h = inl refl
or_cases false b h = inr h

or_first : (a b : Bool) → a ≡ true → (a || b) ≡ true
or_first true b h = refl
or_first false b h = absurd (true≢false (sym h))

or_second : (a b : Bool) → b ≡ true → (a || b) ≡ true
or_second true b h = refl
or_second false b h = h

-- one more is met
any_pushed : (p : QName → Bool) (met : List QName) (q : QName) → list_any p (met ++ q ∷ []) ≡ true → (list_any p met ≡ true) ⊎ (p q ≡ true)
any_pushed p [] q h = elim (or_cases (p q) false h) [ inl e ↦ inr e | inr e ↦ absurd (true≢false (sym e)) ]
any_pushed p (x ∷ xs) q h = elim (or_cases (p x) (list_any p (xs ++ q ∷ [])) h) [
  | inl e ↦ inl (or_first (p x) (list_any p xs) e)
  | inr e ↦ elim (any_pushed p xs q e) [ inl old ↦ inl (or_second (p x) (list_any p xs) old) | inr new ↦ inr new ]
]

-- what is met on the way: names of the environment, each once
pub record AreMet (names met : List QName) : Type 0 where
  pub distinct : IsDistinct same_name met
  pub among : (q : QName) → list_any (same_name q) met ≡ true → list_any (same_name q) names ≡ true

module _ (entries : Entries) where
  led_agrees : (more other : List QName → Tree → Result Tree SetFault) (met : List QName) (type : Tree)
      → ((head : Applied) (right : Tree) → list_any (same_name head.name) met ≡ false → alias_right entries head ≡ Ok right → more (met ++ head.name ∷ []) right ≡ other (met ++ head.name ∷ []) right)
      → (o : Option Applied) → led entries more met type o ≡ led entries other met type o
  led_agrees more other met type each None = refl
  led_agrees more other met type each (Some head) = by (list_any (same_name head.name) met) refl (alias_right entries head) refl
    where
      by : (b : Bool) → list_any (same_name head.name) met ≡ b → (r : Result Tree SetFault) → alias_right entries head ≡ r
          → cond {A = Result Tree SetFault} b (Err (AliasCycle head.name)) (then r (more (met ++ head.name ∷ []))) ≡ cond {A = Result Tree SetFault} b (Err (AliasCycle head.name)) (then r (other (met ++ head.name ∷ [])))
      by true e r f = refl
      by false e (Err fault) f = refl
      by false e (Ok right) f = each head right e f

  led_settled : (more : List QName → Tree → Result Tree SetFault) (met : List QName) (type found : Tree)
      → ((head : Applied) (right : Tree) → list_any (same_name head.name) met ≡ false → alias_right entries head ≡ Ok right → more (met ++ head.name ∷ []) right ≡ Ok found → alias_use found ≡ None)
      → (o : Option Applied) → alias_use type ≡ o → led entries more met type o ≡ Ok found → alias_use found ≡ None
  led_settled more met type found each None none is = let same : type ≡ found = cc in subst (λ t. alias_use t ≡ None) same none
  led_settled more met type found each (Some head) some is = by (list_any (same_name head.name) met) refl (alias_right entries head) refl is
    where
      by : (b : Bool) → list_any (same_name head.name) met ≡ b → (r : Result Tree SetFault) → alias_right entries head ≡ r
          → cond {A = Result Tree SetFault} b (Err (AliasCycle head.name)) (then r (more (met ++ head.name ∷ []))) ≡ Ok found → alias_use found ≡ None
      by true e r f h = absurd cc
      by false e (Err fault) f h = absurd cc
      by false e (Ok right) f h = each head right e f h

module _ (entries : Entries) (names : List QName) (are : AreNames entries names) where
  pub alias_known : (head : Applied) (right : Tree) → alias_right entries head ≡ Ok right → list_any (same_name head.name) names ≡ true
  alias_known head right is = by (entries head.name) refl is
    where
      by : (o : Option Entry) → entries head.name ≡ o → then (known o head.name) (alias_side head) ≡ Ok right → list_any (same_name head.name) names ≡ true
      by (Some entry) e h = are head.name entry e
      by None e h = absurd cc

  pub one_more : (met : List QName) (q : QName) → AreMet names met → list_any (same_name q) met ≡ false → list_any (same_name q) names ≡ true → AreMet names (met ++ q ∷ [])
  one_more met q was new there = record {
    distinct = IsDistinct-push qname_laws.laws-law met q was.distinct new;
    among = λ other held. elim (any_pushed (same_name other) met q held) [
      | inl old ↦ was.among other old
      | inr same ↦ subst (λ n. list_any (same_name n) names ≡ true) (sym (exact_qname other q same)) there
    ];
  }

  no_room : (met : List QName) (q : QName) → AreMet names met → list_any (same_name q) met ≡ false → list_any (same_name q) names ≡ true → length names ≤ length met → ⊥
  no_room met q was new there full =
      let more = one_more met q was new there in
      let longer = length-le_from_is_member qname_laws.laws-law (met ++ q ∷ []) names more.distinct more.among in
      omega (arith, longer, length-append met (q ∷ []))

  steady : (n : ℕ) (met : List QName) (type : Tree) → AreMet names met → length names ≤ n + length met → expanded_from entries n met type ≡ expanded_from entries (suc n) met type
  unfolding expanded_from
  steady zero met type was enough =
      led_agrees entries (λ _ t. Ok t) (expanded_from entries zero) met type (λ head right new is. absurd (no_room met head.name was new (alias_known head right is) (omega arith))) (alias_use type)
  steady (suc n) met type was enough =
      led_agrees entries (expanded_from entries n) (expanded_from entries (suc n)) met type
      (λ head right new is. steady n (met ++ head.name ∷ []) right (one_more met head.name was new (alias_known head right is)) (omega (arith, length-append met (head.name ∷ [])))) (alias_use type)

  settled : (n : ℕ) (met : List QName) (type found : Tree) → AreMet names met → length names ≤ n + length met → expanded_from entries n met type ≡ Ok found → alias_use found ≡ None
  unfolding expanded_from
  settled zero met type found was enough =
      led_settled entries (λ _ t. Ok t) met type found (λ head right new is h. absurd (no_room met head.name was new (alias_known head right is) (omega arith))) (alias_use type) refl
  settled (suc n) met type found was enough =
      led_settled entries (expanded_from entries n) met type found
      (λ head right new is h. settled n (met ++ head.name ∷ []) right found (one_more met head.name was new (alias_known head right is)) (omega (arith, length-append met (head.name ∷ []))) h) (alias_use type) refl

  pub none_met : AreMet names []
  unfolding IsDistinct
  none_met = record { distinct = tt; among = λ q held. absurd (true≢false (sym held)) }

  pub more_change_nothing : (more : ℕ) (type : Tree) → expanded_from entries (length names + more) [] type ≡ expanded entries names type
  more_change_nothing zero type = let e : length names + 0 ≡ length names = omega arith in ap (λ n. expanded_from entries n [] type) e
  more_change_nothing (suc more) type =
      let e : length names + suc more ≡ suc (length names + more) = omega arith in
      ap (λ n. expanded_from entries n [] type) e ∙ sym (steady (length names + more) [] type none_met (omega arith)) ∙ more_change_nothing more type

  pub expanded_settled : (type found : Tree) → expanded entries names type ≡ Ok found → alias_use found ≡ None
  expanded_settled type found is = settled (length names) [] type found none_met (omega arith) is
