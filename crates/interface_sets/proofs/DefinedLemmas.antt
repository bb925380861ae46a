-- The type set by what is told of terms is the one of the definition.
use Rattle.std.proofs.Common.{◌≡◌, Bool, List, [], Ok, Err, refl, ap, ◌∙◌}
use Rattle.std.specs.Prelude.{Result}
use Rattle.std.specs.List.{AllByRecursion}
use Rattle.go_values.specs.declared.qualified.QName.{QName}
use Rattle.type_terms.specs.Trees.{Tree}
use Rattle.type_terms.specs.TreeEquality.{same_tree}
use Rattle.interface_opening.specs.Elements.{Term, Opened}
use Rattle.replacement.specs.declared.faults.SetFault.{SetFault}
use Rattle.replacement.specs.Expansion.{Entries, then, expanded}
use Rattle.type_sets.specs.Interfaces.{SetMethod as Method}
use Rattle.type_sets.specs.TermTests.{fine, no_cycle, holds_none}
use Rattle.type_sets.specs.TypeSets.{same_term, set_limit, top_items, looks, with_methods, opened, covers, set_from, type_set}
use Rattle.term_tests.proofs.WalkLemmas.{IsKnown}
use Rattle.interface_sets.specs.Sets.{Told, IsCovering, set_for, settled_set, set_by}
use Rattle.interface_sets.proofs.MentionLemmas.{both_parts, no_cycle_expanded}
use Rattle.interface_sets.proofs.CoveredLemmas.{OfEvent, terms_agree}
use Rattle.interface_sets.proofs.OpeningLemmas.{opened_good}

module _ (entries : Entries) (names : List QName) (declared : IsKnown entries names) (told : Told) (covering : IsCovering told) where
  abbrev Passes : Term Tree → Type 0
  Passes x = no_cycle entries names x.type ≡ fine

  whole_passes : (tilde : Bool) (type x : Tree) → (looks entries names).whole type ≡ Ok tt → (looks entries names).settle type ≡ Ok x → no_cycle entries names x ≡ fine
  whole_passes tilde type x whole is = no_cycle_expanded entries names declared type x is (both_parts (no_cycle entries names type) (holds_none entries names type) whole).0

  terms_pass : (type : Tree) (s : Opened Tree Method) → opened entries names type ≡ Ok s → AllByRecursion (OfEvent Passes) s.events
  terms_pass type s is = opened_good (looks entries names) Passes whole_passes set_limit (top_items entries names type) s is

  agrees : (x y : Term Tree) → Passes x → Passes y → told entries names x y ≡ covers entries names x y
  agrees x y here there = covering entries names x y ∙ ap (λ r. then r (λ u. covers entries names x y)) there

  same_for : (type : Tree) (s : Opened Tree Method) → opened entries names type ≡ Ok s → set_for entries names told type s ≡ set_from entries names type s
  same_for type s is =
      ap (λ r. then r (λ terms. Ok (record { methods = with_methods s.methods []; flag = s.flag; terms = terms })))
      (terms_agree same_tree same_term (told entries names) (covers entries names) Passes agrees s.events (terms_pass type s is) type)

  same_settled : (type : Tree) → settled_set entries names told type ≡ then (opened entries names type) (set_from entries names type)
  same_settled type = by (opened entries names type) refl
    where
      by : (r : Result (Opened Tree Method) SetFault) → opened entries names type ≡ r → then r (set_for entries names told type) ≡ then r (set_from entries names type)
      by (Ok s) is = same_for type s is
      by (Err f) is = refl

  pub same_type_set : (type : Tree) → set_by entries names told type ≡ type_set entries names type
  same_type_set type = by (expanded entries names type)
    where
      by : (r : Result Tree SetFault) → then r (settled_set entries names told) ≡ then r (λ found. then (opened entries names found) (set_from entries names found))
      by (Ok found) = same_settled found
      by (Err f) = refl
