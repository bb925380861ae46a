-- The type set of a type by what is told of terms, and what is asked for and opened for it.
use Rattle.std.specs.Prelude.{◌≡◌, ◌⊎◌, List, [], Result, Ok, IsOkAnd}
use Rattle.go_values.specs.declared.qualified.QName.{QName}
use Rattle.type_terms.specs.Trees.{Tree}
use Rattle.type_terms.specs.TreeEquality.{same_tree}
use Rattle.interface_opening.specs.Elements.{Term, Opened}
use Rattle.interface_opening.specs.Terms.{terms_of}
use Rattle.replacement.specs.declared.faults.SetFault.{SetFault}
use Rattle.replacement.specs.Expansion.{Entries, then, expanded}
use Rattle.replacement.specs.Calls.{AsksExpanding, OpensExpanding}
use Rattle.type_sets.specs.Covering.{Answer}
use Rattle.type_sets.specs.Interfaces.{SetMethod as Method}
use Rattle.type_sets.specs.TermTests.{no_cycle}
use Rattle.type_sets.specs.TypeSets.{TypeSet, same_term, with_methods, opened, covers}
use Rattle.opened_interfaces.specs.Ways.{AsksOpening, OpensOpening}
use Rattle.set_terms.specs.Needed.{AtEvents}

-- whether the second of two terms covers the first, over an environment
abbrev pub Told : Type 0
Told = Entries → List QName → Term Tree → Term Tree → Answer

-- what is needed to tell it: X are names that are asked for, or types that are opened
abbrev pub Needed : Type 0 → Type 1
Needed X = Entries → List QName → Term Tree → Term Tree → X → Type 0

-- What is told is what covers what, once no alias in the second term mentions itself.
abbrev pub IsCovering : Told → Type 0
IsCovering told = (entries : Entries) (names : List QName) (x y : Term Tree)
    → told entries names x y ≡ then (no_cycle entries names y.type) (λ u. covers entries names x y)

module _ (entries : Entries) (names : List QName) (told : Told) where
  -- the type set, once the interfaces of a type with no alias at its head were opened
  abbrev pub set_for : Tree → Opened Tree Method → Result TypeSet SetFault
  set_for type s = then (terms_of same_tree same_term (told entries names) s.events type) (λ terms.
      Ok (record { methods = with_methods s.methods []; flag = s.flag; terms = terms }))

  abbrev pub settled_set : Tree → Result TypeSet SetFault
  settled_set type = then (opened entries names type) (set_for type)

  abbrev pub set_by : Tree → Result TypeSet SetFault
  set_by type = then (expanded entries names type) settled_set

  -- at the comparisons to which the opening comes
  abbrev pub AtTerms : {X : Type 0} → Needed X → Tree → X → Type 0
  AtTerms needs type a = IsOkAnd (opened entries names type)
      (λ s. AtEvents same_term (told entries names) (needs entries names) same_tree s.events [] a)

  abbrev pub AsksSettled : Needed QName → Tree → QName → Type 0
  AsksSettled asks type q = AsksOpening entries names type q ⊎ AtTerms asks type q

  abbrev pub OpensSettled : Needed Tree → Tree → Tree → Type 0
  OpensSettled opens type t = OpensOpening entries names type t ⊎ AtTerms opens type t

  abbrev pub AsksSet : Needed QName → Tree → QName → Type 0
  AsksSet asks type q =
      AsksExpanding entries type q ⊎ IsOkAnd (expanded entries names type) (λ found. AsksSettled asks found q)

  abbrev pub OpensSet : Needed Tree → Tree → Tree → Type 0
  OpensSet opens type t =
      OpensExpanding entries type t ⊎ IsOkAnd (expanded entries names type) (λ found. OpensSettled opens found t)
