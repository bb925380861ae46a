-- What is asked for and opened for the interfaces of a type, and what the call answers that pairs their methods.
use Rattle.std.specs.Prelude.{◌≡◌, ◌⊎◌, Bool, List, length, map, Option, Result, Ok, Err, IsOkAnd}
use Rattle.std.specs.List.{flat_map}
use Rattle.std.specs.Prelude.{Vec}
use Rattle.go_values.specs.declared.qualified.QName.{QName}
use Rattle.type_terms.specs.Arenas.{Contents, AllBelow}
use Rattle.type_terms.specs.Trees.{Tree}
use Rattle.interface_opening.specs.Elements.{Opened}
use Rattle.replacement.specs.declared.faults.SetFault.{SetFault}
use Rattle.replacement.specs.Expansion.{Entries, then, expanded}
use Rattle.replacement.specs.Calls.{Stops, AsksExpanding, OpensExpanding}
use Rattle.type_sets.specs.Interfaces.{SetMethod as Method}
use Rattle.type_sets.specs.TypeSets.{Pair, opened}
use Rattle.opened_interfaces.specs.Ways.{AsksOpening, OpensOpening}
use Rattle.set_methods.specs.declared.pairs.MethodPair.{MethodPair}
use Rattle.set_methods.specs.Pairs.{pair_meant, pair_nodes}

module _ (entries : Entries) (names : List QName) where
  -- what is opened, once no alias is at the head
  abbrev pub opened_type : Tree → Result (Opened Tree Method) SetFault
  opened_type type = then (expanded entries names type) (opened entries names)

  -- the names that are asked for, and the types that are opened for it
  abbrev pub AsksPairs : Tree → QName → Type 0
  AsksPairs type q =
      AsksExpanding entries type q ⊎ IsOkAnd (expanded entries names type) (λ found. AsksOpening entries names found q)

  abbrev pub OpensPairs : Tree → Tree → Type 0
  OpensPairs type opened = OpensExpanding entries type opened
      ⊎ IsOkAnd (expanded entries names type) (λ found. OpensOpening entries names found opened)

-- the pairs that are wanted, with nodes of the arena; or the fault that is, or the call stopped
abbrev pub GivesPairs : {A : Type 0} → (Tree → Type 0) → Contents → Contents → Option Bool
    → Result (Vec MethodPair A) SetFault → Result (List Pair) SetFault → Type 0
GivesPairs opening before after full (Ok pairs) want = (want ≡ Ok (map (pair_meant after.nodes) pairs.items))
    × AllBelow (length after.nodes) (flat_map pair_nodes pairs.items)
GivesPairs opening before after full (Err fault) want = Stops opening before full fault (want ≡ Err fault)
