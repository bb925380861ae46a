-- The pairs of what was opened.
use Rattle.std.proofs.Common.{◌≡◌, Bool, List, [], length, map, Option, Ok, Err, refl, ap, sym, ◌∙◌}
use Rattle.std.specs.Prelude.{Result, Vec}
use Rattle.std.specs.List.{AllByRecursion, flat_map}
use Rattle.go_values.specs.declared.qualified.QName.{QName}
use Rattle.type_terms.specs.Arenas.{Contents, AllBelow}
use Rattle.type_terms.specs.Trees.{Tree}
use Rattle.interface_opening.specs.Elements.{Opened}
use Rattle.replacement.specs.declared.faults.SetFault.{SetFault}
use Rattle.replacement.specs.Expansion.{Entries, then, expanded}
use Rattle.replacement.specs.Calls.{Stops}
use Rattle.replacement.proofs.KeptLemmas.{stops_more}
use Rattle.type_sets.specs.Interfaces.{SetMethod as Method}
use Rattle.type_sets.specs.TypeSets.{Pair, opened, pairs_among, method_pairs}
use Rattle.interface_nodes.specs.HeldNodes.{method_meant, method_nodes}
use Rattle.interface_opener.specs.declared.found.Found.{Found}
use Rattle.set_methods.specs.declared.pairs.MethodPair.{MethodPair}
use Rattle.set_methods.specs.Pairs.{pair_meant, pair_nodes}
use Rattle.opened_interfaces.specs.Calls.{GivesFound}
use Rattle.method_pairs.specs.Calls.{opened_type, GivesPairs}

pub then_again : {X Y Z : Type 0} (r : Result X SetFault) (f : X → Result Y SetFault) (g : Y → Result Z SetFault)
    → then r (λ x. then (f x) g) ≡ then (then r f) g
then_again (Ok x) f g = refl
then_again (Err fault) f g = refl

module _ (entries : Entries) (names : List QName) (type : Tree) where
  abbrev pairs_of : Opened Tree Method → Result (List Pair) SetFault
  pairs_of s = Ok (pairs_among [] s.methods)

  same_pairs : method_pairs entries names type ≡ then (opened_type entries names type) pairs_of
  same_pairs = then_again (expanded entries names type) (opened entries names) pairs_of

  module _ (opening : Tree → Type 0) (before after : Contents) (full : Option Bool) where
    -- the opening stopped
    pub pairs_stop : (fault : SetFault)
        → GivesFound opening before after full (Err fault) (opened_type entries names type)
        → Stops opening before full fault (method_pairs entries names type ≡ Err fault)
    pairs_stop fault stops = stops_more opening opening before (λ t held. held) full fault _ _
        (λ is. same_pairs ∙ ap (λ r. then r pairs_of) is) stops

    -- or it ended
    pub pairs_give : {A : Type 0} (found : Found)
        → GivesFound opening before after full (Ok found) (opened_type entries names type) → (pairs : Vec MethodPair A)
        → map (pair_meant after.nodes) pairs.items ≡ pairs_among [] (map (method_meant after.nodes) found.methods.items)
        → (AllByRecursion (λ x. AllBelow (length after.nodes) (method_nodes x)) found.methods.items
        → AllBelow (length after.nodes) (flat_map pair_nodes pairs.items))
        → GivesPairs opening before after full (Ok pairs) (method_pairs entries names type)
    pairs_give found gives pairs meant within =
        (same_pairs ∙ ap (λ r. then r pairs_of) gives.0 ∙ ap Ok (sym meant), within gives.1.methods)
