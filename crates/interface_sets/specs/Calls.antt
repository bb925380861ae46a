-- What a type set over nodes means, and what the call answers.
use Rattle.std.specs.Prelude.{◌≡◌, ℕ, List, Bool, length, map, Option, Result, Ok, Err, IfSome}
use Rattle.std.specs.List.{AllByRecursion}
use Rattle.type_terms.specs.declared.descriptors.Node.{Node}
use Rattle.type_terms.specs.Arenas.{Contents, AllBelow}
use Rattle.type_terms.specs.Trees.{Tree}
use Rattle.replacement.specs.declared.faults.SetFault.{SetFault}
use Rattle.replacement.specs.Calls.{Stops}
use Rattle.type_sets.specs.TypeSets.{TypeSet as Set}
use Rattle.interface_nodes.specs.HeldNodes.{method_meant, method_nodes}
use Rattle.common_terms.specs.Calls.{AllWithin}
use Rattle.set_terms.specs.Shares.{listed}
use Rattle.set_terms.specs.Meant.{choice_meant}
use Rattle.interface_sets.specs.declared.sets.TypeSet.{TypeSet}

-- the set that is meant, where the arena has these nodes
abbrev pub set_meant : List Node → TypeSet → Set
set_meant nodes set = record {
  methods = map (method_meant nodes) set.methods.items;
  flag = set.comparable;
  terms = choice_meant nodes (listed set.terms);
}

-- its nodes stand below n
pub record SetWithin (n : ℕ) (set : TypeSet) : Type 0 where
  pub methods : AllByRecursion (λ x. AllBelow n (method_nodes x)) set.methods.items
  pub terms : IfSome (listed set.terms) (AllWithin n)

-- the set that is wanted, with nodes of the arena; or the fault that is, or the call stopped
abbrev pub GivesSet : (Tree → Type 0) → Contents → Contents → Option Bool → Result TypeSet SetFault
    → Result Set SetFault → Type 0
GivesSet opening before after full (Ok set) want =
    (want ≡ Ok (set_meant after.nodes set)) × SetWithin (length after.nodes) set
GivesSet opening before after full (Err fault) want = Stops opening before full fault (want ≡ Err fault)
