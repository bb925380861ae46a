-- What numbers of nodes mean, in what is known of interfaces and in what is still to be done.
use Rattle.std.specs.Prelude.{ℕ, ◌<◌, List, map}
use Rattle.std.specs.List.{AllByRecursion}
use Rattle.go_values.specs.declared.qualified.QName.{QName}
use Rattle.type_terms.specs.declared.descriptors.Node.{Node}
use Rattle.type_terms.specs.Arenas.{AllBelow}
use Rattle.type_terms.specs.Denotation.{tree}
use Rattle.type_terms.specs.Trees.{Tree}
use Rattle.interface_opening.specs.Elements.{Event, has_term, has_interface, ends_element, Opened}
use Rattle.interface_opening.specs.Mapped.{term_mapped, opened_mapped}
use Rattle.interface_opening.specs.Opening.{Item, term, joins, ends, closes}
use Rattle.type_sets.specs.Interfaces.{SetMethod as Method}
use Rattle.interface_nodes.specs.declared.methods.SetMethod.{SetMethod}
use Rattle.interface_nodes.specs.HeldNodes.{method_meant, method_nodes}

abbrev pub item_mapped : {T U Q : Type 0} → (T → U) → Item T Q → Item U Q
item_mapped d (term holder several x) = term (d holder) several (term_mapped d x)
item_mapped d (joins holder several of) = joins (d holder) several (d of)
item_mapped d (ends holder) = ends (d holder)
item_mapped d (closes q) = closes q

-- the types that are meant, where an arena has these nodes
module _ (nodes : List Node) where
  abbrev pub known_meant : Opened ℕ SetMethod → Opened Tree Method
  known_meant s = opened_mapped (tree nodes) (method_meant nodes) s

  abbrev pub due_meant : List (Item ℕ QName) → List (Item Tree QName)
  due_meant items = map (item_mapped (tree nodes)) items

-- The nodes stand below n.
module _ (n : ℕ) where
  abbrev pub EventWithin : Event ℕ → Type 0
  EventWithin (has_term holder x) = (holder < n) × (x.type < n)
  EventWithin (has_interface holder of) = (holder < n) × (of < n)
  EventWithin (ends_element holder) = holder < n

  abbrev pub MethodWithin : SetMethod → Type 0
  MethodWithin x = AllBelow n (method_nodes x)

  abbrev pub ItemWithin : Item ℕ QName → Type 0
  ItemWithin (term holder several x) = (holder < n) × (x.type < n)
  ItemWithin (joins holder several of) = (holder < n) × (of < n)
  ItemWithin (ends holder) = holder < n
  ItemWithin (closes q) = Unit {0}

  pub record IsWithin (s : Opened ℕ SetMethod) : Type 0 where
    pub types : AllBelow n s.types
    pub methods : AllByRecursion MethodWithin s.methods
    pub marked : AllBelow n s.marked
    pub events : AllByRecursion EventWithin s.events

  abbrev pub AreDue : List (Item ℕ QName) → Type 0
  AreDue items = AllByRecursion ItemWithin items
