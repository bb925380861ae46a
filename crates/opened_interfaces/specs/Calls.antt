-- What the calls answer that open interfaces.
use Rattle.std.specs.Prelude.{◌≡◌, ◌<◌, ◌++◌, ℕ, List, [], Bool, true, false, Option, Some, None, Result, Ok, Err}
use Rattle.std.specs.Prelude.{IfSome, length, nat_eq}
use Rattle.std.specs.List.{list_any}
use Rattle.go_values.specs.declared.qualified.QName.{QName}
use Rattle.type_terms.specs.declared.descriptors.Node.{Node}
use Rattle.type_terms.specs.Arenas.{Contents, AllBelow}
use Rattle.type_terms.specs.Denotation.{tree}
use Rattle.type_terms.specs.Trees.{Tree}
use Rattle.type_terms.specs.TreeEquality.{same_name}
use Rattle.interface_opening.specs.Elements.{Interface, Opened}
use Rattle.interface_opening.specs.Opening.{Item, term, joining, tested, Step, goes, stops, opens, Next, done, faulty}
use Rattle.interface_opening.specs.Opening.{found, inside, opened_with, none_opened}
use Rattle.replacement.specs.declared.faults.SetFault.{SetFault}
use Rattle.replacement.specs.declared.faults.SetFault.TheVariants.{EmbedCycle, UnionMethods, OutOfMemory}
use Rattle.replacement.specs.Expansion.{Entries, then, expanded}
use Rattle.replacement.specs.Calls.{Stops}
use Rattle.type_sets.specs.Interfaces.{SetMethod as Method}
use Rattle.type_sets.specs.TypeSets.{looks, top_items}
use Rattle.interface_nodes.specs.declared.methods.SetMethod.{SetMethod}
use Rattle.interface_nodes.specs.HeldNodes.{meant, held_nodes}
use Rattle.interface_opener.specs.declared.found.Found.{Found}
use Rattle.interface_opener.specs.Numbered.{by_number, state}
use Rattle.interface_opener.specs.Stacked.{term_of, stacked, open_names}
use Rattle.opened_interfaces.specs.declared.run.Run.{Run}
use Rattle.opened_interfaces.specs.declared.run.Met.{Met}
use Rattle.opened_interfaces.specs.declared.run.Part.{Part}
use Rattle.opened_interfaces.specs.Meant.{known_meant, due_meant, IsWithin, AreDue}

-- what was opened, with nodes of the arena; or the fault that is wanted, or the call stopped
abbrev pub GivesFound : (Tree → Type 0) → Contents → Contents → Option Bool → Result Found SetFault
    → Result (Opened Tree Method) SetFault → Type 0
GivesFound opening before after full (Ok x) want =
    (want ≡ Ok (known_meant after.nodes (state x))) × IsWithin (length after.nodes) (state x)
GivesFound opening before after full (Err fault) want = Stops opening before full fault (want ≡ Err fault)

module _ (entries : Entries) (names : List QName) where
  -- a type with no alias at its head, once it was tested where it has to be
  abbrev pub settled_for : Bool → Tree → Result Tree SetFault
  settled_for must type = then (tested (looks entries names) must type) (λ u. expanded entries names type)

  abbrev pub unless_shown : Result (Unit {0}) SetFault → Option (Interface Tree QName Method)
      → Result (Option (Interface Tree QName Method)) SetFault
  unless_shown whole None = then whole (λ u. Ok None)
  unless_shown whole (Some it) = Ok (Some it)

  -- the interface that it is; a term that is none is tested
  abbrev pub seen : Tree → Tree → Result (Option (Interface Tree QName Method)) SetFault
  seen x type = then ((looks entries names).beneath x) (unless_shown ((looks entries names).whole type))

-- What is kept on the way, of what is known, what is still to be done and which defined types are open.
pub record IsRun (n : ℕ) (s : Opened ℕ SetMethod) (items : List (Item ℕ QName)) (entered : List QName) : Type 0 where
  pub known : IsWithin n s
  pub due : AreDue n items
  pub open_is : entered ≡ open_names items

abbrev pub Runs : ℕ → Run → Type 0
Runs n run = IsRun n (state run.found) (stacked run.tasks.items) run.entered.keys

-- an interface that is new, and whose defined type isn't open
pub record IsMet (n : ℕ) (run : Run) (x : Met) : Type 0 where
  pub there : x.ty < n
  pub held : AllBelow n (held_nodes x.held)
  pub new : list_any (nat_eq x.ty) run.found.types.keys ≡ false
  pub closed : IfSome x.name (λ q. list_any (same_name q) run.entered.keys ≡ false)

-- the item that a term is
abbrev pub part_item : Part → Item ℕ QName
part_item x = term x.holder x.several (term_of x.term)

-- An interface came to its holder, or is wrong there; want of memory alone is free.
abbrev pub GivesJoined : List Node → Result (Unit {0}) SetFault → Found → Step Tree QName Method SetFault → Type 0
GivesJoined nodes (Ok u) new step =
    (step ≡ goes (known_meant nodes (state new))) × IsWithin (length nodes) (state new)
GivesJoined nodes (Err OutOfMemory) new step = Unit {0}
GivesJoined nodes (Err fault) new step = (step ≡ stops fault) × (fault ≡ UnionMethods)

-- the name that is given, where it isn't open; or that it is
abbrev pub IsClosed : List QName → Option QName → Result (Option QName) SetFault → Type 0
IsClosed entered name (Ok same) = (same ≡ name) × IfSome same (λ q. list_any (same_name q) entered ≡ false)
IsClosed entered name (Err fault) =
    (q : QName) × (name ≡ Some q) × (list_any (same_name q) entered ≡ true) × (fault ≡ EmbedCycle q)

-- what is left to be done of an item, before what was
abbrev pub left_by : Item ℕ QName → Option Met → List (Item ℕ QName)
left_by item None = []
left_by item (Some x) = joining by_number item x.ty

-- An item led to more that is known, or to an interface that is new; or to a fault, or the call stopped.
abbrev pub GivesStep : (Tree → Type 0) → Contents → Contents → Option Bool → Result (Option Met) SetFault → Run
    → Step Tree QName Method SetFault → Type 0
GivesStep opening before after full (Ok None) new step =
    (step ≡ goes (known_meant after.nodes (state new.found))) × Runs (length after.nodes) new
GivesStep opening before after full (Ok (Some x)) new step =
    (step ≡ opens (tree after.nodes x.ty) (meant after.nodes x.name x.held) (known_meant after.nodes (state new.found)))
    × Runs (length after.nodes) new × IsMet (length after.nodes) new x
GivesStep opening before after full (Err fault) new step =
    Stops opening before full fault (step ≡ stops fault)

-- the same of all that is still to be done
abbrev pub GivesNext : (Tree → Type 0) → Contents → Contents → Option Bool → Result (Option Met) SetFault → Run
    → Next Tree QName Method SetFault → Type 0
GivesNext opening before after full (Ok None) new next =
    (next ≡ done (known_meant after.nodes (state new.found))) × Runs (length after.nodes) new
GivesNext opening before after full (Ok (Some x)) new next =
    (next ≡ found (tree after.nodes x.ty) (meant after.nodes x.name x.held) (known_meant after.nodes (state new.found))
    (due_meant after.nodes (stacked new.tasks.items)))
    × Runs (length after.nodes) new × IsMet (length after.nodes) new x
GivesNext opening before after full (Err fault) new next =
    Stops opening before full fault (next ≡ faulty fault)

-- All that is still to be done is done, or the fault that is wanted came, or the call stopped.
abbrev pub GivesOpened : (Tree → Type 0) → Contents → Contents → Option Bool → Result (Unit {0}) SetFault → Run
    → Result (Opened Tree Method) SetFault → Type 0
GivesOpened opening before after full (Ok u) new want =
    (want ≡ Ok (known_meant after.nodes (state new.found))) × Runs (length after.nodes) new
GivesOpened opening before after full (Err fault) new want = Stops opening before full fault (want ≡ Err fault)

-- nothing is known, and a type is to be looked at as a term of itself
pub record IsBegun (nodes : List Node) (node : ℕ) (run : Run) : Type 0 where
  pub runs : Runs (length nodes) run
  pub known : state run.found ≡ none_opened
  pub due : (entries : Entries) (names : List QName)
      → due_meant nodes (stacked run.tasks.items) ≡ top_items entries names (tree nodes node)

-- an interface was opened
pub record IsOpened (nodes : List Node) (old : Run) (x : Met) (new : Run) : Type 0 where
  pub runs : Runs (length nodes) new
  pub known : (entries : Entries) (names : List QName) → known_meant nodes (state new.found)
      ≡ opened_with (looks entries names) (tree nodes x.ty) (meant nodes x.name x.held)
      (known_meant nodes (state old.found))
  pub due : (entries : Entries) (names : List QName) → due_meant nodes (stacked new.tasks.items)
      ≡ inside (looks entries names) (tree nodes x.ty) (meant nodes x.name x.held)
      ++ due_meant nodes (stacked old.tasks.items)
