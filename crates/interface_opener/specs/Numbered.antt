-- What becomes known as interfaces are opened, where types are numbers of nodes.
use Rattle.std.specs.Prelude.{◌≡◌, ℕ, [], ◌∷◌, ◌++◌, ◌||◌, map, nat_eq, None, Result, Ok, Err}
use Rattle.go_values.specs.declared.qualified.QName.{QName}
use Rattle.type_terms.specs.TreeEquality.{same_name}
use Rattle.interface_opening.specs.Elements.{Interface, Event, has_term, has_interface, ends_element, Opened, Looks}
use Rattle.interface_opening.specs.Opening.{Step, goes, stops}
use Rattle.replacement.specs.declared.faults.SetFault.{SetFault}
use Rattle.replacement.specs.declared.faults.SetFault.TheVariants.{EmbedCycle, UnionMethods, TooMany, OutOfMemory}
use Rattle.interface_nodes.specs.declared.methods.SetMethod.{SetMethod}
use Rattle.interface_nodes.specs.declared.held.Held.{Held}
use Rattle.interface_opener.specs.declared.found.Found.{Found}
use Rattle.interface_opener.specs.declared.found.Event.{Event as Noted}
use Rattle.interface_opener.specs.declared.found.Event.TheVariants.{Term as TermNoted, Interface as InterfaceNoted}
use Rattle.interface_opener.specs.declared.found.Event.TheVariants.{Ends}

abbrev pub event_of : Noted → Event ℕ
event_of (TermNoted holder term) = has_term holder (record { tilde = term.tilde; type = term.ty })
event_of (InterfaceNoted holder of) = has_interface holder of
event_of (Ends holder) = ends_element holder

abbrev pub state : Found → Opened ℕ SetMethod
state x = record {
  types = x.types.keys;
  methods = x.methods.items;
  flag = x.comparable;
  marked = x.marked.keys;
  events = map event_of x.events.items;
}

-- Numbers are the same types where they are equal. Nothing else is asked here.
abbrev pub by_number : Looks ℕ QName SetMethod SetFault
by_number = record {
  same = nat_eq;
  same_name = same_name;
  settle = λ x. Ok x;
  name_of = λ x. None;
  beneath = λ x. Ok None;
  no_cycle = λ x. Ok tt;
  whole = λ x. Ok tt;
  embed_cycle = EmbedCycle;
  union_methods = UnionMethods;
  too_many = TooMany;
}

-- what is opened of an interface, without its name and its elements
abbrev pub shown : Held → Interface ℕ QName SetMethod
shown x = record { name = None; own = x.own.items; flag = x.comparable; elements = [] }

-- the same opened, but for its mark
abbrev pub with_held : ℕ → Held → Opened ℕ SetMethod → Opened ℕ SetMethod
with_held x held s = record {
  types = s.types ++ x ∷ [];
  methods = s.methods ++ held.own.items;
  flag = s.flag || held.comparable;
  marked = s.marked;
  events = s.events;
}

-- an interface came to its holder, or is wrong there; want of memory alone is free
abbrev pub Joins : Result (Unit {0}) SetFault → Step ℕ QName SetMethod SetFault → Opened ℕ SetMethod → Type 0
Joins (Ok done) step new = step ≡ goes new
Joins (Err OutOfMemory) step new = Unit {0}
Joins (Err fault) step new = step ≡ stops fault
