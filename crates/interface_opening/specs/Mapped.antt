-- What becomes known of types, seen by what they stand for: T are types, as numbers of nodes, and U what they mean.
use Rattle.std.specs.Prelude.{◌≡◌, map}
use Rattle.interface_opening.specs.Elements.{Term, Event, has_term, has_interface, ends_element, Opened, Looks}

module _ {T U : Type 0} (d : T → U) where
  abbrev pub term_mapped : Term T → Term U
  term_mapped x = record { tilde = x.tilde; type = d x.type }

  abbrev pub event_mapped : Event T → Event U
  event_mapped (has_term holder x) = has_term (d holder) (term_mapped x)
  event_mapped (has_interface holder of) = has_interface (d holder) (d of)
  event_mapped (ends_element holder) = ends_element (d holder)

  module _ {M N : Type 0} (m : M → N) where
    abbrev pub opened_mapped : Opened T M → Opened U N
    opened_mapped s = record {
      types = map d s.types;
      methods = map m s.methods;
      flag = s.flag;
      marked = map d s.marked;
      events = map event_mapped s.events;
    }

-- the same types are told apart
abbrev pub AgreeOn : {T U Q R M N F G : Type 0} → (T → Type 0) → (T → U) → Looks T Q M F → Looks U R N G → Type 0
AgreeOn {T = T} Known d look other = (a b : T) → Known a → Known b → other.same (d a) (d b) ≡ look.same a b
