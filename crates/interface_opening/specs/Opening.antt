-- How the interfaces of a type are opened: depth first, from left to right, each distinct one once.
use Rattle.std.specs.Prelude.{ℕ, zero, suc, List, [], ◌∷◌, ◌++◌, map, Bool, true, false, ◌||◌, cond, Result, Ok, Err}
use Rattle.std.specs.Prelude.{Option, Some, None}
use Rattle.std.specs.List.{list_any, flat_map}
use Rattle.interface_opening.specs.Elements.{Term, Element, Interface, Event, has_term, has_interface, ends_element}
use Rattle.interface_opening.specs.Elements.{Opened, Looks}

-- What is still to be done: a term of a holder is to be looked at, which may be one of several; an interface that was
-- such a term has been opened; an element of a holder ends; the interface of a defined type ends.
pub data Item (T Q : Type 0) : Type 0 where
  term : T → Bool → Term T → Item T Q
  joins : T → Bool → T → Item T Q
  ends : T → Item T Q
  closes : Q → Item T Q

-- what an item leads to: more that is known, a fault, or an interface of this type that is to be opened
pub data Step (T Q M F : Type 0) : Type 0 where
  goes : Opened T M → Step T Q M F
  stops : F → Step T Q M F
  opens : T → Interface T Q M → Opened T M → Step T Q M F

-- the same of a list of items, and what is left of it
pub data Next (T Q M F : Type 0) : Type 0 where
  done : Opened T M → Next T Q M F
  faulty : F → Next T Q M F
  found : T → Interface T Q M → Opened T M → List (Item T Q) → Next T Q M F

module _ {T Q M F : Type 0} (look : Looks T Q M F) where
  abbrev pub has : List T → T → Bool
  has xs x = list_any (look.same x) xs

  abbrev pub noting : Event T → Opened T M → Opened T M
  noting event s = record {
    types = s.types;
    methods = s.methods;
    flag = s.flag;
    marked = s.marked;
    events = s.events ++ event ∷ [];
  }

  abbrev pub with_mark : List T → T → List T
  with_mark marked x = cond (has marked x) marked (marked ++ x ∷ [])

  abbrev pub marking : T → Opened T M → Opened T M
  marking x s = record {
    types = s.types;
    methods = s.methods;
    flag = s.flag;
    marked = with_mark s.marked x;
    events = s.events;
  }

  -- a defined type whose interface is being opened: its end is still to come
  abbrev pub closing : Q → Item T Q → Bool
  closing q (closes p) = look.same_name q p
  closing q _ = false

  abbrev pub is_open : List (Item T Q) → Option Q → Option Q
  is_open rest None = None
  is_open rest (Some q) = cond (list_any (closing q) rest) (Some q) None

  abbrev pub after : Result (Unit {0}) F → Step T Q M F → Step T Q M F
  after (Ok u) step = step
  after (Err f) step = stops f

  -- a term that is no interface is tested; an interface is opened
  abbrev pub shown : T → Bool → T → T → Opened T M → Result (Option (Interface T Q M)) F → Step T Q M F
  shown holder tilde type x s (Err f) = stops f
  shown holder tilde type x s (Ok None) =
      after (look.whole type) (goes (noting (has_term holder (record { tilde = tilde; type = x })) s))
  shown holder tilde type x s (Ok (Some it)) = opens x it s

  -- what an opened interface has its holder has too; one with methods is none of several terms
  abbrev pub joined : T → Bool → T → Opened T M → Step T Q M F
  joined holder several x s =
      cond (has s.marked x)
      (cond several (stops look.union_methods) (goes (marking holder (noting (has_interface holder x) s))))
      (goes (noting (has_interface holder x) s))

  abbrev pub new_or_known : T → Bool → Bool → T → T → Opened T M → Step T Q M F
  new_or_known holder several tilde type x s =
      cond (has s.types x) (joined holder several x s) (shown holder tilde type x s (look.beneath x))

  abbrev pub unless_open : Option Q → Step T Q M F → Step T Q M F
  unless_open None step = step
  unless_open (Some q) step = stops (look.embed_cycle q)

  abbrev pub settled : T → Bool → Bool → T → List (Item T Q) → Opened T M → Result T F → Step T Q M F
  settled holder several tilde type rest s (Err f) = stops f
  settled holder several tilde type rest s (Ok x) =
      unless_open (is_open rest (look.name_of x)) (new_or_known holder several tilde type x s)

  -- one of several terms, or one with a tilde, is tested first
  abbrev pub tested : Bool → T → Result (Unit {0}) F
  tested true type = look.no_cycle type
  tested false type = Ok tt

  abbrev pub step : Item T Q → List (Item T Q) → Opened T M → Step T Q M F
  step (term holder several x) rest s =
      after (tested (several || x.tilde) x.type) (settled holder several x.tilde x.type rest s (look.settle x.type))
  step (joins holder several x) rest s = joined holder several x s
  step (ends holder) rest s = goes (noting (ends_element holder) s)
  step (closes q) rest s = goes s

  -- what is to be done once the interface of a term was opened
  abbrev pub joining : Item T Q → T → List (Item T Q)
  joining (term holder several t) x = joins holder several x ∷ []
  joining _ x = []

  abbrev pub passed : Step T Q M F → (T → List (Item T Q)) → List (Item T Q) → (Opened T M → Next T Q M F)
      → Next T Q M F
  passed (goes s) also rest later = later s
  passed (stops f) also rest later = faulty f
  passed (opens x it s) also rest later = found x it s (also x ++ rest)

  -- up to the next interface that is new
  abbrev pub next : List (Item T Q) → Opened T M → Next T Q M F
  next [] s = done s
  next (item ∷ rest) s = passed (step item rest s) (joining item) rest (next rest)

  -- what an interface leaves to be done: its elements in order, and then its end
  abbrev pub several_terms : Element T → Bool
  several_terms (a ∷ b ∷ more) = true
  several_terms _ = false

  abbrev pub element_items : T → Element T → List (Item T Q)
  element_items holder terms = map (term holder (several_terms terms)) terms ++ ends holder ∷ []

  abbrev pub close_items : Option Q → List (Item T Q)
  close_items None = []
  close_items (Some q) = closes q ∷ []

  abbrev pub inside : T → Interface T Q M → List (Item T Q)
  inside x it = flat_map (element_items x) it.elements ++ close_items it.name

  -- the mark of one with methods, or with the flag
  abbrev pub marked_by : List M → Bool → List T → T → List T
  marked_by [] false marked x = marked
  marked_by _ _ marked x = with_mark marked x

  -- its own methods come first
  abbrev pub opened_with : T → Interface T Q M → Opened T M → Opened T M
  opened_with x it s = record {
    types = s.types ++ x ∷ [];
    methods = s.methods ++ it.own;
    flag = s.flag || it.flag;
    marked = marked_by it.own it.flag s.marked x;
    events = s.events;
  }

  abbrev pub at_limit : Next T Q M F → Result (Opened T M) F
  at_limit (done s) = Ok s
  at_limit (faulty f) = Err f
  at_limit (found x it s rest) = Err look.too_many

  abbrev pub onward : (List (Item T Q) → Opened T M → Result (Opened T M) F) → Next T Q M F → Result (Opened T M) F
  onward further (done s) = Ok s
  onward further (faulty f) = Err f
  onward further (found x it s rest) = further (inside x it ++ rest) (opened_with x it s)

  -- at most n interfaces more are opened
  unfoldable pub opening : ℕ → List (Item T Q) → Opened T M → Result (Opened T M) F
  opening zero items s = at_limit (next items s)
  opening (suc n) items s = onward (opening n) (next items s)

-- nothing is opened yet
abbrev pub none_opened : {T M : Type 0} → Opened T M
none_opened = record { types = []; methods = []; flag = false; marked = []; events = [] }
