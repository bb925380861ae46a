-- What an interface holds, and what becomes known as interfaces are opened. T stands for a type, Q for the name of a
-- defined type, M for a method.
use Rattle.std.specs.Prelude.{List, Bool, Option, Result}

pub record Term (T : Type 0) : Type 0 where
  pub tilde : Bool
  pub type : T

-- an embedded element: the terms of a union, or one term without a tilde
abbrev pub Element : Type 0 → Type 0
Element T = List (Term T)

-- the defined type that has it, if one does; its own methods; whether it is `comparable`; what it embeds
pub record Interface (T Q M : Type 0) : Type 0 where
  pub name : Option Q
  pub own : List M
  pub flag : Bool
  pub elements : List (Element T)

-- To the element of an interface that is under way comes a term, or come the terms of another interface; or it ends.
pub data Event (T : Type 0) : Type 0 where
  has_term : T → Term T → Event T
  has_interface : T → T → Event T
  ends_element : T → Event T

-- The interfaces that were opened, and their methods, in order; whether one of them is `comparable`; which of them have
-- methods or are it, by themselves or by what they embed; what came to their elements.
pub record Opened (T M : Type 0) : Type 0 where
  pub types : List T
  pub methods : List M
  pub flag : Bool
  pub marked : List T
  pub events : List (Event T)

-- What is asked of types.
pub record Looks (T Q M F : Type 0) : Type 0 where
  pub same : T → T → Bool
  pub same_name : Q → Q → Bool
  -- the type with no alias at its head
  pub settle : T → Result T F
  -- its name, where it is a defined type
  pub name_of : T → Option Q
  -- the interface that its underlying type is, if it is one
  pub beneath : T → Result (Option (Interface T Q M)) F
  -- no alias in it mentions itself
  pub no_cycle : T → Result (Unit {0}) F
  -- and it holds no interface but the empty one
  pub whole : T → Result (Unit {0}) F
  -- a defined type is met inside of its own interface
  pub embed_cycle : Q → F
  -- an interface with methods is one of several terms
  pub union_methods : F
  -- one interface more than may be
  pub too_many : F
