-- Where something stands in a declaration.
use Rattle.std.specs.Prelude.{ℕ, true, false, List, [], ◌∷◌, ◌++◌, Option, Some, None}
use Rattle.source_trees.specs.Words.{Word}
use Rattle.source_trees.specs.Files.{WrittenTParam, WrittenReceiver, WrittenTop, constants, variables}
use Rattle.source_trees.specs.Files.{defined, alias, func}
use Rattle.source_walk.specs.declared.spots.Spot.{Spot}
use Rattle.source_walk.specs.declared.spots.Role.TheVariants as role
use Rattle.source_walk.specs.declared.spots.Zone.TheVariants as zone

abbrev pub tparam_words : List WrittenTParam → List Word
tparam_words [] = []
tparam_words (p ∷ ps) = p.names ++ tparam_words ps

abbrev pub receiver_words : Option WrittenReceiver → List Word
receiver_words (Some r) = r.args
receiver_words None = []

-- the names of type parameters that are in scope in a declaration
abbrev pub scope : WrittenTop → List Word
scope (constants c) = []
scope (variables v) = []
scope (defined t) = tparam_words t.tparams
scope (alias t) = tparam_words t.tparams
scope (func f) = receiver_words f.receiver ++ tparam_words f.tparams

-- the value of iota in a declaration
abbrev pub iota_in : WrittenTop → Option ℕ
iota_in (constants c) = Some c.iota
iota_in (variables v) = None
iota_in (defined t) = None
iota_in (alias t) = None
iota_in (func f) = None

-- the written type of the constants or variables that a declaration has, if it has some
unfoldable pub start : ℕ → ℕ → WrittenTop → Spot
start file top t = record {
  file = file;
  top = top;
  item = 0;
  iota = iota_in t;
  role = role.Ordinary;
  zone = zone.WrittenType;
  straight = false;
}

-- the value of the constant with this number among those that are declared together
unfoldable pub value_of : ℕ → Spot → Spot
value_of item s = record s { item = item; zone = zone.Value }

-- a constraint in the list of type parameters
unfoldable pub constraint_of : Spot → Spot
constraint_of s = record s { role = role.Constraint; zone = zone.TypeParameters }

-- the right side of a type or an alias
unfoldable pub right_side_of : Spot → Spot
right_side_of s = record s { role = role.RightSide; zone = zone.RightSide; straight = true }

-- the signature of a function or method
unfoldable pub signature_of : Spot → Spot
signature_of s = record s { zone = zone.Signature }

-- inside of another type
unfoldable pub inside : Spot → Spot
inside s = record s { role = role.Ordinary; straight = false }

-- an element of an interface, and a term of a union
unfoldable pub element_of : Spot → Spot
element_of s = record s { role = role.Element }

unfoldable pub term_of : Spot → Spot
term_of s = record s { role = role.Term }
