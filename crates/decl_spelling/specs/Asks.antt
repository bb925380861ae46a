-- What a block asks of the types that it names.
use Rattle.std.specs.Prelude.{ℕ, List, [], ◌∷◌, ◌++◌, map}
use Rattle.type_terms.specs.Shapes.{predeclared_of, named_of, parameter_of, alias_of, pointer_of, slice_of, array_of}
use Rattle.type_terms.specs.Shapes.{chan_of}
use Rattle.type_terms.specs.Shapes.{map_of, func_of, struct_of, interface_of, instance_of, union_of, shape_types}
use Rattle.type_terms.specs.Shapes.{sig_types}
use Rattle.decl_spelling.specs.declared.mention.Mention.{Mention}
use Rattle.decl_spelling.specs.declared.mention.Demand.{Demand}
use Rattle.decl_spelling.specs.declared.mention.Demand.TheVariants.{Any, Parameter, Underlying, Base, NoParameter}
use Rattle.decl_spelling.specs.declared.mention.Demand.TheVariants.{Interface}
use Rattle.decl_spelling.specs.Spelled.{SpelledType}
use Rattle.decl_spelling.specs.Descriptors.{Flat}

-- what is asked of a type, by its typeOff; the place of a flag is left out
abbrev pub Ask : Type 0
Ask = ℕ × Demand

abbrev pub unplaced : Demand → Demand
unplaced Any = Any
unplaced Parameter = Parameter
unplaced Underlying = Underlying
unplaced Base = Base
unplaced NoParameter = NoParameter
unplaced (Interface at) = Interface 0

abbrev pub ask_of : Mention → Ask
ask_of m = (m.value, unplaced m.asked)

abbrev pub asking : Demand → List SpelledType → List Ask
asking asked types = map (λ type. (type.number, asked)) types

-- ---- by a descriptor

abbrev pub flat_types : Flat → List SpelledType
flat_types x = shape_types x

abbrev pub shape_asks : Flat → List Ask
shape_asks (predeclared_of basic) = []
shape_asks (named_of name path) = []
shape_asks (parameter_of name path) = []
shape_asks (alias_of name path) = []
shape_asks (pointer_of type) = (type.number, Any) ∷ []
shape_asks (slice_of type) = (type.number, Any) ∷ []
shape_asks (array_of size type) = (type.number, Any) ∷ []
shape_asks (chan_of dir type) = (type.number, Any) ∷ []
shape_asks (map_of key type) = (key.number, Any) ∷ (type.number, Any) ∷ []
shape_asks (func_of home sig) = asking Any (sig_types sig)
shape_asks (struct_of home fields) = asking Any (flat_types (struct_of home fields))
shape_asks (interface_of home embedded methods) = asking Any (flat_types (interface_of home embedded methods))
shape_asks (instance_of base args) = asking Any args ++ (base.number, Base) ∷ []
shape_asks (union_of terms) = asking Any (flat_types (union_of terms))
