-- The text of one level of a type, where each type that stands in it is given by the text of its reference.
use Rattle.std.specs.Prelude.{List, [], ◌∷◌, ◌++◌, map, codes, decimal, if◌then◌else◌}
use Rattle.go_values.specs.declared.positions.Pos.{Pos}
use Rattle.go_values.specs.declared.positions.Pos.TheVariants.{Nowhere, At}
use Rattle.type_terms.specs.declared.literals.Dir.{Dir}
use Rattle.type_terms.specs.declared.literals.Dir.TheVariants.{Receive, Send, Both}
use Rattle.type_terms.specs.Shapes.{ParamOf, SigOf, FieldOf, MethodOf, TermOf, Shape, predeclared_of, named_of}
use Rattle.type_terms.specs.Shapes.{parameter_of, alias_of, pointer_of, slice_of, array_of, chan_of, map_of, func_of}
use Rattle.type_terms.specs.Shapes.{struct_of, interface_of, instance_of, union_of}
use Rattle.type_terms.specs.Trees.{Text}
use Rattle.decl_text.specs.Printed.{printed, quoted}
use Rattle.decl_text.specs.Joined.{joined}
use Rattle.decl_text.specs.BasicNames.{basic_name}

-- the file, the line and the column of a position, or `-` where there is none
abbrev pub pos_text : Pos → Text
pos_text Nowhere = codes "-"
pos_text (At file line column) = printed file ++ codes ":" ++ decimal line ++ codes ":" ++ decimal column

-- a name with the path of its package
abbrev pub qualified : Text → Text → Text
qualified path name = printed path ++ codes "." ++ printed name

-- A parameter without a name has `-` in its place.
abbrev pub param_name : Text → Text
param_name [] = codes "-"
param_name (byte ∷ bytes) = printed (byte ∷ bytes)

abbrev pub param_text : ParamOf Pos Text Text → Text
param_text x = param_name x.name ++ codes " " ++ x.type

-- the last parameter of a variadic signature, which has `...` before its type
abbrev pub dotted : ParamOf Pos Text Text → ParamOf Pos Text Text
dotted x = record { pos = x.pos; name = x.name; type = codes "..." ++ x.type }

abbrev pub spread : List (ParamOf Pos Text Text) → List (ParamOf Pos Text Text)
spread [] = []
spread (x ∷ []) = dotted x ∷ []
spread (x ∷ y ∷ rest) = x ∷ spread (y ∷ rest)

abbrev pub params_text : List (ParamOf Pos Text Text) → Text
params_text xs = codes "(" ++ joined (codes ", ") (map param_text xs) ++ codes ")"

abbrev pub results_text : List (ParamOf Pos Text Text) → Text
results_text [] = []
results_text (x ∷ xs) = codes " " ++ params_text (x ∷ xs)

abbrev pub sig_text : SigOf Pos Text Text → Text
sig_text sig = params_text (if sig.variadic then spread sig.params else sig.params) ++ results_text sig.results

-- A tag is printed where it isn't empty.
abbrev pub tag_text : Text → Text
tag_text [] = []
tag_text (byte ∷ bytes) = codes " " ++ quoted (byte ∷ bytes)

abbrev pub field_text : FieldOf Pos Text Text Text → Text
field_text x = (if x.embedded then codes "^" else []) ++ printed x.name ++ codes " " ++ x.type ++ tag_text x.tag

-- a method of an interface
abbrev pub method_text : MethodOf Pos Text Text Text → Text
method_text x = printed x.name ++ sig_text x.sig

abbrev pub term_text : TermOf Text → Text
term_text x = (if x.tilde then codes "~" else []) ++ x.type

-- types between brackets
abbrev pub bracketed : List Text → Text
bracketed types = codes "[" ++ joined (codes ", ") types ++ codes "]"

abbrev pub chan_word : Dir → Text
chan_word Receive = codes "<-chan "
chan_word Send = codes "chan<- "
chan_word Both = codes "chan "

-- Where a literal of a function, a struct or an interface stands is printed of the last two alone.
abbrev pub type_text : Shape Pos Text Text Text → Text
type_text (predeclared_of basic) = basic_name basic
type_text (named_of name path) = qualified path name
type_text (parameter_of name path) = qualified path name
type_text (alias_of name path) = qualified path name
type_text (pointer_of type) = codes "*" ++ type
type_text (slice_of type) = codes "[]" ++ type
type_text (array_of size type) = codes "[" ++ decimal size ++ codes "]" ++ type
type_text (chan_of dir type) = chan_word dir ++ type
type_text (map_of key type) = codes "map[" ++ key ++ codes "]" ++ type
type_text (func_of home sig) = codes "func" ++ sig_text sig
type_text (struct_of home fields) = codes "struct " ++ printed home
    ++ codes " {" ++ joined (codes "; ") (map field_text fields) ++ codes "}"
type_text (interface_of home embedded methods) = codes "interface " ++ printed home
    ++ codes " {" ++ joined (codes "; ") (embedded ++ map method_text methods) ++ codes "}"
type_text (instance_of base args) = base ++ bracketed args
type_text (union_of terms) = joined (codes " | ") (map term_text terms)
