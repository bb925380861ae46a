-- What stands in a descriptor of a type, flat. P is what stands for a position, S for a text, Q for the path of a
-- package and R for a type: numbers in a file, texts and trees in what is meant.
use Rattle.std.specs.Prelude.{ℕ, Bool, List, [], ◌∷◌, ◌++◌, map}
use Rattle.std.specs.List.{flat_map}
use Rattle.code_tables.specs.declared.predeclared.Basic.{Basic}
use Rattle.type_terms.specs.declared.literals.Dir.{Dir}

pub record ParamOf (P S R : Type 0) : Type 0 where
  pub pos : P
  pub name : S
  pub type : R

pub record SigOf (P S R : Type 0) : Type 0 where
  pub params : List (ParamOf P S R)
  pub results : List (ParamOf P S R)
  pub variadic : Bool

-- where a field or method of another package's literal stands
pub record OriginOf (S Q : Type 0) : Type 0 where
  pub text : S
  pub path : Q

pub record FieldOf (P S Q R : Type 0) : Type 0 where
  pub origin : OriginOf S Q
  pub pos : P
  pub name : S
  pub type : R
  pub embedded : Bool
  pub tag : S

-- a method of an interface
pub record MethodOf (P S Q R : Type 0) : Type 0 where
  pub origin : OriginOf S Q
  pub pos : P
  pub name : S
  pub sig : SigOf P S R

pub record TermOf (R : Type 0) : Type 0 where
  pub tilde : Bool
  pub type : R

-- the path of a function, struct or interface is that of the package in which the literal stands
pub data Shape (P S Q R : Type 0) : Type 0 where
  predeclared_of : Basic → Shape P S Q R
  named_of : S → Q → Shape P S Q R
  parameter_of : S → Q → Shape P S Q R
  alias_of : S → Q → Shape P S Q R
  pointer_of : R → Shape P S Q R
  slice_of : R → Shape P S Q R
  array_of : ℕ → R → Shape P S Q R
  chan_of : Dir → R → Shape P S Q R
  map_of : R → R → Shape P S Q R
  func_of : Q → SigOf P S R → Shape P S Q R
  struct_of : Q → List (FieldOf P S Q R) → Shape P S Q R
  interface_of : Q → List R → List (MethodOf P S Q R) → Shape P S Q R
  instance_of : R → List R → Shape P S Q R
  union_of : List (TermOf R) → Shape P S Q R

-- The same shape with each part replaced.
module _ {P P' S S' Q Q' R R' : Type 0} (p : P → P') (s : S → S') (q : Q → Q') (r : R → R') where
  abbrev pub param_map : ParamOf P S R → ParamOf P' S' R'
  param_map x = record { pos = p x.pos; name = s x.name; type = r x.type }

  abbrev pub sig_map : SigOf P S R → SigOf P' S' R'
  sig_map x = record { params = map param_map x.params; results = map param_map x.results; variadic = x.variadic }

  abbrev pub field_map : FieldOf P S Q R → FieldOf P' S' Q' R'
  field_map x = record {
    origin = record { text = s x.origin.text; path = q x.origin.path };
    pos = p x.pos;
    name = s x.name;
    type = r
        x.type;
    embedded = x.embedded;
    tag = s x.tag;
  }

  abbrev pub method_map : MethodOf P S Q R → MethodOf P' S' Q' R'
  method_map x = record {
    origin = record { text = s x.origin.text; path = q x.origin.path };
    pos = p x.pos;
    name = s x.name;
    sig =
        sig_map x.sig;
  }

  abbrev pub term_map : TermOf R → TermOf R'
  term_map x = record { tilde = x.tilde; type = r x.type }

  abbrev pub shape_map : Shape P S Q R → Shape P' S' Q' R'
  shape_map (predeclared_of basic) = predeclared_of basic
  shape_map (named_of name path) = named_of (s name) (q path)
  shape_map (parameter_of name path) = parameter_of (s name) (q path)
  shape_map (alias_of name path) = alias_of (s name) (q path)
  shape_map (pointer_of type) = pointer_of (r type)
  shape_map (slice_of type) = slice_of (r type)
  shape_map (array_of size type) = array_of size (r type)
  shape_map (chan_of dir type) = chan_of dir (r type)
  shape_map (map_of key type) = map_of (r key) (r type)
  shape_map (func_of home sig) = func_of (q home) (sig_map sig)
  shape_map (struct_of home fields) = struct_of (q home) (map field_map fields)
  shape_map (interface_of home embedded methods) = interface_of (q home) (map r embedded) (map method_map methods)
  shape_map (instance_of base args) = instance_of (r base) (map r args)
  shape_map (union_of terms) = union_of (map term_map terms)

-- The types that stand in a shape, in reading order.
module _ {P S R : Type 0} where
  abbrev pub param_types : ParamOf P S R → List R
  param_types x = x.type ∷ []

  abbrev pub sig_types : SigOf P S R → List R
  sig_types x = flat_map param_types x.params ++ flat_map param_types x.results

abbrev pub term_types : {R : Type 0} → TermOf R → List R
term_types x = x.type ∷ []

module _ {P S Q R : Type 0} where
  abbrev pub field_types : FieldOf P S Q R → List R
  field_types x = x.type ∷ []

  abbrev pub method_types : MethodOf P S Q R → List R
  method_types x = sig_types x.sig

  abbrev pub shape_types : Shape P S Q R → List R
  shape_types (predeclared_of basic) = []
  shape_types (named_of name path) = []
  shape_types (parameter_of name path) = []
  shape_types (alias_of name path) = []
  shape_types (pointer_of type) = type ∷ []
  shape_types (slice_of type) = type ∷ []
  shape_types (array_of size type) = type ∷ []
  shape_types (chan_of dir type) = type ∷ []
  shape_types (map_of key type) = key ∷ type ∷ []
  shape_types (func_of home sig) = sig_types sig
  shape_types (struct_of home fields) = flat_map field_types fields
  shape_types (interface_of home embedded methods) = embedded ++ flat_map method_types methods
  shape_types (instance_of base args) = args ++ base ∷ []
  shape_types (union_of terms) = flat_map term_types terms

-- the same shape over other types
abbrev pub retype : {P S Q R R' : Type 0} → (R → R') → Shape P S Q R → Shape P S Q R'
retype r shape = shape_map (λ x. x) (λ x. x) (λ x. x) r shape
