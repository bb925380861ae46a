-- The names that a declaration refers to, and those that are reached over an environment's entries.
use Rattle.std.specs.Prelude.{ℕ, List, [], ◌∷◌, ◌++◌, ◌+◌, Option, Some, None, map}
use Rattle.std.specs.List.{flat_map, Contains}
use Rattle.go_values.specs.declared.qualified.QName.{QName}
use Rattle.type_terms.specs.Trees.{Tree, predeclared, named, parameter, alias, pointer, slice, array, chan, map_type}
use Rattle.type_terms.specs.Trees.{func, struct, interface, instance, union, Trees, no_types, types, Params, no_params}
use Rattle.type_terms.specs.Trees.{params, Fields, no_fields, fields, Methods, no_methods, methods, Terms, no_terms}
use Rattle.type_terms.specs.Trees.{terms}
use Rattle.type_terms.specs.Declarations.{Decl, form_types}
use Rattle.environments.specs.declared.mentions.Role.TheVariants.{Defined, Parameter, Alias, DefinedBase, AliasBase}
use Rattle.environments.specs.declared.mentions.Reference.{Reference}
use Rattle.environments.specs.Environments.{Entry, declared, damaged}

-- the arguments of an instance
abbrev pub argument_count : Trees → ℕ
argument_count no_types = 0
argument_count (types type rest) = 1 + argument_count rest

-- the references of a type in reading order, each as often as it is written; the base of an instance comes last
abbrev mutual
  pub tree_references : Tree → List Reference
  tree_references (predeclared basic) = []
  tree_references (named q) = record { name = q; role = Defined } ∷ []
  tree_references (parameter q) = record { name = q; role = Parameter } ∷ []
  tree_references (alias q) = record { name = q; role = Alias } ∷ []
  tree_references (pointer type) = tree_references type
  tree_references (slice type) = tree_references type
  tree_references (array size type) = tree_references type
  tree_references (chan dir type) = tree_references type
  tree_references (map_type key type) = tree_references key ++ tree_references type
  tree_references (func home ins outs variadic) = params_references ins ++ params_references outs
  tree_references (struct home inner) = fields_references inner
  tree_references (interface home embedded inner) = types_references embedded ++ methods_references inner
  tree_references (instance base args) = types_references args ++ base_references base (argument_count args)
  tree_references (union inner) = terms_references inner

  pub base_references : Tree → ℕ → List Reference
  base_references (named q) count = record { name = q; role = DefinedBase count } ∷ []
  base_references (alias q) count = record { name = q; role = AliasBase count } ∷ []
  base_references _ count = []

  pub types_references : Trees → List Reference
  types_references no_types = []
  types_references (types type rest) = tree_references type ++ types_references rest

  pub params_references : Params → List Reference
  params_references no_params = []
  params_references (params pos name type rest) = tree_references type ++ params_references rest

  pub fields_references : Fields → List Reference
  fields_references no_fields = []
  fields_references (fields origin pos name type embedded tag rest) = tree_references type ++ fields_references rest

  pub methods_references : Methods → List Reference
  methods_references no_methods = []
  methods_references (methods origin pos name ins outs variadic rest) = (params_references ins
      ++ params_references outs) ++ methods_references rest

  pub terms_references : Terms → List Reference
  terms_references no_terms = []
  terms_references (terms tilde type rest) = tree_references type ++ terms_references rest

-- a type that is neither a name nor an instance of one
abbrev pub IsByParts : Tree → Type 0
IsByParts (named q) = ⊥
IsByParts (parameter q) = ⊥
IsByParts (alias q) = ⊥
IsByParts (instance base args) = ⊥
IsByParts _ = Unit {0}

-- the references of a declaration
abbrev pub references : Decl → List Reference
references decl = flat_map tree_references (form_types decl)

abbrev pub reference_names : Decl → List QName
reference_names decl = map (λ reference. reference.name) (references decl)

-- A list of references, each once in the order of their first mention, behind those that were seen before.
pub data IsFirstMentions : List Reference → List Reference → List Reference → Type 0 where
  all_seen : (seen : List Reference) → IsFirstMentions seen [] seen
  again : (seen : List Reference) (next : Reference) (rest all : List Reference) → Contains seen next
      → IsFirstMentions seen rest all → IsFirstMentions seen (next ∷ rest) all
  first : (seen : List Reference) (next : Reference) (rest all : List Reference) → (Contains seen next → ⊥)
      → IsFirstMentions (seen ++ next ∷ []) rest all → IsFirstMentions seen (next ∷ rest) all

-- the names that the declaration behind a name refers to; none where nothing stands there, or a fault
abbrev pub entry_names : Option Entry → List QName
entry_names (Some (declared decl)) = reference_names decl
entry_names (Some (damaged fault read)) = []
entry_names None = []

-- The names that are reached from some over an environment's entries: these and, with each name, those to which its
-- declaration refers.
pub data Reached (entries : QName → Option Entry) (starts : List QName) : QName → Type 0 where
  started : (q : QName) → Contains starts q → Reached entries starts q
  followed : (from to : QName) → Reached entries starts from → Contains (entry_names (entries from)) to
      → Reached entries starts to
