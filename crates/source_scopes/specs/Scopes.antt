-- What a name means where it stands: the first thing of that name from the innermost scope outwards. These are the type
-- parameters of the declaration, the objects of the package, the imports of the file, and the universe.
use Rattle.std.specs.Prelude.{◌≡◌, ◌≢◌, if◌then◌else◌, ℕ, suc, Bool, List, [], ◌∷◌, ◌++◌, Option, Some, None}
use Rattle.std.specs.Prelude.{true, false, length, map, option_map, slice_get, codes}
use Rattle.std.specs.Str.{bytes_eq}
use Rattle.std.specs.List.{AllByRecursion}
use Rattle.code_tables.specs.declared.predeclared.Basic.TheVariants as basic
use Rattle.go_expr_syntax.specs.PlainExprs.{PlainName}
use Rattle.source_trees.specs.Words.{Word}
use Rattle.source_trees.specs.Files.{WrittenFile}
use Rattle.source_walk.specs.Spots.{scope}
use Rattle.universe_names.specs.Universe.{standing_for, universe}
use Rattle.universe_names.specs.declared.names.Predeclared.{Predeclared}
use Rattle.universe_names.specs.declared.names.Predeclared.TheVariants.{Basic, Truth, Iota}
use Rattle.source_scopes.specs.declared.looking.Meaning.{Meaning}
use Rattle.source_scopes.specs.declared.looking.Meaning.TheVariants.{Parameter as a_parameter, Object as an_object}
use Rattle.source_scopes.specs.declared.looking.Meaning.TheVariants.{Package as a_package, Predeclared as predeclared}
use Rattle.source_scopes.specs.declared.looking.Resolution.{Resolution}
use Rattle.source_scopes.specs.declared.looking.Resolution.TheVariants.{Unknown, NoPackage, Own, Foreign}
use Rattle.source_scopes.specs.Objects.{Object, Imported, files_objects, imports_in, is_type_kind, is_constant_kind}

-- the scopes in which a name stands, apart from the universe
pub record Scopes : Type 0 where
  pub parameters : List Word
  pub objects : List Object
  pub imports : List Imported

-- what the files of a package declare in it, what each of them imports, and the type parameters of each declaration
pub record Declared : Type 0 where
  pub objects : List Object
  pub imports : List (List Imported)
  pub parameters : List (List (List Word))

abbrev pub declared_by : (List ℕ → Option (List ℕ)) → List WrittenFile → Declared
declared_by package_name files = record {
  objects = files_objects 0 files;
  imports = map (λ f. imports_in package_name f.imports) files;
  parameters = map (λ f. map scope f.tops) files;
}

abbrev pub or_nothing : {X : Type 0} → Option (List X) → List X
or_nothing (Some xs) = xs
or_nothing None = []

-- the type parameters of the declaration with this number in the file with this number
abbrev pub parameters_at : Declared → ℕ → ℕ → List Word
parameters_at d file top = or_nothing (slice_get (or_nothing (slice_get d.parameters file)) top)

-- the scopes in a declaration of the file with this number, where these type parameters are in scope
abbrev pub scopes_in : Declared → ℕ → List Word → Scopes
scopes_in d file parameters = record {
  parameters = parameters;
  objects = d.objects;
  imports = or_nothing (slice_get d.imports file);
}

-- the scopes in the declaration with this number
abbrev pub scopes_at : Declared → ℕ → ℕ → Scopes
scopes_at d file top = scopes_in d file (parameters_at d file top)

abbrev pub parameter_names : Scopes → List (List ℕ)
parameter_names s = map (λ w. w.text) s.parameters

abbrev pub object_names : Scopes → List (List ℕ)
object_names s = map (λ o. o.name.text) s.objects

abbrev pub import_names : Scopes → List (List ℕ)
import_names s = map (λ i. i.name) s.imports

abbrev pub blank : List ℕ
blank = codes "_"

-- ---- as a relation

-- None of some names is this one.
abbrev pub IsNone : List ℕ → List (List ℕ) → Type 0
IsNone text names = AllByRecursion (λ name. text ≢ name) names

-- The first of some names that is this one has this number.
pub record StandsFirst (text : List ℕ) (names : List (List ℕ)) (number : ℕ) : Type 0 where
  pub front : List (List ℕ)
  pub rest : List (List ℕ)
  pub split : names ≡ front ++ text ∷ rest
  pub at : number ≡ length front
  pub before : IsNone text front

-- What a name means that stands alone. Type parameters, objects and imported packages have the numbers at which they
-- stand in their lists.
pub data Means (s : Scopes) (text : List ℕ) : Meaning → Type 0 where
  by_parameter : (i : ℕ) → text ≢ blank → StandsFirst text (parameter_names s) i → Means s text (a_parameter i)
  by_object : (i : ℕ) → text ≢ blank → IsNone text (parameter_names s) → StandsFirst text (object_names s) i
      → Means s text (an_object i)
  by_import : (i : ℕ) → text ≢ blank → IsNone text (parameter_names s) → IsNone text (object_names s)
      → StandsFirst text (import_names s) i → Means s text (a_package i)
  by_universe : (p : Predeclared) → text ≢ blank → IsNone text (parameter_names s) → IsNone text (object_names s)
      → IsNone text (import_names s) → standing_for text universe ≡ Some p → Means s text (predeclared p)

-- ---- by looking

abbrev pub position : List ℕ → List (List ℕ) → Option ℕ
position text [] = None
position text (name ∷ names) = if bytes_eq text name then Some 0 else option_map (λ i. suc i) (position text names)

abbrev pub in_universe : Option Predeclared → Option Meaning
in_universe (Some p) = Some (predeclared p)
in_universe None = None

abbrev pub or_universe : List ℕ → Option ℕ → Option Meaning
or_universe text (Some i) = Some (a_package i)
or_universe text None = in_universe (standing_for text universe)

abbrev pub or_import : Scopes → List ℕ → Option ℕ → Option Meaning
or_import s text (Some i) = Some (an_object i)
or_import s text None = or_universe text (position text (import_names s))

abbrev pub or_object : Scopes → List ℕ → Option ℕ → Option Meaning
or_object s text (Some i) = Some (a_parameter i)
or_object s text None = or_import s text (position text (object_names s))

abbrev pub meaning : Scopes → List ℕ → Option Meaning
meaning s text = if bytes_eq text blank then None else or_object s text (position text (parameter_names s))

-- ---- names as they are written, with a package or without one

abbrev pub own_or_unknown : Option Meaning → Resolution
own_or_unknown (Some m) = Own m
own_or_unknown None = Unknown

-- The package `unsafe` has the predeclared type `Pointer` alone. Of another one it is given which names it offers:
-- those that it lists and that are exported.
abbrev pub offered_by : (List ℕ → List ℕ → Bool) → ℕ → List ℕ → List ℕ → Resolution
offered_by offers number name path =
    if bytes_eq path (codes "unsafe")
    then (if bytes_eq name (codes "Pointer") then Own (predeclared (Basic basic.UnsafePointer)) else Unknown)
    else (if offers path name then Foreign number else Unknown)

abbrev pub of_import : (List ℕ → List ℕ → Bool) → ℕ → List ℕ → Option Imported → Resolution
of_import offers number name (Some i) = offered_by offers number name i.path
of_import offers number name None = Unknown

-- a name behind what means this
abbrev pub behind : (List ℕ → List ℕ → Bool) → Scopes → List ℕ → Option Meaning → Resolution
behind offers s name (Some (a_package i)) = of_import offers i name (slice_get s.imports i)
behind offers s name (Some m) = NoPackage
behind offers s name None = Unknown

abbrev pub resolved_by : (List ℕ → List ℕ → Bool) → Scopes → Option Word → Word → Resolution
resolved_by offers s None name = own_or_unknown (meaning s name.text)
resolved_by offers s (Some q) name = behind offers s name.text (meaning s q.text)

-- what a name comes to as it is written
abbrev pub resolved : (List ℕ → List ℕ → Bool) → Scopes → PlainName Word → Resolution
resolved offers s x = resolved_by offers s x.qualifier x.name

-- ---- what is wanted of a name

abbrev pub kind_is_type : Option Object → Bool
kind_is_type (Some o) = is_type_kind o.kind
kind_is_type None = false

abbrev pub kind_is_constant : Option Object → Bool
kind_is_constant (Some o) = is_constant_kind o.kind
kind_is_constant None = false

abbrev pub is_type : Scopes → Meaning → Bool
is_type s (a_parameter i) = true
is_type s (an_object i) = kind_is_type (slice_get s.objects i)
is_type s (a_package i) = false
is_type s (predeclared (Basic b)) = true
is_type s (predeclared _) = false

-- `iota` is a constant where it has a value
abbrev pub is_constant : Bool → Scopes → Meaning → Bool
is_constant iota s (a_parameter i) = false
is_constant iota s (an_object i) = kind_is_constant (slice_get s.objects i)
is_constant iota s (a_package i) = false
is_constant iota s (predeclared (Truth b)) = true
is_constant iota s (predeclared Iota) = iota
is_constant iota s (predeclared _) = false
