-- Names that are declared twice, or that may not be declared.
use Rattle.std.specs.Prelude.{ℕ, suc, Bool, true, false, ◌&&◌, if◌then◌else◌, List, [], ◌∷◌, ◌++◌, Option}
use Rattle.std.specs.Prelude.{Some, None, map, flat_map}
use Rattle.std.specs.Str.{bytes_eq}
use Rattle.go_type_syntax.specs.PlainTypes as t
use Rattle.go_type_syntax.specs.PlainTypes.{PlainParams, PlainParam, PlainFields, PlainField, PlainElems, PlainElem}
use Rattle.go_type_syntax.specs.PlainTypes.{signature, no_param}
use Rattle.go_type_syntax.specs.PlainTypes.{and_param, sharing, no_field, and_field, having, no_elem, and_elem, method}
use Rattle.go_type_syntax.specs.PlainTypes.{embedded}
use Rattle.source_places.specs.declared.places.Place.{Place}
use Rattle.source_places.specs.declared.places.Found.{Found}
use Rattle.repeated_names.specs.Names.{Named}
use Rattle.repeated_names.specs.Repeats.{repeats, clashes}
use Rattle.source_trees.specs.declared.literals.Literal.{Literal}
use Rattle.source_trees.specs.Trees.{WrittenType, WrittenSig}
use Rattle.source_trees.specs.Words.{Word}
use Rattle.source_trees.specs.Files.{WrittenImport, WrittenTParam, WrittenReceiver, WrittenFunc, WrittenTop}
use Rattle.source_trees.specs.Files.{WrittenFile}
use Rattle.source_trees.specs.Files.{constants, variables, defined, alias, func}
use Rattle.source_walk.specs.Spots.{tparam_words, receiver_words}
use Rattle.source_walk.specs.Visits.{Visit, a_file, a_top, a_type, an_expr, files_visits}
use Rattle.source_names.specs.Names.{init, word_place, words_at, files_named}

-- ---- lists of names in a declaration

abbrev pub param_words : PlainParam Word Literal → List Word
param_words (sharing names variadic ty at) = names

abbrev pub params_words : PlainParams Word Literal → List Word
params_words no_param = []
params_words (and_param p ps) = param_words p ++ params_words ps

-- the name of a type that is written with its name alone, without a package
abbrev pub named_word : WrittenType → List Word
named_word (t.named x args at) = x.name ∷ []
named_word _ = []

-- the name of an embedded field: that of its type, or of the one that a pointer points to
abbrev pub embedded_word : WrittenType → List Word
embedded_word (t.pointer ty at) = named_word ty
embedded_word ty = named_word ty

abbrev pub names_or_embedded : List Word → WrittenType → List Word
names_or_embedded [] ty = embedded_word ty
names_or_embedded (w ∷ ws) ty = w ∷ ws

abbrev pub field_words : PlainField Word Literal → List Word
field_words (having names ty tag at) = names_or_embedded names ty

abbrev pub fields_words : PlainFields Word Literal → List Word
fields_words no_field = []
fields_words (and_field f fs) = field_words f ++ fields_words fs

abbrev pub elem_words : PlainElem Word Literal → List Word
elem_words (method name sig at) = name ∷ []
elem_words (embedded ty at) = []

-- the methods of an interface
abbrev pub methods_words : PlainElems Word Literal → List Word
methods_words no_elem = []
methods_words (and_elem e es) = elem_words e ++ methods_words es

-- parameters and results are two lists
abbrev pub in_sig : ℕ → WrittenSig → List Place
in_sig file (signature ps rs at) =
    repeats (words_at file (params_words ps)) ++ repeats (words_at file (params_words rs))

abbrev pub in_type : ℕ → WrittenType → List Place
in_type file (t.func sig at) = in_sig file sig
in_type file (t.struct fields at) = repeats (words_at file (fields_words fields))
in_type file (t.interface elems at) = repeats (words_at file (methods_words elems))
in_type file _ = []

abbrev pub in_func : ℕ → WrittenFunc → List Place
in_func file f =
    repeats (words_at file (receiver_words f.receiver)) ++ repeats (words_at file (tparam_words f.tparams))
    ++ in_sig file f.sig

abbrev pub in_top : ℕ → WrittenTop → List Place
in_top file (constants c) = []
in_top file (variables v) = []
in_top file (defined d) = repeats (words_at file (tparam_words d.tparams))
in_top file (alias d) = repeats (words_at file (tparam_words d.tparams))
in_top file (func f) = in_func file f

-- ---- names called `init`

abbrev pub init_at : ℕ → Word → List Place
init_at file w = if bytes_eq w.text init then (word_place file w ∷ []) else []

abbrev pub inits : ℕ → List Word → List Place
inits file words = flat_map (init_at file) words

abbrev pub no_tparams : List WrittenTParam → Bool
no_tparams [] = true
no_tparams (p ∷ ps) = false

abbrev pub no_params : PlainParams Word Literal → Bool
no_params no_param = true
no_params (and_param p ps) = false

abbrev pub is_bare : List WrittenTParam → WrittenSig → Bool
is_bare tparams (signature ps rs at) = no_tparams tparams && no_params ps && no_params rs

-- a function `init` with type parameters, parameters or results
abbrev pub func_inits : ℕ → Option WrittenReceiver → Bool → Word → List Place
func_inits file (Some r) bare name = []
func_inits file None true name = []
func_inits file None false name = init_at file name

abbrev pub top_inits : ℕ → WrittenTop → List Place
top_inits file (constants c) = inits file c.names
top_inits file (variables v) = inits file v.names
top_inits file (defined d) = init_at file d.name
top_inits file (alias d) = init_at file d.name
top_inits file (func f) = func_inits file f.receiver (is_bare f.tparams f.sig) f.name

abbrev pub import_init : ℕ → Option Word → List Place
import_init file (Some w) = init_at file w
import_init file None = []

-- imports that are given this name
abbrev pub import_inits : ℕ → List WrittenImport → List Place
import_inits file imports = flat_map (λ i. import_init file i.name) imports

-- at a visit: in a struct, an interface, a signature or a list of type parameters, and names called `init`
abbrev pub duplicates_at : Visit → List Place
duplicates_at (a_file n f) = import_inits n f.imports
duplicates_at (a_top s top) = in_top s.file top ++ top_inits s.file top
duplicates_at (a_type s w ty) = in_type s.file ty
duplicates_at (an_expr s w e) = []

-- ---- imports

-- the word that an import declares in its file: its own name, or that of the package, at the path
abbrev pub import_word : ℕ → Option Word → Option (List ℕ) → List Word
import_word at (Some w) found = w ∷ []
import_word at None (Some name) = record { text = name; at = at } ∷ []
import_word at None None = []

abbrev pub import_words : (List ℕ → Option (List ℕ)) → List WrittenImport → List Word
import_words package_name imports = flat_map (λ i. import_word i.at i.name (package_name i.path)) imports

-- the names that the imports of each file declare, file by file
abbrev pub imports_named : (List ℕ → Option (List ℕ)) → ℕ → List WrittenFile → List (List Named)
imports_named package_name n [] = []
imports_named package_name n (f ∷ fs) =
    words_at n (import_words package_name f.imports) ∷ imports_named package_name (suc n) fs

-- ---- package clauses

-- the names in package clauses that differ from this one
abbrev pub other_package : List ℕ → ℕ → WrittenFile → List Place
other_package name n f = if bytes_eq f.name.text name then [] else (word_place n f.name ∷ [])

abbrev pub other_packages : List ℕ → ℕ → List WrittenFile → List Place
other_packages name n [] = []
other_packages name n (f ∷ fs) = other_package name n f ++ other_packages name (suc n) fs

abbrev pub first_clause : List WrittenFile → Option (List ℕ)
first_clause [] = None
first_clause (f ∷ fs) = Some f.name.text

abbrev pub differing : Option (List ℕ) → List WrittenFile → List Place
differing (Some name) files = other_packages name 0 files
differing None files = []

-- those that differ from that of the first file
abbrev pub package_duplicates : List WrittenFile → List Place
package_duplicates files = differing (first_clause files) files

-- ---- all of them

abbrev pub visited : List Visit → List Place
visited visits = flat_map duplicates_at visits

-- All places of the files of a package, where the names of packages are given by their paths. The imports of a file
-- are held against each other and against the names of the package.
abbrev pub duplicates : (List ℕ → Option (List ℕ)) → List WrittenFile → List Place
duplicates package_name files =
    clashes (files_named 0 files) (imports_named package_name 0 files) ++ package_duplicates files
    ++ visited (files_visits files)

-- a place with a cause that is the same for all
abbrev pub found_at : {C : Type 0} → C → Place → Found C
found_at cause place = record { place = place; cause = cause }

-- the places of duplicates with their cause
abbrev pub duplicates_found : {C : Type 0} → C → (List ℕ → Option (List ℕ)) → List WrittenFile → List (Found C)
duplicates_found cause package_name files = map (found_at cause) (duplicates package_name files)

-- the same at a visit
abbrev pub duplicate_at : {C : Type 0} → C → Visit → List (Found C)
duplicate_at cause visit = map (found_at cause) (duplicates_at visit)
