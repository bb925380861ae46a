-- The names that the files of a package declare, with their places.
use Rattle.std.specs.Prelude.{ℕ, suc, if◌then◌else◌, List, [], ◌∷◌, ◌++◌, Option, Some, None, codes, flat_map}
use Rattle.std.specs.Str.{bytes_eq}
use Rattle.source_places.specs.declared.places.Place.{Place}
use Rattle.repeated_names.specs.Names.{Named}
use Rattle.source_trees.specs.Words.{Word}
use Rattle.source_trees.specs.Files.{WrittenReceiver, WrittenTop, WrittenFile, constants, variables, defined, alias}
use Rattle.source_trees.specs.Files.{func}

-- `_`, and `init`
abbrev pub blank : List ℕ
blank = codes "_"

abbrev pub init : List ℕ
init = codes "init"

abbrev pub word_place : ℕ → Word → Place
word_place file w = record { file = file; at = w.at }

abbrev pub word_at : ℕ → Word → Named
word_at file w = record { place = word_place file w; text = w.text }

-- a word at its place, unless it is blank
abbrev pub declared_at : ℕ → Word → List Named
declared_at file w = if bytes_eq w.text blank then [] else (word_at file w ∷ [])

abbrev pub words_at : ℕ → List Word → List Named
words_at file words = flat_map (declared_at file) words

-- A method declares no name of the package, and neither does a function `init`.
abbrev pub func_words : Option WrittenReceiver → Word → List Word
func_words (Some r) name = []
func_words None name = if bytes_eq name.text init then [] else (name ∷ [])

abbrev pub top_words : WrittenTop → List Word
top_words (constants c) = c.names
top_words (variables v) = v.names
top_words (defined d) = d.name ∷ []
top_words (alias d) = d.name ∷ []
top_words (func f) = func_words f.receiver f.name

abbrev pub tops_named : ℕ → List WrittenTop → List Named
tops_named file tops = words_at file (flat_map top_words tops)

-- the names that the files of a package declare in it, where the first file has this number
abbrev pub files_named : ℕ → List WrittenFile → List Named
files_named n [] = []
files_named n (f ∷ fs) = tops_named n f.tops ++ files_named (suc n) fs
