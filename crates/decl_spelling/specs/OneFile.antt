-- What one file has: each type that is read of it is named by a number, and a number names one type.
use Rattle.std.specs.Prelude.{ℕ, ◌+◌, ◌<◌, List, length, None}
use Rattle.type_terms.specs.Trees.{Tree}
use Rattle.type_terms.specs.Denotation.{tree}
use Rattle.type_terms.specs.Arenas.{Contents}
use Rattle.decl_spelling.specs.declared.mention.TheConstants.{FIRST_DESCRIPTOR}
use Rattle.decl_spelling.specs.Sections.{Sections}
use Rattle.decl_spelling.specs.Spelling.{Block, Sound, Names}

-- The typeOff names the type in the file: a predeclared one, or that of a descriptor.
abbrev pub NamesType : Sections → ℕ → Tree → Type 0
NamesType src number type =
    (blocks : List Block) × Sound src blocks
    × Names src blocks (length src.body) (record { number = number; pos = None; tree = type })

abbrev pub IsOfFile : Sections → Tree → Type 0
IsOfFile src type = (number : ℕ) × NamesType src number type

-- typeOffs are below
abbrev pub type_count : Sections → ℕ
type_count src = FIRST_DESCRIPTOR + length src.body

-- each node denotes a type of the file
abbrev pub HoldsTypesOf : Sections → Contents → Type 0
HoldsTypesOf src arena = (number : ℕ) → number < length arena.nodes → IsOfFile src (tree arena.nodes number)
