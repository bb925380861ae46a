-- How types are numbered. A predeclared type, a defined type, a type parameter and an alias go by their names, and all
-- others by numbers. A type gets its number when a walk first finishes it: the number of its line where the line is
-- there already, else the next one.
use Rattle.std.specs.Prelude.{ℕ, Bool, true, false, cond, ◌||◌, List, [], ◌∷◌, ◌++◌, Option, fold, codes, decimal}
use Rattle.std.specs.List.{list_any, flat_map, position_or_len}
use Rattle.std.specs.Option.{is_some, unwrap_or}
use Rattle.std.specs.Map.{lookup}
use Rattle.type_terms.specs.Shapes.{retype}
use Rattle.type_terms.specs.Trees.{Text, Tree, predeclared, named, parameter, alias, level_of}
use Rattle.type_terms.specs.TreeEquality.{same_text, same_tree}
use Rattle.decl_text.specs.BasicNames.{basic_name}
use Rattle.decl_text.specs.TypeText.{qualified, type_text}
use Rattle.decl_text.specs.Walks.{walk}

-- the types that have numbers, each with its number
abbrev pub Numbered : Type 0
Numbered = List (Tree × ℕ)

-- these, and the lines in the order of their numbers
pub record Numbers : Type 0 where
  pub types : Numbered
  pub lines : List Text

abbrev pub no_numbers : Numbers
no_numbers = record { types = []; lines = [] }

abbrev pub number_of : Numbered → Tree → Option ℕ
number_of numbered type = lookup (same_tree type) numbered

-- a reference to a type; one that has no number yet isn't referred to
abbrev pub reference : Numbered → Tree → Text
reference numbered (predeclared basic) = basic_name basic
reference numbered (named q) = qualified q.path q.name
reference numbered (parameter q) = qualified q.path q.name
reference numbered (alias q) = qualified q.path q.name
reference numbered type = codes "#" ++ decimal (unwrap_or (number_of numbered type) 0)

-- the line of a type, by its one level
abbrev pub line_of : Numbered → Tree → Text
line_of numbered type = type_text (retype (reference numbered) (level_of type))

abbrev pub goes_by_name : Tree → Bool
goes_by_name (predeclared basic) = true
goes_by_name (named q) = true
goes_by_name (parameter q) = true
goes_by_name (alias q) = true
goes_by_name _ = false

-- a type that needs no number any more
abbrev pub is_settled : Numbered → Tree → Bool
is_settled numbered type = goes_by_name type || is_some (number_of numbered type)

-- the type gets the number of the line
abbrev pub give : Numbers → Tree → Text → Numbers
give numbers type line = record {
  types = numbers.types ++ (type, position_or_len (same_text line) numbers.lines) ∷ [];
  lines = cond (list_any (same_text line) numbers.lines) numbers.lines (numbers.lines ++ line ∷ []);
}

abbrev pub finish : Numbers → Tree → Numbers
finish numbers type = cond (is_settled numbers.types type) numbers (give numbers type (line_of numbers.types type))

-- the numbers after types were finished one after the other
abbrev pub finish_all : Numbers → List Tree → Numbers
finish_all numbers types = fold finish numbers types

-- the numbers of all types that stand in these, at any depth
abbrev pub number_all : List Tree → Numbers
number_all types = finish_all no_numbers (flat_map walk types)
