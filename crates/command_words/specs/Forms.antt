-- The forms of the command line, and the number of the first wrong word.
use Rattle.std.specs.Prelude.{◌≡◌, ◌≢◌, ℕ, ◌+◌, ◌<◌, ◌≤◌, List, [], ◌∷◌, ◌++◌, length, take, map, codes}
use Rattle.std.specs.String.{string_bytes}
use Rattle.std.specs.List.{AllByRecursion}
use Rattle.command_words.specs.Texts.{Word, Source, source_word, IsSource, divided_source}
use Rattle.command_words.specs.Texts.{Name, name_word, IsName, divided_name}
use Rattle.command_words.specs.declared.sources.SourceWord.{SourceWord}
use Rattle.command_words.specs.declared.sources.SourceWords.{SourceWords}
use Rattle.command_words.specs.declared.names.NameWord.{NameWord}
use Rattle.command_words.specs.declared.names.NameWords.{NameWords}
use Rattle.command_words.specs.declared.commands.Command.{Command}
use Rattle.command_words.specs.declared.commands.Command.TheVariants.{List as ListCommand, Show as ShowCommand}
use Rattle.command_words.specs.declared.commands.Command.TheVariants.{Check as CheckCommand}

-- what a command line asks for
pub data Request : Type 0 where
  list : Source → Request
  show : List Source → List Name → Request
  check : List Source → Request

-- The forms of the command line, one case for each command.
abbrev pub IsForm : List Word → Request → Type 0
IsForm words (list source) = (words ≡ codes "list" ∷ source_word source ∷ []) × IsSource source
IsForm words (show sources names) =
    (words ≡ codes "show" ∷ (map source_word sources ++ codes "--" ∷ map name_word names)) × (sources ≢ [])
    × AllByRecursion IsSource sources × AllByRecursion IsName names
IsForm words (check sources) =
    (words ≡ codes "check" ∷ map source_word sources) × (sources ≢ []) × AllByRecursion IsSource sources

-- a form begins with these words
abbrev pub Begins : List Word → Type 0
Begins words = (more : List Word) × (request : Request) × IsForm (words ++ more) request

-- The k-th word is wrong, where k is the least number such that no form begins with the first k words. Where the
-- words begin a form and are none, the word that they lack is wrong.
pub record IsWrongWord (words : List Word) (k : ℕ) : Type 0 where
  pub before : (j : ℕ) → j < k → Begins (take j words)
  pub there : k ≤ length words → ¬ Begins (take k words)
  pub lacking : length words < k → (k ≡ length words + 1) × ((request : Request) → ¬ IsForm words request)

-- The k-th word is the first wrong one of these words and of one more, with which no form goes on: the least k such
-- that no form begins with the first k words, and else the one after them all.
pub record IsFirstWrong (words : List Word) (k : ℕ) : Type 0 where
  pub before : (j : ℕ) → j < k → Begins (take j words)
  pub there : k ≤ length words → ¬ Begins (take k words)
  pub reached : k ≤ length words + 1

-- the source that a word names
abbrev pub source_of : SourceWord → Source
source_of word = record { path = word.path.now; file = word.file.now }

-- the sources that words name, in their order
abbrev pub sources_of : SourceWords → List Source
sources_of sources = map divided_source (map string_bytes sources.words.now)

-- the name that a word names
abbrev pub name_of : NameWord → Name
name_of word = record { path = word.path.now; name = word.name.now }

-- the names that words name, in their order
abbrev pub names_of : NameWords → List Name
names_of names = map divided_name (map string_bytes names.words.now)

-- what a command asks for
abbrev pub request_of : Command → Request
request_of (ListCommand source) = list (source_of source)
request_of (ShowCommand sources names) = show (sources_of sources) (names_of names)
request_of (CheckCommand sources) = check (sources_of sources)

-- the label of its one source is the word that spells it
abbrev pub IsLabelled : Command → Type 0
IsLabelled (ListCommand source) = source.label.now ≡ source_word (source_of source)
IsLabelled (ShowCommand sources names) = Unit {0}
IsLabelled (CheckCommand sources) = Unit {0}
