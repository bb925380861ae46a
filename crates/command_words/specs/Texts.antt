-- What the words of the command line spell.
use Rattle.std.specs.Prelude.{◌≡◌, ◌≢◌, ℕ, ◌≤◌, ◌==◌, List, [], ◌++◌, length, take, drop, codes, slice_index}
use Rattle.std.specs.Prelude.{slice_get, EachIndex, Some}
use Rattle.std.specs.List.{All, before_first, after_first}

-- a word, as its bytes
abbrev pub Word : Type 0
Word = List ℕ

-- the byte isn't in the text
abbrev pub Lacks : ℕ → List ℕ → Type 0
Lacks byte text = EachIndex text (λ k. slice_index text k ≢ byte)

-- a package path: not empty, not `--`, and without `:` and `=`
pub record IsPath (text : List ℕ) : Type 0 where
  pub some : text ≢ []
  pub plain : text ≢ codes "--"
  pub no_colon : Lacks 58 text
  pub no_equals : Lacks 61 text

-- a file: not empty, and not `--`
pub record IsFile (text : List ℕ) : Type 0 where
  pub some : text ≢ []
  pub plain : text ≢ codes "--"

-- a full file, and the path of the package that it holds
pub record Source : Type 0 where
  pub path : List ℕ
  pub file : List ℕ

-- the word `f:PATH=FILE` of a source
abbrev pub source_word : Source → Word
source_word source = codes "f:" ++ (source.path ++ (codes "=" ++ source.file))

-- a path and a file
pub record IsSource (source : Source) : Type 0 where
  pub path : IsPath source.path
  pub file : IsFile source.file

-- a word, divided at the first `=` behind its `f:`
abbrev pub divided_source : Word → Source
divided_source word = record {
  path = before_first (λ b. b == 61) (drop 2 word);
  file = after_first (λ b. b == 61) (drop 2 word);
}

-- the word spells what it is divided into
pub record Spells {N : Type 0} (spell : N → Word) (Is : N → Type 0) (divide : Word → N) (word : Word) : Type 0 where
  pub spelled : word ≡ spell (divide word)
  pub sound : Is (divide word)

-- the word names a source
abbrev pub IsSourceWord : Word → Type 0
IsSourceWord word = Spells source_word IsSource divided_source word

-- so many words name sources, and no more in a row
pub record AreLeading (words : List Word) (count : ℕ) : Type 0 where
  pub within : count ≤ length words
  pub sources : All IsSourceWord (take count words)
  pub other : (word : Word) → slice_get words count ≡ Some word → (source : Source) → IsSource source
      → word ≢ source_word source

-- a name, and the path of its package
pub record Name : Type 0 where
  pub path : List ℕ
  pub name : List ℕ

-- the word `PATH:NAME` of a name
abbrev pub name_word : Name → Word
name_word name = name.path ++ (codes ":" ++ name.name)

-- a path and a name that isn't empty
pub record IsName (name : Name) : Type 0 where
  pub path : IsPath name.path
  pub some : name.name ≢ []

-- a word, divided at its first `:`
abbrev pub divided_name : Word → Name
divided_name word = record { path = before_first (λ b. b == 58) word; name = after_first (λ b. b == 58) word }

-- the word names a name
abbrev pub IsNameWord : Word → Type 0
IsNameWord word = Spells name_word IsName divided_name word

-- word k, counted from 0, is the first that names no name
pub record IsFirstOther (words : List Word) (k : ℕ) : Type 0 where
  pub word : Word
  pub there : slice_get words k ≡ Some word
  pub names : All IsNameWord (take k words)
  pub other : (name : Name) → IsName name → word ≢ name_word name
