-- How many distinct names are declared.
use Rattle.std.specs.Prelude.{◌≡◌, ◌⊎◌, ℕ, List, [], ◌∷◌, ◌++◌, length, Bool, true, false, cond, Option, Some, None, slice_get}
use Rattle.std.specs.List.{Contains, filter}
use Rattle.go_values.specs.declared.qualified.QName.{QName}
use Rattle.environments.specs.Environments.{Entry, declared, damaged}
use Rattle.asked_names.specs.Finding.{Entries}
use Rattle.asked_names.specs.declared.finding.Found.{Found}
use Rattle.asked_names.specs.declared.finding.Found.TheVariants.{Unknown, Damaged, Declared}

-- a declaration stands there
abbrev pub is_declared : Option Entry → Bool
is_declared (Some (declared decl)) = true
is_declared (Some (damaged fault read)) = false
is_declared None = false

-- those of some names that are declared
abbrev pub declared_among : Entries → List QName → List QName
declared_among entries names = filter (λ q. is_declared (entries q)) names

-- the same names, each once
pub record IsEach (names each : List QName) : Type 0 where
  pub once : (i j : ℕ) (q : QName) → slice_get each i ≡ Some q → slice_get each j ≡ Some q → i ≡ j
  pub from : (q : QName) → Contains each q → Contains names q
  pub all : (q : QName) → Contains names q → Contains each q

-- so many distinct names there are among some
abbrev pub IsCount : List QName → ℕ → Type 0
IsCount names count = (each : List QName) × IsEach names each × (length each ≡ count)

-- ---- as it is counted

abbrev pub is_here : Found → Bool
is_here Unknown = false
is_here (Damaged fault) = false
is_here (Declared node) = true

-- those names for which a declaration was found
abbrev pub declared_of : List QName → List Found → List QName
declared_of [] found = []
declared_of (q ∷ names) [] = []
declared_of (q ∷ names) (one ∷ found) = cond (is_here one) (q ∷ declared_of names found) (declared_of names found)

-- A name was listed behind those that were there, unless it was one of them.
abbrev pub IsNoted : List QName → QName → List QName → Type 0
IsNoted seen q found = (Contains seen q × (found ≡ seen)) ⊎ ((Contains seen q → ⊥) × (found ≡ seen ++ q ∷ []))

abbrev pub IsNotedIf : Bool → List QName → QName → List QName → Type 0
IsNotedIf true seen q found = IsNoted seen q found
IsNotedIf false seen q found = found ≡ seen
