-- What calls that ask an environment keep of it and of an arena.
use Rattle.std.specs.Prelude.{◌≡◌, ◌⊎◌, List, Option, Some, None}
use Rattle.std.specs.List.{Contains}
use Rattle.go_values.specs.declared.qualified.QName.{QName}
use Rattle.type_terms.specs.Arenas.{Contents, Extends}
use Rattle.type_terms.specs.Trees.{Text, Tree}
use Rattle.environments.specs.Environments.{Entry, entry_types}
use Rattle.environments.specs.OpenedTypes.{AddsAmong}

-- what an environment means, where an arena has these nodes, and the names that it was asked for
pub record World : Type 0 where
  pub entries : QName → Option Entry
  pub names : List QName
  pub packages : Text → Option Text
  pub asked : Option (List QName)

abbrev pub world : (QName → Option Entry) → List QName → (Text → Option Text) → Option (List QName) → World
world entries names packages asked = record { entries = entries; names = names; packages = packages; asked = asked }

-- Only such names came to those asked, and none was lost.
abbrev pub AsksAmong : (QName → Type 0) → Option (List QName) → Option (List QName) → Type 0
AsksAmong may (Some old) (Some new) = ((name : QName) → Contains new name → Contains old name ⊎ may name)
    × ((name : QName) → Contains old name → Contains new name)
AsksAmong may None None = Unit {0}
AsksAmong may (Some old) None = ⊥
AsksAmong may None (Some new) = ⊥

-- What a call keeps: all that an environment means, and each node of the arena. It asks for such names alone, and adds
-- what stands in such types alone.
pub record Kept (may : QName → Type 0) (opens : Tree → Type 0) (old new : World) (before after : Contents) : Type 0
  where
    pub entries : new.entries ≡ old.entries
    pub names : new.names ≡ old.names
    pub packages : new.packages ≡ old.packages
    pub asked : AsksAmong may old.asked new.asked
    pub extends : Extends before after
    pub adds : AddsAmong opens before after

-- the types that come with what stands behind such names
abbrev pub OpensBehind : (QName → Option Entry) → (QName → Type 0) → Tree → Type 0
OpensBehind entries may type = (q : QName) × may q × Contains (entry_types (entries q)) type
