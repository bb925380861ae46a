-- What a type is identical to, where so many right sides may stand in one another.
use Rattle.std.specs.Prelude.{ℕ, Result, Ok, Err}
use Rattle.replacement.specs.declared.faults.SetFault.{SetFault}
use Rattle.replacement.specs.Expansion.{Entries}
use Rattle.type_terms.specs.Trees.{Tree}
use Rattle.type_sets.specs.Covering.{Test, itself, alike, alias_alike}

module _ (settle : Tree → Result Tree SetFault) (free : Test) (entries : Entries) where
  abbrev pub is_at : ℕ → Tree → Test
  is_at n type = alike settle free (alias_alike settle free entries n) (itself settle free) type

  -- the same of a type that is wanted, or its fault
  abbrev pub is_given : ℕ → Result Tree SetFault → Test
  is_given n (Ok type) = is_at n type
  is_given n (Err fault) = λ x. Err fault
