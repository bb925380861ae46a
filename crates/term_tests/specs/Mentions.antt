-- The aliases that a type mentions, what a call asks and opens that follows them, and what it answers.
use Rattle.std.specs.Prelude.{◌≡◌, ℕ, List, Option, Bool, Result, Ok, Err}
use Rattle.std.specs.List.{Contains}
use Rattle.go_values.specs.declared.qualified.QName.{QName}
use Rattle.environments.specs.Kept.{OpensBehind}
use Rattle.type_terms.specs.declared.descriptors.Node.{Node}
use Rattle.type_terms.specs.Arenas.{Contents}
use Rattle.type_terms.specs.Denotation.{tree}
use Rattle.type_terms.specs.Trees.{Tree}
use Rattle.replacement.specs.declared.faults.SetFault.{SetFault}
use Rattle.replacement.specs.declared.faults.SetFault.TheVariants.{Kind, OutOfMemory}
use Rattle.replacement.specs.Expansion.{Entries, then, known}
use Rattle.replacement.specs.Calls.{Stops}
use Rattle.type_sets.specs.TermTests.{mentioned, right_of}

-- the right side of an alias, as it is declared
abbrev pub declared_right : Entries → QName → Result Tree SetFault
declared_right entries q = then (known (entries q) q) (right_of q)

-- the right side of one alias mentions another
abbrev pub Mentions : Entries → QName → QName → Type 0
Mentions entries from to = (right : Tree) × (declared_right entries from ≡ Ok right) × Contains (mentioned right) to

-- the aliases that a type mentions, itself or through right sides as they are declared
pub data IsMentioned (entries : Entries) (type : Tree) : QName → Type 0 where
  here : (q : QName) → Contains (mentioned type) q → IsMentioned entries type q
  further : (from to : QName) → IsMentioned entries type from → Mentions entries from to → IsMentioned entries type to

-- the types that come with what stands behind them
abbrev pub OpensMentioned : Entries → Tree → Tree → Type 0
OpensMentioned entries type opened = OpensBehind entries (IsMentioned entries type) opened

-- the answer is the one that is wanted, or the fault that is, or the call stopped
abbrev pub Tells : {X : Type 0} → (Tree → Type 0) → Contents → Option Bool → Result X SetFault → Result X SetFault
    → Type 0
Tells opens before full (Ok x) want = want ≡ Ok x
Tells opens before full (Err fault) want = Stops opens before full fault (want ≡ Err fault)

-- the node is one of the right side that is wanted, or there is none; want of memory alone is free
abbrev pub IsSide : List Node → Result ℕ SetFault → Result Tree SetFault → Type 0
IsSide nodes (Ok id) want = want ≡ Ok (tree nodes id)
IsSide nodes (Err (Kind q)) want = want ≡ Err (Kind q)
IsSide nodes (Err OutOfMemory) want = Unit {0}
IsSide nodes (Err fault) want = ⊥
