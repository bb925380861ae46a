-- What the calls that read heads answer.
use Rattle.std.specs.Prelude.{◌≡◌, ℕ, List, Option, Some, None}
use Rattle.decl_spelling.specs.Heads.{Lead, to_basic, to_name}
use Rattle.decl_reader.specs.declared.heads.Head.{Head}
use Rattle.decl_reader.specs.declared.heads.Head.TheVariants.{Known, Link}

-- what was found, seen by view, and what was then left are what is found in the bytes
abbrev pub Finds : {X Y : Type 0} → (X → Y) → Option X → List ℕ → Option (Y × List ℕ) → Type 0
Finds view (Some x) left found = found ≡ Some (view x, left)
Finds view None left found = found ≡ None

-- what was then left is what follows
abbrev pub Passes : Option (Unit {0}) → List ℕ → Option (List ℕ) → Type 0
Passes (Some done) left behind = behind ≡ Some left
Passes None left behind = behind ≡ None

abbrev pub lead : Head → Lead
lead (Known basic) = to_basic basic
lead (Link path name) = to_name path.now name.now
