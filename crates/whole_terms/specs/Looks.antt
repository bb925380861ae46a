-- A look at a type over the nodes of an arena, in tasks, of which the last is done first.
use Rattle.std.specs.Prelude.{◌≡◌, ◌<◌, ◌⊎◌, ◌==◌, ℕ, zero, suc, Bool, true, false, not, cond, nat_eq, List, [], ◌∷◌, ◌++◌, length, map, reverse}
use Rattle.std.specs.Prelude.{Option, Some, None, Err}
use Rattle.std.specs.List.{Contains, list_any, flat_map}
use Rattle.go_values.specs.declared.qualified.QName.{QName}
use Rattle.type_terms.specs.declared.descriptors.Node.{Node}
use Rattle.type_terms.specs.Denotation.{tree}
use Rattle.type_terms.specs.TreeEquality.{same_name}
use Rattle.term_tests.specs.Walks.{put_once}
use Rattle.type_sets.specs.TermTests.{Tested, fine, all_fine, holds}
use Rattle.whole_terms.specs.declared.breaches.Breach.{Breach}
use Rattle.whole_terms.specs.declared.breaches.Breach.TheVariants.{Interface}
use Rattle.whole_terms.specs.declared.looking.Task.{Task}
use Rattle.whole_terms.specs.declared.looking.Task.TheVariants.{Visit, Look, Stop}
use Rattle.whole_terms.specs.declared.looking.Walk.{Walk}
use Rattle.whole_terms.specs.Tables.{Told, Table, by_table, fault_of, wrong_use}

-- what is to be done, the next first; the nodes that were visited, and the type parameters that were come to
pub record View : Type 0 where
  pub tasks : List Task
  pub entered : List ℕ
  pub looks : List QName

abbrev pub stack : List Task → List Task
stack tasks = reverse tasks

abbrev pub view : Walk → View
view walk = record { tasks = stack walk.tasks.items; entered = walk.entered.keys; looks = walk.looks.keys }

-- what a task answers
abbrev pub answer : List Node → Table → (QName → Tested) → Task → Tested
answer nodes table given (Visit id) = holds (by_table table) given (tree nodes id)
answer nodes table given (Look q) = given q
answer nodes table given (Stop breach) = Err (fault_of breach)

-- the task to visit the argument for the first parameter of this name
abbrev pub argument_task : List QName → List ℕ → QName → List Task
argument_task (p ∷ ps) (arg ∷ args) q = cond (same_name q p) (Visit arg ∷ []) (argument_task ps args q)
argument_task _ _ q = []

abbrev pub breach_task : Option Breach → List Task
breach_task None = []
breach_task (Some breach) = Stop breach ∷ []

-- the tasks for an alias with arguments
abbrev pub use_tasks : QName → Option Told → List ℕ → List Task
use_tasks q None args = []
use_tasks q (Some told) args = cond (length args == length told.names)
    (flat_map (argument_task told.names args) told.looks ++ breach_task told.breach)
    (Stop (wrong_use q (length told.names) (length args)) ∷ [])

-- the tasks for an instance, by the name of its alias
abbrev pub instance_tasks : Table → Option QName → List ℕ → List Task
instance_tasks table None args = map Visit args
instance_tasks table (Some q) args = use_tasks q (table q) args

-- the tasks for an interface that has these numbers of elements and methods
abbrev pub interface_tasks : ℕ → ℕ → List Task
interface_tasks zero zero = []
interface_tasks _ _ = Stop Interface ∷ []

-- all nodes that are to be visited stand below
abbrev pub AreLower : ℕ → List Task → Type 0
AreLower id [] = Unit {0}
AreLower id (Visit other ∷ rest) = (other < id) × AreLower id rest
AreLower id (_ ∷ rest) = AreLower id rest

-- a node gave way to what it holds
pub record Opens (nodes : List Node) (table : Table) (id : ℕ) (old new : List Task) : Type 0 where
  pub news : List Task
  pub are : new ≡ news ++ old
  pub means : (given : QName → Tested)
      → all_fine (map (answer nodes table given) news) ≡ holds (by_table table) given (tree nodes id)
  pub lower : AreLower id news

pub record IsOpened (nodes : List Node) (table : Table) (id : ℕ) (old new : View) : Type 0 where
  pub fresh : list_any (nat_eq id) old.entered ≡ false
  pub entered : new.entered ≡ old.entered ++ id ∷ []
  pub looks : new.looks ≡ old.looks
  pub opens : Opens nodes table id old.tasks new.tasks

abbrev pub Visits : List Node → Table → ℕ → View → View → Type 0
Visits nodes table id old new =
    ((list_any (nat_eq id) old.entered ≡ true) × (new ≡ old)) ⊎ IsOpened nodes table id old new

pub record IsLook (q : QName) (old new : View) : Type 0 where
  pub tasks : new.tasks ≡ old.tasks
  pub entered : new.entered ≡ old.entered
  pub looks : new.looks ≡ put_once old.looks q

-- what a task does, and which breach ends the look
abbrev pub Does : List Node → Table → Task → View → View → Option Breach → Type 0
Does nodes table (Visit id) old new None = Visits nodes table id old new
Does nodes table (Look q) old new None = IsLook q old new
Does nodes table (Stop breach) old new None = ⊥
Does nodes table (Stop breach) old new (Some found) = (found ≡ breach) × (new ≡ old)
Does nodes table _ old new (Some found) = ⊥

abbrev pub IsWithin : ℕ → Task → Type 0
IsWithin bound (Visit id) = id < bound
IsWithin bound _ = Unit {0}

-- a node comes to those that were visited, unless it was one of them
pub record Enters (old : List ℕ) (id : ℕ) (new : List ℕ) (fresh : Bool) : Type 0 where
  pub was : list_any (nat_eq id) old ≡ not fresh
  pub added : fresh ≡ true → new ≡ old ++ id ∷ []
  pub stayed : fresh ≡ false → new ≡ old
