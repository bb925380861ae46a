-- A walk through the aliases that a type mentions, in tasks, of which the last is done first.
use Rattle.std.specs.Prelude.{◌≡◌, ◌≤◌, ◌^◌, ◌⊎◌, Bool, true, false, cond, List, [], ◌∷◌, ◌++◌, length, map, reverse}
use Rattle.std.specs.Prelude.{Option, Result, Ok, Err}
use Rattle.std.specs.List.{Contains, list_any}
use Rattle.go_values.specs.declared.qualified.QName.{QName}
use Rattle.environments.specs.Kept.{OpensBehind}
use Rattle.type_terms.specs.Arenas.{Contents}
use Rattle.type_terms.specs.Trees.{Tree}
use Rattle.type_terms.specs.TreeEquality.{same_name}
use Rattle.replacement.specs.declared.faults.SetFault.{SetFault}
use Rattle.replacement.specs.declared.faults.SetFault.TheVariants.{AliasCycle}
use Rattle.replacement.specs.Expansion.{Entries}
use Rattle.replacement.specs.Calls.{Stops}
use Rattle.type_sets.specs.TermTests.{Tested, fine, mentioned, each_mention}
use Rattle.term_tests.specs.declared.walking.Task.{Task}
use Rattle.term_tests.specs.declared.walking.Task.TheVariants.{Enter}
use Rattle.term_tests.specs.declared.walking.Task.TheVariants.{Leave}
use Rattle.term_tests.specs.declared.walking.Walk.{Walk}
use Rattle.term_tests.specs.Mentions.{declared_right, IsMentioned}

-- what is to be done, the next first; the aliases that were entered, and those that were left
pub record View : Type 0 where
  pub tasks : List Task
  pub entered : List QName
  pub left : List QName

abbrev pub stack : List Task → List Task
stack tasks = reverse tasks

abbrev pub view : Walk → View
view walk = record { tasks = stack walk.tasks.items; entered = walk.entered.keys; left = walk.left.keys }

-- These are the aliases that a type mentions, as far as a test of each goes.
pub record Agrees (type : Tree) (qs : List QName) : Type 0 where
  pub tests : (entries : Entries) (more : List QName → List QName → Tested) (way : List QName)
      → each_mention entries more way qs ≡ each_mention entries more way (mentioned type)
  pub all : (q : QName) → Contains (mentioned type) q → Contains qs q
  pub only : (q : QName) → Contains qs q → Contains (mentioned type) q

-- the aliases that a type mentions come before all that is to be done
pub record Puts (type : Tree) (old new : List Task) : Type 0 where
  pub mentions : List QName
  pub agrees : Agrees type mentions
  pub few : length mentions ≤ 2 ^ 64
  pub are : new ≡ map Enter mentions ++ old

-- An alias was entered, and its right side mentions what is to be done next. Then it is left.
pub record IsEntered (entries : Entries) (q : QName) (old new : View) : Type 0 where
  pub fresh : list_any (same_name q) old.entered ≡ false
  pub right : Tree
  pub right_is : declared_right entries q ≡ Ok right
  pub entered : new.entered ≡ old.entered ++ q ∷ []
  pub left : new.left ≡ old.left
  pub puts : Puts right (Leave q ∷ old.tasks) new.tasks

-- What comes of an alias that is met: nothing where it was left before, and else it is entered.
abbrev pub Enters : Entries → QName → View → View → Type 0
Enters entries q old new = ((list_any (same_name q) old.left ≡ true) × (new ≡ old)) ⊎ IsEntered entries q old new

-- why an alias is wrong where it is met: it was entered and not left, or there is no right side
abbrev pub IsWrong : Entries → QName → View → SetFault → Type 0
IsWrong entries q old fault =
    ((list_any (same_name q) old.entered ≡ true) × (list_any (same_name q) old.left ≡ false) × (fault ≡ AliasCycle q))
    ⊎ ((list_any (same_name q) old.entered ≡ false) × (declared_right entries q ≡ Err fault))

-- some names and one more, which comes last if it isn't one of them
abbrev pub put_once : List QName → QName → List QName
put_once names q = cond (list_any (same_name q) names) names (names ++ q ∷ [])

-- an alias was left
pub record IsLeft (q : QName) (old new : View) : Type 0 where
  pub tasks : new.tasks ≡ old.tasks
  pub entered : new.entered ≡ old.entered
  pub left : new.left ≡ put_once old.left q

abbrev pub EndsTask : Entries → Task → View → View → Type 0
EndsTask entries (Enter q) old new = Enters entries q old new
EndsTask entries (Leave q) old new = IsLeft q old new

abbrev pub FailsTask : Entries → Task → View → SetFault → Type 0
FailsTask entries (Enter q) old fault = IsWrong entries q old fault
FailsTask entries (Leave q) old fault = ⊥

abbrev pub task_name : Task → QName
task_name (Enter q) = q
task_name (Leave q) = q

-- what a task does, or why it stops
abbrev pub Does : Entries → Task → View → View → Contents → Option Bool → Result (Unit {0}) SetFault → Type 0
Does entries task old new before full (Ok done) = EndsTask entries task old new
Does entries task old new before full (Err fault) =
    Stops (OpensBehind entries (λ q. q ≡ task_name task)) before full fault (FailsTask entries task old fault)

-- All that the right side of an alias mentions is done.
pub record IsEnding (entries : Entries) (q : QName) (done : QName → Type 0) : Type 0 where
  pub right : Tree
  pub right_is : declared_right entries q ≡ Ok right
  pub each : (p : QName) → Contains (mentioned right) p → done p

-- each alias comes behind all that its right side mentions
abbrev pub AreRanked : Entries → List QName → List QName → Type 0
AreRanked entries before [] = Unit {0}
AreRanked entries before (q ∷ qs) = IsEnding entries q (Contains before) × AreRanked entries (before ++ q ∷ []) qs

-- these are all aliases that a type mentions, itself or through right sides, each behind those that it mentions
pub record AreOrdered (entries : Entries) (names : List QName) (type : Tree) (order : List QName) : Type 0 where
  pub ranked : AreRanked entries [] order
  pub few : length order ≤ length names
  pub all : (q : QName) → Contains (mentioned type) q → Contains order q
  pub only : (q : QName) → Contains order q → IsMentioned entries type q

-- the test is passed, or the fault is the first breach, or the call stopped
abbrev pub Passes : {X : Type 0} → (Tree → Type 0) → Contents → Option Bool → Result X SetFault → Tested → Type 0
Passes opens before full (Ok x) want = want ≡ fine
Passes opens before full (Err fault) want = Stops opens before full fault (want ≡ Err fault)
