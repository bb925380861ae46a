-- One step of a walk, with what is asked and opened for it.
use Rattle.std.proofs.Common.{◌≡◌, inl, inr, ℕ, ◌<◌, ◌≤◌, ◌+◌, ◌-◌, ◌^◌, zero, suc, true, List, [], ◌∷◌, ◌++◌, length, map, reverse, length-append, Option, Some, None, Ok, Err, refl, ap, sym, subst, ◌∙◌, arith}
use Rattle.std.specs.Prelude.{Bool}
use Rattle.std.specs.List.{Contains, list_any}
use Rattle.std.proofs.lemmas.List.{reverse-append, length-map}
use Rattle.go_values.specs.declared.qualified.QName.{QName}
use Rattle.type_terms.specs.Arenas.{Contents, Extends}
use Rattle.type_terms.specs.Trees.{Tree}
use Rattle.type_terms.specs.TreeEquality.{same_name}
use Rattle.environments.specs.Environments.{Entry, entry_types}
use Rattle.environments.specs.Kept.{OpensBehind}
use Rattle.environments.specs.OpenedTypes.{AddsAmong}
use Rattle.replacement.specs.declared.faults.SetFault.{SetFault}
use Rattle.replacement.specs.Expansion.{Entries, known, then}
use Rattle.replacement.specs.Calls.{Stops}
use Rattle.replacement.proofs.KeptLemmas.{stops_later}
use Rattle.type_sets.specs.TermTests.{right_of, no_cycle}
use Rattle.term_tests.specs.declared.walking.Task.{Task}
use Rattle.term_tests.specs.declared.walking.Task.TheVariants.{Enter}
use Rattle.term_tests.specs.declared.walking.Task.TheVariants.{Leave}
use Rattle.term_tests.specs.Mentions.{IsMentioned, OpensMentioned}
use Rattle.term_tests.specs.Walks.{View, EndsTask, FailsTask, task_name, Does, stack}
use Rattle.term_tests.proofs.FineLemmas.{among_is}
use Rattle.term_tests.proofs.WalkLemmas.{IsWalking, IsKnown, room, skips, enters, leaves, breaks, next_mentioned}

-- an alias that is declared has a name of the environment
pub is_known : (entries : Entries) (names : List QName) → ((q : QName) (entry : Entry) → entries q ≡ Some entry → Contains names q) → IsKnown entries names
is_known entries names finite q right is = by (entries q) refl is
  where
    by : (o : Option Entry) → entries q ≡ o → then (known o q) (right_of q) ≡ Ok right → Contains names q
    by (Some entry) e h = finite q entry e
    by None e h = absurd cc

-- the task that was pushed last is the next
pub popped : (tasks : List Task) (task : Task) (all : List Task) → all ≡ tasks ++ task ∷ [] → stack all ≡ task ∷ stack tasks
popped tasks task all is = ap reverse is ∙ reverse-append tasks (task ∷ [])

-- n rooms
abbrev pub times : ℕ → ℕ → ℕ
times zero r = 0
times (suc n) r = r + times n r

times_less : (a b r : ℕ) → a < b → times a r + r ≤ times b r
times_less a zero r below = absurd (omega arith)
times_less zero (suc b) r below = omega arith
times_less (suc a) (suc b) r below = let less : a < b = omega (arith, below) in omega (arith, times_less a b r less)

-- how much is left to do: an alias that isn't entered yet takes more than all that its right side mentions
abbrev pub weight : List QName → View → ℕ
weight names v = times (length names - length v.entered) (2 ^ 64 + 2) + length v.tasks

-- The walk before the step is v, and old without its next task.
module _ (entries : Entries) (names : List QName) (type : Tree) (known_names : IsKnown entries names)
    (v : View) (task : Task) (rest : List Task) (top : v.tasks ≡ task ∷ rest) (is : IsWalking entries names type v)
    (old : View) (tasks : old.tasks ≡ rest) (entered : old.entered ≡ v.entered) (left : old.left ≡ v.left) where
  pub step_walks : (new : View) → EndsTask entries task old new → IsWalking entries names type new
  step_walks new does = by task top does
    where
      by : (t : Task) → v.tasks ≡ t ∷ rest → EndsTask entries t old new → IsWalking entries names type new
      by (Enter q) at (inl (done, same)) =
          skips entries names type v q rest at is (among_is v.left q (subst (λ l. list_any (same_name q) l ≡ true) left done)) new
          (ap (λ (w : View). w.tasks) same ∙ tasks) (ap (λ (w : View). w.entered) same ∙ entered) (ap (λ (w : View). w.left) same ∙ left)
      by (Enter q) at (inr goes) = enters entries names type known_names v q rest at is old tasks entered left new goes
      by (Leave q) at goes = leaves entries names type known_names v q rest at is old tasks entered left new goes

  pub step_falls : (new : View) → EndsTask entries task old new → weight names new < weight names v
  step_falls new does = by task top does
    where
      same_top : {t : Task} → v.tasks ≡ t ∷ rest → t ≡ task
      same_top {t = t} at = let both_are : t ∷ rest ≡ task ∷ rest = sym at ∙ top in cc

      by : (t : Task) → v.tasks ≡ t ∷ rest → EndsTask entries t old new → weight names new < weight names v
      by (Enter q) at (inl (done, same)) =
          let less = times (length names - length v.entered) (2 ^ 64 + 2) in
          subst (λ (e : List QName). times (length names - length e) (2 ^ 64 + 2) + length new.tasks < less + length v.tasks)
          (sym (ap (λ (w : View). w.entered) same ∙ entered))
          (omega (arith, ap length at, ap length (ap (λ (w : View). w.tasks) same ∙ tasks)))
      by (Enter q) at (inr goes) =
          let grown = ap length (goes.entered ∙ ap (λ l. l ++ q ∷ []) entered) in
          let after = room names new.entered (step_walks new (subst (λ t. EndsTask entries t old new) (same_top at) (inr goes))).met in
          let fewer : length names - length new.entered < length names - length v.entered = omega (arith, grown, after, length-append v.entered (q ∷ [])) in
          let lists = ap length (goes.puts.are ∙ ap (λ l. map Enter goes.puts.mentions ++ (Leave q ∷ l)) tasks) in
          let long = length-append (map Enter goes.puts.mentions) (Leave q ∷ rest) in
          let same_many = length-map goes.puts.mentions Enter in
          omega (arith, times_less (length names - length new.entered) (length names - length v.entered) (2 ^ 64 + 2) fewer, lists, long, same_many, goes.puts.few, ap length at)
      by (Leave q) at goes =
          let less = times (length names - length v.entered) (2 ^ 64 + 2) in
          subst (λ (e : List QName). times (length names - length e) (2 ^ 64 + 2) + length new.tasks < less + length v.tasks)
          (sym (goes.entered ∙ entered)) (omega (arith, ap length at, ap length (goes.tasks ∙ tasks)))

  pub asked_here : (q : QName) → q ≡ task_name task → IsMentioned entries type q
  asked_here q same = subst (IsMentioned entries type) (sym same) (next_mentioned entries names type v task rest top is)

  -- by what an environment has later, which is the same
  module _ (later : Entries) (stay : later ≡ entries) where
    pub opened_here : (t : Tree) → OpensBehind later (λ q. q ≡ task_name task) t → OpensMentioned entries type t
    opened_here t opened = (opened.0, asked_here opened.0 opened.1, subst (λ (e : Entries). Contains (entry_types (e opened.0)) t) stay opened.2)

    pub does_now : (new : View) → EndsTask later task old new → EndsTask entries task old new
    does_now new does = subst (λ e. EndsTask e task old new) stay does

    pub fails_whole : (fault : SetFault) → FailsTask later task old fault → no_cycle entries names type ≡ Err fault
    fails_whole fault fails = by task top (subst (λ e. FailsTask e task old fault) stay fails)
      where
        by : (t : Task) → v.tasks ≡ t ∷ rest → FailsTask entries t old fault → no_cycle entries names type ≡ Err fault
        by (Enter q) at wrong = breaks entries names type v q rest at is old tasks entered left fault wrong
        by (Leave q) at none = absurd none

    pub stopped : (new : View) (start before : Contents) (full : Option Bool) (fault : SetFault) → Extends start before → AddsAmong (OpensMentioned entries type) start before
        → Does later task old new before full (Err fault)
        → Stops (OpensMentioned entries type) start full fault (no_cycle entries names type ≡ Err fault)
    stopped new start before full fault grown adds does =
        stops_later (OpensBehind later (λ q. q ≡ task_name task)) (OpensMentioned entries type) start before opened_here grown adds full fault _ _ (fails_whole fault) does
