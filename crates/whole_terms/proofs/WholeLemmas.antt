-- Both tests, from what the parts of the call answer.
use Rattle.std.proofs.Common.{◌≡◌, ℕ, ◌<◌, ◌≤◌, List, length, map, Option, Some, None, Ok, Err, refl, ap, sym, subst, ◌∙◌}
use Rattle.std.specs.Prelude.{Result, Bool}
use Rattle.std.specs.List.{Contains}
use Rattle.go_values.specs.declared.qualified.QName.{QName}
use Rattle.type_terms.specs.Arenas.{Contents, Extends}
use Rattle.type_terms.specs.Trees.{Tree}
use Rattle.environments.specs.Environments.{entry_types}
use Rattle.environments.specs.Kept.{OpensBehind}
use Rattle.environments.specs.KeptLaws.{behind_wider}
use Rattle.environments.specs.OpenedTypes.{AddsAmong}
use Rattle.replacement.specs.declared.faults.SetFault.{SetFault}
use Rattle.replacement.specs.Expansion.{Entries}
use Rattle.replacement.specs.Calls.{Stops}
use Rattle.replacement.proofs.KeptLemmas.{stops_later, stops_more}
use Rattle.type_sets.specs.TermTests.{Tested, fine, both, mentioned, no_cycle, holds, holds_none, expands}
use Rattle.term_tests.specs.Mentions.{IsMentioned, OpensMentioned}
use Rattle.term_tests.specs.Walks.{AreOrdered, Passes}
use Rattle.whole_terms.specs.declared.breaches.Breach.{Breach}
use Rattle.whole_terms.specs.declared.breaches.Breach.TheVariants.{Interface, WrongKind, WrongNumber}
use Rattle.whole_terms.specs.Tables.{Table, by_table, used, looked, ended, fault_of}
use Rattle.whole_terms.specs.Summaries.{Tells, IsFree}
use Rattle.whole_terms.proofs.TestLemmas.{each_fine}
use Rattle.whole_terms.proofs.HoldsLemmas.{mentions_agree}

-- a breach is a fault of the types
pub breach_stops : (opens : Tree → Type 0) (before : Contents) (full : Option Bool) (breach : Breach) (cause : Type 0) → cause → Stops opens before full (fault_of breach) cause
breach_stops opens before full Interface cause is = is
breach_stops opens before full (WrongKind q) cause is = is
breach_stops opens before full (WrongNumber q want have) cause is = is

module _ (entries : Entries) (names : List QName) (type : Tree) where
  abbrev pub both_tests : Tested
  both_tests = both (no_cycle entries names type) (holds_none entries names type)

  -- the first test stops
  pub first_stops : (before : Contents) (full : Option Bool) (fault : SetFault) → Stops (OpensMentioned entries type) before full fault (no_cycle entries names type ≡ Err fault)
      → Stops (OpensMentioned entries type) before full fault (both_tests ≡ Err fault)
  first_stops before full fault stops = stops_more (OpensMentioned entries type) (OpensMentioned entries type) before (λ t opened. opened) full fault _ _
      (λ is. ap (λ r. both r (holds_none entries names type)) is) stops

  module _ (order : List QName) (ordered : AreOrdered entries names type order) (later : Entries) (stay : later ≡ entries) where
    pub order_asked : (q : QName) → Contains order q → IsMentioned entries type q
    order_asked q held = ordered.only q held

    pub order_opened : (t : Tree) → OpensBehind later (Contains order) t → OpensMentioned entries type t
    order_opened t opened = behind_wider entries (Contains order) (IsMentioned entries type) order_asked t (subst (λ (e : Entries). OpensBehind e (Contains order) t) stay opened)

    pub summaries_stop : (start middle : Contents) (full : Option Bool) (fault : SetFault) → Extends start middle → AddsAmong (OpensMentioned entries type) start middle
        → IsFree (OpensBehind later (Contains order)) middle full fault → Stops (OpensMentioned entries type) start full fault (both_tests ≡ Err fault)
    summaries_stop start middle full fault grown adds free =
        stops_later (OpensBehind later (Contains order)) (OpensMentioned entries type) start middle order_opened grown adds full fault ⊥ (both_tests ≡ Err fault) (λ none. absurd none) free

    -- the second test is what the look came to
    pub second : (table : Table) → Tells later order table → no_cycle entries names type ≡ fine → (looks : List QName) (breach : Option Breach)
        → ((given : QName → Tested) → holds (by_table table) given type ≡ looked given looks breach) → both_tests ≡ ended breach
    second table tells first looks breach found =
        ap (λ r. both r (holds_none entries names type)) first
        ∙ mentions_agree (expands entries (length names)) (by_table table) (λ q. fine) type agree
        ∙ found (λ q. fine) ∙ ap (λ r. both r (ended breach)) (each_fine (λ q. fine) looks (λ q. refl))
      where
        told : Tells entries order table
        told = subst (λ (e : Entries). Tells e order table) stay tells

        agree : (q : QName) → Contains (mentioned type) q → (answers : List Tested) → expands entries (length names) q answers ≡ by_table table q answers
        agree q held answers =
            let known = told.has q (ordered.all q held) in
            told.answers q known.0 known.1 (length names) ordered.few answers ∙ ap (λ o. used q o answers) (sym known.1)
