-- A turn of the loop over events.
use Rattle.std.proofs.Common.{◌≡◌, ℕ, ◌<◌, ◌≤◌, zero, suc, Bool, List, [], ◌∷◌, length, map, drop, drop-cons, get_or, Option, Some, None, Ok, Err, refl, ap, sym, subst, ◌∙◌, arith}
use Rattle.std.specs.Prelude.{IfSome}
use Rattle.std.specs.List.{AllByRecursion}
use Rattle.go_values.specs.declared.qualified.QName.{QName}
use Rattle.type_terms.specs.Arenas.{Contents, IsArena, Extends}
use Rattle.type_terms.specs.Denotation.{tree}
use Rattle.type_terms.specs.Extensions.{extends_tree}
use Rattle.type_terms.specs.Trees.{Tree}
use Rattle.type_terms.specs.TreeEquality.{same_tree}
use Rattle.environments.specs.Kept.{World, Kept}
use Rattle.environments.specs.KeptLaws.{kept_again, kept_more}
use Rattle.interface_opener.specs.declared.found.Event.{Event as Noted}
use Rattle.interface_opener.specs.declared.found.Event.TheVariants.{Term as TermNoted, Interface, Ends}
use Rattle.interface_opener.specs.Numbered.{event_of}
use Rattle.interface_opening.specs.Elements.{Term, Event, has_term, has_interface, ends_element}
use Rattle.interface_opening.specs.Mapped.{event_mapped}
use Rattle.interface_opening.specs.Terms.{Sum, meet, with_union, with_whole, terms_of}
use Rattle.interface_opening.specs.Terms as fold
use Rattle.opened_interfaces.specs.Meant.{EventWithin}
use Rattle.replacement.specs.declared.faults.SetFault.{SetFault}
use Rattle.replacement.specs.Expansion.{Entries}
use Rattle.replacement.specs.Calls.{Stops}
use Rattle.replacement.proofs.KeptLemmas.{stops_later}
use Rattle.type_sets.specs.Covering.{Answer}
use Rattle.type_sets.specs.TypeSets.{same_term}
use Rattle.common_terms.specs.Calls.{AllWithin}
use Rattle.common_terms.proofs.FoundLemmas.{terms_stay, within_grown}
use Rattle.common_terms.proofs.LoopLemmas.{begins}
use Rattle.set_terms.specs.Needed.{changed, AtEvent, AtEvents, AtMeet}
use Rattle.set_terms.specs.Shares.{Codes}
use Rattle.set_terms.specs.Known.{Known, Holds}
use Rattle.set_terms.specs.Meant.{choice_meant, sum_at, term_kept, events_meant, holder_of, HasSum, GivesSum}
use Rattle.set_terms.proofs.SumLemmas.{Tied, sum_for, put_for, put_tied}
use Rattle.set_terms.proofs.EventLemmas.{Coming, change, events_go, events_fail, events_end, events_here}

holder_within : (n : ℕ) (event : Noted) → EventWithin n (event_of event) → holder_of event < n
holder_within n (TermNoted holder x) within = within.0
holder_within n (Interface holder of) within = within.0
holder_within n (Ends holder) within = within

module _ (Cov : Entries → List QName → Term Tree → Term Tree → Answer) (Op : Entries → List QName → Term Tree → Term Tree → Tree → Type 0)
    (As : Entries → List QName → Term Tree → Term Tree → QName → Type 0) (entries : Entries) (names : List QName) (start : Contents) (events : List Noted) where
  abbrev pub cov : Term Tree → Term Tree → Answer
  cov = Cov entries names

  abbrev pub All : List (Event Tree)
  All = events_meant start.nodes events

  abbrev pub OpensAll : Tree → Type 0
  OpensAll = AtEvents same_term cov (Op entries names) same_tree All []

  abbrev pub AsksAll : QName → Type 0
  AsksAll = AtEvents same_term cov (As entries names) same_tree All []

  -- the loop came to these events, and what is known is tied to what the definition has then
  pub record Going (rest : List Noted) (known : Known) : Type 0 where
    pub sums : List (Sum Tree)
    pub comes : Coming same_tree same_term cov All (events_meant start.nodes rest) sums
    pub tied : Tied cov start.nodes known sums

  module _ (later : Entries) (more : List QName) (e : later ≡ entries) (n : more ≡ names) (old middle : World) (now : Contents)
      (kept : Kept AsksAll OpensAll old middle start now) (known : Known) (holds : Holds (length start.nodes) known) where
    choice_stays : (c : Codes) → IfSome c (AllWithin (length start.nodes)) → choice_meant now.nodes c ≡ choice_meant start.nodes c
    choice_stays (Some xs) all = ap Some (terms_stay start now kept.extends xs all)
    choice_stays None all = refl

    module _ (sums : List (Sum Tree)) (tied : Tied cov start.nodes known sums) where
      sum_same : (id : ℕ) → id < length start.nodes → sum_at now.nodes known id ≡ sum_for cov sums (tree start.nodes id)
      sum_same id below =
          (λ i. record {
            of = extends_tree start now kept.extends id below i;
            whole = choice_stays (known.wholes id) (holds.wholes id) i;
            union = choice_stays (known.unions id) (holds.unions id) i;
          })
          ∙ tied id below

      same_change : (event : Event ℕ) → EventWithin (length start.nodes) event
          → changed same_tree same_term (Cov later more) (sum_at now.nodes known) (term_kept now.nodes) event ≡ change same_tree same_term cov sums (event_mapped (tree start.nodes) event)
      same_change (has_term holder x) within = λ i. Ok (with_union same_tree same_term (Cov (e i) (n i)) (sum_same holder within.0 i)
          (Some (record { tilde = x.tilde; type = extends_tree start now kept.extends x.type within.1 i } ∷ [])))
      same_change (has_interface holder of) within = λ i. Ok (with_union same_tree same_term (Cov (e i) (n i)) (sum_same holder within.0 i) (sum_same of within.1 i).whole)
      same_change (ends_element holder) within = λ i. fold.◌>>=◌ (meet same_term (Cov (e i) (n i)) (sum_same holder within i).whole (sum_same holder within i).union)
          (λ c. Ok (with_whole same_tree same_term (Cov (e i) (n i)) (sum_same holder within i) c))

      same_at : {X : Type 0} (Needs : Entries → List QName → Term Tree → Term Tree → X → Type 0) (event : Event ℕ) → EventWithin (length start.nodes) event → (a : X)
          → AtEvent same_term (Cov later more) (Needs later more) (sum_at now.nodes known) event a
          → AtEvent same_term cov (Needs entries names) (sum_for cov sums) (event_mapped (tree start.nodes) event) a
      same_at Needs (has_term holder x) within a held = absurd held
      same_at Needs (has_interface holder of) within a held = absurd held
      same_at Needs (ends_element holder) within a held =
          let there = sum_for cov sums (tree start.nodes holder) in
          subst (λ l. AtMeet same_term (Cov l names) (Needs l names) there.whole there.union a) e
          (subst (λ m. AtMeet same_term (Cov later m) (Needs later m) there.whole there.union a) n
          (subst (λ s. AtMeet same_term (Cov later more) (Needs later more) s.whole s.union a) (sum_same holder within) held))

    module _ (arena : IsArena start.nodes) (event : Noted) (rest : List Noted) (within : EventWithin (length start.nodes) (event_of event)) (going : Going (event ∷ rest) known) where
      abbrev Here : Event Tree
      Here = event_mapped (tree start.nodes) (event_of event)

      here_opens : (t : Tree) → AtEvent same_term (Cov later more) (Op later more) (sum_at now.nodes known) (event_of event) t → OpensAll t
      here_opens t held = events_here same_tree same_term cov All (Op entries names) Here (events_meant start.nodes rest) going.sums going.comes t
          (same_at going.sums going.tied Op (event_of event) within t held)

      here_asks : (q : QName) → AtEvent same_term (Cov later more) (As later more) (sum_at now.nodes known) (event_of event) q → AsksAll q
      here_asks q held = events_here same_tree same_term cov All (As entries names) Here (events_meant start.nodes rest) going.sums going.comes q
          (same_at going.sums going.tied As (event_of event) within q held)

      pub turn_stops : (full : Option Bool) (fault : SetFault) (new : Known) (node : ℕ)
          → GivesSum (AtEvent same_term (Cov later more) (Op later more) (sum_at now.nodes known) (event_of event)) now full (Err fault) (holder_of event) known new
          (changed same_tree same_term (Cov later more) (sum_at now.nodes known) (term_kept now.nodes) (event_of event))
          → Stops OpensAll start full fault (terms_of same_tree same_term cov All (tree start.nodes node) ≡ Err fault)
      turn_stops full fault new node stops =
          stops_later (AtEvent same_term (Cov later more) (Op later more) (sum_at now.nodes known) (event_of event)) OpensAll start now here_opens kept.extends kept.adds full fault _ _
          (λ is. events_fail same_tree same_term cov All Here (events_meant start.nodes rest) going.sums going.comes fault
          (sym (same_change going.sums going.tied (event_of event) within) ∙ is) (tree start.nodes node)) stops

      pub turn_kept : (new : World) (after : Contents)
          → Kept (AtEvent same_term (Cov later more) (As later more) (sum_at now.nodes known) (event_of event))
          (AtEvent same_term (Cov later more) (Op later more) (sum_at now.nodes known) (event_of event)) middle new now after
          → Kept AsksAll OpensAll old new start after
      turn_kept new after second =
          kept_again AsksAll OpensAll old middle new start now after kept
          (kept_more (AtEvent same_term (Cov later more) (As later more) (sum_at now.nodes known) (event_of event)) AsksAll
          (AtEvent same_term (Cov later more) (Op later more) (sum_at now.nodes known) (event_of event)) OpensAll middle new now after here_asks here_opens second)

      pub turn_goes : (new : Known) → Holds (length start.nodes) new
          → HasSum now.nodes (holder_of event) known new (changed same_tree same_term (Cov later more) (sum_at now.nodes known) (term_kept now.nodes) (event_of event)) → Going rest new
      turn_goes new held has =
          let holder = holder_of event in
          let below = holder_within (length start.nodes) event within in
          let stays : sum_at now.nodes new holder ≡ sum_at start.nodes new holder = λ i. record {
            of = extends_tree start now kept.extends holder below i;
            whole = choice_stays (new.wholes holder) (held.wholes holder) i;
            union = choice_stays (new.unions holder) (held.unions holder) i;
          } in
          record {
            sums = put_for cov going.sums (sum_at start.nodes new holder);
            comes = events_go same_tree same_term cov All Here (events_meant start.nodes rest) going.sums going.comes (sum_at start.nodes new holder)
                (sym (same_change going.sums going.tied (event_of event) within) ∙ has.here ∙ ap Ok stays);
            tied = put_tied cov start.nodes arena known new going.sums holder below going.tied has.wholes has.unions;
          }

  -- nothing is left
  pub turns_end : (rest : List Noted) (known : Known) → Going rest known → rest ≡ [] → (node : ℕ) → node < length start.nodes
      → terms_of same_tree same_term cov All (tree start.nodes node) ≡ Ok (choice_meant start.nodes (known.unions node))
  turns_end rest known going none node there =
      let comes = subst (λ l. Coming same_tree same_term cov All (events_meant start.nodes l) going.sums) none going.comes in
      events_end same_tree same_term cov All going.sums comes (tree start.nodes node) ∙ ap (λ (s : Sum Tree). Ok s.union) (sym (going.tied node there))

  pub turns_begin : (known : Known) → ((id : ℕ) → known.wholes id ≡ None) → ((id : ℕ) → known.unions id ≡ Some []) → Going events known
  turns_begin known wholes unions = record {
    sums = [];
    comes = begins;
    tied = λ k below i. record { of = tree start.nodes k; whole = choice_meant start.nodes (wholes k i); union = choice_meant start.nodes (unions k i) };
  }

-- ---- items of a list, and what stands in an arena that grows

pub item_in : (xs : List Noted) (i : ℕ) (x : Noted) → i < length xs → x ≡ get_or xs i x → drop i xs ≡ x ∷ drop (suc i) xs
item_in xs i x inside item = drop-cons xs i x inside ∙ ap (λ y. y ∷ drop (suc i) xs) (sym item)

all_dropped : (n i : ℕ) (xs : List Noted) → AllByRecursion (EventWithin n) (map event_of xs) → AllByRecursion (EventWithin n) (map event_of (drop i xs))
all_dropped n zero xs all = all
all_dropped n (suc i) [] all = tt
all_dropped n (suc i) (x ∷ xs) all = all_dropped n i xs all.1

pub item_within : (n i : ℕ) (xs : List Noted) (x : Noted) (rest : List Noted) → AllByRecursion (EventWithin n) (map event_of xs) → drop i xs ≡ x ∷ rest → EventWithin n (event_of x)
item_within n i xs x rest all is = (subst (λ l. AllByRecursion (EventWithin n) (map event_of l)) is (all_dropped n i xs all)).0

pub drop_past : (xs : List Noted) (k : ℕ) → length xs ≤ k → drop k xs ≡ []
drop_past [] zero past = refl
drop_past [] (suc k) past = refl
drop_past (x ∷ xs) zero past = absurd (omega (arith, past))
drop_past (x ∷ xs) (suc k) past = drop_past xs k (omega (arith, past))

module _ (old new : Contents) (grown : Extends old new) where
  choice_grown : (c : Codes) → IfSome c (AllWithin (length old.nodes)) → IfSome c (AllWithin (length new.nodes))
  choice_grown (Some xs) all = within_grown old new grown xs all
  choice_grown None all = tt

  pub holds_grown : (known : Known) → Holds (length old.nodes) known → Holds (length new.nodes) known
  holds_grown known holds = record {
    wholes = λ id. choice_grown (known.wholes id) (holds.wholes id);
    unions = λ id. choice_grown (known.unions id) (holds.unions id);
  }
