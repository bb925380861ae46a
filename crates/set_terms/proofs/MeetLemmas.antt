-- What the two sides of a comparison are, as they were taken from tables.
use Rattle.std.proofs.Common.{◌≡◌, ℕ, Bool, List, [], Option, Some, Ok, Err, ap, sym, subst, ◌∙◌}
use Rattle.go_values.specs.declared.qualified.QName.{QName}
use Rattle.type_terms.specs.declared.literals.Term.{Term as Code}
use Rattle.type_terms.specs.Arenas.{Contents}
use Rattle.type_terms.specs.Trees.{Tree}
use Rattle.type_terms.specs.TreeEquality.{same_tree}
use Rattle.environments.specs.Kept.{World, Kept}
use Rattle.environments.specs.KeptLaws.{kept_more}
use Rattle.interface_opening.specs.Elements.{Term, ends_element}
use Rattle.interface_opening.specs.Terms.{meet, meet_lists, with_whole}
use Rattle.interface_opening.specs.Terms as fold
use Rattle.replacement.specs.declared.faults.SetFault.{SetFault}
use Rattle.replacement.specs.Calls.{Stops}
use Rattle.replacement.proofs.KeptLemmas.{stops_more}
use Rattle.type_sets.specs.Covering.{Answer}
use Rattle.type_sets.specs.TypeSets.{same_term}
use Rattle.common_terms.specs.Comparing.{terms_meant, AtLists}
use Rattle.set_terms.specs.Needed.{AtMeet, AtEvent, changed}
use Rattle.set_terms.specs.Shares.{Codes}
use Rattle.set_terms.specs.Known.{Known}
use Rattle.set_terms.specs.Meant.{choice_meant, sum_at, term_kept, GivesChoice, GivesSum}

module _ (covered : Term Tree → Term Tree → Answer) (opens : Term Tree → Term Tree → Tree → Type 0) (asks : Term Tree → Term Tree → QName → Type 0) (before : Contents)
    (whole union : Codes) where
  abbrev Opens : Tree → Type 0
  Opens = AtMeet same_term covered opens (choice_meant before.nodes whole) (choice_meant before.nodes union)

  abbrev Asks : QName → Type 0
  Asks = AtMeet same_term covered asks (choice_meant before.nodes whole) (choice_meant before.nodes union)

  -- two lists
  module _ (xs ys : List Code) (first : whole ≡ Some xs) (second : union ≡ Some ys) where
    lists_need : {X : Type 0} (needs : Term Tree → Term Tree → X → Type 0) (a : X) → AtLists same_term covered needs (terms_meant before.nodes xs) (terms_meant before.nodes ys) [] a
        → AtMeet same_term covered needs (choice_meant before.nodes whole) (choice_meant before.nodes union) a
    lists_need needs a held =
        subst (λ w. AtMeet same_term covered needs (choice_meant before.nodes w) (choice_meant before.nodes union) a) (sym first)
        (subst (λ u. AtMeet same_term covered needs (Some (terms_meant before.nodes xs)) (choice_meant before.nodes u) a) (sym second) held)

    meet_is : meet same_term covered (choice_meant before.nodes whole) (choice_meant before.nodes union)
        ≡ fold.◌>>=◌ (meet_lists same_term covered (terms_meant before.nodes xs) (terms_meant before.nodes ys) []) (λ zs. Ok (Some zs))
    meet_is = λ i. meet same_term covered (choice_meant before.nodes (first i)) (choice_meant before.nodes (second i))

    pub lists_stop : (full : Option Bool) (fault : SetFault)
        → Stops (AtLists same_term covered opens (terms_meant before.nodes xs) (terms_meant before.nodes ys) []) before full fault
        (meet_lists same_term covered (terms_meant before.nodes xs) (terms_meant before.nodes ys) [] ≡ Err fault)
        → Stops Opens before full fault (meet same_term covered (choice_meant before.nodes whole) (choice_meant before.nodes union) ≡ Err fault)
    lists_stop full fault stops =
        stops_more (AtLists same_term covered opens (terms_meant before.nodes xs) (terms_meant before.nodes ys) []) Opens before (lists_need opens) full fault _ _
        (λ is. meet_is ∙ ap (λ r. fold.◌>>=◌ r (λ zs. Ok (Some zs))) is) stops

    pub lists_kept : (old new : World) (after : Contents)
        → Kept (AtLists same_term covered asks (terms_meant before.nodes xs) (terms_meant before.nodes ys) []) (AtLists same_term covered opens (terms_meant before.nodes xs) (terms_meant before.nodes ys) []) old new before after
        → Kept Asks Opens old new before after
    lists_kept old new after kept =
        kept_more (AtLists same_term covered asks (terms_meant before.nodes xs) (terms_meant before.nodes ys) []) Asks
        (AtLists same_term covered opens (terms_meant before.nodes xs) (terms_meant before.nodes ys) []) Opens old new before after (lists_need asks) (lists_need opens) kept

  -- what a holder had
  module _ (known : Known) (holder : ℕ) (first : whole ≡ known.wholes holder) (second : union ≡ known.unions holder) where
    ends : {X : Type 0} (needs : Term Tree → Term Tree → X → Type 0) (a : X) → AtMeet same_term covered needs (choice_meant before.nodes whole) (choice_meant before.nodes union) a
        → AtEvent same_term covered needs (sum_at before.nodes known) (ends_element holder) a
    ends needs a held =
        subst (λ w. AtMeet same_term covered needs (choice_meant before.nodes w) (choice_meant before.nodes (known.unions holder)) a) first
        (subst (λ u. AtMeet same_term covered needs (choice_meant before.nodes whole) (choice_meant before.nodes u) a) second held)

    pub end_stops : (full : Option Bool) (fault : SetFault) (new : Known)
        → GivesChoice {A = Unit {0}} Opens before full (Err fault) (meet same_term covered (choice_meant before.nodes whole) (choice_meant before.nodes union))
        → GivesSum (AtEvent same_term covered opens (sum_at before.nodes known) (ends_element holder)) before full (Err fault) holder known new
        (changed same_tree same_term covered (sum_at before.nodes known) (term_kept before.nodes) (ends_element holder))
    end_stops full fault new stops =
        stops_more Opens (AtEvent same_term covered opens (sum_at before.nodes known) (ends_element holder)) before (ends opens) full fault _ _
        (λ is. ap (λ r. fold.◌>>=◌ r (λ c. Ok (with_whole same_tree same_term covered (sum_at before.nodes known holder) c)))
        ((λ i. meet same_term covered (choice_meant before.nodes (sym first i)) (choice_meant before.nodes (sym second i))) ∙ is)) stops

    pub end_kept : (old new : World) (after : Contents) → Kept Asks Opens old new before after
        → Kept (AtEvent same_term covered asks (sum_at before.nodes known) (ends_element holder)) (AtEvent same_term covered opens (sum_at before.nodes known) (ends_element holder)) old new before after
    end_kept old new after kept =
        kept_more Asks (AtEvent same_term covered asks (sum_at before.nodes known) (ends_element holder)) Opens
        (AtEvent same_term covered opens (sum_at before.nodes known) (ends_element holder)) old new before after (ends asks) (ends opens) kept
