-- The opening of a type behind the expansion of its head, and what both steps give.
use Rattle.std.proofs.Common.{◌≡◌, Bool, List, Option, Ok, Err, ap, sym, subst, ◌∙◌, inl, inr}
use Rattle.std.specs.Prelude.{Result, IsOkAnd}
use Rattle.go_values.specs.declared.qualified.QName.{QName}
use Rattle.type_terms.specs.Arenas.{Contents, Extends}
use Rattle.type_terms.specs.Trees.{Tree}
use Rattle.environments.specs.OpenedTypes.{AddsAmong}
use Rattle.environments.specs.Kept.{World, Kept}
use Rattle.environments.specs.KeptLaws.{adds_wider, kept_again, kept_more}
use Rattle.replacement.specs.declared.faults.SetFault.{SetFault}
use Rattle.replacement.specs.Expansion.{Entries, then, expanded}
use Rattle.replacement.specs.Calls.{Gives, AsksExpanding, OpensExpanding}
use Rattle.replacement.proofs.KeptLemmas.{stops_more, stops_later}
use Rattle.type_sets.specs.TypeSets.{opened}
use Rattle.interface_opener.specs.declared.found.Found.{Found}
use Rattle.opened_interfaces.specs.Calls.{GivesFound}
use Rattle.opened_interfaces.specs.Ways.{AsksOpening, OpensOpening}
use Rattle.method_pairs.specs.Calls.{opened_type, AsksPairs, OpensPairs}

same_worlds : (P : Entries → List QName → Type 0) (later entries : Entries) (more names : List QName)
    → later ≡ entries → more ≡ names → P later more → P entries names
same_worlds P later entries more names e n p = subst (λ a. P a names) e (subst (λ b. P later b) n p)

module _ (entries : Entries) (names : List QName) (type : Tree) where
  opens_first : (t : Tree) → OpensExpanding entries type t → OpensPairs entries names type t
  opens_first t held = inl held

  asks_first : (q : QName) → AsksExpanding entries type q → AsksPairs entries names type q
  asks_first q held = inl held

  -- the expansion stopped
  pub open_stops : (before after : Contents) (full : Option Bool) (fault : SetFault)
      → Gives (OpensExpanding entries type) before after full (Err fault) (expanded entries names type)
      → GivesFound (OpensPairs entries names type) before after full (Err fault) (opened_type entries names type)
  open_stops before after full fault stops =
      stops_more (OpensExpanding entries type) (OpensPairs entries names type) before opens_first full fault _ _
      (λ is. ap (λ r. then r (opened entries names)) is) stops

  pub open_first : (old new : World) (before after : Contents)
      → Kept (AsksExpanding entries type) (OpensExpanding entries type) old new before after
      → Kept (AsksPairs entries names type) (OpensPairs entries names type) old new before after
  open_first old new before after kept =
      kept_more (AsksExpanding entries type) (AsksPairs entries names type) (OpensExpanding entries type)
      (OpensPairs entries names type) old new before after asks_first opens_first kept

  -- the expansion came to a type, by what an environment has later, which is the same
  module _ (found : Tree) (is : expanded entries names type ≡ Ok found) (later : Entries) (more : List QName)
      (e : later ≡ entries) (n : more ≡ names) where
    opens_second : (t : Tree) → OpensOpening later more found t → OpensPairs entries names type t
    opens_second t held =
        inr (subst (λ r. IsOkAnd r (λ f. OpensOpening entries names f t)) (sym is)
        (same_worlds (λ e n. OpensOpening e n found t) later entries more names e n held))

    asks_second : (q : QName) → AsksOpening later more found q → AsksPairs entries names type q
    asks_second q held =
        inr (subst (λ r. IsOkAnd r (λ f. AsksOpening entries names f q)) (sym is)
        (same_worlds (λ e n. AsksOpening e n found q) later entries more names e n held))

    same_opened : opened later more found ≡ opened_type entries names type
    same_opened = (λ i. opened (e i) (n i) found) ∙ sym (ap (λ r. then r (opened entries names)) is)

    pub open_gives : (before between after : Contents) → Extends before between
        → AddsAmong (OpensExpanding entries type) before between → (full : Option Bool) (result : Result Found SetFault)
        → GivesFound (OpensOpening later more found) between after full result (opened later more found)
        → GivesFound (OpensPairs entries names type) before after full result (opened_type entries names type)
    open_gives before between after grown adds full (Ok x) gives = (sym same_opened ∙ gives.0, gives.1)
    open_gives before between after grown adds full (Err fault) stops =
        stops_later (OpensOpening later more found) (OpensPairs entries names type) before between opens_second grown
        (adds_wider (OpensExpanding entries type) (OpensPairs entries names type) before between opens_first adds)
        full fault _ _ (λ u. sym same_opened ∙ u) stops

    pub open_kept : (old middle new : World) (before between after : Contents)
        → Kept (AsksExpanding entries type) (OpensExpanding entries type) old middle before between
        → Kept (AsksOpening later more found) (OpensOpening later more found) middle new between after
        → Kept (AsksPairs entries names type) (OpensPairs entries names type) old new before after
    open_kept old middle new before between after first second =
        kept_again (AsksPairs entries names type) (OpensPairs entries names type) old middle new before between after
        (open_first old middle before between first)
        (kept_more (AsksOpening later more found) (AsksPairs entries names type) (OpensOpening later more found)
        (OpensPairs entries names type) middle new between after asks_second opens_second second)
