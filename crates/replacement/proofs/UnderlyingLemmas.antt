-- What stands beneath an expanded type, and what both steps give.
use Rattle.std.proofs.Common.{◌≡◌, ℕ, Bool, List, Option, Some, Ok, Err, ap, sym, subst, ◌∙◌, inl, inr}
use Rattle.std.specs.Prelude.{Result, IsSomeAnd, IsOkAnd}
use Rattle.go_values.specs.declared.qualified.QName.{QName}
use Rattle.type_terms.specs.Arenas.{Contents, Extends}
use Rattle.type_terms.specs.Trees.{Tree}
use Rattle.replacement.specs.declared.faults.SetFault.{SetFault}
use Rattle.replacement.specs.Expansion.{Entries, Applied, then, defined_use, defined_right, beneath, expanded, underlying}
use Rattle.environments.specs.OpenedTypes.{AddsAmong}
use Rattle.environments.specs.Kept.{World, Kept}
use Rattle.replacement.specs.Calls.{Gives, OpensSide, AsksDefined, OpensDefined, AsksExpanding, OpensExpanding, AsksUnder, OpensUnder}
use Rattle.environments.specs.KeptLaws.{adds_wider, kept_again, kept_more}
use Rattle.replacement.proofs.KeptLemmas.{stops_more, stops_later}

-- an answer is that of the type
pub beneath_gives : (entries : Entries) (type : Tree) (head : Applied) → defined_use type ≡ Some head → (before after : Contents) (full : Option Bool) (result : Result ℕ SetFault)
    → Gives (OpensSide (entries head.name) (defined_right entries head)) before after full result (defined_right entries head)
    → Gives (OpensDefined entries type) before after full result (beneath entries type (defined_use type))
beneath_gives entries type head used before after full (Ok id) gives = (ap (beneath entries type) used ∙ gives.0, gives.1)
beneath_gives entries type head used before after full (Err fault) stops =
    stops_more (OpensSide (entries head.name) (defined_right entries head)) (OpensDefined entries type) before
    (λ opened held. subst (λ o. IsSomeAnd o (λ h. OpensSide (entries h.name) (defined_right entries h) opened)) (sym used) held) full fault _ _
    (λ is. ap (beneath entries type) used ∙ is) stops

module _ (entries : Entries) (names : List QName) (type : Tree) where
  opens_first : (opened : Tree) → OpensExpanding entries type opened → OpensUnder entries names type opened
  opens_first opened held = inl held

  asks_first : (q : QName) → AsksExpanding entries type q → AsksUnder entries names type q
  asks_first q held = inl held

  -- the expansion stopped
  pub under_stops : (before after : Contents) (full : Option Bool) (fault : SetFault) → Gives (OpensExpanding entries type) before after full (Err fault) (expanded entries names type)
      → Gives (OpensUnder entries names type) before after full (Err fault) (underlying entries names type)
  under_stops before after full fault stops =
      stops_more (OpensExpanding entries type) (OpensUnder entries names type) before opens_first full fault _ _
      (λ is. ap (λ r. then r (λ found. beneath entries found (defined_use found))) is) stops

  pub under_first : (old new : World) (before after : Contents) → Kept (AsksExpanding entries type) (OpensExpanding entries type) old new before after
      → Kept (AsksUnder entries names type) (OpensUnder entries names type) old new before after
  under_first old new before after kept = kept_more (AsksExpanding entries type) (AsksUnder entries names type) (OpensExpanding entries type) (OpensUnder entries names type) old new before after asks_first opens_first kept

  -- the expansion came to a type, by what an environment has later, which is the same
  module _ (found : Tree) (is : expanded entries names type ≡ Ok found) (later : Entries) (stay : later ≡ entries) where
    opens_second : (opened : Tree) → OpensDefined later found opened → OpensUnder entries names type opened
    opens_second opened held = inr (subst (λ r. IsOkAnd r (λ f. OpensDefined entries f opened)) (sym is) (subst (λ e. OpensDefined e found opened) stay held))

    asks_second : (q : QName) → AsksDefined found q → AsksUnder entries names type q
    asks_second q held = inr (subst (λ r. IsOkAnd r (λ f. AsksDefined f q)) (sym is) held)

    same_beneath : beneath later found (defined_use found) ≡ underlying entries names type
    same_beneath = ap (λ e. beneath e found (defined_use found)) stay ∙ sym (ap (λ r. then r (λ f. beneath entries f (defined_use f))) is)

    pub under_gives : (before between after : Contents) → Extends before between → AddsAmong (OpensExpanding entries type) before between → (full : Option Bool) (result : Result ℕ SetFault)
        → Gives (OpensDefined later found) between after full result (beneath later found (defined_use found))
        → Gives (OpensUnder entries names type) before after full result (underlying entries names type)
    under_gives before between after grown adds full (Ok id) gives = (sym same_beneath ∙ gives.0, gives.1)
    under_gives before between after grown adds full (Err fault) stops =
        stops_later (OpensDefined later found) (OpensUnder entries names type) before between opens_second grown
        (adds_wider (OpensExpanding entries type) (OpensUnder entries names type) before between opens_first adds) full fault _ _ (λ e. sym same_beneath ∙ e) stops

    pub under_kept : (old middle new : World) (before between after : Contents) → Kept (AsksExpanding entries type) (OpensExpanding entries type) old middle before between
        → Kept (AsksDefined found) (OpensDefined later found) middle new between after → Kept (AsksUnder entries names type) (OpensUnder entries names type) old new before after
    under_kept old middle new before between after first second =
        kept_again (AsksUnder entries names type) (OpensUnder entries names type) old middle new before between after (under_first old middle before between first)
        (kept_more (AsksDefined found) (AsksUnder entries names type) (OpensDefined later found) (OpensUnder entries names type) middle new between after asks_second opens_second second)
