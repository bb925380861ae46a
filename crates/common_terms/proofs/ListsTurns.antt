-- A turn of the loop over terms that are compared with a list.
use Rattle.std.proofs.Common.{◌≡◌, ◌<◌, Bool, List, [], ◌∷◌, length, Option, Ok, Err, ap, subst, ◌∙◌}
use Rattle.go_values.specs.declared.qualified.QName.{QName}
use Rattle.type_terms.specs.declared.literals.Term.{Term as Code}
use Rattle.type_terms.specs.Arenas.{Contents}
use Rattle.type_terms.specs.Trees.{Tree}
use Rattle.environments.specs.Kept.{World, Kept}
use Rattle.environments.specs.KeptLaws.{kept_again, kept_more}
use Rattle.interface_opening.specs.Elements.{Term}
use Rattle.interface_opening.specs.Terms.{meet_one, meet_lists}
use Rattle.replacement.specs.declared.faults.SetFault.{SetFault}
use Rattle.replacement.specs.Expansion.{Entries}
use Rattle.replacement.specs.Calls.{Stops}
use Rattle.replacement.proofs.KeptLemmas.{stops_later}
use Rattle.type_sets.specs.Covering.{Answer}
use Rattle.type_sets.specs.TypeSets.{same_term}
use Rattle.common_terms.specs.Calls.{AllWithin, GivesFound}
use Rattle.common_terms.specs.Comparing.{term_meant, terms_meant, AtOne, AtLists}
use Rattle.common_terms.proofs.CommonLemmas.{term_stays}
use Rattle.common_terms.proofs.FoundLemmas.{terms_stay}
use Rattle.common_terms.proofs.LoopLemmas.{Comes, goes, lists_act, lists_same, lists_fail, lists_here}

module _ (Cov : Entries → List QName → Term Tree → Term Tree → Answer) (Op : Entries → List QName → Term Tree → Term Tree → Tree → Type 0)
    (As : Entries → List QName → Term Tree → Term Tree → QName → Type 0) (entries : Entries) (names : List QName) (start : Contents) (ys : List Code) (xs : List Code) (began : List Code) where
  abbrev pub cov : Term Tree → Term Tree → Answer
  cov = Cov entries names

  abbrev pub Fixed : List (Term Tree)
  Fixed = terms_meant start.nodes ys

  abbrev pub All : List (Term Tree)
  All = terms_meant start.nodes xs

  abbrev pub Began : List (Term Tree)
  Began = terms_meant start.nodes began

  abbrev pub OpensAll : Tree → Type 0
  OpensAll = AtLists same_term cov (Op entries names) All Fixed Began

  abbrev pub AsksAll : QName → Type 0
  AsksAll = AtLists same_term cov (As entries names) All Fixed Began

  abbrev pub Coming : List Code → List Code → Type 0
  Coming rest found = Comes (lists_act same_term cov Fixed) All Began (terms_meant start.nodes rest) (terms_meant start.nodes found)

  -- the loop is at an item
  module _ (later : Entries) (more : List QName) (e : later ≡ entries) (n : more ≡ names) (old middle : World) (now : Contents)
      (kept : Kept AsksAll OpensAll old middle start now) (fixed_below : AllWithin (length start.nodes) ys)
      (y : Code) (rest found : List Code) (here : y.ty < length start.nodes) (all : AllWithin (length start.nodes) found) (comes : Coming (y ∷ rest) found) where
    abbrev Item : Term Tree
    Item = term_meant start.nodes y

    abbrev Found : List (Term Tree)
    Found = terms_meant start.nodes found

    abbrev pub Fixed' : List (Term Tree)
    Fixed' = terms_meant now.nodes ys

    abbrev pub Item' : Term Tree
    Item' = term_meant now.nodes y

    abbrev pub Found' : List (Term Tree)
    Found' = terms_meant now.nodes found

    moved : (P : Entries → List QName → List (Term Tree) → Term Tree → List (Term Tree) → Type 0) → P later more Fixed' Item' Found' → P entries names Fixed Item Found
    moved P p =
        subst (λ a. P a names Fixed Item Found) e (subst (λ b. P later b Fixed Item Found) n
        (subst (λ c. P later more c Item Found) (terms_stay start now kept.extends ys fixed_below)
        (subst (λ d. P later more Fixed' d Found) (term_stays start now kept.extends y here)
        (subst (λ f. P later more Fixed' Item' f) (terms_stay start now kept.extends found all) p))))

    here_opens : (t : Tree) → AtOne same_term cov (Op entries names) Item Fixed Found t → OpensAll t
    here_opens t held = lists_here same_term cov Fixed All Began (Op entries names) Item (terms_meant start.nodes rest) Found comes t held

    here_asks : (q : QName) → AtOne same_term cov (As entries names) Item Fixed Found q → AsksAll q
    here_asks q held = lists_here same_term cov Fixed All Began (As entries names) Item (terms_meant start.nodes rest) Found comes q held

    pub lists_stops : (full : Option Bool) (fault : SetFault) (new : List Code)
        → GivesFound (AtOne same_term (Cov later more) (Op later more) Item' Fixed' Found') now full (Err fault) new (meet_one same_term (Cov later more) Item' Fixed' Found')
        → GivesFound OpensAll start full (Err fault) new (meet_lists same_term cov All Fixed Began)
    lists_stops full fault new stops =
        stops_later (AtOne same_term cov (Op entries names) Item Fixed Found) OpensAll start now here_opens kept.extends kept.adds full fault _ _
        (λ is. lists_fail same_term cov Fixed All Began Item (terms_meant start.nodes rest) Found fault comes is)
        (moved (λ e n p d f. Stops (AtOne same_term (Cov e n) (Op e n) d p f) now full fault (meet_one same_term (Cov e n) d p f ≡ Err fault)) stops)

    pub lists_kept : (new : World) (after : Contents)
        → Kept (AtOne same_term (Cov later more) (As later more) Item' Fixed' Found') (AtOne same_term (Cov later more) (Op later more) Item' Fixed' Found') middle new now after
        → Kept AsksAll OpensAll old new start after
    lists_kept new after second =
        kept_again AsksAll OpensAll old middle new start now after kept
        (kept_more (AtOne same_term cov (As entries names) Item Fixed Found) AsksAll (AtOne same_term cov (Op entries names) Item Fixed Found) OpensAll middle new now after here_asks here_opens
        (moved (λ e n p d f. Kept (AtOne same_term (Cov e n) (As e n) d p f) (AtOne same_term (Cov e n) (Op e n) d p f) middle new now after) second))

    pub lists_goes : (new : List Code) → AllWithin (length start.nodes) new → meet_one same_term (Cov later more) Item' Fixed' Found' ≡ Ok (terms_meant now.nodes new) → Coming rest new
    lists_goes new within is =
        goes Item (terms_meant start.nodes rest) Found (terms_meant start.nodes new) comes
        (moved (λ e n p d f. meet_one same_term (Cov e n) d p f ≡ Ok (terms_meant now.nodes new)) is ∙ ap Ok (terms_stay start now kept.extends new within))

  -- nothing is left
  pub lists_ends : (rest found : List Code) → Coming rest found → rest ≡ [] → meet_lists same_term cov All Fixed Began ≡ Ok (terms_meant start.nodes found)
  lists_ends rest found comes none =
      lists_same same_term cov Fixed All Began (terms_meant start.nodes rest) (terms_meant start.nodes found) comes
      ∙ ap (λ l. meet_lists same_term cov (terms_meant start.nodes l) Fixed (terms_meant start.nodes found)) none
