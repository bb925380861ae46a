-- A turn of the loop over terms with which one is compared.
use Rattle.std.proofs.Common.{◌≡◌, ◌<◌, Bool, List, [], ◌∷◌, length, Option, Ok, Err, ap, subst, ◌∙◌}
use Rattle.go_values.specs.declared.qualified.QName.{QName}
use Rattle.type_terms.specs.declared.literals.Term.{Term as Code}
use Rattle.type_terms.specs.Arenas.{Contents}
use Rattle.type_terms.specs.Trees.{Tree}
use Rattle.environments.specs.Kept.{World, Kept}
use Rattle.environments.specs.KeptLaws.{kept_again, kept_more}
use Rattle.interface_opening.specs.Elements.{Term}
use Rattle.interface_opening.specs.Terms.{meet_one}
use Rattle.replacement.specs.declared.faults.SetFault.{SetFault}
use Rattle.replacement.specs.Expansion.{Entries}
use Rattle.replacement.specs.Calls.{Stops}
use Rattle.replacement.proofs.KeptLemmas.{stops_later}
use Rattle.type_sets.specs.Covering.{Answer}
use Rattle.type_sets.specs.TypeSets.{same_term}
use Rattle.common_terms.specs.Calls.{AllWithin, GivesFound}
use Rattle.common_terms.specs.Comparing.{term_meant, terms_meant, compared, AtCommon, AtOne}
use Rattle.common_terms.proofs.CommonLemmas.{term_stays}
use Rattle.common_terms.proofs.FoundLemmas.{terms_stay}
use Rattle.common_terms.proofs.LoopLemmas.{Comes, goes, one_act, one_same, one_fails, one_here}

module _ (Cov : Entries → List QName → Term Tree → Term Tree → Answer) (Op : Entries → List QName → Term Tree → Term Tree → Tree → Type 0)
    (As : Entries → List QName → Term Tree → Term Tree → QName → Type 0) (entries : Entries) (names : List QName) (start : Contents) (x : Code) (ys : List Code) (began : List Code) where
  abbrev pub cov : Term Tree → Term Tree → Answer
  cov = Cov entries names

  abbrev pub Fixed : Term Tree
  Fixed = term_meant start.nodes x

  abbrev pub All : List (Term Tree)
  All = terms_meant start.nodes ys

  abbrev pub Began : List (Term Tree)
  Began = terms_meant start.nodes began

  abbrev pub OpensAll : Tree → Type 0
  OpensAll = AtOne same_term cov (Op entries names) Fixed All Began

  abbrev pub AsksAll : QName → Type 0
  AsksAll = AtOne same_term cov (As entries names) Fixed All Began

  abbrev pub Coming : List Code → List Code → Type 0
  Coming rest found = Comes (one_act same_term cov Fixed) All Began (terms_meant start.nodes rest) (terms_meant start.nodes found)

  -- the loop is at an item
  module _ (later : Entries) (more : List QName) (e : later ≡ entries) (n : more ≡ names) (old middle : World) (now : Contents)
      (kept : Kept AsksAll OpensAll old middle start now) (fixed_below : x.ty < length start.nodes)
      (y : Code) (rest found : List Code) (here : y.ty < length start.nodes) (all : AllWithin (length start.nodes) found) (comes : Coming (y ∷ rest) found) where
    abbrev Item : Term Tree
    Item = term_meant start.nodes y

    abbrev Found : List (Term Tree)
    Found = terms_meant start.nodes found

    abbrev pub Fixed' : Term Tree
    Fixed' = term_meant now.nodes x

    abbrev pub Item' : Term Tree
    Item' = term_meant now.nodes y

    abbrev pub Found' : List (Term Tree)
    Found' = terms_meant now.nodes found

    moved : (P : Entries → List QName → Term Tree → Term Tree → List (Term Tree) → Type 0) → P later more Fixed' Item' Found' → P entries names Fixed Item Found
    moved P p =
        subst (λ a. P a names Fixed Item Found) e (subst (λ b. P later b Fixed Item Found) n
        (subst (λ c. P later more c Item Found) (term_stays start now kept.extends x fixed_below)
        (subst (λ d. P later more Fixed' d Found) (term_stays start now kept.extends y here)
        (subst (λ f. P later more Fixed' Item' f) (terms_stay start now kept.extends found all) p))))

    here_opens : (t : Tree) → AtCommon same_term cov (Op entries names) Fixed Item t → OpensAll t
    here_opens t held = one_here same_term cov Fixed All Began (Op entries names) Item (terms_meant start.nodes rest) Found comes t held

    here_asks : (q : QName) → AtCommon same_term cov (As entries names) Fixed Item q → AsksAll q
    here_asks q held = one_here same_term cov Fixed All Began (As entries names) Item (terms_meant start.nodes rest) Found comes q held

    pub one_stops : (full : Option Bool) (fault : SetFault) (new : List Code)
        → GivesFound (AtCommon same_term (Cov later more) (Op later more) Fixed' Item') now full (Err fault) new (compared same_term (Cov later more) Fixed' Item' Found')
        → GivesFound OpensAll start full (Err fault) new (meet_one same_term cov Fixed All Began)
    one_stops full fault new stops =
        stops_later (AtCommon same_term cov (Op entries names) Fixed Item) OpensAll start now here_opens kept.extends kept.adds full fault _ _
        (λ is. one_fails same_term cov Fixed All Began Item (terms_meant start.nodes rest) Found fault comes is)
        (moved (λ e n p d f. Stops (AtCommon same_term (Cov e n) (Op e n) p d) now full fault (compared same_term (Cov e n) p d f ≡ Err fault)) stops)

    pub one_kept : (new : World) (after : Contents)
        → Kept (AtCommon same_term (Cov later more) (As later more) Fixed' Item') (AtCommon same_term (Cov later more) (Op later more) Fixed' Item') middle new now after
        → Kept AsksAll OpensAll old new start after
    one_kept new after second =
        kept_again AsksAll OpensAll old middle new start now after kept
        (kept_more (AtCommon same_term cov (As entries names) Fixed Item) AsksAll (AtCommon same_term cov (Op entries names) Fixed Item) OpensAll middle new now after here_asks here_opens
        (moved (λ e n p d f. Kept (AtCommon same_term (Cov e n) (As e n) p d) (AtCommon same_term (Cov e n) (Op e n) p d) middle new now after) second))

    pub one_goes : (new : List Code) → AllWithin (length start.nodes) new → compared same_term (Cov later more) Fixed' Item' Found' ≡ Ok (terms_meant now.nodes new) → Coming rest new
    one_goes new within is =
        goes Item (terms_meant start.nodes rest) Found (terms_meant start.nodes new) comes
        (moved (λ e n p d f. compared same_term (Cov e n) p d f ≡ Ok (terms_meant now.nodes new)) is ∙ ap Ok (terms_stay start now kept.extends new within))

  -- nothing is left
  pub one_ends : (rest found : List Code) → Coming rest found → rest ≡ [] → meet_one same_term cov Fixed All Began ≡ Ok (terms_meant start.nodes found)
  one_ends rest found comes none =
      one_same same_term cov Fixed All Began (terms_meant start.nodes rest) (terms_meant start.nodes found) comes
      ∙ ap (λ l. meet_one same_term cov Fixed (terms_meant start.nodes l) (terms_meant start.nodes found)) none
