-- What comes of comparing two terms, one way and then the other.
use Rattle.std.proofs.Common.{◌≡◌, ◌<◌, Bool, true, false, cond, List, length, Option, Some, None, Ok, Err, ap, subst, ◌∙◌, inl, inr}
use Rattle.std.specs.Prelude.{Result}
use Rattle.go_values.specs.declared.qualified.QName.{QName}
use Rattle.type_terms.specs.declared.literals.Term.{Term as Code}
use Rattle.type_terms.specs.Arenas.{Contents, Extends}
use Rattle.type_terms.specs.Extensions.{extends_tree}
use Rattle.type_terms.specs.Trees.{Tree}
use Rattle.environments.specs.OpenedTypes.{AddsAmong}
use Rattle.environments.specs.Kept.{World, Kept}
use Rattle.environments.specs.KeptLaws.{adds_wider, kept_again, kept_more}
use Rattle.interface_opening.specs.Elements.{Term}
use Rattle.interface_opening.specs.Terms.{◌>>=◌, common}
use Rattle.replacement.specs.declared.faults.SetFault.{SetFault}
use Rattle.replacement.specs.Expansion.{Entries}
use Rattle.replacement.proofs.KeptLemmas.{stops_more, stops_later}
use Rattle.term_tests.specs.Mentions.{Tells}
use Rattle.type_sets.specs.Covering.{Answer}
use Rattle.type_sets.specs.TypeSets.{same_term}
use Rattle.common_terms.specs.Calls.{GivesCommon}
use Rattle.common_terms.specs.Comparing.{term_meant, AtCommon}

-- what is said of later values is said of the same earlier ones
pub same_pair : (P : Entries → List QName → Term Tree → Term Tree → Type 0) (later entries : Entries) (more names : List QName) (x' x y' y : Term Tree)
    → later ≡ entries → more ≡ names → x' ≡ x → y' ≡ y → P later more x' y' → P entries names x y
same_pair P later entries more names x' x y' y e n f s p =
    subst (λ a. P a names x y) e (subst (λ b. P later b x y) n (subst (λ c. P later more c y) f (subst (λ d. P later more x' d) s p)))

pub term_stays : (old new : Contents) → Extends old new → (x : Code) → x.ty < length old.nodes → term_meant new.nodes x ≡ term_meant old.nodes x
term_stays old new grown x below = ap (λ (t : Tree). record { tilde = x.tilde; type = t }) (extends_tree old new grown x.ty below)

module _ (covered : Term Tree → Term Tree → Answer) (opens : Term Tree → Term Tree → Tree → Type 0) (asks : Term Tree → Term Tree → QName → Type 0) (x y : Term Tree) where
  abbrev pub both : Result Bool SetFault → Result (Option (Term Tree)) SetFault
  both first = first >>= λ under. cond under (Ok (Some x)) (covered y x >>= λ over. Ok (cond over (Some y) None))

  abbrev pub second_way : Result Bool SetFault → Result (Option (Term Tree)) SetFault
  second_way other = other >>= λ over. Ok (cond over (Some y) None)

  opens_first : (t : Tree) → opens x y t → AtCommon same_term covered opens x y t
  opens_first t held = inl held

  asks_first : (q : QName) → asks x y q → AtCommon same_term covered asks x y q
  asks_first q held = inl held

  -- the first comparison stopped
  pub first_stops : (before : Contents) (full : Option Bool) (fault : SetFault) → Tells (opens x y) before full (Err fault) (covered x y)
      → GivesCommon (AtCommon same_term covered opens x y) before full (Err fault) (common same_term covered x y)
  first_stops before full fault stops =
      stops_more (opens x y) (AtCommon same_term covered opens x y) before opens_first full fault _ _ (λ is. ap both is) stops

  pub first_kept : (old new : World) (before after : Contents) → Kept (asks x y) (opens x y) old new before after
      → Kept (AtCommon same_term covered asks x y) (AtCommon same_term covered opens x y) old new before after
  first_kept old new before after kept =
      kept_more (asks x y) (AtCommon same_term covered asks x y) (opens x y) (AtCommon same_term covered opens x y) old new before after asks_first opens_first kept

  pub is_first : covered x y ≡ Ok true → common same_term covered x y ≡ Ok (Some x)
  is_first is = ap both is

  module _ (no : covered x y ≡ Ok false) where
    opens_second : (t : Tree) → opens y x t → AtCommon same_term covered opens x y t
    opens_second t held = inr (no, held)

    asks_second : (q : QName) → asks y x q → AtCommon same_term covered asks x y q
    asks_second q held = inr (no, held)

    -- the second comparison stopped
    pub second_stops : (before between : Contents) → Extends before between → AddsAmong (opens x y) before between → (full : Option Bool) (fault : SetFault)
        → Tells (opens y x) between full (Err fault) (covered y x) → GivesCommon (AtCommon same_term covered opens x y) before full (Err fault) (common same_term covered x y)
    second_stops before between grown adds full fault stops =
        stops_later (opens y x) (AtCommon same_term covered opens x y) before between opens_second grown
        (adds_wider (opens x y) (AtCommon same_term covered opens x y) before between opens_first adds) full fault _ _ (λ is. ap both no ∙ ap second_way is) stops

    pub second_kept : (old middle new : World) (before between after : Contents) → Kept (asks x y) (opens x y) old middle before between
        → Kept (asks y x) (opens y x) middle new between after → Kept (AtCommon same_term covered asks x y) (AtCommon same_term covered opens x y) old new before after
    second_kept old middle new before between after first second =
        kept_again (AtCommon same_term covered asks x y) (AtCommon same_term covered opens x y) old middle new before between after (first_kept old middle before between first)
        (kept_more (asks y x) (AtCommon same_term covered asks x y) (opens y x) (AtCommon same_term covered opens x y) middle new between after asks_second opens_second second)

    pub is_second : covered y x ≡ Ok true → common same_term covered x y ≡ Ok (Some y)
    is_second is = ap both no ∙ ap second_way is

    pub is_none : covered y x ≡ Ok false → common same_term covered x y ≡ Ok None
    is_none is = ap both no ∙ ap second_way is

-- The second comparison is made where an environment and an arena have more, and means the same.
module _ (Cov : Entries → List QName → Term Tree → Term Tree → Answer) (Op : Entries → List QName → Term Tree → Term Tree → Tree → Type 0)
    (As : Entries → List QName → Term Tree → Term Tree → QName → Type 0) (entries later : Entries) (names more : List QName) (e : later ≡ entries) (n : more ≡ names)
    (before between : Contents) (grown : Extends before between) (x y : Code) (here : x.ty < length before.nodes) (there : y.ty < length before.nodes) where
  abbrev pub X : Term Tree
  X = term_meant before.nodes x

  abbrev pub Y : Term Tree
  Y = term_meant before.nodes y

  abbrev pub X' : Term Tree
  X' = term_meant between.nodes x

  abbrev pub Y' : Term Tree
  Y' = term_meant between.nodes y

  turn : (P : Entries → List QName → Term Tree → Term Tree → Type 0) → P later more Y' X' → P entries names Y X
  turn P p = same_pair P later entries more names Y' Y X' X e n (term_stays before between grown y there) (term_stays before between grown x here) p

  pub later_is : (b : Bool) → Cov later more Y' X' ≡ Ok b → Cov entries names Y X ≡ Ok b
  later_is b is = turn (λ e n s t. Cov e n s t ≡ Ok b) is

  module _ (no : Cov entries names X Y ≡ Ok false) where
    pub later_stops : AddsAmong (Op entries names X Y) before between → (full : Option Bool) (fault : SetFault)
        → Tells (Op later more Y' X') between full (Err fault) (Cov later more Y' X')
        → GivesCommon (AtCommon same_term (Cov entries names) (Op entries names) X Y) before full (Err fault) (common same_term (Cov entries names) X Y)
    later_stops adds full fault stops =
        second_stops (Cov entries names) (Op entries names) (As entries names) X Y no before between grown adds full fault
        (turn (λ e n s t. Tells (Op e n s t) between full (Err fault) (Cov e n s t)) stops)

    pub later_kept : (old middle new : World) (after : Contents) → Kept (As entries names X Y) (Op entries names X Y) old middle before between
        → Kept (As later more Y' X') (Op later more Y' X') middle new between after
        → Kept (AtCommon same_term (Cov entries names) (As entries names) X Y) (AtCommon same_term (Cov entries names) (Op entries names) X Y) old new before after
    later_kept old middle new after first second =
        second_kept (Cov entries names) (Op entries names) (As entries names) X Y no old middle new before between after first
        (turn (λ e n s t. Kept (As e n s t) (Op e n s t) middle new between after) second)

    pub later_second : Cov later more Y' X' ≡ Ok true → common same_term (Cov entries names) X Y ≡ Ok (Some Y)
    later_second is = is_second (Cov entries names) (Op entries names) (As entries names) X Y no (later_is true is)

    pub later_none : Cov later more Y' X' ≡ Ok false → common same_term (Cov entries names) X Y ≡ Ok None
    later_none is = is_none (Cov entries names) (Op entries names) (As entries names) X Y no (later_is false is)
