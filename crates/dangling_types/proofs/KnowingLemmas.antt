-- What is known of nodes, as one more is noted.
use Rattle.std.proofs.Common.{◌≡◌, ℕ, ◌+◌, ◌<◌, Bool, true, false, cond, List, [], ◌∷◌, ◌++◌, zero, suc, length, slice_get, Some, refl, ap, sym, subst, ◌∙◌, inl, inr, arith}
use Rattle.std.specs.Prelude.{nat_eq, Result, Ok, Err, OnOk, OnErr}
use Rattle.std.specs.List.{Contains, AllByRecursion}
use Rattle.std.specs.Option.{unwrap_or}
use Rattle.std.proofs.lemmas.Bool.{eqb-true}
use Rattle.std.proofs.lemmas.Cmp.{nat_eq_equiv}
use Rattle.std.proofs.lemmas.List.Elements.{Contains-append_left, Contains-append_right, Contains-append_cases, Contains-get_or}
use Rattle.type_terms.specs.declared.descriptors.Node.{Node}
use Rattle.type_terms.specs.NodeShapes.{children}
use Rattle.dangling_references.specs.Dangling.{Entries}
use Rattle.dangling_types.specs.declared.finding.Finding.{Finding}
use Rattle.dangling_types.specs.declared.finding.Finding.TheVariants.{Sound, Dangles}
use Rattle.dangling_types.specs.FirstDangling.{first_dangling}
use Rattle.dangling_types.specs.NodeReferences.{Finds}
use Rattle.dangling_types.specs.Findings.{Known, known_for, finding_for, IsKnown, IsRight, AreRight, HasChildren}
use Rattle.dangling_types.specs.Searching.{AreFalling, AreWanted, Notes, IsLooking}
use Rattle.dangling_types.proofs.ListLemmas.{all_of, all_if, contains_none, contains_one, place_held, place_of}
use Rattle.dangling_types.proofs.FirstLemmas.{refs_of, NoneUpTo, none_goes, found_here}

pub finding_is : (known : Known) (id : ℕ) (finding : Finding) → known_for known id ≡ Some finding → finding_for known id ≡ finding
finding_is known id finding e = ap (λ o. unwrap_or o Sound) e

-- what was found for a known node is right
pub right_for : (entries : Entries) (nodes : List Node) (known : Known) → AreRight entries nodes known → (id : ℕ) → IsKnown known id → IsRight entries nodes id (finding_for known id)
right_for entries nodes known right id (finding, is) = subst (IsRight entries nodes id) (sym (finding_is known id finding is)) (right id finding is)

-- in a list of types that are known
module _ (entries : Entries) (nodes : List Node) (known : Known) (right : AreRight entries nodes known) (ids : List ℕ) (all : AllByRecursion (IsKnown known) ids)
    (i id : ℕ) (at : slice_get ids i ≡ Some id) (none : NoneUpTo entries nodes ids i) where
  here : IsRight entries nodes id (finding_for known id)
  here = right_for entries nodes known right id (all_of (IsKnown known) ids id all (place_held ids i id at))

  pub known_goes : finding_for known id ≡ Sound → NoneUpTo entries nodes ids (i + 1)
  known_goes is = none_goes entries nodes ids i id at none (subst (IsRight entries nodes id) is here)

  pub known_found : (node : ℕ) → finding_for known id ≡ Dangles node → Finds nodes (Dangles node) (first_dangling entries (refs_of entries nodes ids))
  known_found node is = found_here entries nodes ids i id at none node (subst (IsRight entries nodes id) is here)

module _ (old new : Known) (id : ℕ) (finding : Finding) (notes : Notes old new id finding) where
  pub noted_itself : IsKnown new id
  noted_itself = (finding, notes id ∙ ap (λ b. cond b (Some finding) (known_for old id)) (nat_eq_equiv.refl id))

  pub noted_stays : (other : ℕ) → IsKnown old other → IsKnown new other
  noted_stays other was = by (nat_eq id other) (notes other)
    where
      by : (b : Bool) → known_for new other ≡ cond b (Some finding) (known_for old other) → IsKnown new other
      by true e = (finding, e)
      by false e = (was.0, e ∙ was.1)

  pub noted_right : (entries : Entries) (nodes : List Node) → AreRight entries nodes old → IsRight entries nodes id finding → AreRight entries nodes new
  noted_right entries nodes right itself other found is = by (nat_eq id other) refl (sym (notes other) ∙ is)
    where
      by : (b : Bool) → nat_eq id other ≡ b → cond b (Some finding) (known_for old other) ≡ Some found → IsRight entries nodes other found
      by true e there =
          let same : other ≡ id = sym (eqb-true id other e) in
          let equal : finding ≡ found = cc in
          subst (λ n. IsRight entries nodes n found) (sym same) (subst (IsRight entries nodes id) equal itself)
      by false e there = right other found there

-- it is noted, or memory was wanting and all is as before
pub note_right : {T E : Type 0} (result : Result T E) (old new : Known) (id : ℕ) (finding : Finding) → OnOk result (Notes old new id finding) → OnErr result (new ≡ old)
    → (entries : Entries) (nodes : List Node) → AreRight entries nodes old → IsRight entries nodes id finding → AreRight entries nodes new
note_right (Ok x) old new id finding noted refused entries nodes right itself = noted_right old new id finding noted entries nodes right itself
note_right (Err e) old new id finding noted refused entries nodes right itself = subst (AreRight entries nodes) (sym refused) right

pub note_stays : {T E : Type 0} (result : Result T E) (old new : Known) (id : ℕ) (finding : Finding) → OnOk result (Notes old new id finding) → OnErr result (new ≡ old)
    → (other : ℕ) → IsKnown old other → IsKnown new other
note_stays (Ok x) old new id finding noted refused other was = noted_stays old new id finding noted other was
note_stays (Err e) old new id finding noted refused other was = subst (λ k. IsKnown k other) (sym refused) was

at_front : {X : Type 0} (xs ys : List X) (i : ℕ) (x : X) → slice_get xs i ≡ Some x → slice_get (xs ++ ys) i ≡ Some x
at_front [] ys i x h = absurd cc
at_front (z ∷ zs) ys zero x h = h
at_front (z ∷ zs) ys (suc i) x h = at_front zs ys i x h

at_end : {X : Type 0} (xs : List X) (x : X) → slice_get (xs ++ x ∷ []) (length xs) ≡ Some x
at_end [] x = refl
at_end (z ∷ zs) x = at_end zs x

front_falls : (left : List ℕ) (id : ℕ) → AreFalling (left ++ id ∷ []) → AreFalling left
front_falls left id falls j k a b at_j at_k less = falls j k a b (at_front left (id ∷ []) j a at_j) (at_front left (id ∷ []) k b at_k) less

-- the last is less than those before it
last_less : (left : List ℕ) (id other : ℕ) → AreFalling (left ++ id ∷ []) → Contains left other → id < other
last_less left id other falls held =
    let place = place_of left other held in
    falls place.0 (length left) other id (at_front left (id ∷ []) place.0 other place.1) (at_end left id) place.2

module _ (entries : Entries) (nodes : List Node) (old : Known) (start : ℕ) (met : List ℕ) (wanted : AreWanted nodes old start met) where
  pub looking_begins : AreRight entries nodes old → IsLooking entries nodes old met met old
  looking_begins right = record {
    right = right;
    kept = λ id was. was;
    falls = wanted.falls;
    inside = λ id held. held;
    done = λ id held. inl held;
  }

  module _ (left rest : List ℕ) (id : ℕ) (known : Known) (was : IsLooking entries nodes old met left known) (is : left ≡ rest ++ id ∷ []) where
    falling : AreFalling (rest ++ id ∷ [])
    falling = subst AreFalling is was.falls

    met_id : Contains met id
    met_id = was.inside id (subst (λ l. Contains l id) (sym is) (Contains-append_right rest (id ∷ []) id (Contains-get_or (id ∷ []) 0 id (omega arith))))

    pub next_there : id < length nodes
    next_there = wanted.within id (inl met_id)

    known_child : (child : ℕ) → child < id → Contains met child → IsKnown known child
    known_child child less held = elim (was.done child held) [
      | inr there ↦ there
      | inl waits ↦ elim (Contains-append_cases rest (id ∷ []) child (subst (λ l. Contains l child) is waits)) [
        | inl before ↦ let more = last_less rest id child falling before in absurd (omega arith)
        | inr last ↦ let same = contains_one child id last in absurd (omega arith)
      ]
    ]

    pub children_are_known : HasChildren nodes known id
    children_are_known node stands = all_if (IsKnown known) (children node) (λ child held.
        elim (wanted.closed id child node met_id stands held) [
          | inl one ↦ known_child child (wanted.lower id child node met_id stands held) one
          | inr more ↦ elim more [ inl none ↦ absurd (contains_none child none) | inr there ↦ was.kept child there ]
        ])

    pub looking_goes : (after : Known) → AreRight entries nodes after
        → ((other : ℕ) → IsKnown known other → IsKnown after other) → IsKnown after id → IsLooking entries nodes old met rest after
    looking_goes after right kept own = record {
      right = right;
      kept = λ other there. kept other (was.kept other there);
      falls = front_falls rest id falling;
      inside = λ other held. was.inside other (subst (λ l. Contains l other) (sym is) (Contains-append_left rest (id ∷ []) other held));
      done = λ other held. elim (was.done other held) [
        | inr there ↦ inr (kept other there)
        | inl waits ↦ elim (Contains-append_cases rest (id ∷ []) other (subst (λ l. Contains l other) is waits)) [
          | inl before ↦ inl before
          | inr last ↦ inr (subst (IsKnown after) (sym (contains_one other id last)) own)
        ]
      ];
    }

  -- in the end the type itself is known
  pub known_at_end : (left : List ℕ) (known : Known) → IsLooking entries nodes old met left known → left ≡ [] → IsKnown known start
  known_at_end left known was empty = elim wanted.begins [
    | inl held ↦ elim (was.done start held) [
      | inl waits ↦ absurd (contains_none start (subst (λ l. Contains l start) empty waits))
      | inr there ↦ there
    ]
    | inr more ↦ elim more [ inl none ↦ absurd (contains_none start none) | inr there ↦ was.kept start there ]
  ]
