-- Nodes are made for those of a list, from its last one on.
use Rattle.std.proofs.Common.{◌≡◌, ℕ, ◌<◌, zero, suc, List, [], ◌∷◌, ◌++◌, length, slice_get, Some, refl, sym, subst, inl, inr, arith}
use Rattle.std.specs.List.{Contains}
use Rattle.std.proofs.lemmas.List.Elements.{Contains-append_left, Contains-append_right, Contains-append_cases, Contains-get_or}
use Rattle.type_terms.specs.declared.descriptors.Node.{Node}
use Rattle.type_terms.specs.Arenas.{Contents, Extends}
use Rattle.type_terms.specs.Extensions.{extends_itself, extends_again}
use Rattle.type_terms.specs.NodeShapes.{children}
use Rattle.written_nodes.specs.Pools.{Made, IsMade, AreWritten, HasChildren}
use Rattle.written_nodes.specs.Searching.{AreFalling, AreWanted, IsMaking}
use Rattle.written_nodes.proofs.ListLemmas.{all_if, contains_none, contains_one, place_of}

at_front : {X : Type 0} (xs ys : List X) (i : ℕ) (x : X) → slice_get xs i ≡ Some x → slice_get (xs ++ ys) i ≡ Some x
at_front [] ys i x h = absurd cc
at_front (z ∷ zs) ys zero x h = h
at_front (z ∷ zs) ys (suc i) x h = at_front zs ys i x h

at_end : {X : Type 0} (xs : List X) (x : X) → slice_get (xs ++ x ∷ []) (length xs) ≡ Some x
at_end [] x = refl
at_end (z ∷ zs) x = at_end zs x

front_falls : (left : List ℕ) (id : ℕ) → AreFalling (left ++ id ∷ []) → AreFalling left
front_falls left id falls j k a b at_j at_k less = falls j k a b (at_front left (id ∷ []) j a at_j) (at_front left (id ∷ []) k b at_k) less

-- the last is less than those before it
last_less : (left : List ℕ) (id other : ℕ) → AreFalling (left ++ id ∷ []) → Contains left other → id < other
last_less left id other falls held =
    let place = place_of left other held in
    falls place.0 (length left) other id (at_front left (id ∷ []) place.0 other place.1) (at_end left id) place.2

module _ (from : List Node) (first : Contents) (old : Made) (start : ℕ) (met : List ℕ) (wanted : AreWanted from old start met) where
  pub making_begins : AreWritten from first.nodes old → IsMaking from first old met met first old
  making_begins are = record {
    extends = extends_itself first;
    written = are;
    kept = λ id was. was;
    falls = wanted.falls;
    inside = λ id held. held;
    known = λ id held. inl held;
  }

  module _ (now : Contents) (left rest : List ℕ) (id : ℕ) (made : Made) (was : IsMaking from first old met left now made) (is : left ≡ rest ++ id ∷ []) where
    falling : AreFalling (rest ++ id ∷ [])
    falling = subst AreFalling is was.falls

    met_id : Contains met id
    met_id = was.inside id (subst (λ l. Contains l id) (sym is) (Contains-append_right rest (id ∷ []) id (Contains-get_or (id ∷ []) 0 id (omega arith))))

    pub next_there : id < length from
    next_there = wanted.within id (inl met_id)

    made_child : (child : ℕ) → child < id → Contains met child → IsMade made child
    made_child child less held = elim (was.known child held) [
      | inr known ↦ known
      | inl waits ↦ elim (Contains-append_cases rest (id ∷ []) child (subst (λ l. Contains l child) is waits)) [
        | inl before ↦ let more = last_less rest id child falling before in absurd (omega arith)
        | inr last ↦ let same = contains_one child id last in absurd (omega arith)
      ]
    ]

    pub children_are_made : HasChildren from made id
    children_are_made node stands = all_if (IsMade made) (children node) (λ child held.
        elim (wanted.closed id child node met_id stands held) [
          | inl one ↦ made_child child (wanted.lower id child node met_id stands held) one
          | inr more ↦ elim more [ inl none ↦ absurd (contains_none child none) | inr known ↦ was.kept child known ]
        ])

    pub making_goes : (new : Contents) (after : Made) → Extends now new → AreWritten from new.nodes after
        → ((other : ℕ) → IsMade made other → IsMade after other) → IsMade after id → IsMaking from first old met rest new after
    making_goes new after grown are kept own = record {
      extends = extends_again first now new was.extends grown;
      written = are;
      kept = λ other known. kept other (was.kept other known);
      falls = front_falls rest id falling;
      inside = λ other held. was.inside other (subst (λ l. Contains l other) (sym is) (Contains-append_left rest (id ∷ []) other held));
      known = λ other held. elim (was.known other held) [
        | inr known ↦ inr (kept other known)
        | inl waits ↦ elim (Contains-append_cases rest (id ∷ []) other (subst (λ l. Contains l other) is waits)) [
          | inl before ↦ inl before
          | inr last ↦ inr (subst (IsMade after) (sym (contains_one other id last)) own)
        ]
      ];
    }

  -- in the end one was made for the type
  pub made_at_end : (now : Contents) (left : List ℕ) (made : Made) → IsMaking from first old met left now made → left ≡ [] → IsMade made start
  made_at_end now left made was empty = elim wanted.begins [
    | inl held ↦ elim (was.known start held) [
      | inl waits ↦ absurd (contains_none start (subst (λ l. Contains l start) empty waits))
      | inr known ↦ known
    ]
    | inr more ↦ elim more [ inl none ↦ absurd (contains_none start none) | inr known ↦ was.kept start known ]
  ]
