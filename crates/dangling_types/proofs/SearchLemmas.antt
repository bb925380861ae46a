-- A search for the nodes of a type that are not known, step by step.
use Rattle.std.proofs.Common.{◌≡◌, ℕ, ◌<◌, ◌⊎◌, zero, suc, List, [], ◌∷◌, ◌++◌, length, slice_get, Option, Some, None, refl, ap, sym, subst, ◌∙◌, inl, inr, arith}
use Rattle.std.specs.Prelude.{nat_lt, ◌==◌, is_some, cond, Bool, true, false}
use Rattle.std.specs.List.{Contains, All}
use borrow.Author.Tests.{ltb-true}
use Rattle.std.specs.Ordering.{nat_cmp, match_ordering}
use Rattle.std.specs.declared.cmp.Ordering.{Ordering}
use Rattle.std.specs.declared.cmp.Ordering.TheVariants.{Less, Equal, Greater}
use Rattle.std.specs.BTreeSet.{insert_key}
use Rattle.std.proofs.lemmas.Map.Lookups.{exact_unsigned}
use Rattle.std.proofs.lemmas.List.Elements.{Contains-append_left, Contains-append_right, Contains-append_cases, Contains-get_or}
use Rattle.type_terms.specs.declared.descriptors.Node.{Node}
use Rattle.type_terms.specs.Arenas.{IsNode, AllBelow}
use Rattle.type_terms.specs.NodeShapes.{children}
use Rattle.dangling_types.specs.declared.finding.Finding.{Finding}
use Rattle.dangling_types.specs.Findings.{Known, known_for, IsKnown}
use Rattle.dangling_types.specs.Searching.{IsSearch, AreChildren, Joins, last_of}
use Rattle.dangling_types.proofs.ListLemmas.{all_of, all_if, contains_none, contains_one, place_held}

-- ---- numbers put into a set

module _ {known : Known} where
  -- what joins one after the other
  pub joins_more : {old middle new front : List ℕ} (id : ℕ) → Joins known old middle front → Joins known middle new (id ∷ []) → Joins known old new (front ++ id ∷ [])
  joins_more {old} {middle} {new} {front} id first then = record {
    kept = λ q held. then.kept q (first.kept q held);
    added = λ q held. elim (Contains-append_cases front (id ∷ []) q held) [
      | inl one ↦ elim (first.added q one) [ inl there ↦ inl (then.kept q there) | inr known ↦ inr known ]
      | inr other ↦ then.added q other
    ];
    only = λ q held. elim (then.only q held) [
      | inl one ↦ elim (first.only q one) [ inl old ↦ inl old | inr new ↦ inr (Contains-append_left front (id ∷ []) q new) ]
      | inr other ↦ inr (Contains-append_right front (id ∷ []) q other)
    ];
  }

  pub joins_none : (ids : List ℕ) → Joins known ids ids []
  joins_none ids = record { kept = λ q held. held; added = λ q held. absurd (contains_none q held); only = λ q held. inl held }

  -- one that is known is not put
  pub joins_known : (ids : List ℕ) (id : ℕ) → is_some (known_for known id) ≡ true → Joins known ids ids (id ∷ [])
  joins_known ids id is_there = record {
    kept = λ q held. held;
    added = λ q held. inr (subst (IsKnown known) (sym (contains_one q id held)) (there (known_for known id) is_there));
    only = λ q held. inl held;
  }
    where
      there : (o : Option Finding) → is_some o ≡ true → (own : Finding) × (o ≡ Some own)
      there (Some own) e = (own, refl)
      there None e = absurd cc

  insert_joins : (xs : List ℕ) (k : ℕ) → Joins known xs (insert_key nat_cmp xs k) (k ∷ [])
  insert_joins [] k = record { kept = λ q held. absurd (contains_none q held); added = λ q held. inl held; only = λ q held. inr held }
  insert_joins (x ∷ xs) k = by (nat_cmp k x) refl (insert_joins xs k)
    where
      by : (o : Ordering) → nat_cmp k x ≡ o → Joins known xs (insert_key nat_cmp xs k) (k ∷ []) → Joins known (x ∷ xs) (match_ordering o (k ∷ x ∷ xs) (x ∷ xs) (x ∷ insert_key nat_cmp xs k)) (k ∷ [])
      by Less e later = record {
        kept = λ q held. Contains-append_right (k ∷ []) (x ∷ xs) q held;
        added = λ q held. inl (Contains-append_left (k ∷ []) (x ∷ xs) q held);
        only = λ q held. elim (Contains-append_cases (k ∷ []) (x ∷ xs) q held) [ inl new ↦ inr new | inr old ↦ inl old ];
      }
      by Equal e later =
          let same : k ≡ x = exact_unsigned k x e in
          record {
            kept = λ q held. held;
            added = λ q held. inl (Contains-append_left (x ∷ []) xs q (subst (λ n. Contains (n ∷ []) q) same held));
            only = λ q held. inl held;
          }
      by Greater e later = record {
        kept = λ q held. elim (Contains-append_cases (x ∷ []) xs q held) [
          | inl first ↦ Contains-append_left (x ∷ []) (insert_key nat_cmp xs k) q first
          | inr rest ↦ Contains-append_right (x ∷ []) (insert_key nat_cmp xs k) q (later.kept q rest)
        ];
        added = λ q held. elim (later.added q held) [ inl there ↦ inl (Contains-append_right (x ∷ []) (insert_key nat_cmp xs k) q there) | inr known ↦ inr known ];
        only = λ q held. elim (Contains-append_cases (x ∷ []) (insert_key nat_cmp xs k) q held) [
          | inl first ↦ inl (Contains-append_left (x ∷ []) xs q first)
          | inr rest ↦ elim (later.only q rest) [ inl old ↦ inl (Contains-append_right (x ∷ []) xs q old) | inr new ↦ inr new ]
        ];
      }

  pub inserted : {cmp : ℕ → ℕ → Ordering} → cmp ≡ nat_cmp → (old new : List ℕ) (k : ℕ) → new ≡ insert_key cmp old k → Joins known old new (k ∷ [])
  inserted same old new k is = subst (λ l. Joins known old l (k ∷ [])) (sym (is ∙ ap (λ f. insert_key f old k) same)) (insert_joins old k)

-- what is less by the order of numbers is below
less_below : (x y : ℕ) → nat_cmp x y ≡ Less → x < y
less_below x y e = by (nat_lt x y) refl e
  where
    other : (b : Bool) → cond b Equal Greater ≡ Less → ⊥
    other true h = cc
    other false h = cc

    by : (b : Bool) → nat_lt x y ≡ b → cond b Less (cond (x == y) Equal Greater) ≡ Less → x < y
    by true t h = ltb-true x y t
    by false t h = absurd (other (x == y) h)

pub all_less : (keys : List ℕ) (id : ℕ) → All (λ q. nat_cmp q id ≡ Less) keys → AllBelow id keys
all_less keys id all = all_if (λ n. n < id) keys (λ n held. less_below n id (subst (λ q. nat_cmp q id ≡ Less) held.2 (all held.0 n held.1)))

-- ---- the search

place_cases : (id : ℕ) (xs : List ℕ) (i x : ℕ) → slice_get (xs ++ id ∷ []) i ≡ Some x → (slice_get xs i ≡ Some x) ⊎ ((i ≡ length xs) × (x ≡ id))
place_cases id [] zero x h = inr (refl, cc)
place_cases id [] (suc i) x h = absurd cc
place_cases id (y ∷ ys) zero x h = inl h
place_cases id (y ∷ ys) (suc i) x h = elim (place_cases id ys i x h) [ inl e ↦ inl e | inr q ↦ inr (ap suc q.0, q.1) ]

place_within : (xs : List ℕ) (i x : ℕ) → slice_get xs i ≡ Some x → i < length xs
place_within [] i x h = absurd cc
place_within (y ∷ ys) zero x h = omega arith
place_within (y ∷ ys) (suc i) x h = let w = place_within ys i x h in omega arith

last_cases : (other : ℕ) (met : List ℕ) → (met ≡ []) ⊎ Contains met (last_of other met)
last_cases other [] = inl refl
last_cases other (x ∷ xs) = inr (elim (last_cases x xs) [
  | inl none ↦ subst (λ l. Contains (x ∷ l) (last_of x l)) (sym none) (Contains-get_or (x ∷ []) 0 x (omega arith))
  | inr held ↦ Contains-append_right (x ∷ []) xs (last_of x xs) held
])

last_pushed : (other : ℕ) (met : List ℕ) (id : ℕ) → last_of other (met ++ id ∷ []) ≡ id
last_pushed other [] id = refl
last_pushed other (x ∷ xs) id = last_pushed x xs id

module _ (nodes : List Node) (known : Known) (start : ℕ) where
  pub search_begins : (none waiting : List ℕ) → none ≡ [] → start < length nodes → Joins known none waiting (start ∷ []) → IsSearch nodes known start [] waiting
  search_begins none waiting empty there joins = record {
    begins = inr (joins.added start (Contains-get_or (start ∷ []) 0 start (omega arith)));
    closed = λ id child node held. absurd (contains_none id held);
    within = λ id held. elim held [
      | inl met ↦ absurd (contains_none id met)
      | inr waits ↦
          let same : id ≡ start = elim (joins.only id waits) [ inl old ↦ absurd (contains_none id (subst (λ l. Contains l id) empty old)) | inr new ↦ contains_one id start new ] in
          subst (λ n. n < length nodes) (sym same) there
    ];
    lower = λ id child node held. absurd (contains_none id held);
    below = λ id other held. absurd (contains_none id held);
    falls = λ j k a b at. absurd cc;
  }

  module _ (met waiting rest : List ℕ) (id : ℕ) (was : IsSearch nodes known start met waiting) (is : waiting ≡ rest ++ id ∷ []) where
    waits_id : Contains waiting id
    waits_id = subst (λ l. Contains l id) (sym is) (Contains-append_right rest (id ∷ []) id (Contains-get_or (id ∷ []) 0 id (omega arith)))

    waited : (other : ℕ) → Contains rest other → Contains waiting other
    waited other held = subst (λ l. Contains l other) (sym is) (Contains-append_left rest (id ∷ []) other held)

    -- what waits is a node
    pub search_there : id < length nodes
    search_there = was.within id (inr waits_id)

    -- the last that was met falls
    pub search_falls : last_of (length nodes) (met ++ id ∷ []) < last_of (length nodes) met
    search_falls = elim (last_cases (length nodes) met) [
      | inl none ↦
          let first : last_of (length nodes) met ≡ length nodes = ap (last_of (length nodes)) none in
          omega (arith, last_pushed (length nodes) met id, search_there)
      | inr held ↦
          let low = was.below (last_of (length nodes) met) id held waits_id in
          omega (arith, last_pushed (length nodes) met id)
    ]

    module _ (inner after : List ℕ) (greatest : AllBelow id rest) (are : AreChildren nodes id inner) (joins : Joins known rest after inner) where
      low_child : (child : ℕ) → Contains inner child → child < id
      low_child child held = all_of (λ n. n < id) inner child (subst (AllBelow id) (sym are.are) are.falls) held

      own_child : {other : ℕ} → other ≡ id → (node : Node) (child : ℕ) → IsNode nodes other node → Contains (children node) child → Contains inner child
      own_child {other} same node child stands held =
          let here : slice_get nodes id ≡ Some node = subst (λ n. slice_get nodes n ≡ Some node) same stands in
          let stored = are.stands in
          let equal : node ≡ are.node = cc in
          subst (λ l. Contains l child) (sym are.are) (subst (λ n. Contains (children n) child) equal held)

      moves : (other : ℕ) → Contains waiting other ⊎ IsKnown known other → Contains (met ++ id ∷ []) other ⊎ (Contains after other ⊎ IsKnown known other)
      moves other held = elim held [
        | inr known ↦ inr (inr known)
        | inl waits ↦ elim (Contains-append_cases rest (id ∷ []) other (subst (λ l. Contains l other) is waits)) [
          | inl one ↦ inr (inl (joins.kept other one))
          | inr last ↦ inl (Contains-append_right met (id ∷ []) other last)
        ]
      ]

      now_moves : (other : ℕ) → Contains met other ⊎ (Contains waiting other ⊎ IsKnown known other) → Contains (met ++ id ∷ []) other ⊎ (Contains after other ⊎ IsKnown known other)
      now_moves other held = elim held [ inl old ↦ inl (Contains-append_left met (id ∷ []) other old) | inr more ↦ moves other more ]

      falls_more : (j k a b : ℕ) → slice_get (met ++ id ∷ []) j ≡ Some a → slice_get (met ++ id ∷ []) k ≡ Some b → j < k → b < a
      falls_more j k a b at_j at_k less = elim (place_cases id met j a at_j) [
        | inl old_j ↦ elim (place_cases id met k b at_k) [
          | inl old_k ↦ was.falls j k a b old_j old_k less
          | inr last ↦ let low = was.below a id (place_held met j a old_j) waits_id in omega (arith, last.1)
        ]
        | inr last ↦ elim (place_cases id met k b at_k) [
          | inl old_k ↦ let w = place_within met k b old_k in absurd (omega (arith, last.0))
          | inr again ↦ absurd (omega (arith, last.0, again.0))
        ]
      ]

      -- the greatest of those that wait is met, and its children wait
      pub search_goes : IsSearch nodes known start (met ++ id ∷ []) after
      search_goes = record {
        begins = now_moves start was.begins;
        closed = λ other child node held stands inner_held. elim (Contains-append_cases met (id ∷ []) other held) [
          | inl old ↦ now_moves child (was.closed other child node old stands inner_held)
          | inr new ↦ inr (joins.added child (own_child (contains_one other id new) node child stands inner_held))
        ];
        within = λ other held. elim held [
          | inl known ↦ elim (Contains-append_cases met (id ∷ []) other known) [
            | inl old ↦ was.within other (inl old)
            | inr new ↦ subst (λ n. n < length nodes) (sym (contains_one other id new)) search_there
          ]
          | inr waits ↦ elim (joins.only other waits) [
            | inl old ↦ was.within other (inr (waited other old))
            | inr new ↦ let low = low_child other new in omega (arith, search_there)
          ]
        ];
        lower = λ other child node held stands inner_held. elim (Contains-append_cases met (id ∷ []) other held) [
          | inl old ↦ was.lower other child node old stands inner_held
          | inr new ↦
              let same : other ≡ id = contains_one other id new in
              let low = low_child child (own_child same node child stands inner_held) in
              omega arith
        ];
        below = λ known other held waits. elim (Contains-append_cases met (id ∷ []) known held) [
          | inl old ↦ elim (joins.only other waits) [
            | inl one ↦ was.below known other old (waited other one)
            | inr new ↦
                let low = low_child other new in
                let high = was.below known id old waits_id in
                omega arith
          ]
          | inr new ↦
              let same : known ≡ id = contains_one known id new in
              elim (joins.only other waits) [
                | inl one ↦ let low : other < id = all_of (λ n. n < id) rest other greatest one in omega arith
                | inr child ↦ let low = low_child other child in omega arith
              ]
        ];
        falls = falls_more;
      }
