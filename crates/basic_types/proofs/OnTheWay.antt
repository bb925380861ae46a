-- Following names from a type on: what was met, and where it leads.
use Rattle.std.proofs.Common.{◌≡◌, ℕ, zero, suc, ◌-◌, ◌<◌, Bool, true, false, ◌||◌, List, [], ◌∷◌, ◌++◌, length, length-append, Option, Some, None, Ok, Err, refl, sym, ap, subst, ◌∙◌, arith, inl, inr, ◌⊎◌, true≢false}
use Rattle.std.specs.List.{Contains, IsDistinct, list_any}
use Rattle.std.proofs.lemmas.Map.Made.{length-le_from_is_member}
use Rattle.std.proofs.lemmas.Map.Keys.{IsDistinct-push}
use Rattle.std.proofs.lemmas.Map.Views.{list_any-from_Contains}
use Rattle.code_tables.specs.declared.predeclared.Basic.{Basic}
use Rattle.go_values.specs.declared.qualified.QName.{QName}
use Rattle.go_values.specs.contracts.qualified.QNameEq.TheImpl.Laws as qname_laws
use Rattle.go_values.specs.Exact.{exact_qname}
use Rattle.type_terms.specs.Arenas.{Contents, Extends}
use Rattle.type_terms.specs.Denotation.{tree}
use Rattle.type_terms.specs.Extensions.{extends_tree}
use Rattle.type_terms.specs.Trees.{Tree}
use Rattle.type_terms.specs.TreeEquality.{same_name}
use Rattle.environments.specs.declared.declaring.EnvError.{EnvError}
use Rattle.environments.specs.declared.declaring.EnvError.TheVariants.{Unknown, Damaged, TableFull, Nodes, OutOfMemory}
use Rattle.environments.specs.Environments.{Entry, declared, entry_types}
use Rattle.environments.specs.Kept.{World, Kept, OpensBehind}
use Rattle.environments.specs.KeptLaws.{kept_again, kept_more, outgrown_before}
use Rattle.environments.specs.OpenedTypes.{OutgrowsAmong}
use Rattle.type_terms.specs.Names.{basic_of}
use Rattle.basic_types.specs.BasicTypes.{Entries, head_name, side_behind, ComesDownTo, at_once, onward, IsReached, at_head, further, comes_down_within}
use Rattle.basic_types.specs.Calls.{IsDeclared, AsksHead, OpensOnWay, IsBasicOf, IsLed, Ends, no_name, no_type, again, Stops, Turns}
use Rattle.basic_types.proofs.BasicLemmas.{no_itself, is_predeclared, no_basic, none_yet, one_more, none_behind, by_itself, more_names, goes_down, reached_by_head, none_reached}
use Rattle.basic_types.proofs.WayLemmas.{down_found}

or_cases : (a b : Bool) → (a || b) ≡ true → (a ≡ true) ⊎ (b ≡ true)
or_cases true b h = inl refl
or_cases false b h = inr h

or_first : (a b : Bool) → a ≡ true → (a || b) ≡ true
or_first true b h = refl
or_first false b h = absurd (true≢false (sym h))

or_second : (a b : Bool) → b ≡ true → (a || b) ≡ true
or_second true b h = refl
or_second false b h = h

abbrev IsMet : List QName → QName → Type 0
IsMet met q = list_any (same_name q) met ≡ true

met_cases : (met : List QName) (q other : QName) → IsMet (met ++ q ∷ []) other → IsMet met other ⊎ (other ≡ q)
met_cases [] q other h = elim (or_cases (same_name other q) false h) [ inl e ↦ inr (exact_qname other q e) | inr e ↦ absurd (true≢false (sym e)) ]
met_cases (x ∷ xs) q other h = elim (or_cases (same_name other x) (list_any (same_name other) (xs ++ q ∷ [])) h) [
  | inl e ↦ inl (or_first (same_name other x) (list_any (same_name other) xs) e)
  | inr e ↦ elim (met_cases xs q other e) [ inl old ↦ inl (or_second (same_name other x) (list_any (same_name other) xs) old) | inr new ↦ inr new ]
]

still_met : (met : List QName) (q other : QName) → IsMet met other → IsMet (met ++ q ∷ []) other
still_met [] q other h = absurd (true≢false (sym h))
still_met (x ∷ xs) q other h = elim (or_cases (same_name other x) (list_any (same_name other) xs) h) [
  | inl e ↦ or_first (same_name other x) (list_any (same_name other) (xs ++ q ∷ [])) e
  | inr e ↦ or_second (same_name other x) (list_any (same_name other) (xs ++ q ∷ [])) (still_met xs q other e)
]

met_now : (met : List QName) (q : QName) → IsMet (met ++ q ∷ []) q
met_now [] q = or_first (same_name q q) false (qname_laws.laws-law.refl q)
met_now (x ∷ xs) q = or_second (same_name q x) (list_any (same_name q) (xs ++ q ∷ [])) (met_now xs q)

module _ (entries : Entries) (names : List QName) where
  -- What stands behind a name that was met: it is found no sooner than what is now followed.
  record IsPassed (now : Tree) (met : List QName) (q : QName) : Type 0 where
    side : Tree
    side_is : side_behind (entries q) ≡ Some side
    declaration : IsDeclared (entries q)
    no_sooner : (n : ℕ) → comes_down_within entries n now ≡ None → comes_down_within entries n side ≡ None
    leads : (head : QName) → head_name side ≡ Some head → IsMet met head ⊎ (head_name now ≡ Some head)

  -- What is followed now gives the answer.
  pub record IsOnTheWay (start now : Tree) (met : List QName) : Type 0 where
    pub distinct : IsDistinct same_name met
    pub among : (q : QName) → IsMet met q → IsMet names q
    pub reached : (q : QName) → IsReached entries now q → IsReached entries start q
    pub split : (q : QName) → IsReached entries start q → IsMet met q ⊎ IsReached entries now q
    pub down : (basic : Basic) → ComesDownTo entries basic start → ComesDownTo entries basic now
    pub up : (basic : Basic) → ComesDownTo entries basic now → ComesDownTo entries basic start
    passed : (q : QName) → IsMet met q → IsPassed now met q

  pub begins : (start : Tree) → IsOnTheWay start start []
  unfolding IsDistinct
  begins start = record {
    distinct = tt;
    among = λ q held. absurd (true≢false (sym held));
    reached = λ q held. held;
    split = λ q held. inr held;
    down = λ basic held. held;
    up = λ basic held. held;
    passed = λ q held. absurd (true≢false (sym held));
  }

  fewer : (n : ℕ) (type : Tree) → comes_down_within entries (suc n) type ≡ None → comes_down_within entries n type ≡ None
  fewer n type none = go (comes_down_within entries n type) refl
    where
      go : (o : Option Basic) → comes_down_within entries n type ≡ o → o ≡ None
      go None e = refl
      go (Some basic) e = absurd (no_basic basic (sym none ∙ more_names entries n (suc n) type basic (omega arith) e))

module _ (entries : Entries) (names : List QName)
    (are : (q : QName) (entry : Entry) → entries q ≡ Some entry → Contains names q) where
  -- the name at the head gives way to what stands behind it
  pub turns : (start now : Tree) (met : List QName) → IsOnTheWay entries names start now met → (new : List QName) (side : Tree)
      → IsLed entries met now new side → IsOnTheWay entries names start side new
  turns start now met was new side led =
      subst (IsOnTheWay entries names start side) (sym led.met) (record {
        distinct = IsDistinct-push qname_laws.laws-law met led.head was.distinct led.fresh;
        among = λ q held. elim (met_cases met led.head q held) [
          | inl old ↦ was.among q old
          | inr same ↦ subst (IsMet names) (sym same)
              (list_any-from_Contains qname_laws.laws-law led.head names (are led.head (declared led.is_declared.0) led.is_declared.1))
        ];
        reached = λ q held. was.reached q (further now side led.head q led.head_is led.side_is held);
        split = λ q held. elim (was.split q held) [
          | inl old ↦ inl (still_met met led.head q old)
          | inr on ↦ elim (reached_by_head entries now led.head q led.head_is on) [
            | inl same ↦ inl (subst (IsMet (met ++ led.head ∷ [])) (sym same) (met_now met led.head))
            | inr behind ↦ let same : behind.0 ≡ side = cc in inr (subst (λ t. IsReached entries t q) same behind.2)
          ]
        ];
        down = λ basic held. goes_down entries basic now side led.head led.head_is led.side_is (was.down basic held);
        up = λ basic held. was.up basic (onward now side led.head led.head_is led.side_is held);
        passed = λ q held. elim (met_cases met led.head q held) [
          | inl old ↦ old_passed q (was.passed q old)
          | inr same ↦ subst (IsPassed entries names side (met ++ led.head ∷ [])) (sym same) (record {
            side = side;
            side_is = led.side_is;
            declaration = led.is_declared;
            no_sooner = λ n none. none;
            leads = λ head is. inr is;
          })
        ];
      })
    where
      later : (n : ℕ) → comes_down_within entries n side ≡ None → comes_down_within entries n now ≡ None
      later zero none = none_yet entries now led.head led.head_is
      later (suc n) none = one_more entries n now side led.head led.head_is led.side_is ∙ fewer entries names n side none

      old_passed : (q : QName) → IsPassed entries names now met q → IsPassed entries names side (met ++ led.head ∷ []) q
      old_passed q p = record {
        side = p.side;
        side_is = p.side_is;
        declaration = p.declaration;
        no_sooner = λ n none. p.no_sooner n (later n none);
        leads = λ head is. elim (p.leads head is) [
          | inl old ↦ inl (still_met met led.head head old)
          | inr now_is ↦
              let same : head ≡ led.head = let both = sym now_is ∙ led.head_is in cc in
              inl (subst (IsMet (met ++ led.head ∷ [])) (sym same) (met_now met led.head))
        ];
      }

  -- the names that are still to be met
  pub falls : (start now : Tree) (met : List QName) → IsOnTheWay entries names start now met → (new : List QName) (side : Tree)
      → IsLed entries met now new side → length names - length new < length names - length met
  falls start now met was new side led =
      let after = turns start now met was new side led in
      let few = length-le_from_is_member qname_laws.laws-law new names after.distinct after.among in
      let longer = ap length led.met ∙ length-append met (led.head ∷ []) in
      omega (arith, few, longer)

-- ---- where it ends

module _ (entries : Entries) (names : List QName) where
  module _ (start now : Tree) (met : List QName) (was : IsOnTheWay entries names start now met) where
    none_within : ((n : ℕ) → comes_down_within entries n now ≡ None) → (basic : Basic) → ComesDownTo entries basic start → ⊥
    none_within none basic down =
        let found = down_found entries basic now (was.down basic down) in
        no_basic basic (sym (none found.0) ∙ found.1)

    goes_round : (q : QName) → head_name now ≡ Some q → IsMet met q → (n : ℕ) → comes_down_within entries n now ≡ None
    goes_round q head held zero = none_yet entries now q head
    goes_round q head held (suc n) =
        let p = was.passed q held in
        one_more entries n now p.side q head p.side_is ∙ p.no_sooner n (goes_round q head held n)

    -- where the name at the head was met, all that is reached was
    all_met : (q : QName) → head_name now ≡ Some q → IsMet met q → (type : Tree) (name : QName)
        → ((head : QName) → head_name type ≡ Some head → IsMet met head) → IsReached entries type name → IsMet met name
    all_met q head held _ _ each (at_head type name is) = each name is
    all_met q head held _ _ each (further type side first name is behind reach) =
        let p = was.passed first (each first is) in
        let same : p.side ≡ side = let both = sym p.side_is ∙ behind in cc in
        all_met q head held side name
        (λ other other_is. elim (p.leads other (ap head_name same ∙ other_is)) [
          | inl old ↦ old
          | inr now_is ↦ let one : other ≡ q = let both = sym now_is ∙ head in cc in subst (IsMet met) (sym one) held
        ]) reach

    all_declared : ((q : QName) → IsReached entries now q → IsDeclared (entries q)) → (q : QName) → IsReached entries start q
        → IsDeclared (entries q)
    all_declared later q held = elim (was.split q held) [
      | inl old ↦ (was.passed q old).declaration
      | inr on ↦ later q on
    ]

    no_answer : (arena : Contents) (full : Option Bool) (q : QName) → head_name now ≡ Some q
        → ((n : ℕ) → comes_down_within entries n now ≡ None) → ((q : QName) → IsReached entries now q → IsDeclared (entries q))
        → IsBasicOf entries start arena full (Ok (basic_of now))
    no_answer arena full q head none later =
        subst (λ o. IsBasicOf entries start arena full (Ok o)) (sym (no_itself now q head))
        (none_within none, all_declared later)

    pub ended : (arena : Contents) (full : Option Bool) → Ends entries met now → IsBasicOf entries start arena full (Ok (basic_of now))
    ended arena full (no_name head) = go (basic_of now) refl
      where
        go : (o : Option Basic) → basic_of now ≡ o → IsBasicOf entries start arena full (Ok o)
        go (Some basic) e = was.up basic (subst (ComesDownTo entries basic) (sym (is_predeclared now basic e)) at_once)
        go None e = (
          none_within (λ n. by_itself entries n now head ∙ e),
          all_declared (λ q held. absurd (none_reached entries now q head held)),
        )
    ended arena full (no_type q head declaration none) =
        no_answer arena full q head (λ n. none_behind entries n now q head none)
        (λ other held. elim (reached_by_head entries now q other head held) [
          | inl same ↦ subst (λ n. IsDeclared (entries n)) (sym same) declaration
          | inr behind ↦ absurd (let both = sym none ∙ behind.1 in cc)
        ])
    ended arena full (again q head held) =
        no_answer arena full q head (goes_round q head held)
        (λ other reach.
        let met_other = all_met q head held now other
        (λ first is. let same : first ≡ q = let both = sym is ∙ head in cc in subst (IsMet met) (sym same) held) reach in
        (was.passed other met_other).declaration)

    -- the environment gives nothing
    pub stopped : (arena : Contents) (full : Option Bool) (fault : EnvError) → Stops entries now arena full fault
        → IsBasicOf entries start arena full (Err fault)
    stopped arena full OutOfMemory stops = tt
    stopped arena full Nodes (q, head, is) = is
    stopped arena full TableFull (q, head, is) = is
    stopped arena full (Unknown name) (q, head, is) =
        (subst (IsReached entries start) (sym is.1) (was.reached q (at_head now q head)), ap entries is.1 ∙ is.0)
    stopped arena full (Damaged name fault) (q, head, is) =
        (subst (IsReached entries start) (sym is.1) (was.reached q (at_head now q head)), (is.0.0, ap entries is.1 ∙ is.0.1))

    -- what is asked for on the way is reached
    pub head_reached : (q : QName) → head_name now ≡ Some q → IsReached entries start q
    head_reached q head = was.reached q (at_head now q head)

    -- ---- by what an environment has later, which is the same

    module _ (later : Entries) (stay : later ≡ entries) where
      pub stopped_by : (new : List QName) (arena : Contents) (full : Option Bool) (fault : EnvError)
          → Turns later met now new arena full (Err fault) → IsBasicOf entries start arena full (Err fault)
      stopped_by new arena full fault turned =
          stopped arena full fault (subst (λ e. Stops e now arena full fault) stay turned)

      -- the way ends, and what was added since then changes no node
      pub answered : (arena : Contents) (full : Option Bool) (before : Contents) (id : ℕ) → now ≡ tree before.nodes id
          → Extends before arena → id < length before.nodes → Ends later met now → (basic : Option Basic)
          → basic ≡ basic_of (tree arena.nodes id) → IsBasicOf entries start arena full (Ok basic)
      answered arena full before id is grown below ends basic told =
          subst (λ o. IsBasicOf entries start arena full (Ok o))
          (sym (told ∙ ap basic_of (extends_tree before arena grown id below ∙ sym is)))
          (ended arena full (subst (λ e. Ends e met now) stay ends))

      -- what the next call opens is behind names on the way
      opens_on : (type : Tree) → OpensBehind later (AsksHead now) type → OpensOnWay entries start type
      opens_on type (q, head, held) = (q, head_reached q head, subst (λ e. Contains (entry_types (e q)) type) stay held)

      -- what the next call keeps, all calls do
      pub kept_on : (old middle after : World) (before between last : Contents)
          → Kept (IsReached entries start) (OpensOnWay entries start) old middle before between
          → Kept (AsksHead now) (OpensBehind later (AsksHead now)) middle after between last
          → Kept (IsReached entries start) (OpensOnWay entries start) old after before last
      kept_on old middle after before between last first second =
          kept_again (IsReached entries start) (OpensOnWay entries start) old middle after before between last first
          (kept_more (AsksHead now) (IsReached entries start) (OpensBehind later (AsksHead now)) (OpensOnWay entries start) middle after between last head_reached opens_on second)

      pub full_on : (old middle : World) (before between : Contents)
          → Kept (IsReached entries start) (OpensOnWay entries start) old middle before between
          → OutgrowsAmong (OpensBehind later (AsksHead now)) between → OutgrowsAmong (OpensOnWay entries start) before
      full_on old middle before between first outgrown =
          outgrown_before (OpensBehind later (AsksHead now)) (OpensOnWay entries start) before between opens_on first.extends first.adds outgrown

pub led_on : (entries later : Entries) → later ≡ entries → (old : List QName) (type : Tree) (new : List QName) (side : Tree)
    → IsLed later old type new side → IsLed entries old type new side
led_on entries later stay old type new side led = subst (λ e. IsLed e old type new side) stay led
