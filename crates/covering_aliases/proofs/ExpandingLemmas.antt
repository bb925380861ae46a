-- A type whose aliases end is what it is expanded to.
use Rattle.std.proofs.Common.{◌≡◌, inl, inr, ℕ, zero, suc, ◌≤◌, Bool, true, false, cond, List, [], ◌∷◌, ◌++◌, length, Option, Some, None, Ok, Err, refl, ap, sym, subst, ◌∙◌, arith}
use Rattle.std.specs.Prelude.{Result}
use Rattle.std.specs.List.{Contains, list_any}
use Rattle.std.proofs.lemmas.List.Elements.{Contains-push_cases}
use Rattle.go_values.specs.declared.qualified.QName.{QName}
use Rattle.environments.specs.Environments.{Entry, declared}
use Rattle.type_terms.specs.Declarations.{Decl}
use Rattle.type_terms.specs.DeclarationRules.{IsProper, IsProperDecl}
use Rattle.type_terms.specs.Trees.{Tree}
use Rattle.type_terms.specs.TreeEquality.{same_name}
use Rattle.replacement.specs.declared.faults.SetFault.{SetFault}
use Rattle.replacement.specs.declared.faults.SetFault.TheVariants.{AliasCycle}
use Rattle.replacement.specs.Expansion.{Entries, AreNames, Applied, then, alias_use, alias_right, led, expanded_from, expanded}
use Rattle.replacement.specs.Calls.{LeadsTo, itself, further}
use Rattle.type_sets.specs.Covering.{Test, identical_to}
use Rattle.type_sets.specs.TermTests.{fine, no_cycle}
use Rattle.term_tests.proofs.FineLemmas.{among_is}
use Rattle.term_tests.proofs.ListLemmas.{none_of}
use Rattle.covering_aliases.specs.SoundTypes.{Ends}
use Rattle.covering_aliases.specs.Covered.{is_at, is_given}
use Rattle.covering_aliases.proofs.GoodLemmas.{compared, IsPlain, Leads, HeadEnds, head_ends, EndsBy, Good, good, next_ends, heads_end, sound_good}
use Rattle.covering_aliases.proofs.AliasLemmas.{one_more}
use Rattle.covering_aliases.proofs.SoundLemmas.{ends_where_fine}

module _ (entries : Entries) where
  -- from the name of one alias at a head to that of another
  data Reaches : QName → QName → Type 0 where
    at_once : (from to : QName) → Leads entries from to → Reaches from to
    by_way : (from next to : QName) → Leads entries from next → Reaches next to → Reaches from to

  further_on : (from next to : QName) → Reaches from next → Leads entries next to → Reaches from to
  further_on _ _ to (at_once from next first) last = by_way from next to first (at_once next to last)
  further_on _ _ to (by_way from middle next first rest) last = by_way from middle to first (further_on middle next to rest last)

  no_circle : (q : QName) → HeadEnds entries q → Reaches q q → ⊥
  no_circle _ (head_ends q each) (at_once _ _ first) = no_circle q (each q first) (at_once q q first)
  no_circle _ (head_ends q each) (by_way _ next _ first rest) = no_circle next (each next first) (further_on next q next rest first)

module _ (settle : Tree → Result Tree SetFault) (free : Test) (entries : Entries) (m : ℕ) where
  abbrev is_type : Tree → Test
  is_type = is_at settle free entries (suc m)

  abbrev given : Result Tree SetFault → Test
  given = is_given settle free entries (suc m)

  abbrev GoodType : Tree → Type 0
  GoodType = Good settle free entries m

  use_is : (type : Tree) → GoodType type → (head : Applied) → alias_use type ≡ Some head → is_type type ≡ given (alias_right entries head)
  use_is _ (good type is ends right plain parts) = is

  use_ends : (type : Tree) → GoodType type → (head : Applied) → alias_use type ≡ Some head → EndsBy entries m head.name
  use_ends _ (good type is ends right plain parts) = ends

  use_right : (type : Tree) → GoodType type → (head : Applied) (right : Tree) → alias_use type ≡ Some head → alias_right entries head ≡ Ok right → GoodType right
  use_right _ (good type is ends right plain parts) = right

  pub plain_type : (type : Tree) → GoodType type → alias_use type ≡ None → IsPlain type
  plain_type _ (good type is ends right plain parts) = plain

  module _ (proper : (q : QName) (decl : Decl) → entries q ≡ Some (declared decl) → IsProperDecl decl) where
    -- the names that were met lead to the alias at the head
    abbrev AllReach : List QName → Tree → Type 0
    AllReach met type = (w : QName) → Contains met w → (head : Applied) → alias_use type ≡ Some head → Reaches entries w head.name

    more_reach : (met : List QName) (type : Tree) (head : Applied) (right : Tree) → AllReach met type → alias_use type ≡ Some head → alias_right entries head ≡ Ok right
        → AllReach (met ++ head.name ∷ []) right
    more_reach met type head right reach heads_at is w held next next_use =
        let leads : Leads entries head.name next.name = record { head = head; right = right; next = next; is = refl; right_is = is; heads_at = next_use; at = refl } in
        elim (Contains-push_cases met head.name w held) [
          | inl before ↦ further_on entries w head.name next.name (reach w before head heads_at) leads
          | inr same ↦ subst (λ v. Reaches entries v next.name) same (at_once head.name next.name leads)
        ]

    -- one alias at the head
    led_is : (more : List QName → Tree → Result Tree SetFault) (met : List QName) (type : Tree) → GoodType type → AllReach met type
        → ((head : Applied) (right : Tree) → alias_use type ≡ Some head → alias_right entries head ≡ Ok right → given (more (met ++ head.name ∷ []) right) ≡ is_type right)
        → (o : Option Applied) → alias_use type ≡ o → given (led entries more met type o) ≡ is_type type
    led_is more met type g reach each None none = refl
    led_is more met type g reach each (Some head) heads_at = by (list_any (same_name head.name) met) refl (alias_right entries head) refl
      where
        by : (b : Bool) → list_any (same_name head.name) met ≡ b → (r : Result Tree SetFault) → alias_right entries head ≡ r
            → given (cond {A = Result Tree SetFault} b (Err (AliasCycle head.name)) (then r (more (met ++ head.name ∷ [])))) ≡ is_type type
        by true e r f =
            let end = use_ends type g head heads_at in
            absurd (no_circle entries head.name (heads_end settle free entries m proper end.most head.name end.ends) (reach head.name (among_is met head.name e) head heads_at))
        by false e (Err fault) f = sym (use_is type g head heads_at ∙ ap given f)
        by false e (Ok right) f = each head right heads_at f ∙ sym (use_is type g head heads_at ∙ ap given f)

    from_is : (k : ℕ) (met : List QName) (type : Tree) → GoodType type → AllReach met type → given (expanded_from entries k met type) ≡ is_type type
    unfolding expanded_from
    from_is zero met type g reach = led_is (λ now t. Ok t) met type g reach (λ head right heads_at is. refl) (alias_use type) refl
    from_is (suc k) met type g reach =
        led_is (expanded_from entries k) met type g reach
        (λ head right heads_at is. from_is k (met ++ head.name ∷ []) right (use_right type g head right heads_at is) (more_reach met type head right reach heads_at is)) (alias_use type) refl

    -- what holds of a type whose aliases end holds of what it is expanded to
    led_keeps : (H : Tree → Type 0) (more : List QName → Tree → Result Tree SetFault) (met : List QName) (type found : Tree)
        → ((head : Applied) (right : Tree) (now : List QName) → alias_use type ≡ Some head → alias_right entries head ≡ Ok right → more now right ≡ Ok found → H found)
        → (alias_use type ≡ None → H type)
        → (o : Option Applied) → alias_use type ≡ o → led entries more met type o ≡ Ok found → H found
    led_keeps H more met type found each own None none is = let same : type ≡ found = cc in subst H same (own none)
    led_keeps H more met type found each own (Some head) heads_at is = by (list_any (same_name head.name) met) (alias_right entries head) refl is
      where
        by : (b : Bool) (r : Result Tree SetFault) → alias_right entries head ≡ r
            → cond {A = Result Tree SetFault} b (Err (AliasCycle head.name)) (then r (more (met ++ head.name ∷ []))) ≡ Ok found → H found
        by true r e h = absurd cc
        by false (Err f) e h = absurd cc
        by false (Ok right) e h = each head right (met ++ head.name ∷ []) heads_at e h

    -- Where so many names may be met, no alias is left at the head.
    settled_from : (n k : ℕ) (met : List QName) (type found : Tree) → n ≤ k → ((head : Applied) → alias_use type ≡ Some head → Ends entries n head.name)
        → expanded_from entries k met type ≡ Ok found → alias_use found ≡ None
    unfolding expanded_from
    settled_from zero zero met type found less ends is =
        led_keeps (λ t. alias_use t ≡ None) (λ now t. Ok t) met type found (λ head right now heads_at known h. absurd (ends head heads_at)) (λ none. none) (alias_use type) refl is
    settled_from zero (suc k) met type found less ends is =
        led_keeps (λ t. alias_use t ≡ None) (expanded_from entries k) met type found (λ head right now heads_at known h. absurd (ends head heads_at)) (λ none. none) (alias_use type) refl is
    settled_from (suc n) zero met type found less ends is = absurd (omega (arith, less))
    settled_from (suc n) (suc k) met type found less ends is =
        led_keeps (λ t. alias_use t ≡ None) (expanded_from entries k) met type found
        (λ head right now heads_at known h. settled_from n k now right found (omega (arith, less))
        (λ next next_use. next_ends settle free entries m proper n head right next (ends head heads_at) known next_use) h) (λ none. none) (alias_use type) refl is

    leads_from : (k : ℕ) (met : List QName) (type found : Tree) → expanded_from entries k met type ≡ Ok found → LeadsTo entries type found
    unfolding expanded_from
    leads_from zero met type found is =
        led_keeps (LeadsTo entries type) (λ now t. Ok t) met type found
        (λ head right now heads_at known h. let same : right ≡ found = cc in further type head right found heads_at known (subst (LeadsTo entries right) same (itself right)))
        (λ none. itself type) (alias_use type) refl is
    leads_from (suc k) met type found is =
        led_keeps (LeadsTo entries type) (expanded_from entries k) met type found
        (λ head right now heads_at known h. further type head right found heads_at known (leads_from k now right found h)) (λ none. itself type) (alias_use type) refl is

    pub good_end : (type found : Tree) → LeadsTo entries type found → GoodType type → GoodType found
    good_end _ _ (itself type) g = g
    good_end _ _ (further type head right end heads_at is rest) g = good_end right end rest (use_right type g head right heads_at is)

    module _ (names : List QName) (as_many : m ≡ length names) where
      pub whole_is : (type : Tree) → GoodType type → given (expanded entries names type) ≡ is_type type
      whole_is type g = from_is (length names) [] type g (λ w held head heads_at. absurd (none_of w held))

      pub leads_to : (type found : Tree) → expanded entries names type ≡ Ok found → LeadsTo entries type found
      leads_to type found is = leads_from (length names) [] type found is

      -- no alias is left at the head
      pub none_left : (type found : Tree) → GoodType type → expanded entries names type ≡ Ok found → alias_use found ≡ None
      none_left type found g is = by (alias_use type) refl
        where
          by : (o : Option Applied) → alias_use type ≡ o → alias_use found ≡ None
          by None none = settled_from zero (length names) [] type found (omega arith) (λ head heads_at. absurd (let e : None ≡ Some head = sym none ∙ heads_at in cc)) is
          by (Some head) heads_at =
              let end = use_ends type g head heads_at in
              settled_from end.most (length names) [] type found (omega (arith, end.less, as_many))
              (λ other use_too. let e : Some head ≡ Some other = sym heads_at ∙ use_too in let same : head ≡ other = cc in subst (λ h. Ends entries end.most h.name) same end.ends) is

-- A type in which no alias mentions itself is what it is expanded to.
pub is_expanded : (settle : Tree → Result Tree SetFault) (free : Test) (entries : Entries) (names : List QName) → AreNames entries names
    → ((q : QName) (decl : Decl) → entries q ≡ Some (declared decl) → IsProperDecl decl) → (type : Tree) → IsProper type → no_cycle entries names type ≡ fine
    → identical_to settle free entries names type ≡ is_given settle free entries (suc (length names)) (expanded entries names type)
is_expanded settle free entries names are proper type whole is =
    let n = length names in
    let sound = ends_where_fine entries names are proper type whole is in
    one_more settle free entries n type sound
    ∙ sym (whole_is settle free entries n proper names refl type (sound_good settle free entries n proper n (omega arith) type sound))
