-- A walk answers what a test that goes level by level does.
use Rattle.std.proofs.Common.{◌≡◌, List, [], ◌∷◌, ◌++◌, Bool, true, false, ◌||◌, Result, Ok, Err, Option, Some, refl, ap, sym, subst, ◌∙◌, arith}
use Rattle.std.specs.List.{AllByRecursion, Contains, list_any}
use Rattle.std.proofs.lemmas.List.Elements.{Contains-append_right, Contains-get_or}
use Rattle.level_walk.specs.Levels.{and_then, passes, by_parts, by_level, IsFinite, is_finite, Levels}
use Rattle.level_walk.specs.Walk.{Visits, passed, opened, ComesTo, begins, visits, Ends, done, differs, unready, broken}

joined : {F : Type 0} (a b c : Result Bool F) → and_then (and_then a b) c ≡ and_then a (and_then b c)
joined (Ok true) b c = refl
joined (Ok false) b c = refl
joined (Err f) b c = refl

passes_append : {P F : Type 0} (test : P → Result Bool F) (xs ys : List P) → passes test (xs ++ ys) ≡ and_then (passes test xs) (passes test ys)
passes_append test [] ys = refl
passes_append test (x ∷ xs) ys =
    ap (and_then (test x)) (passes_append test xs ys) ∙ sym (joined (test x) (passes test xs) (passes test ys))

all_append : {X : Type 0} (H : X → Type 0) (xs ys : List X) → AllByRecursion H xs → AllByRecursion H ys → AllByRecursion H (xs ++ ys)
all_append H [] ys left right = right
all_append H (x ∷ xs) ys left right = (left.0, all_append H xs ys left.1 right)

append_assoc : {X : Type 0} (xs ys zs : List X) → xs ++ (ys ++ zs) ≡ (xs ++ ys) ++ zs
append_assoc [] ys zs = refl
append_assoc (x ∷ xs) ys zs = ap (λ l. x ∷ l) (append_assoc xs ys zs)

all_if : {X : Type 0} (H : X → Type 0) (xs : List X) → ((x : X) → Contains xs x → H x) → AllByRecursion H xs
all_if H [] each = tt
all_if H (x ∷ xs) each =
    (each x (Contains-get_or (x ∷ xs) 0 x (omega arith)), all_if H xs (λ y held. each y (Contains-append_right (x ∷ []) xs y held)))

-- ---- where pairs lead

module _ {P Q F : Type 0} (settle : P → Result Q F) (steps : Q → Result (Option (List P)) F) where
  -- one is the pair of parts of the other
  record Part (from to : P) : Type 0 where
    ready : Q
    parts : List P
    is : settle from ≡ Ok ready
    leads : steps ready ≡ Ok (Some parts)
    held : Contains parts to

  -- by one level at least
  data Reaches : P → P → Type 0 where
    at_once : (from to : P) → Part from to → Reaches from to
    by_way : (from next to : P) → Part from next → Reaches next to → Reaches from to

  further_on : (from next to : P) → Reaches from next → Part next to → Reaches from to
  further_on _ _ to (at_once from next first) last = by_way from next to first (at_once next to last)
  further_on _ _ to (by_way from middle next first rest) last = by_way from middle to first (further_on middle next to rest last)

  no_circle : (p : P) → IsFinite settle steps p → Reaches p p → ⊥
  no_circle _ (is_finite p each) (at_once _ _ first) =
      no_circle p (each first.ready first.parts p first.is first.leads first.held) (at_once p p first)
  no_circle _ (is_finite p each) (by_way _ next _ first rest) =
      no_circle next (each first.ready first.parts next first.is first.leads first.held) (further_on next p next rest first)

  -- from each pair that is ready as this one
  abbrev ReachesFrom : Q → P → Type 0
  ReachesFrom q to = (from : P) → settle from ≡ Ok q → Reaches from to

module _ {P Q F : Type 0} (settle : P → Result Q F) (same : Q → Q → Bool) (steps : Q → Result (Option (List P)) F)
    (exact : (a b : Q) → same a b ≡ true → a ≡ b) (holds : P → Type 0) (levels : Levels settle steps holds) where
  abbrev test : P → Result Bool F
  test = levels.test

  abbrev AllHold : List P → Type 0
  AllHold due = AllByRecursion holds due

  abbrev From : Q → P → Type 0
  From q to = ReachesFrom settle steps q to

  -- A ready pair passes as soon as the first of those due pass, to which it leads.
  record Waits (due : List P) (q : Q) : Type 0 where
    first : List P
    behind : List P
    is : due ≡ first ++ behind
    led : AllByRecursion (From q) first
    enough : passes test first ≡ Ok true → by_parts settle steps test (steps q) ≡ Ok true

  -- what a walk keeps
  record Keeps (starts due : List P) (met : List Q) : Type 0 where
    hold : AllHold due
    wait : AllByRecursion (Waits due) met
    answers : passes test due ≡ passes test starts

  test_is : (p : P) (q : Q) → holds p → settle p ≡ Ok q → test p ≡ by_parts settle steps test (steps q)
  test_is p q fits is = levels.level p fits ∙ ap (by_level settle steps test) is

  head_same : (p x : P) (due xs : List P) → p ∷ due ≡ x ∷ xs → p ≡ x
  head_same p x due xs is = cc

  tail_same : (p x : P) (due xs : List P) → p ∷ due ≡ x ∷ xs → due ≡ xs
  tail_same p x due xs is = cc

  -- a pair that was met and is due first has passed
  has_passed : (p : P) (q : Q) (due : List P) → holds p → settle p ≡ Ok q → Waits (p ∷ due) q → by_parts settle steps test (steps q) ≡ Ok true
  has_passed p q due fits is w = by w.first w.behind w.is w.led w.enough
    where
      by : (first behind : List P) → p ∷ due ≡ first ++ behind → AllByRecursion (From q) first
          → (passes test first ≡ Ok true → by_parts settle steps test (steps q) ≡ Ok true) → by_parts settle steps test (steps q) ≡ Ok true
      by [] behind at led enough = enough refl
      by (x ∷ xs) behind at led enough =
          let circle : Reaches settle steps p p = subst (Reaches settle steps p) (sym (head_same p x due (xs ++ behind) at)) (led.0 p is) in
          absurd (no_circle settle steps p (levels.finite p fits) circle)

  met_waits : (due : List P) (q : Q) (met : List Q) → AllByRecursion (Waits due) met → list_any (same q) met ≡ true → Waits due q
  met_waits due q [] all is = absurd (let e : false ≡ true = is in cc)
  met_waits due q (m ∷ ms) all is = by (same q m) refl (met_waits due q ms all.1)
    where
      by : (b : Bool) → same q m ≡ b → (list_any (same q) ms ≡ true → Waits due q) → Waits due q
      by true e later = subst (Waits due) (sym (exact q m e)) all.0
      by false e later = later (sym (ap (λ b. b || list_any (same q) ms) e) ∙ is)

  -- the pair that is due first has passed
  waits_on : (p : P) (due : List P) (m : Q) → test p ≡ Ok true → Waits (p ∷ due) m → Waits due m
  waits_on p due m is w = by w.first w.behind w.is w.led w.enough
    where
      by : (first behind : List P) → p ∷ due ≡ first ++ behind → AllByRecursion (From m) first
          → (passes test first ≡ Ok true → by_parts settle steps test (steps m) ≡ Ok true) → Waits due m
      by [] behind at led enough = record { first = []; behind = due; is = refl; led = tt; enough = enough }
      by (x ∷ xs) behind at led enough =
          let same_test : test x ≡ Ok true = ap test (sym (head_same p x due (xs ++ behind) at)) ∙ is in
          record {
            first = xs;
            behind = behind;
            is = tail_same p x due (xs ++ behind) at;
            led = led.1;
            enough = λ passed. enough (ap (λ a. and_then a (passes test xs)) same_test ∙ passed);
          }

  -- its parts stand in its place
  waits_in : (p : P) (q : Q) (parts due : List P) (m : Q) → holds p → settle p ≡ Ok q → steps q ≡ Ok (Some parts)
      → Waits (p ∷ due) m → Waits (parts ++ due) m
  waits_in p q parts due m fits is leads w = by w.first w.behind w.is w.led w.enough
    where
      by : (first behind : List P) → p ∷ due ≡ first ++ behind → AllByRecursion (From m) first
          → (passes test first ≡ Ok true → by_parts settle steps test (steps m) ≡ Ok true) → Waits (parts ++ due) m
      by [] behind at led enough = record { first = []; behind = parts ++ due; is = refl; led = tt; enough = enough }
      by (x ∷ xs) behind at led enough =
          let head : p ≡ x = head_same p x due (xs ++ behind) at in
          let far : (part : P) → Contains parts part → From m part = λ part held from ready.
          further_on settle steps from p part (subst (Reaches settle steps from) (sym head) (led.0 from ready)) (record
          { ready = q; parts = parts; is = is; leads = leads; held = held }) in
          let tests : passes test parts ≡ test x = sym (test_is p q fits is ∙ ap (by_parts settle steps test) leads) ∙ ap test head in
          record {
            first = parts ++ xs;
            behind = behind;
            is = ap (λ l. parts ++ l) (tail_same p x due (xs ++ behind) at) ∙ append_assoc parts xs behind;
            led = all_append (From m) parts xs (all_if (From m) parts far) led.1;
            enough = λ passed. enough (sym (ap (λ a. and_then a (passes test xs)) tests) ∙ sym (passes_append test parts xs) ∙ passed);
          }

  all_on : (p : P) (due : List P) → test p ≡ Ok true → (met : List Q) → AllByRecursion (Waits (p ∷ due)) met → AllByRecursion (Waits due) met
  all_on p due is [] all = tt
  all_on p due is (m ∷ ms) all = (waits_on p due m is all.0, all_on p due is ms all.1)

  all_in : (p : P) (q : Q) (parts due : List P) → holds p → settle p ≡ Ok q → steps q ≡ Ok (Some parts)
      → (met : List Q) → AllByRecursion (Waits (p ∷ due)) met → AllByRecursion (Waits (parts ++ due)) met
  all_in p q parts due fits is leads [] all = tt
  all_in p q parts due fits is leads (m ∷ ms) all = (waits_in p q parts due m fits is leads all.0, all_in p q parts due fits is leads ms all.1)

  keeps_visit : (starts due : List P) (met : List Q) (later : List P) (then : List Q) → Keeps starts due met → Visits settle same steps due met later then
      → Keeps starts later then
  keeps_visit starts _ _ _ _ keeps (passed p q due met is known) =
      let fits = keeps.hold.0 in
      let ok : test p ≡ Ok true = test_is p q fits is ∙ has_passed p q due fits is (met_waits (p ∷ due) q met keeps.wait known) in
      record {
        hold = keeps.hold.1;
        wait = all_on p due ok met keeps.wait;
        answers = sym (ap (λ a. and_then a (passes test due)) ok) ∙ keeps.answers;
      }
  keeps_visit starts _ _ _ _ keeps (opened p q parts due met is leads) =
      let fits = keeps.hold.0 in
      let tests : test p ≡ passes test parts = test_is p q fits is ∙ ap (by_parts settle steps test) leads in
      let mine : Waits (parts ++ due) q = record {
        first = parts;
        behind = due;
        is = refl;
        led = all_if (From q) parts (λ part held from ready. at_once from part (record
            { ready = q; parts = parts; is = ready; leads = leads; held = held }));
        enough = λ passed. ap (by_parts settle steps test) leads ∙ passed;
      } in
      record {
        hold = all_append holds parts due (all_if holds parts (λ part held. levels.parts p q parts part fits is leads held)) keeps.hold.1;
        wait = all_append (Waits (parts ++ due)) met (q ∷ []) (all_in p q parts due fits is leads met keeps.wait) (mine, tt);
        answers = passes_append test parts due ∙ ap (λ a. and_then a (passes test due)) (sym tests) ∙ keeps.answers;
      }

  comes_keeps : (starts due : List P) (met : List Q) → AllHold starts → ComesTo settle same steps starts due met → Keeps starts due met
  comes_keeps starts _ _ hold begins = record { hold = hold; wait = tt; answers = refl }
  comes_keeps starts _ _ hold (visits due met later then came visit) = keeps_visit starts due met later then (comes_keeps starts due met hold came) visit

  ends_as : (starts due : List P) (met : List Q) (answer : Result Bool F) → Keeps starts due met → Ends settle same steps due answer → passes test starts ≡ answer
  ends_as starts _ met _ keeps done = sym keeps.answers
  ends_as starts _ met _ keeps (differs p q due is leads) =
      sym keeps.answers ∙ ap (λ a. and_then a (passes test due)) (test_is p q keeps.hold.0 is ∙ ap (by_parts settle steps test) leads)
  ends_as starts _ met _ keeps (unready p due f is) =
      sym keeps.answers ∙ ap (λ a. and_then a (passes test due)) (levels.level p keeps.hold.0 ∙ ap (by_level settle steps test) is)
  ends_as starts _ met _ keeps (broken p q due f is leads) =
      sym keeps.answers ∙ ap (λ a. and_then a (passes test due)) (test_is p q keeps.hold.0 is ∙ ap (by_parts settle steps test) leads)

  -- the walk that began at these pairs answers what the test does
  pub walk_answers : (starts due : List P) (met : List Q) (answer : Result Bool F) → AllHold starts → ComesTo settle same steps starts due met
      → Ends settle same steps due answer → passes test starts ≡ answer
  walk_answers starts due met answer hold came ends = ends_as starts due met answer (comes_keeps starts due met hold came) ends
