-- Tasks that are put from the last on.
use Rattle.std.proofs.Common.{◌≡◌, ℕ, ◌<◌, ◌≤◌, ◌+◌, ◌-◌, zero, suc, Bool, true, false, cond, List, [], ◌∷◌, ◌++◌, length, map, drop, slice_get, reverse, Some, refl, ap, sym, subst, ◌∙◌, arith, append_assoc}
use Rattle.std.specs.List.{flat_map}
use Rattle.std.proofs.lemmas.List.{reverse-append}
use Rattle.std.proofs.lemmas.Grind.{flat_map-append}
use Rattle.go_values.specs.declared.qualified.QName.{QName}
use Rattle.type_terms.specs.TreeEquality.{same_name}
use Rattle.term_tests.proofs.ListLemmas.{drop_next, drop_all}
use Rattle.whole_terms.specs.declared.looking.Task.{Task}
use Rattle.whole_terms.specs.declared.looking.Task.TheVariants.{Visit}
use Rattle.whole_terms.specs.Looks.{stack, argument_task}

pub pushed : (tasks : List Task) (task : Task) → stack (tasks ++ task ∷ []) ≡ task ∷ stack tasks
pushed tasks task = reverse-append tasks (task ∷ [])

abbrev pub visits_from : ℕ → List ℕ → List Task
visits_from k ids = map Visit (drop k ids)

pub no_visits_left : (ids : List ℕ) → visits_from (length ids) ids ≡ []
no_visits_left ids = ap (map Visit) (drop_all ids)

pub visit_put : (left : ℕ) (ids : List ℕ) (id : ℕ) → 0 < left → slice_get ids (left - 1) ≡ Some id → (before after old : List Task) → before ≡ visits_from left ids ++ old
    → after ≡ Visit id ∷ before → after ≡ visits_from (left - 1) ids ++ old
visit_put left ids id some there before after old was is =
    let next : left ≡ suc (left - 1) = omega (arith, some) in
    is ∙ ap (λ l. Visit id ∷ l) (was ∙ ap (λ k. visits_from k ids ++ old) next)
    ∙ ap (λ xs. map Visit xs ++ old) (sym (drop_next ids (left - 1) id there))

abbrev pub arguments_from : List QName → List ℕ → ℕ → List QName → List Task
arguments_from ps args k looks = flat_map (argument_task ps args) (drop k looks)

pub no_arguments_left : (ps : List QName) (args : List ℕ) (looks : List QName) → arguments_from ps args (length looks) looks ≡ []
no_arguments_left ps args looks = ap (flat_map (argument_task ps args)) (drop_all looks)

pub argument_put : (ps : List QName) (args : List ℕ) (left : ℕ) (looks : List QName) (q : QName) → 0 < left → slice_get looks (left - 1) ≡ Some q
    → (before after old : List Task) → before ≡ arguments_from ps args left looks ++ old → after ≡ argument_task ps args q ++ before
    → after ≡ arguments_from ps args (left - 1) looks ++ old
argument_put ps args left looks q some there before after old was is =
    let next : left ≡ suc (left - 1) = omega (arith, some) in
    is ∙ ap (λ l. argument_task ps args q ++ l) (was ∙ ap (λ k. arguments_from ps args k looks ++ old) next)
    ∙ sym (append_assoc (argument_task ps args q) (arguments_from ps args (suc (left - 1)) looks) old)
    ∙ ap (λ xs. flat_map (argument_task ps args) xs ++ old) (sym (drop_next looks (left - 1) q there))

-- the parameter at a place is another one, or is the one
pub argument_on : (ps : List QName) (args : List ℕ) (k : ℕ) (p q : QName) (id : ℕ) → slice_get ps k ≡ Some p → slice_get args k ≡ Some id
    → same_name q p ≡ false → argument_task (drop k ps) (drop k args) q ≡ argument_task (drop (suc k) ps) (drop (suc k) args) q
argument_on ps args k p q id there arg other =
    (λ i. argument_task (drop_next ps k p there i) (drop_next args k id arg i) q)
    ∙ ap (λ b. cond b (Visit id ∷ []) (argument_task (drop (suc k) ps) (drop (suc k) args) q)) other

pub argument_here : (ps : List QName) (args : List ℕ) (k : ℕ) (p q : QName) (id : ℕ) → slice_get ps k ≡ Some p → slice_get args k ≡ Some id
    → same_name q p ≡ true → argument_task (drop k ps) (drop k args) q ≡ Visit id ∷ []
argument_here ps args k p q id there arg same =
    (λ i. argument_task (drop_next ps k p there i) (drop_next args k id arg i) q)
    ∙ ap (λ b. cond b (Visit id ∷ []) (argument_task (drop (suc k) ps) (drop (suc k) args) q)) same

drop_past : {X : Type 0} (xs : List X) (k : ℕ) → length xs ≤ k → drop k xs ≡ []
drop_past [] zero past = refl
drop_past [] (suc k) past = refl
drop_past (x ∷ xs) zero past = absurd (omega (arith, past))
drop_past (x ∷ xs) (suc k) past = drop_past xs k (omega (arith, past))

pub argument_none : (ps : List QName) (args : List ℕ) (k : ℕ) (q : QName) → length ps ≤ k → argument_task (drop k ps) (drop k args) q ≡ []
argument_none ps args k q past = ap (λ xs. argument_task xs (drop k args) q) (drop_past ps k past)

there_at : (xs : List ℕ) (k : ℕ) → k < length xs → (id : ℕ) × (slice_get xs k ≡ Some id)
there_at [] k below = absurd (omega (arith, below))
there_at (x ∷ xs) zero below = (x, refl)
there_at (x ∷ xs) (suc k) below = there_at xs k (omega (arith, below))

pub on_next : (ps : List QName) (args : List ℕ) (k : ℕ) (p q : QName) → slice_get ps k ≡ Some p → k < length args → same_name q p ≡ false
    → argument_task (drop k ps) (drop k args) q ≡ argument_task (drop (k + 1) ps) (drop (k + 1) args) q
on_next ps args k p q there below other =
    let arg = there_at args k below in
    let e : suc k ≡ k + 1 = omega arith in
    argument_on ps args k p q arg.0 there arg.1 other ∙ ap (λ n. argument_task (drop n ps) (drop n args) q) e

-- n rooms
abbrev pub times : ℕ → ℕ → ℕ
times zero r = 0
times (suc n) r = r + times n r

pub times_less : (a b r : ℕ) → a < b → times a r + r ≤ times b r
times_less a zero r below = absurd (omega arith)
times_less zero (suc b) r below = omega arith
times_less (suc a) (suc b) r below = let less : a < b = omega (arith, below) in omega (arith, times_less a b r less)
