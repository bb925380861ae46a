-- What a look at a type keeps, and why it ends.
use Rattle.std.proofs.Common.{◌≡◌, ◌⊎◌, inl, inr, ℕ, ◌<◌, ◌≤◌, ◌+◌, ◌-◌, ◌^◌, zero, suc, Bool, true, false, List, [], ◌∷◌, ◌++◌, length, map, reverse, length-append, Option, Some, None, Ok, Err, refl, ap, sym, subst, ◌∙◌, arith, append_assoc, nat_eq}
use Rattle.std.specs.Prelude.{Result}
use Rattle.std.specs.List.{Contains, list_any, IsDistinct}
use Rattle.std.proofs.lemmas.List.{reverse-append}
use Rattle.std.proofs.lemmas.List.Elements.{Contains-push_cases}
use Rattle.std.proofs.lemmas.Bool.{eqb-true}
use Rattle.std.proofs.lemmas.Map.Views.{Contains-from_any}
use Rattle.std.proofs.lemmas.Map.Steps.{length-le_from_distinct_below}
use Rattle.std.proofs.lemmas.Map.Keys.{IsDistinct-push}
use Rattle.std.proofs.lemmas.Cmp.{nat_eq_equiv}
use Rattle.go_values.specs.declared.qualified.QName.{QName}
use Rattle.type_terms.specs.declared.descriptors.Node.{Node}
use Rattle.type_terms.specs.Denotation.{tree}
use Rattle.type_terms.specs.TreeEquality.{same_name}
use Rattle.type_sets.specs.TermTests.{Tested, fine, both, all_fine, holds}
use Rattle.term_tests.specs.Walks.{put_once}
use Rattle.term_tests.proofs.ListLemmas.{both_fine, both_again, fine_parts, none_of}
use Rattle.term_tests.proofs.FineLemmas.{among_is}
use Rattle.term_tests.proofs.WalkLemmas.{once_cases}
use Rattle.whole_terms.proofs.PutLemmas.{times, times_less}
use Rattle.whole_terms.specs.declared.breaches.Breach.{Breach}
use Rattle.whole_terms.specs.declared.looking.Task.{Task}
use Rattle.whole_terms.specs.declared.looking.Task.TheVariants.{Visit, Look, Stop}
use Rattle.whole_terms.specs.Tables.{Table, by_table, looked, ended, fault_of}
use Rattle.whole_terms.specs.Looks.{View, answer, AreLower, Opens, IsOpened, Visits, IsLook, Does, IsWithin}
use Rattle.whole_terms.proofs.TestLemmas.{all_mapped, tested_before, both_parts, both_agree}
use Rattle.whole_terms.proofs.OpenLemmas.{lower_append}

lower_trans : (low high : ℕ) (tasks : List Task) → low < high → AreLower low tasks → AreLower high tasks
lower_trans low high [] less all = tt
lower_trans low high (Visit id ∷ rest) less all = (omega (arith, all.0, less), lower_trans low high rest less all.1)
lower_trans low high (Look q ∷ rest) less all = lower_trans low high rest less all
lower_trans low high (Stop breach ∷ rest) less all = lower_trans low high rest less all

visited : (entered : List ℕ) (id : ℕ) → list_any (nat_eq id) entered ≡ true → Contains entered id
visited entered id is = Contains-from_any (λ x y. eqb-true x y) id entered is

module _ (nodes : List Node) (table : Table) where
  abbrev answers : (QName → Tested) → List Task → Tested
  answers given tasks = all_fine (map (answer nodes table given) tasks)

  abbrev node_holds : (QName → Tested) → ℕ → Tested
  node_holds given id = holds (by_table table) given (tree nodes id)

  -- a type that was visited is fine once all is fine that was put for it, which stands below it
  pub record IsPending (looks : List QName) (tasks : List Task) (id : ℕ) : Type 0 where
    pub above : List Task
    pub rest : List Task
    pub are : tasks ≡ above ++ rest
    pub lower : AreLower id above
    pub means : (given : QName → Tested) → all_fine (map given looks) ≡ fine → answers given above ≡ fine → node_holds given id ≡ fine

  -- the next task gives way to others
  gives_way : (looks more : List QName) (task : Task) (news rest : List Task)
      → ((given : QName → Tested) → all_fine (map given more) ≡ fine → all_fine (map given looks) ≡ fine)
      → ((given : QName → Tested) → all_fine (map given more) ≡ fine → answers given news ≡ fine → answer nodes table given task ≡ fine)
      → (id : ℕ) → (AreLower id (task ∷ []) → AreLower id news) → IsPending looks (task ∷ rest) id → IsPending more (news ++ rest) id
  gives_way looks more task news rest grows means id lower was = by was.above was.are was.lower was.means
    where
      by : (above : List Task) → task ∷ rest ≡ above ++ was.rest → AreLower id above
          → ((given : QName → Tested) → all_fine (map given looks) ≡ fine → answers given above ≡ fine → node_holds given id ≡ fine)
          → IsPending more (news ++ rest) id
      by [] are low says = record { above = []; rest = news ++ rest; are = refl; lower = tt; means = λ given l a. says given (grows given l) refl }
      by (x ∷ xs) are low says =
          let head : x ≡ task = cc in
          let tail : rest ≡ xs ++ was.rest = cc in
          record {
            above = news ++ xs;
            rest = was.rest;
            are = ap (λ l. news ++ l) tail ∙ sym (append_assoc news xs was.rest);
            lower = lower_append id news xs (lower (first_lower task xs (subst (λ t. AreLower id (t ∷ xs)) head low))) (rest_lower x xs low);
            means = λ given l a.
                let parts = both_parts (answers given news) (answers given xs) (sym (all_mapped (answer nodes table given) news xs) ∙ a) in
                says given (grows given l) (subst (λ t. answers given (t ∷ xs) ≡ fine) (sym head)
                (fine_parts (answer nodes table given task) (answers given xs) (means given l parts.0) ∙ parts.1));
          }
        where
          first_lower : (t : Task) (ts : List Task) → AreLower id (t ∷ ts) → AreLower id (t ∷ [])
          first_lower (Visit k) ts all = (all.0, tt)
          first_lower (Look q) ts all = tt
          first_lower (Stop breach) ts all = tt

          rest_lower : (t : Task) (ts : List Task) → AreLower id (t ∷ ts) → AreLower id ts
          rest_lower (Visit k) ts all = all.1
          rest_lower (Look q) ts all = all
          rest_lower (Stop breach) ts all = all

  -- a type that is met again is fine
  met_again : (looks : List QName) (id : ℕ) (rest : List Task) → IsPending looks (Visit id ∷ rest) id → (given : QName → Tested)
      → all_fine (map given looks) ≡ fine → node_holds given id ≡ fine
  met_again looks id rest was given l = by was.above was.are was.lower was.means
    where
      by : (above : List Task) → Visit id ∷ rest ≡ above ++ was.rest → AreLower id above
          → ((g : QName → Tested) → all_fine (map g looks) ≡ fine → answers g above ≡ fine → node_holds g id ≡ fine) → node_holds given id ≡ fine
      by [] are low says = says given l refl
      by (x ∷ xs) are low says =
          let head : x ≡ Visit id = cc in
          let below = subst (λ t. AreLower id (t ∷ xs)) head low in
          absurd (omega (arith, below.0))

  module _ (first : ℕ) where
    pub record IsLooking (v : View) : Type 0 where
      pub same : (given : QName → Tested) → both (all_fine (map given v.looks)) (answers given v.tasks) ≡ node_holds given first
      pub pending : (id : ℕ) → Contains v.entered id → IsPending v.looks v.tasks id
      pub within : AreLower (length nodes) v.tasks
      pub distinct : IsDistinct nat_eq v.entered
      pub inside : (id : ℕ) → Contains v.entered id → id < length nodes

    pub begins : (v : View) → v ≡ record { tasks = Visit first ∷ []; entered = []; looks = [] } → first < length nodes → IsLooking v
    unfolding IsDistinct
    begins v is below = subst IsLooking (sym is) (record {
      same = λ given. both_fine (node_holds given first);
      pending = λ id held. absurd (none_of id held);
      within = (below, tt);
      distinct = tt;
      inside = λ id held. absurd (none_of id held);
    })

    pub next_within : (v : View) (task : Task) (rest : List Task) → v.tasks ≡ task ∷ rest → IsLooking v → IsWithin (length nodes) task
    next_within v task rest top is = by task (subst (AreLower (length nodes)) top is.within)
      where
        by : (t : Task) → AreLower (length nodes) (t ∷ rest) → IsWithin (length nodes) t
        by (Visit id) all = all.0
        by (Look q) all = tt
        by (Stop breach) all = tt

    module _ (v : View) (rest : List Task) (old : View) (tasks : old.tasks ≡ rest) (entered : old.entered ≡ v.entered) (looks : old.looks ≡ v.looks) (is : IsLooking v) where
      skips : (id : ℕ) → v.tasks ≡ Visit id ∷ rest → list_any (nat_eq id) old.entered ≡ true → (new : View) → new ≡ old → IsLooking new
      skips id top known new same_view =
          let here = visited v.entered id (subst (λ l. list_any (nat_eq id) l ≡ true) entered known) in
          let again = met_again v.looks id rest (subst (λ ts. IsPending v.looks ts id) top (is.pending id here)) in
          let new_tasks = ap (λ (w : View). w.tasks) same_view ∙ tasks in
          let new_entered = ap (λ (w : View). w.entered) same_view ∙ entered in
          let new_looks = ap (λ (w : View). w.looks) same_view ∙ looks in
          record {
            same = λ given.
                (λ i. both (all_fine (map given (new_looks i))) (answers given (new_tasks i)))
                ∙ both_agree (all_fine (map given v.looks)) (answers given rest) (answers given (Visit id ∷ rest))
                (λ l. sym (fine_parts (node_holds given id) (answers given rest) (again given l)))
                ∙ ap (λ ts. both (all_fine (map given v.looks)) (answers given ts)) (sym top) ∙ is.same given;
            pending = λ other held.
                subst (λ ls. IsPending ls new.tasks other) (sym new_looks) (subst (λ ts. IsPending v.looks ts other) (sym new_tasks)
                (gives_way v.looks v.looks (Visit id) [] rest (λ given l. l) (λ given l a. again given l) other (λ low. tt)
                (subst (λ ts. IsPending v.looks ts other) top (is.pending other (subst (λ l. Contains l other) new_entered held)))));
            within = subst (AreLower (length nodes)) (sym new_tasks) (subst (AreLower (length nodes)) top is.within).1;
            distinct = subst (IsDistinct nat_eq) (sym new_entered) is.distinct;
            inside = λ other held. is.inside other (subst (λ l. Contains l other) new_entered held);
          }

      opens : (id : ℕ) → v.tasks ≡ Visit id ∷ rest → (new : View) → IsOpened nodes table id old new → IsLooking new
      opens id top new goes =
          let news = goes.opens.news in
          let new_tasks : new.tasks ≡ news ++ rest = goes.opens.are ∙ ap (λ l. news ++ l) tasks in
          let new_entered : new.entered ≡ v.entered ++ id ∷ [] = goes.entered ∙ ap (λ l. l ++ id ∷ []) entered in
          let new_looks : new.looks ≡ v.looks = goes.looks ∙ looks in
          let all = subst (AreLower (length nodes)) top is.within in
          record {
            same = λ given.
                (λ i. both (all_fine (map given (new_looks i))) (answers given (new_tasks i)))
                ∙ ap (both (all_fine (map given v.looks))) (all_mapped (answer nodes table given) news rest ∙ ap (λ a. both a (answers given rest)) (goes.opens.means given))
                ∙ ap (λ ts. both (all_fine (map given v.looks)) (answers given ts)) (sym top) ∙ is.same given;
            pending = λ other held.
                subst (λ ls. IsPending ls new.tasks other) (sym new_looks) (subst (λ ts. IsPending v.looks ts other) (sym new_tasks)
                (elim (Contains-push_cases v.entered id other (subst (λ l. Contains l other) new_entered held)) [
                  | inl before ↦ gives_way v.looks v.looks (Visit id) news rest (λ given l. l) (λ given l a. sym (goes.opens.means given) ∙ a) other
                      (λ low. lower_trans id other news low.0 goes.opens.lower)
                      (subst (λ ts. IsPending v.looks ts other) top (is.pending other before))
                  | inr same_one ↦ subst (IsPending v.looks (news ++ rest)) same_one
                      (record { above = news; rest = rest; are = refl; lower = goes.opens.lower; means = λ given l a. sym (goes.opens.means given) ∙ a })
                ]));
            within = subst (AreLower (length nodes)) (sym new_tasks) (lower_append (length nodes) news rest (lower_trans id (length nodes) news all.0 goes.opens.lower) all.1);
            distinct = subst (IsDistinct nat_eq) (sym new_entered) (IsDistinct-push nat_eq_equiv v.entered id is.distinct (subst (λ l. list_any (nat_eq id) l ≡ false) entered goes.fresh));
            inside = λ other held. elim (Contains-push_cases v.entered id other (subst (λ l. Contains l other) new_entered held)) [
              | inl before ↦ is.inside other before
              | inr same_one ↦ subst (λ n. n < length nodes) same_one all.0
            ];
          }

      -- a type parameter counts once
      put_looked : (given : QName → Tested) (names : List QName) (q : QName) → all_fine (map given (put_once names q)) ≡ both (all_fine (map given names)) (given q)
      put_looked given names q = once_cases names q (λ l. all_fine (map given l) ≡ both (all_fine (map given names)) (given q))
          (λ e. sym (tested_before given names q (among_is names q e)))
          (λ e. all_mapped given names (q ∷ []) ∙ ap (both (all_fine (map given names))) (both_fine (given q)))

      notes : (q : QName) → v.tasks ≡ Look q ∷ rest → (new : View) → IsLook q old new → IsLooking new
      notes q top new goes =
          let new_tasks : new.tasks ≡ rest = goes.tasks ∙ tasks in
          let new_entered : new.entered ≡ v.entered = goes.entered ∙ entered in
          let new_looks : new.looks ≡ put_once v.looks q = goes.looks ∙ ap (λ l. put_once l q) looks in
          record {
            same = λ given.
                (λ i. both (all_fine (map given (new_looks i))) (answers given (new_tasks i)))
                ∙ ap (λ a. both a (answers given rest)) (put_looked given v.looks q)
                ∙ both_again (all_fine (map given v.looks)) (given q) (answers given rest)
                ∙ ap (λ ts. both (all_fine (map given v.looks)) (answers given ts)) (sym top) ∙ is.same given;
            pending = λ other held.
                subst (λ ls. IsPending ls new.tasks other) (sym new_looks) (subst (λ ts. IsPending (put_once v.looks q) ts other) (sym new_tasks)
                (gives_way v.looks (put_once v.looks q) (Look q) [] rest
                (λ given l. (both_parts (all_fine (map given v.looks)) (given q) (sym (put_looked given v.looks q) ∙ l)).0)
                (λ given l a. (both_parts (all_fine (map given v.looks)) (given q) (sym (put_looked given v.looks q) ∙ l)).1)
                other (λ low. tt)
                (subst (λ ts. IsPending v.looks ts other) top (is.pending other (subst (λ l. Contains l other) new_entered held)))));
            within = subst (AreLower (length nodes)) (sym new_tasks) (subst (AreLower (length nodes)) top is.within);
            distinct = subst (IsDistinct nat_eq) (sym new_entered) is.distinct;
            inside = λ other held. is.inside other (subst (λ l. Contains l other) new_entered held);
          }

      pub goes_on : (task : Task) → v.tasks ≡ task ∷ rest → (new : View) → Does nodes table task old new None → IsLooking new
      goes_on (Visit id) top new (inl (known, same)) = skips id top known new same
      goes_on (Visit id) top new (inr opened) = opens id top new opened
      goes_on (Look q) top new goes = notes q top new goes
      goes_on (Stop breach) top new none = absurd none

      -- how much is left to do
      room : (entries : List ℕ) → IsDistinct nat_eq entries → ((id : ℕ) → Contains entries id → id < length nodes) → length entries ≤ length nodes
      room entries apart all = length-le_from_distinct_below entries (length nodes) apart (λ q held. all q (visited entries q held))

      pub falls : (task : Task) → v.tasks ≡ task ∷ rest → (new : View) → length new.tasks < 2 ^ 63 → Does nodes table task old new None
          → times (length nodes - length new.entered) (2 ^ 64) + length new.tasks < times (length nodes - length v.entered) (2 ^ 64) + length v.tasks
      falls (Visit id) top new small (inl (known, same)) =
          subst (λ (e : List ℕ). times (length nodes - length e) (2 ^ 64) + length new.tasks < times (length nodes - length v.entered) (2 ^ 64) + length v.tasks)
          (sym (ap (λ (w : View). w.entered) same ∙ entered))
          (omega (arith, ap length top, ap length (ap (λ (w : View). w.tasks) same ∙ tasks)))
      falls (Visit id) top new small (inr opened) =
          let then_is = opens id top new opened in
          let grown = ap length (opened.entered ∙ ap (λ l. l ++ id ∷ []) entered) in
          let after = room new.entered then_is.distinct then_is.inside in
          let fewer : length nodes - length new.entered < length nodes - length v.entered = omega (arith, grown, after, length-append v.entered (id ∷ [])) in
          omega (arith, times_less (length nodes - length new.entered) (length nodes - length v.entered) (2 ^ 64) fewer, small)
      falls (Look q) top new small goes =
          subst (λ (e : List ℕ). times (length nodes - length e) (2 ^ 64) + length new.tasks < times (length nodes - length v.entered) (2 ^ 64) + length v.tasks)
          (sym (goes.entered ∙ entered)) (omega (arith, ap length top, ap length (goes.tasks ∙ tasks)))
      falls (Stop breach) top new small none = absurd none

      pub stops : (task : Task) → v.tasks ≡ task ∷ rest → (new : View) (breach : Breach) → Does nodes table task old new (Some breach)
          → (given : QName → Tested) → node_holds given first ≡ looked given new.looks (Some breach)
      stops (Visit id) top new breach none given = absurd none
      stops (Look q) top new breach none given = absurd none
      stops (Stop own) top new breach (same, view_is) given =
          sym (is.same given) ∙ ap (λ ts. both (all_fine (map given v.looks)) (answers given ts)) top
          ∙ ap (λ b. both (all_fine (map given v.looks)) (Err (fault_of b))) (sym same)
          ∙ ap (λ ls. looked given ls (Some breach)) (sym (ap (λ (w : View). w.looks) view_is ∙ looks))

    pub all_looked : (v : View) → IsLooking v → v.tasks ≡ [] → (given : QName → Tested) → node_holds given first ≡ looked given v.looks None
    all_looked v is none given = sym (is.same given) ∙ ap (λ ts. both (all_fine (map given v.looks)) (answers given ts)) none
