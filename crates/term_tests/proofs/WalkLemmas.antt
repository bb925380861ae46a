-- What a walk through mentioned aliases keeps, and why it ends.
use Rattle.std.proofs.Common.{◌≡◌, ◌⊎◌, inl, inr, ◌≤◌, ◌-◌, suc, Bool, true, false, cond, List, [], ◌∷◌, ◌++◌, length, map, length-append, Ok, Err, refl, ap, sym, subst, ◌∙◌, arith, append_assoc}
use Rattle.std.specs.Prelude.{if◌then◌else◌}
use Rattle.std.proofs.lemmas.List.{append-nil}
use Rattle.indexmap.specs.IndexSet.{insert_key}
use Rattle.std.specs.List.{Contains, list_any, IsDistinct}
use Rattle.std.proofs.lemmas.List.Elements.{Contains-push, Contains-push_cases, Contains-append_left}
use Rattle.std.proofs.lemmas.Map.Made.{length-le_from_is_member}
use Rattle.std.proofs.lemmas.Map.Keys.{IsDistinct-push}
use Rattle.go_values.specs.declared.qualified.QName.{QName}
use Rattle.go_values.specs.contracts.qualified.QNameEq.TheImpl.Laws as qname_laws
use Rattle.type_terms.specs.Trees.{Tree}
use Rattle.type_terms.specs.TreeEquality.{same_name}
use Rattle.replacement.specs.declared.faults.SetFault.{SetFault}
use Rattle.replacement.specs.Expansion.{Entries, known}
use Rattle.type_sets.specs.TermTests.{Tested, fine, both, mentioned, mentions, no_cycle}
use Rattle.term_tests.specs.declared.walking.Task.{Task}
use Rattle.term_tests.specs.declared.walking.Task.TheVariants.{Enter}
use Rattle.term_tests.specs.declared.walking.Task.TheVariants.{Leave}
use Rattle.term_tests.specs.Mentions.{declared_right, IsMentioned, here, further}
use Rattle.term_tests.specs.Walks.{View, Puts, IsEntered, IsWrong, IsLeft, task_name, put_once, IsEnding, AreRanked, AreOrdered}
use Rattle.term_tests.proofs.ListLemmas.{here_of, later_of, cases_of, none_of, both_fine, both_again}
use Rattle.term_tests.proofs.FineLemmas.{is_among, among_is, not_among, among_not, Reaches, at_once, further_on, IsFine, is_fine, each_first, goes_in, has_none, comes_back, more_of, by_each, one_less, passes}

-- names of the environment, each once
pub record AreMet (names met : List QName) : Type 0 where
  pub distinct : IsDistinct same_name met
  pub among : (q : QName) → Contains met q → Contains names q

pub none_met : (names : List QName) → AreMet names []
unfolding IsDistinct
none_met names = record { distinct = tt; among = λ q held. absurd (none_of q held) }

pub one_more : (names met : List QName) (q : QName) → AreMet names met → list_any (same_name q) met ≡ false → Contains names q → AreMet names (met ++ q ∷ [])
one_more names met q was new there = record {
  distinct = IsDistinct-push qname_laws.laws-law met q was.distinct new;
  among = λ other held. elim (Contains-push_cases met q other held) [ inl old ↦ was.among other old | inr same ↦ subst (Contains names) same there ];
}

pub room : (names met : List QName) → AreMet names met → length met ≤ length names
room names met was = length-le_from_is_member qname_laws.laws-law met names was.distinct (λ q held. is_among names q (was.among q (among_is met q held)))

-- the aliases that are open below, the first that was entered first
abbrev pub way_of : List Task → List QName
way_of [] = []
way_of (Enter q ∷ rest) = way_of rest
way_of (Leave q ∷ rest) = way_of rest ++ q ∷ []

-- one more than some
abbrev pub Also : QName → (QName → Type 0) → QName → Type 0
Also q some p = (p ≡ q) ⊎ some p

abbrev pub IsKnown : Entries → List QName → Type 0
IsKnown entries names = (q : QName) (right : Tree) → declared_right entries q ≡ Ok right → Contains names q

-- some names and one more

pub once_cases : (names : List QName) (q : QName) (P : List QName → Type 0) → (list_any (same_name q) names ≡ true → P names) → (list_any (same_name q) names ≡ false → P (names ++ q ∷ [])) → P (put_once names q)
once_cases names q P known new = by (list_any (same_name q) names) refl
  where
    by : (b : Bool) → list_any (same_name q) names ≡ b → P (put_once names q)
    by true e = subst (λ c. P (cond c names (names ++ q ∷ []))) (sym e) (known e)
    by false e = subst (λ c. P (cond c names (names ++ q ∷ []))) (sym e) (new e)

once_kept : (names : List QName) (q p : QName) → Contains names p → Contains (put_once names q) p
once_kept names q p held = once_cases names q (λ l. Contains l p) (λ e. held) (λ e. Contains-append_left names (q ∷ []) p held)

once_has : (names : List QName) (q : QName) → Contains (put_once names q) q
once_has names q = once_cases names q (λ l. Contains l q) (λ e. among_is names q e) (λ e. Contains-push names q)

once_more : (names : List QName) (q p : QName) → Contains (put_once names q) p → Contains names p ⊎ (p ≡ q)
once_more names q p = once_cases names q (λ l. Contains l p → Contains names p ⊎ (p ≡ q)) (λ e held. inl held)
    (λ e held. elim (Contains-push_cases names q p held) [ inl old ↦ inl old | inr same ↦ inr (sym same) ])

pub once_put : (old new : List QName) (q : QName) → new ≡ insert_key same_name old q → new ≡ put_once old q
once_put old new q is = by (list_any (same_name q) old) refl
  where
    by : (b : Bool) → list_any (same_name q) old ≡ b → new ≡ put_once old q
    by true e = is ∙ ap (λ c. if c then old else old ++ q ∷ []) e ∙ sym (ap (λ c. cond c old (old ++ q ∷ [])) e)
    by false e = is ∙ ap (λ c. if c then old else old ++ q ∷ []) e ∙ sym (ap (λ c. cond c old (old ++ q ∷ [])) e)

module _ (entries : Entries) (names : List QName) where
  ranked_more : (before qs : List QName) (q : QName) → AreRanked entries before qs → IsEnding entries q (Contains (before ++ qs)) → AreRanked entries before (qs ++ q ∷ [])
  ranked_more before [] q was ending = (subst (λ l. IsEnding entries q (Contains l)) (append-nil before) ending, tt)
  ranked_more before (x ∷ xs) q was ending = (was.0, ranked_more (before ++ x ∷ []) xs q was.1 (subst (λ l. IsEnding entries q (Contains l)) (sym (append_assoc before (x ∷ []) xs)) ending))

  once_ranked : (order : List QName) (q : QName) → AreRanked entries [] order → IsEnding entries q (Contains order) → AreRanked entries [] (put_once order q)
  once_ranked order q was ending = once_cases order q (AreRanked entries []) (λ e. was) (λ e. ranked_more [] order q was ending)

  once_met : (met : List QName) (q : QName) → AreMet names met → Contains names q → AreMet names (put_once met q)
  once_met met q was there = once_cases met q (AreMet names) (λ e. was) (λ e. one_more names met q was e there)

  -- what is still tested
  abbrev pub left_to_test : List Task → Tested
  left_to_test [] = fine
  left_to_test (Enter q ∷ rest) = both (mentions entries (length names - length (way_of rest)) (way_of rest) (q ∷ [])) (left_to_test rest)
  left_to_test (Leave q ∷ rest) = left_to_test rest

  module _ (type : Tree) where
    -- Each alias on the way leads to it, and what an open one mentions is done or comes before its end.
    abbrev pub Stacked : (QName → Type 0) → List Task → Type 0
    Stacked done [] = (q : QName) → Contains (mentioned type) q → done q
    Stacked done (Enter q ∷ rest) = IsMentioned entries type q × ((w : QName) → Contains (way_of rest) w → Reaches entries w q) × Stacked (Also q done) rest
    Stacked done (Leave q ∷ rest) = IsMentioned entries type q × ((w : QName) → Contains (way_of rest) w → Reaches entries w q)
        × AreMet names (way_of rest ++ q ∷ []) × IsEnding entries q done × Stacked (Also q done) rest

    more_done : (done more : QName → Type 0) → ((q : QName) → done q → more q) → (tasks : List Task) → Stacked done tasks → Stacked more tasks
    more_done done more wider [] was = λ q held. wider q (was q held)
    more_done done more wider (Enter q ∷ rest) was =
        (was.0, was.1, more_done (Also q done) (Also q more) (λ p held. elim held [ inl same ↦ inl same | inr old ↦ inr (wider p old) ]) rest was.2)
    more_done done more wider (Leave q ∷ rest) was =
        let ending = was.3 in (
          was.0,
          was.1,
          was.2,
          record { right = ending.right; right_is = ending.right_is; each = λ p held. wider p (ending.each p held) },
          more_done (Also q done) (Also q more) (λ p held. elim held [ inl same ↦ inl same | inr old ↦ inr (wider p old) ]) rest was.4,
        )

    -- the way is of names of the environment, each once
    way_met : (done : QName → Type 0) (tasks : List Task) → Stacked done tasks → AreMet names (way_of tasks)
    way_met done [] was = none_met names
    way_met done (Enter q ∷ rest) was = way_met (Also q done) rest was.2
    way_met done (Leave q ∷ rest) was = was.2

    -- some aliases are to be entered before all else
    entered_way : (qs : List QName) (rest : List Task) → way_of (map Enter qs ++ rest) ≡ way_of rest
    entered_way [] rest = refl
    entered_way (q ∷ qs) rest = entered_way qs rest

    entered_test : (qs : List QName) (rest : List Task)
        → left_to_test (map Enter qs ++ rest) ≡ both (mentions entries (length names - length (way_of rest)) (way_of rest) qs) (left_to_test rest)
    entered_test [] rest = sym (ap (λ r. both r (left_to_test rest)) (by_each entries (length names - length (way_of rest)) (way_of rest) []))
    entered_test (q ∷ qs) rest =
        let n = length names - length (way_of rest) in
        let way = way_of rest in
        (λ i. both (mentions entries (length names - length (entered_way qs rest i)) (entered_way qs rest i) (q ∷ [])) (entered_test qs rest i))
        ∙ sym (both_again (mentions entries n way (q ∷ [])) (mentions entries n way qs) (left_to_test rest))
        ∙ ap (λ r. both r (left_to_test rest)) (sym (
        by_each entries n way (q ∷ qs) ∙ each_first entries (more_of entries n) way q qs
        ∙ (λ i. both (sym (by_each entries n way (q ∷ [])) i) (sym (by_each entries n way qs) i))))

    entered_stacked : (qs : List QName) (rest : List Task) (done more : QName → Type 0)
        → ((q : QName) → Contains qs q → IsMentioned entries type q × ((w : QName) → Contains (way_of rest) w → Reaches entries w q))
        → ((p : QName) → more p → done p ⊎ Contains qs p) → Stacked more rest → Stacked done (map Enter qs ++ rest)
    entered_stacked [] rest done more each known was = more_done more done (λ p held. elim (known p held) [ inl old ↦ old | inr none ↦ absurd (none_of p none) ]) rest was
    entered_stacked (q ∷ qs) rest done more each known was =
        let here_is = each q (here_of q qs) in (
          here_is.0,
          λ w held. here_is.1 w (subst (λ way. Contains way w) (entered_way qs rest) held),
          entered_stacked qs rest (Also q done) more (λ p held. each p (later_of q qs p held))
              (λ p held. elim (known p held) [ inl old ↦ inl (inr old) | inr new ↦ elim (cases_of q qs p new) [ inl same ↦ inl (inl same) | inr later ↦ inr later ] ]) was,
        )

    -- What a walk keeps: what is left to test decides, and what was left is fine.
    pub record IsWalking (v : View) : Type 0 where
      pub same : left_to_test v.tasks ≡ no_cycle entries names type
      pub stacked : Stacked (Contains v.left) v.tasks
      pub met : AreMet names v.entered
      pub opened : (q : QName) → Contains v.entered q → Contains (way_of v.tasks) q ⊎ Contains v.left q
      pub back : (q : QName) → Contains (way_of v.tasks) q → Contains v.entered q
      pub sound : (q : QName) → Contains v.left q → IsFine entries q
      pub ranked : AreRanked entries [] v.left
      pub ended : AreMet names v.left
      pub asked : (q : QName) → Contains v.left q → IsMentioned entries type q

    pub begins : (v : View) → Puts type [] v.tasks → v.entered ≡ [] → v.left ≡ [] → IsWalking v
    begins v puts no_entered no_left = record {
      same = ap left_to_test puts.are ∙ entered_test puts.mentions [] ∙ both_fine (mentions entries (length names - 0) [] puts.mentions)
          ∙ (let e : length names - 0 ≡ length names = omega arith in ap (λ n. mentions entries n [] puts.mentions) e)
          ∙ by_each entries (length names) [] puts.mentions ∙ puts.agrees.tests entries (more_of entries (length names)) [] ∙ sym (by_each entries (length names) [] (mentioned type));
      stacked = subst (Stacked (Contains v.left)) (sym puts.are)
          (entered_stacked puts.mentions [] (Contains v.left) (λ p. Contains v.left p ⊎ Contains puts.mentions p)
          (λ q held. (here q (puts.agrees.only q held), λ w on. absurd (none_of w on))) (λ p held. held) (λ q held. inr (puts.agrees.all q held)));
      met = subst (AreMet names) (sym no_entered) (none_met names);
      opened = λ q held. absurd (none_of q (subst (λ l. Contains l q) no_entered held));
      back = λ q held. absurd (none_of q (subst (λ w. Contains w q) (ap way_of puts.are ∙ entered_way puts.mentions []) held));
      sound = λ q held. absurd (none_of q (subst (λ l. Contains l q) no_left held));
      ranked = subst (AreRanked entries []) (sym no_left) tt;
      ended = subst (AreMet names) (sym no_left) (none_met names);
      asked = λ q held. absurd (none_of q (subst (λ l. Contains l q) no_left held));
    }

    pub all_tested : (v : View) → IsWalking v → v.tasks ≡ [] → no_cycle entries names type ≡ fine
    all_tested v is none = sym is.same ∙ ap left_to_test none

    pub all_ordered : (v : View) → IsWalking v → v.tasks ≡ [] → AreOrdered entries names type v.left
    all_ordered v is none = record { ranked = is.ranked; few = room names v.left is.ended; all = subst (Stacked (Contains v.left)) none is.stacked; only = is.asked }

    -- an alias that was left needs no second look
    pub skips : (v : View) (q : QName) (rest : List Task) → v.tasks ≡ Enter q ∷ rest → IsWalking v → Contains v.left q
        → (old : View) → old.tasks ≡ rest → old.entered ≡ v.entered → old.left ≡ v.left → IsWalking old
    skips v q rest top is done old tasks entered left =
        let was = subst (Stacked (Contains v.left)) top is.stacked in
        record {
          same = ap left_to_test tasks
              ∙ sym (ap (λ r. both r (left_to_test rest)) (passes entries q (is.sound q done) (length names - length (way_of rest)) (way_of rest) was.1))
              ∙ sym (ap left_to_test top) ∙ is.same;
          stacked = subst (Stacked (Contains old.left)) (sym tasks) (subst (λ l. Stacked (Contains l) rest) (sym left)
              (more_done (Also q (Contains v.left)) (Contains v.left) (λ p held. elim held [ inl here_it ↦ subst (Contains v.left) (sym here_it) done | inr old_one ↦ old_one ]) rest was.2));
          met = subst (AreMet names) (sym entered) is.met;
          opened = λ p held. elim (is.opened p (subst (λ l. Contains l p) entered held)) [
            | inl on ↦ inl (subst (λ w. Contains w p) (ap way_of top ∙ sym (ap way_of tasks)) on)
            | inr gone ↦ inr (subst (λ l. Contains l p) (sym left) gone)
          ];
          back = λ p held. subst (λ l. Contains l p) (sym entered) (is.back p (subst (λ w. Contains w p) (ap way_of tasks ∙ sym (ap way_of top)) held));
          sound = λ p held. is.sound p (subst (λ l. Contains l p) left held);
          ranked = subst (AreRanked entries []) (sym left) is.ranked;
          ended = subst (AreMet names) (sym left) is.ended;
          asked = λ p held. is.asked p (subst (λ l. Contains l p) left held);
        }

    module _ (known : IsKnown entries names) where
      fewer : (w : List QName) (q : QName) → AreMet names (w ++ q ∷ []) → length names - length w ≡ suc (length names - length (w ++ q ∷ []))
      fewer w q met = omega (arith, room names (w ++ q ∷ []) met, length-append w (q ∷ []))

      -- an alias that is new is entered
      pub enters : (v : View) (q : QName) (rest : List Task) → v.tasks ≡ Enter q ∷ rest → IsWalking v
          → (old : View) → old.tasks ≡ rest → old.entered ≡ v.entered → old.left ≡ v.left → (new : View) → IsEntered entries q old new → IsWalking new
      enters v q rest top is old tasks entered left new goes =
          let was = subst (Stacked (Contains v.left)) top is.stacked in
          let way = way_of rest in
          let ms = goes.puts.mentions in
          let are : new.tasks ≡ map Enter ms ++ (Leave q ∷ rest) = goes.puts.are ∙ ap (λ l. map Enter ms ++ (Leave q ∷ l)) tasks in
          let fresh : list_any (same_name q) v.entered ≡ false = subst (λ l. list_any (same_name q) l ≡ false) entered goes.fresh in
          let there = known q goes.right goes.right_is in
          let off_way = not_among way q (λ held. among_not v.entered q fresh (is.back q (subst (λ w. Contains w q) (sym (ap way_of top)) held))) in
          let met = one_more names way q (way_met (Also q (Contains v.left)) rest was.2) off_way there in
          let m = length names - length (way ++ q ∷ []) in
          let new_left : new.left ≡ v.left = goes.left ∙ left in
          let new_entered : new.entered ≡ v.entered ++ q ∷ [] = goes.entered ∙ ap (λ l. l ++ q ∷ []) entered in
          let new_way : way_of new.tasks ≡ way ++ q ∷ [] = ap way_of are ∙ entered_way ms (Leave q ∷ rest) in
          record {
            same = ap left_to_test are ∙ entered_test ms (Leave q ∷ rest)
                ∙ ap (λ r. both r (left_to_test rest)) (
                by_each entries m (way ++ q ∷ []) ms
                ∙ goes.puts.agrees.tests entries (more_of entries m) (way ++ q ∷ [])
                ∙ sym (by_each entries m (way ++ q ∷ []) (mentioned goes.right))
                ∙ sym (one_less entries m (way ++ q ∷ []) (mentioned goes.right))
                ∙ sym (goes_in entries (more_of entries (suc m)) way q goes.right off_way goes.right_is)
                ∙ sym (by_each entries (suc m) way (q ∷ []))
                ∙ ap (λ n. mentions entries n way (q ∷ [])) (sym (fewer way q met)))
                ∙ sym (ap left_to_test top) ∙ is.same;
            stacked = subst (Stacked (Contains new.left)) (sym are) (entered_stacked ms (Leave q ∷ rest) (Contains new.left) (λ p. Contains new.left p ⊎ Contains ms p)
                (λ p held.
                let mentioned_by = goes.puts.agrees.only p held in (
                  further q p was.0 (goes.right, goes.right_is, mentioned_by),
                  λ w on. elim (Contains-push_cases way q w on) [
                    | inl before ↦ further_on entries w q p (was.1 w before) (goes.right, goes.right_is, mentioned_by)
                    | inr same_one ↦ subst (λ n. Reaches entries n p) same_one (at_once q p (goes.right, goes.right_is, mentioned_by))
                  ],
                ))
                (λ p held. held) (
                  was.0,
                  was.1,
                  met,
                  record { right = goes.right; right_is = goes.right_is; each = λ p held. inr (goes.puts.agrees.all p held) },
                  more_done (Also q (Contains v.left)) (Also q (λ p. Contains new.left p ⊎ Contains ms p)) (λ p held. elim held [
                    | inl same_one ↦ inl same_one
                    | inr gone ↦ inr (inl (subst (λ l. Contains l p) (sym new_left) gone))
                  ]) rest was.2,
                ));
            met = subst (AreMet names) (sym new_entered) (one_more names v.entered q is.met fresh there);
            opened = λ p held. elim (Contains-push_cases v.entered q p (subst (λ l. Contains l p) new_entered held)) [
              | inl before ↦ elim (is.opened p before) [
                | inl on ↦ inl (subst (λ w. Contains w p) (sym new_way) (Contains-append_left way (q ∷ []) p (subst (λ w. Contains w p) (ap way_of top) on)))
                | inr gone ↦ inr (subst (λ l. Contains l p) (sym new_left) gone)
              ]
              | inr same_one ↦ inl (subst (λ w. Contains w p) (sym new_way) (subst (Contains (way ++ q ∷ [])) same_one (Contains-push way q)))
            ];
            back = λ p held. subst (λ l. Contains l p) (sym new_entered) (elim (Contains-push_cases way q p (subst (λ w. Contains w p) new_way held)) [
              | inl before ↦ Contains-append_left v.entered (q ∷ []) p (is.back p (subst (λ w. Contains w p) (sym (ap way_of top)) before))
              | inr same_one ↦ subst (Contains (v.entered ++ q ∷ [])) same_one (Contains-push v.entered q)
            ]);
            sound = λ p held. is.sound p (subst (λ l. Contains l p) new_left held);
            ranked = subst (AreRanked entries []) (sym new_left) is.ranked;
            ended = subst (AreMet names) (sym new_left) is.ended;
            asked = λ p held. is.asked p (subst (λ l. Contains l p) new_left held);
          }

      -- an alias all of whose mentions are done is fine
      pub leaves : (v : View) (q : QName) (rest : List Task) → v.tasks ≡ Leave q ∷ rest → IsWalking v
          → (old : View) → old.tasks ≡ rest → old.entered ≡ v.entered → old.left ≡ v.left → (new : View) → IsLeft q old new → IsWalking new
      leaves v q rest top is old tasks entered left new goes =
          let was = subst (Stacked (Contains v.left)) top is.stacked in
          let way = way_of rest in
          let new_tasks : new.tasks ≡ rest = goes.tasks ∙ tasks in
          let new_entered : new.entered ≡ v.entered = goes.entered ∙ entered in
          let new_left : new.left ≡ put_once v.left q = goes.left ∙ ap (λ l. put_once l q) left in
          let kept : (p : QName) → Contains v.left p → Contains new.left p = λ p held. subst (λ l. Contains l p) (sym new_left) (once_kept v.left q p held) in
          let has : Contains new.left q = subst (λ l. Contains l q) (sym new_left) (once_has v.left q) in
          let ending = was.3 in
          record {
            same = ap left_to_test new_tasks ∙ sym (ap left_to_test top) ∙ is.same;
            stacked = subst (Stacked (Contains new.left)) (sym new_tasks)
                (more_done (Also q (Contains v.left)) (Contains new.left) (λ p held. elim held [ inl same_one ↦ subst (Contains new.left) (sym same_one) has | inr gone ↦ kept p gone ]) rest was.4);
            met = subst (AreMet names) (sym new_entered) is.met;
            opened = λ p held. elim (is.opened p (subst (λ l. Contains l p) new_entered held)) [
              | inl on ↦ elim (Contains-push_cases way q p (subst (λ w. Contains w p) (ap way_of top) on)) [
                | inl before ↦ inl (subst (λ w. Contains w p) (sym (ap way_of new_tasks)) before)
                | inr same_one ↦ inr (subst (Contains new.left) same_one has)
              ]
              | inr gone ↦ inr (kept p gone)
            ];
            back = λ p held. subst (λ l. Contains l p) (sym new_entered)
                (is.back p (subst (λ w. Contains w p) (sym (ap way_of top)) (Contains-append_left way (q ∷ []) p (subst (λ w. Contains w p) (ap way_of new_tasks) held))));
            sound = λ p held. elim (once_more v.left q p (subst (λ l. Contains l p) new_left held)) [
              | inl before ↦ is.sound p before
              | inr same_one ↦ subst (IsFine entries) (sym same_one) (is_fine q ending.right ending.right_is (λ n in_right. is.sound n (ending.each n in_right)))
            ];
            ranked = subst (AreRanked entries []) (sym new_left) (once_ranked v.left q is.ranked ending);
            ended = subst (AreMet names) (sym new_left) (once_met v.left q is.ended (known q ending.right ending.right_is));
            asked = λ p held. elim (once_more v.left q p (subst (λ l. Contains l p) new_left held)) [
              | inl before ↦ is.asked p before
              | inr same_one ↦ subst (IsMentioned entries type) (sym same_one) was.0
            ];
          }

    -- what is wrong with the next alias is the first that is wrong
    pub breaks : (v : View) (q : QName) (rest : List Task) → v.tasks ≡ Enter q ∷ rest → IsWalking v
        → (old : View) → old.tasks ≡ rest → old.entered ≡ v.entered → old.left ≡ v.left → (fault : SetFault) → IsWrong entries q old fault
        → no_cycle entries names type ≡ Err fault
    breaks v q rest top is old tasks entered left fault wrong = sym is.same ∙ ap left_to_test top ∙ ap (λ r. both r (left_to_test rest)) (tested wrong)
      where
        on_way : Contains (way_of v.tasks) q ⊎ Contains v.left q → list_any (same_name q) v.left ≡ false → list_any (same_name q) (way_of rest) ≡ true
        on_way (inl on) not = is_among (way_of rest) q (subst (λ w. Contains w q) (ap way_of top) on)
        on_way (inr gone) not = absurd (among_not v.left q not gone)

        tested : IsWrong entries q old fault → mentions entries (length names - length (way_of rest)) (way_of rest) (q ∷ []) ≡ Err fault
        tested (inl (met, not, same_fault)) =
            by_each entries (length names - length (way_of rest)) (way_of rest) (q ∷ [])
            ∙ comes_back entries (more_of entries (length names - length (way_of rest))) (way_of rest) q
            (on_way (is.opened q (among_is v.entered q (subst (λ l. list_any (same_name q) l ≡ true) entered met))) (subst (λ l. list_any (same_name q) l ≡ false) left not))
            ∙ ap (λ (f : SetFault). Err f) (sym same_fault)
        tested (inr (new, none)) =
            by_each entries (length names - length (way_of rest)) (way_of rest) (q ∷ [])
            ∙ has_none entries (more_of entries (length names - length (way_of rest))) (way_of rest) q fault
            (not_among (way_of rest) q (λ held. among_not v.entered q (subst (λ l. list_any (same_name q) l ≡ false) entered new) (is.back q (subst (λ w. Contains w q) (sym (ap way_of top)) held))))
            none

    -- the next alias is mentioned
    pub next_mentioned : (v : View) (task : Task) (rest : List Task) → v.tasks ≡ task ∷ rest → IsWalking v → IsMentioned entries type (task_name task)
    next_mentioned v (Enter q) rest top is = (subst (Stacked (Contains v.left)) top is.stacked).0
    next_mentioned v (Leave q) rest top is = (subst (Stacked (Contains v.left)) top is.stacked).0
