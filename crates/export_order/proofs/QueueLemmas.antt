-- The queue has exactly what is reached, each once.
use Rattle.std.proofs.Common.{◌≡◌, ◌≢◌, ℕ, zero, suc, ◌+◌, ◌<◌, ◌≤◌, List, [], ◌∷◌, ◌++◌, length, get_or, Bool, true, false, cond, ◌⊎◌, inl, inr, Option, refl, sym, subst, ◌∙◌, arith, append_assoc, length-append}
use Rattle.std.specs.List.{Contains}
use Rattle.std.proofs.lemmas.List.{append-nil, get_or_append_left}
use Rattle.std.proofs.lemmas.List.Quantifiers.{all_pairs_push}
use Rattle.std.proofs.lemmas.List.Elements.{Contains-append_left, Contains-append_right, Contains-append_cases, Contains-push_cases}
use Rattle.go_values.specs.declared.qualified.QName.{QName}
use Rattle.environments.specs.Environments.{Entry}
use Rattle.environments.specs.References.{entry_names, Reached, started, followed}
use Rattle.export_order.specs.Order.{is_among, unseen, queue, in_order}
use Rattle.export_order.proofs.MemberLemmas.{among_is, is_among_there, Distinct, at_most}

differs : true ≡ false → ⊥
differs e = absurd cc

is_new : (names : List QName) (q : QName) → is_among names q ≡ false → Distinct names → Distinct (names ++ q ∷ [])
is_new names q new distinct =
    all_pairs_push (λ a b. a ≢ b) names q distinct (λ k d below is. absurd (differs (sym (is_among_there names q (at_place names k d q below is)) ∙ new)))
  where
    at_place : (xs : List QName) (k : ℕ) (d x : QName) → k < length xs → get_or xs k d ≡ x → Contains xs x
    at_place [] k d x below is = absurd (omega (arith, below))
    at_place (y ∷ ys) zero d x below is = (0, omega arith, is)
    at_place (y ∷ ys) (suc k) d x below is = let rest = at_place ys k d x (omega (arith, below)) is in (suc rest.0, omega (arith, rest.1), rest.2)

-- what joining the unseen ones comes to: distinct names, all of both, and no others
pub record Joined (seen more all : List QName) : Type 0 where
  pub distinct : Distinct all
  pub all_more : (q : QName) → Contains more q → Contains all q
  pub no_other : (q : QName) → Contains all q → Contains seen q ⊎ Contains more q

one_more : (seen : List QName) (q : QName) (qs all : List QName) → Joined (seen ++ q ∷ []) qs all → ((r : QName) → Contains (seen ++ q ∷ []) r → Contains all r) → Joined seen (q ∷ qs) all
one_more seen q qs all joined held = record {
  distinct = joined.distinct;
  all_more = λ r has. by_head r (Contains-append_cases (q ∷ []) qs r has);
  no_other = λ r has. by_seen r (joined.no_other r has);
}
  where
    by_head : (r : QName) → Contains (q ∷ []) r ⊎ Contains qs r → Contains all r
    by_head r (inl has) = held r (Contains-append_right seen (q ∷ []) r has)
    by_head r (inr has) = joined.all_more r has

    by_place : (r : QName) → Contains seen r ⊎ (q ≡ r) → Contains seen r ⊎ Contains (q ∷ qs) r
    by_place r (inl has) = inl has
    by_place r (inr is) = inr (0, omega arith, is)

    by_seen : (r : QName) → Contains (seen ++ q ∷ []) r ⊎ Contains qs r → Contains seen r ⊎ Contains (q ∷ qs) r
    by_seen r (inl has) = by_place r (Contains-push_cases seen q r has)
    by_seen r (inr has) = inr (Contains-append_right (q ∷ []) qs r has)

joins : (seen more : List QName) → Distinct seen → Joined seen more (seen ++ unseen seen more)
joins seen [] distinct = record {
  distinct = subst Distinct (sym (append-nil seen)) distinct;
  all_more = λ q has. absurd (omega (arith, has.1));
  no_other = λ q has. inl (subst (λ (xs : List QName). Contains xs q) (append-nil seen) has);
}
joins seen (q ∷ qs) distinct = by_test (is_among seen q) refl (joins seen qs distinct) (λ d. joins (seen ++ q ∷ []) qs d)
  where
    by_test : (b : Bool) → is_among seen q ≡ b → Joined seen qs (seen ++ unseen seen qs) → (Distinct (seen ++ q ∷ []) → Joined (seen ++ q ∷ []) qs ((seen ++ q ∷ []) ++ unseen (seen ++ q ∷ []) qs))
        → Joined seen (q ∷ qs) (seen ++ cond b (unseen seen qs) (q ∷ unseen (seen ++ q ∷ []) qs))
    by_test true e without with = record {
      distinct = without.distinct;
      all_more = λ r has. by_head r (Contains-append_cases (q ∷ []) qs r has);
      no_other = λ r has. by_either r (without.no_other r has);
    }
      where
        by_head : (r : QName) → Contains (q ∷ []) r ⊎ Contains qs r → Contains (seen ++ unseen seen qs) r
        by_head r (inl (zero, below, is)) = Contains-append_left seen (unseen seen qs) r (subst (Contains seen) is (among_is seen q e))
        by_head r (inl (suc k, below, is)) = absurd (omega (arith, below))
        by_head r (inr has) = without.all_more r has

        by_either : (r : QName) → Contains seen r ⊎ Contains qs r → Contains seen r ⊎ Contains (q ∷ qs) r
        by_either r (inl has) = inl has
        by_either r (inr has) = inr (Contains-append_right (q ∷ []) qs r has)
    by_test false e without with =
        let all = (seen ++ q ∷ []) ++ unseen (seen ++ q ∷ []) qs in
        let joined = one_more seen q qs all (with (is_new seen q e distinct)) (λ r has. Contains-append_left (seen ++ q ∷ []) (unseen (seen ++ q ∷ []) qs) r has) in
        subst (Joined seen (q ∷ qs)) (append_assoc seen (q ∷ []) (unseen (seen ++ q ∷ []) qs)) joined

module _ (entries : QName → Option Entry) (starts : List QName) where
  -- what the queue keeps: those done and waiting are distinct, reached, begin with the starts, and the done ones are followed
  pub record Kept (done waiting : List QName) : Type 0 where
    pub distinct : Distinct (done ++ waiting)
    pub reached : (q : QName) → Contains (done ++ waiting) q → Reached entries starts q
    pub begun : (q : QName) → Contains starts q → Contains (done ++ waiting) q
    pub closed : (q r : QName) → Contains done q → Contains (entry_names (entries q)) r → Contains (done ++ waiting) r

  goes_on : (done : List QName) (q : QName) (waiting : List QName) → Kept done (q ∷ waiting) → Kept (done ++ q ∷ []) (waiting ++ unseen (done ++ q ∷ waiting) (entry_names (entries q)))
  goes_on done q waiting kept =
      let more = unseen (done ++ q ∷ waiting) (entry_names (entries q)) in
      let joined = joins (done ++ q ∷ waiting) (entry_names (entries q)) kept.distinct in
      let regroup : (done ++ q ∷ waiting) ++ more ≡ (done ++ q ∷ []) ++ (waiting ++ more) = append_assoc done (q ∷ waiting) more ∙ sym (append_assoc done (q ∷ []) (waiting ++ more)) in
      subst_all done q waiting more regroup kept joined
    where
      subst_all : (done : List QName) (q : QName) (waiting more : List QName) → (done ++ q ∷ waiting) ++ more ≡ (done ++ q ∷ []) ++ (waiting ++ more) → Kept done (q ∷ waiting)
          → Joined (done ++ q ∷ waiting) (entry_names (entries q)) ((done ++ q ∷ waiting) ++ more) → Kept (done ++ q ∷ []) (waiting ++ more)
      subst_all done q waiting more is kept joined =
          let to : (r : QName) → Contains ((done ++ q ∷ waiting) ++ more) r → Contains ((done ++ q ∷ []) ++ (waiting ++ more)) r = λ r has. subst (λ (xs : List QName). Contains xs r) is has in
          let from : (r : QName) → Contains ((done ++ q ∷ []) ++ (waiting ++ more)) r → Contains ((done ++ q ∷ waiting) ++ more) r = λ r has. subst (λ (xs : List QName). Contains xs r) (sym is) has in
          let here : Contains (done ++ q ∷ waiting) q = Contains-append_right done (q ∷ waiting) q (0, omega arith, refl) in
          record {
            distinct = subst Distinct is joined.distinct;
            reached = λ r has. by_origin r (kept.reached q here) (joined.no_other r (from r has));
            begun = λ r has. to r (Contains-append_left (done ++ q ∷ waiting) more r (kept.begun r has));
            closed = λ p r has refers. to r (by_done p r refers (Contains-push_cases done q p has));
          }
        where
          by_origin : (r : QName) → Reached entries starts q → Contains (done ++ q ∷ waiting) r ⊎ Contains (entry_names (entries q)) r → Reached entries starts r
          by_origin r reached (inl has) = kept.reached r has
          by_origin r reached (inr refers) = followed q r reached refers

          by_done : (p r : QName) → Contains (entry_names (entries p)) r → Contains done p ⊎ (q ≡ p) → Contains ((done ++ q ∷ waiting) ++ more) r
          by_done p r refers (inl has) = Contains-append_left (done ++ q ∷ waiting) more r (kept.closed p r has refers)
          by_done p r refers (inr is_q) = joined.all_more r (subst (λ (x : QName). Contains (entry_names (entries x)) r) (sym is_q) refers)

  begins : Kept [] (unseen [] starts)
  begins =
      let joined = joins [] starts (λ i j d less below. absurd (omega (arith, below))) in
      record {
        distinct = joined.distinct;
        reached = λ q has. by_origin q (joined.no_other q has);
        begun = joined.all_more;
        closed = λ q r has refers. absurd (omega (arith, has.1));
      }
    where
      by_origin : (q : QName) → Contains [] q ⊎ Contains starts q → Reached entries starts q
      by_origin q (inl has) = absurd (omega (arith, has.1))
      by_origin q (inr has) = started q has

  -- ---- what the queue comes to

  -- how the queue ends: with some names that still wait, none where there were steps enough
  pub record Ends (names result : List QName) : Type 0 where
    pub waiting : List QName
    pub kept : Kept result waiting
    pub enough : ((q : QName) → Reached entries starts q → Contains names q) → waiting ≡ []

  no_step_left : (names done waiting : List QName) → length names ≤ length done → Kept done waiting → ((q : QName) → Reached entries starts q → Contains names q) → waiting ≡ []
  no_step_left names done [] le kept inside = refl
  no_step_left names done (q ∷ waiting) le kept inside =
      let few = at_most (done ++ q ∷ waiting) names kept.distinct (λ r has. inside r (kept.reached r has)) in
      absurd (omega (arith, few, le, length-append done (q ∷ waiting)))

  queue_ends : (names : List QName) (n : ℕ) (done waiting : List QName) → length names ≤ n + length done → Kept done waiting → Ends names (queue entries n done waiting)
  unfolding queue
  queue_ends names zero done waiting le kept = record { waiting = waiting; kept = kept; enough = no_step_left names done waiting (omega (arith, le)) kept }
  queue_ends names (suc n) done [] le kept = record { waiting = []; kept = kept; enough = λ inside. refl }
  queue_ends names (suc n) done (q ∷ waiting) le kept =
      queue_ends names n (done ++ q ∷ []) (waiting ++ unseen (done ++ q ∷ waiting) (entry_names (entries q))) (omega (arith, le, length-append done (q ∷ []))) (goes_on done q waiting kept)

  ends : (names : List QName) → Ends names (in_order entries names starts)
  ends names = queue_ends names (length names) [] (unseen [] starts) (omega arith) begins

  pub needed : (names : List QName) (q : QName) → Contains (in_order entries names starts) q → Reached entries starts q
  needed names q has =
      let end = ends names in
      end.kept.reached q (Contains-append_left (in_order entries names starts) end.waiting q has)

  pub once : (names : List QName) → Distinct (in_order entries names starts)
  once names i j d less below =
      let end = ends names in
      fewer (in_order entries names starts) end.waiting end.kept.distinct i j d less below
    where
      fewer : (xs ys : List QName) → Distinct (xs ++ ys) → Distinct xs
      fewer xs ys distinct i j d less below =
          let longer : j < length (xs ++ ys) = omega (arith, below, length-append xs ys) in
          let left : i < length xs = omega (arith, less, below) in
          λ same. distinct i j d less longer (get_or_append_left xs ys d i left ∙ same ∙ sym (get_or_append_left xs ys d j below))

  pub listed : (names : List QName) → ((q : QName) → Reached entries starts q → Contains names q) → (q : QName) → Reached entries starts q → Contains (in_order entries names starts) q
  listed names inside q reached =
      let end = ends names in
      all_done (in_order entries names starts) (subst (Kept (in_order entries names starts)) (end.enough inside) end.kept) q reached
    where
      all_done : (done : List QName) → Kept done [] → (q : QName) → Reached entries starts q → Contains done q
      all_done done kept q (started p has) = subst (λ (xs : List QName). Contains xs p) (append-nil done) (kept.begun p has)
      all_done done kept q (followed from to reached refers) =
          subst (λ (xs : List QName). Contains xs to) (append-nil done) (kept.closed from to (all_done done kept from reached) refers)
