-- What is told of an alias is what its right side answers, and of all aliases in order.
use Rattle.std.proofs.Common.{◌≡◌, ◌⊎◌, inl, inr, ℕ, ◌<◌, ◌≤◌, ◌+◌, ◌==◌, zero, suc, Bool, true, false, cond, List, [], ◌∷◌, ◌++◌, length, map, take, slice_get, length-append, Option, Some, None, Ok, Err, refl, ap, sym, subst, ◌∙◌, arith, append_assoc}
use Rattle.std.specs.Prelude.{Result}
use Rattle.std.specs.List.{All, Contains}
use Rattle.std.proofs.lemmas.List.{append-nil}
use Rattle.std.proofs.lemmas.List.Elements.{Contains-push_cases}
use Rattle.go_values.specs.declared.positions.Pos.{Pos}
use Rattle.go_values.specs.declared.qualified.QName.{QName}
use Rattle.go_values.specs.Exact.{exact_qname}
use Rattle.type_terms.specs.Arenas.{Contents, Extends}
use Rattle.type_terms.specs.DeclarationRules.{IsTypeParameter, IsProperDecl}
use Rattle.type_terms.specs.Declarations.{Decl, var_of, function_of, constant_of, defined_of, renamed_of, type_parameter_of}
use Rattle.type_terms.specs.Trees.{Tree, parameter}
use Rattle.type_terms.specs.TreeEquality.{same_name}
use Rattle.environments.specs.Environments.{Entry, declared, damaged, entry_types}
use Rattle.environments.specs.Kept.{OpensBehind}
use Rattle.environments.specs.OpenedTypes.{AddsAmong}
use Rattle.replacement.specs.declared.faults.SetFault.{SetFault}
use Rattle.replacement.specs.declared.faults.SetFault.TheVariants.{Arity}
use Rattle.replacement.specs.Expansion.{Entries, then, known, parameter_names, capped}
use Rattle.replacement.specs.Calls.{Stops}
use Rattle.replacement.proofs.KeptLemmas.{stops_later}
use Rattle.type_sets.specs.RightSides.{passed_on, by_right}
use Rattle.type_sets.specs.TermTests.{Tested, fine, mentioned, right_of, holds, expands}
use Rattle.term_tests.specs.Mentions.{declared_right}
use Rattle.term_tests.specs.Walks.{IsEnding, AreRanked}
use Rattle.term_tests.proofs.ListLemmas.{none_of, here_of, later_of}
use Rattle.go_values.specs.contracts.qualified.QNameEq.TheImpl.Laws as qname_laws
use Rattle.whole_terms.specs.Tables.{Told, Table, by_table, looked, used, fault_of, wrong_use}
use Rattle.whole_terms.specs.Summaries.{Tells, IsFree, IsSummary, IsPut, Adds}
use Rattle.whole_terms.proofs.HoldsLemmas.{mentions_agree}
use Rattle.whole_terms.proofs.ParameterLemmas.{names_many, take_next}

is_itself : (q : QName) → same_name q q ≡ true
is_itself q = qname_laws.laws-law.refl q

-- the declaration of an alias
pub record IsAlias (entries : Entries) (q : QName) (right : Tree) : Type 0 where
  pub pos : Pos
  pub tparams : List Tree
  pub is : known (entries q) q ≡ Ok (renamed_of pos tparams right)
  pub own : entries q ≡ Some (declared (renamed_of pos tparams right))

pub is_alias : (entries : Entries) (q : QName) (right : Tree) → declared_right entries q ≡ Ok right → IsAlias entries q right
is_alias entries q right is = by (entries q) refl is
  where
    by : (o : Option Entry) → entries q ≡ o → then (known o q) (right_of q) ≡ Ok right → IsAlias entries q right
    by None e h = absurd cc
    by (Some (damaged fault read)) e h = absurd cc
    by (Some (declared (var_of pos type))) e h = absurd cc
    by (Some (declared (function_of pos tparams sig))) e h = absurd cc
    by (Some (declared (constant_of pos type value))) e h = absurd cc
    by (Some (declared (defined_of pos tparams under own))) e h = absurd cc
    by (Some (declared (type_parameter_of pos implicit constraint))) e h = absurd cc
    by (Some (declared (renamed_of pos tparams other))) e h =
        let same : other ≡ right = cc in
        record {
          pos = pos;
          tparams = tparams;
          is = ap (λ o. known o q) e ∙ ap (λ (t : Tree). Ok (renamed_of pos tparams t)) same;
          own = e ∙ ap (λ (t : Tree). Some (declared (renamed_of pos tparams t))) same;
        }

abbrev wrong_number : QName → ℕ → ℕ → Tested
wrong_number q want have = Err (Arity q (capped want) (capped have))

abbrev wrong_as_used : QName → ℕ → ℕ → Tested
wrong_as_used q want have = Err (fault_of (wrong_use q want have))

-- a wrong number of arguments is told as the definition says
wrong_told : (q : QName) (t : Tree) (ts : List Tree) (have : ℕ) (xs : List QName) → length xs ≡ length (t ∷ ts) → wrong_number q (length (t ∷ ts)) have ≡ wrong_as_used q (length xs) have
wrong_told q t ts have [] m = absurd (omega (arith, m))
wrong_told q t ts have (x ∷ xs) m = ap (λ (k : ℕ). wrong_number q k have) (sym m)

module _ (entries : Entries) (q : QName) (pos : Pos) (tparams : List Tree) (right : Tree) (is : known (entries q) q ≡ Ok (renamed_of pos tparams right))
    (are : All IsTypeParameter tparams) (old : Table) (told : Told) (tells : IsSummary tparams right old told)
    (n : ℕ) (agree : (p : QName) → Contains (mentioned right) p → (answers : List Tested) → expands entries n p answers ≡ by_table old p answers) where
  abbrev inside : Tree → (QName → Tested) → Tested
  inside type given = holds (expands entries n) given type

  right_answers : (given : QName → Tested) → inside right given ≡ looked given told.looks told.breach
  right_answers given = mentions_agree (expands entries n) (by_table old) given right agree ∙ tells.looks given

  -- as the declaration says, with the names of its type parameters
  declared_answers : (ts : List Tree) (names : List QName) → names ≡ parameter_names ts → length names ≡ length ts → (answers : List Tested)
      → by_right Err (λ p. fine) inside q answers (Ok (renamed_of pos ts right)) ≡ used q (Some (record { names = names; looks = told.looks; breach = told.breach })) answers
  declared_answers [] [] same many [] = right_answers (λ p. fine)
  declared_answers [] [] same many (a ∷ more) =
      let e : (length (a ∷ more) == 0) ≡ false = search arith in
      sym (ap (λ b. cond {A = Tested} b (looked (passed_on Err (λ p. fine) [] (a ∷ more)) told.looks told.breach) (Err (fault_of (wrong_use q zero (length (a ∷ more)))))) e)
  declared_answers [] (x ∷ xs) same many answers = absurd cc
  declared_answers (t ∷ ts) names same many [] = none_given ∙ wrong_told q t ts zero names many ∙ sym (short names many)
    where
      none_given : by_right Err (λ p. fine) inside q [] (Ok (renamed_of pos (t ∷ ts) right)) ≡ wrong_number q (length (t ∷ ts)) zero
      none_given =
          let e : (0 == length (t ∷ ts)) ≡ false = search arith in
          ap (λ b. cond {A = Tested} b (inside right (passed_on Err (λ p. fine) (parameter_names (t ∷ ts)) [])) (wrong_number q (length (t ∷ ts)) zero)) e

      short : (xs : List QName) → length xs ≡ length (t ∷ ts) → used q (Some (record { names = xs; looks = told.looks; breach = told.breach })) [] ≡ Err (fault_of (wrong_use q (length xs) zero))
      short [] m = absurd (omega (arith, m))
      short (x ∷ xs) m =
          let e : (0 == length (x ∷ xs)) ≡ false = search arith in
          ap (λ b. cond {A = Tested} b (looked (passed_on Err (λ p. fine) (x ∷ xs) []) told.looks told.breach) (Err (fault_of (wrong_use q (length (x ∷ xs)) zero)))) e
  declared_answers (t ∷ ts) names same many (a ∷ more) = by (length (a ∷ more) == length (t ∷ ts)) refl
    where
      by : (b : Bool) → (length (a ∷ more) == length (t ∷ ts)) ≡ b
          → cond {A = Tested} (length (a ∷ more) == length (t ∷ ts)) (inside right (passed_on Err (λ p. fine) (parameter_names (t ∷ ts)) (a ∷ more))) (Err (Arity q (capped (length (t ∷ ts))) (capped (length (a ∷ more)))))
          ≡ cond {A = Tested} (length (a ∷ more) == length names) (looked (passed_on Err (λ p. fine) names (a ∷ more)) told.looks told.breach) (Err (fault_of (wrong_use q (length names) (length (a ∷ more)))))
      by b e =
          (λ i. cond {A = Tested} (length (a ∷ more) == length (t ∷ ts)) (right_answers (passed_on Err (λ p. fine) (sym same i) (a ∷ more)) i) (wrong_told q t ts (length (a ∷ more)) names many i))
          ∙ ap (λ k. cond {A = Tested} (length (a ∷ more) == k) (looked (passed_on Err (λ p. fine) names (a ∷ more)) told.looks told.breach) (Err (fault_of (wrong_use q (length names) (length (a ∷ more)))))) (sym many)

  pub new_answers : (answers : List Tested) → expands entries (suc n) q answers ≡ used q (Some told) answers
  unfolding expands
  new_answers answers =
      ap (by_right Err (λ p. fine) inside q answers) is
      ∙ declared_answers tparams told.names tells.names (ap length tells.names ∙ names_many tparams are) answers

-- Of all aliases in order.
module _ (entries : Entries) (proper : (q : QName) (decl : Decl) → entries q ≡ Some (declared decl) → IsProperDecl decl) where
  pub none_told : (table : Table) → ((q : QName) → table q ≡ None) → Tells entries [] table
  none_told table none = record {
    has = λ q held. absurd (none_of q held);
    answers = λ q known_as is. absurd (let no : Some known_as ≡ None = sym is ∙ none q in cc);
  }

  pub one_told : (done : List QName) (q : QName) (old new : Table) → IsEnding entries q (Contains done) → Tells entries done old
      → ((tparams : List Tree) (right : Tree) (pos : Pos) → known (entries q) q ≡ Ok (renamed_of pos tparams right) → IsPut q tparams right old new)
      → Tells entries (done ++ q ∷ []) new
  one_told done q old new ending was adds = record {
    has = λ p held. has p (same_name q p) refl (Contains-push_cases done q p held);
    answers = λ p known_as there n enough answers. told p known_as (same_name q p) refl there n enough answers;
  }
    where
      alias_of : IsAlias entries q ending.right
      alias_of = is_alias entries q ending.right ending.right_is

      put : IsPut q alias_of.tparams ending.right old new
      put = adds alias_of.tparams ending.right alias_of.pos alias_of.is

      params : All IsTypeParameter alias_of.tparams
      params = (proper q (renamed_of alias_of.pos alias_of.tparams ending.right) alias_of.own).form.0

      here_put : (p : QName) (b : Bool) → same_name q p ≡ b → new p ≡ cond b (Some put.summary) (old p)
      here_put p b e = put.puts p ∙ ap (λ c. cond c (Some put.summary) (old p)) e

      has : (p : QName) (b : Bool) → same_name q p ≡ b → Contains done p ⊎ (q ≡ p) → (known_as : Told) × (new p ≡ Some known_as)
      has p true e held = (put.summary, here_put p true e)
      has p false e (inl before) = let first = was.has p before in (first.0, here_put p false e ∙ first.1)
      has p false e (inr same) = (put.summary, put.puts p ∙ ap (λ c. cond c (Some put.summary) (old p)) (subst (λ o. same_name q o ≡ true) same (is_itself q)))

      agrees : (m : ℕ) → length done ≤ m → (p : QName) → Contains (mentioned ending.right) p → (answers : List Tested) → expands entries m p answers ≡ by_table old p answers
      agrees m enough p held answers =
          let first = was.has p (ending.each p held) in
          was.answers p first.0 first.1 m enough answers ∙ ap (λ o. used p o answers) (sym first.1)

      told : (p : QName) (known_as : Told) (b : Bool) → same_name q p ≡ b → new p ≡ Some known_as → (n : ℕ) → length (done ++ q ∷ []) ≤ n
          → (answers : List Tested) → expands entries n p answers ≡ used p (Some known_as) answers
      told p known_as b e there zero enough answers = absurd (omega (arith, enough, length-append done (q ∷ [])))
      told p known_as true e there (suc m) enough answers =
          let same : q ≡ p = exact_qname q p e in
          let is_put : Some put.summary ≡ Some known_as = sym (here_put p true e) ∙ there in
          let more : length done ≤ m = omega (arith, enough, length-append done (q ∷ [])) in
          subst (λ o. expands entries (suc m) o answers ≡ used o (Some known_as) answers) same
          (new_answers entries q alias_of.pos alias_of.tparams ending.right alias_of.is params old put.summary put.tells m (agrees m more) answers
          ∙ ap (λ o. used q o answers) is_put)
      told p known_as false e there (suc m) enough answers =
          was.answers p known_as (sym (here_put p false e) ∙ there) (suc m) (omega (arith, enough, length-append done (q ∷ []))) answers

module _ (entries : Entries) where
  ranked_in : (before qs : List QName) (k : ℕ) (q : QName) → AreRanked entries before qs → slice_get qs k ≡ Some q → IsEnding entries q (Contains (before ++ take k qs))
  ranked_in before [] k q all there = absurd cc
  ranked_in before (x ∷ xs) zero q all there =
      let same : x ≡ q = cc in
      subst (λ o. IsEnding entries o (Contains (before ++ []))) same (subst (λ l. IsEnding entries x (Contains l)) (sym (append-nil before)) all.0)
  ranked_in before (x ∷ xs) (suc k) q all there =
      subst (λ l. IsEnding entries q (Contains l)) (append_assoc before (x ∷ []) (take k xs)) (ranked_in (before ++ x ∷ []) xs k q all.1 there)

  pub ranked_at : (order : List QName) (k : ℕ) (q : QName) → AreRanked entries [] order → slice_get order k ≡ Some q → IsEnding entries q (Contains (take k order))
  ranked_at order k q all there = ranked_in [] order k q all there

-- The next alias of an order.
module _ (entries : Entries) (order : List QName) (ranked : AreRanked entries [] order) (k : ℕ) (q : QName) (there : slice_get order k ≡ Some q)
    (later : Entries) (stay : later ≡ entries) where
  in_order : (n : QName) → n ≡ q → Contains order n
  in_order n same = subst (Contains order) (sym same) (at order k there)
    where
      at : (xs : List QName) (j : ℕ) → slice_get xs j ≡ Some q → Contains xs q
      at [] j is = absurd cc
      at (x ∷ xs) zero is = let head : x ≡ q = cc in subst (Contains (x ∷ xs)) head (here_of x xs)
      at (x ∷ xs) (suc j) is = later_of x xs q (at xs j is)

  pub asked_in_order : (n : QName) → n ≡ q → Contains order n
  asked_in_order n same = in_order n same

  pub opened_in_order : (t : Tree) → OpensBehind later (λ n. n ≡ q) t → OpensBehind entries (Contains order) t
  opened_in_order t opened = (opened.0, in_order opened.0 opened.1, subst (λ (e : Entries). Contains (entry_types (e opened.0)) t) stay opened.2)

  -- a fault can only come of want of memory or room
  pub adds_free : (old new : Table) (start before : Contents) (full : Option Bool) (fault : SetFault) → Extends start before
      → AddsAmong (OpensBehind entries (Contains order)) start before → Adds later q old new before full (Err fault)
      → IsFree (OpensBehind entries (Contains order)) start full fault
  adds_free old new start before full fault grown adds stops =
      let ending = ranked_at entries order k q ranked there in
      let own = is_alias entries q ending.right ending.right_is in
      stops_later (OpensBehind later (λ n. n ≡ q)) (OpensBehind entries (Contains order)) start before opened_in_order grown adds full fault (known (later q) q ≡ Err fault) ⊥
      (λ failed. let now = subst (λ (e : Entries). known (e q) q ≡ Err fault) stay failed in wrong (renamed_of own.pos own.tparams ending.right) fault (sym own.is ∙ now)) stops
    where
      wrong : (decl : Decl) (f : SetFault) → Ok decl ≡ Err f → ⊥
      wrong decl f is = (cc)

  -- one more is told of
  pub more_told : (proper : (n : QName) (decl : Decl) → entries n ≡ Some (declared decl) → IsProperDecl decl) (old new : Table) (before : Contents) (full : Option Bool)
      → Tells entries (take k order) old → Adds later q old new before full (Ok tt) → Tells entries (take (k + 1) order) new
  more_told proper old new before full was adds =
      let e : suc k ≡ k + 1 = omega arith in
      subst (λ l. Tells entries l new) (sym (take_next order k q there) ∙ ap (λ n. take n order) e)
      (one_told entries proper (take k order) q old new (ranked_at entries order k q ranked there) was
      (λ tparams right pos is. adds tparams right pos (subst (λ (e : Entries). known (e q) q ≡ Ok (renamed_of pos tparams right)) (sym stay) is)))
