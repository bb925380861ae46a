-- Counting names.
use Rattle.std.proofs.Common.{◌≡◌, ◌⊎◌, inl, inr, ℕ, zero, suc, ◌+◌, ◌≤◌, List, [], ◌∷◌, ◌++◌, length, take, Bool, true, false, cond, Option, Some, slice_get, refl, sym, ap, ◌∙◌, subst, true≢false, arith}
use Rattle.std.specs.Prelude.{if◌then◌else◌}
use Rattle.std.specs.List.{Contains, list_any}
use Rattle.std.proofs.lemmas.List.{append-nil, take_all}
use Rattle.std.proofs.lemmas.List.Elements.{Contains-append_left, Contains-append_right, Contains-append_cases, Contains-get_or}
use Rattle.std.proofs.lemmas.Map.Views.{Contains-from_any, list_any-from_Contains}
use Rattle.indexmap.specs.IndexSet.{insert_key}
use Rattle.go_values.specs.declared.qualified.QName.{QName}
use Rattle.go_values.specs.Exact.{exact_qname}
use Rattle.go_values.specs.contracts.qualified.QNamePartialEq.TheImpl as qname_eq
use Rattle.go_values.specs.contracts.qualified.QNameEq.TheImpl.Laws.{laws-law}
use Rattle.type_terms.specs.declared.descriptors.Node.{Node}
use Rattle.environments.specs.Environments.{Entry}
use Rattle.asked_names.specs.Finding.{Entries, IsFound, AreFound}
use Rattle.asked_names.specs.Counting.{is_declared, declared_among, is_here, declared_of, IsEach, IsCount, IsNoted, IsNotedIf}
use Rattle.asked_names.specs.declared.finding.Found.{Found}
use Rattle.asked_names.specs.declared.finding.Found.TheVariants.{Unknown, Damaged, Declared}

abbrev pub same : QName → QName → Bool
same = qname_eq.ghosts.eq

pub noted_by_insertion : (seen found : List QName) (q : QName) → found ≡ insert_key same seen q → IsNoted seen q found
noted_by_insertion seen found q keys = by (list_any (same q) seen) refl
  where
    by : (b : Bool) → list_any (same q) seen ≡ b → IsNoted seen q found
    by true e = inl (Contains-from_any exact_qname q seen e, keys ∙ ap (λ c. if c then seen else seen ++ q ∷ []) e)
    by false e = inr (λ held. true≢false (sym (list_any-from_Contains laws-law q seen held) ∙ e), keys ∙ ap (λ c. if c then seen else seen ++ q ∷ []) e)

-- ---- one more

single_of : (x y : QName) → Contains (x ∷ []) y → x ≡ y
single_of x y (zero, within, is) = is
single_of x y (suc k, within, is) = absurd (omega arith)

held_at : (xs : List QName) (i : ℕ) (x : QName) → slice_get xs i ≡ Some x → Contains xs x
held_at [] i x at = absurd cc
held_at (y ∷ xs) zero x at = let e : y ≡ x = cc in subst (Contains (y ∷ xs)) e (Contains-get_or (y ∷ xs) 0 y (omega arith))
held_at (y ∷ xs) (suc i) x at = Contains-append_right (y ∷ []) xs x (held_at xs i x at)

-- where something stands in a list with one more
pushed_at : (xs : List QName) (x : QName) (i : ℕ) (y : QName) → slice_get (xs ++ x ∷ []) i ≡ Some y → (slice_get xs i ≡ Some y) ⊎ ((i ≡ length xs) × (x ≡ y))
pushed_at [] x zero y at = inr (refl, cc)
pushed_at [] x (suc i) y at = absurd cc
pushed_at (z ∷ xs) x zero y at = inl at
pushed_at (z ∷ xs) x (suc i) y at = elim (pushed_at xs x i y at) [ inl before ↦ inl before | inr here ↦ inr (ap suc here.0, here.1) ]

push_once : (xs : List QName) (x : QName) → (Contains xs x → ⊥) → ((i j : ℕ) (q : QName) → slice_get xs i ≡ Some q → slice_get xs j ≡ Some q → i ≡ j)
    → (i j : ℕ) (q : QName) → slice_get (xs ++ x ∷ []) i ≡ Some q → slice_get (xs ++ x ∷ []) j ≡ Some q → i ≡ j
push_once xs x new once i j q at there = go (pushed_at xs x i q at) (pushed_at xs x j q there)
  where
    go : (slice_get xs i ≡ Some q) ⊎ ((i ≡ length xs) × (x ≡ q)) → (slice_get xs j ≡ Some q) ⊎ ((j ≡ length xs) × (x ≡ q)) → i ≡ j
    go (inl a) (inl b) = once i j q a b
    go (inl a) (inr b) = absurd (new (subst (Contains xs) (sym b.1) (held_at xs i q a)))
    go (inr a) (inl b) = absurd (new (subst (Contains xs) (sym a.1) (held_at xs j q b)))
    go (inr a) (inr b) = a.0 ∙ sym b.0

pub noted_more : (names : List QName) (q : QName) (seen found : List QName) → IsEach names seen → IsNoted seen q found → IsEach (names ++ q ∷ []) found
noted_more names q seen found each (inl (held, is)) = subst (IsEach (names ++ q ∷ [])) (sym is) (record {
  once = each.once;
  from = λ x has. Contains-append_left names (q ∷ []) x (each.from x has);
  all = λ x has. elim (Contains-append_cases names (q ∷ []) x has) [ inl before ↦ each.all x before | inr here ↦ subst (Contains seen) (single_of q x here) held ];
})
noted_more names q seen found each (inr (new, is)) = subst (IsEach (names ++ q ∷ [])) (sym is) (record {
  once = push_once seen q new each.once;
  from = λ x has. elim (Contains-append_cases seen (q ∷ []) x has) [
    | inl before ↦ Contains-append_left names (q ∷ []) x (each.from x before)
    | inr here ↦ Contains-append_right names (q ∷ []) x here
  ];
  all = λ x has. elim (Contains-append_cases names (q ∷ []) x has) [
    | inl before ↦ Contains-append_left seen (q ∷ []) x (each.all x before)
    | inr here ↦ Contains-append_right seen (q ∷ []) x here
  ];
})

pub nothing_noted : IsEach [] []
nothing_noted = record { once = λ i j q at. absurd cc; from = λ q has. has; all = λ q has. has }

-- ---- those for which a declaration was found

declared_next : (names : List QName) (found : List Found) (k : ℕ) (q : QName) (one : Found) → slice_get names k ≡ Some q → slice_get found k ≡ Some one
    → declared_of (take (suc k) names) (take (suc k) found) ≡ declared_of (take k names) (take k found) ++ cond (is_here one) (q ∷ []) []
declared_next [] found k q one at there = absurd cc
declared_next (n ∷ names) [] k q one at there = absurd cc
declared_next (n ∷ names) (f ∷ found) zero q one at there =
    let a : n ≡ q = cc in let b : f ≡ one = cc in first names found ∙ (λ i. cond (is_here (b i)) (a i ∷ []) [])
  where
    first : (names : List QName) (found : List Found) → cond (is_here f) (n ∷ declared_of (take 0 names) (take 0 found)) (declared_of (take 0 names) (take 0 found)) ≡ cond (is_here f) (n ∷ []) []
    first [] found = refl
    first (m ∷ names) found = refl
declared_next (n ∷ names) (f ∷ found) (suc k) q one at there =
    by (declared_of (take (suc k) names) (take (suc k) found)) (declared_of (take k names) (take k found)) (cond (is_here one) (q ∷ []) []) (is_here f)
    (declared_next names found k q one at there)
  where
    by : (xs ys zs : List QName) (b : Bool) → xs ≡ ys ++ zs → cond b (n ∷ xs) xs ≡ cond b (n ∷ ys) ys ++ zs
    by xs ys zs true e = ap (λ t. n ∷ t) e
    by xs ys zs false e = e

-- one more was looked at, which is declared or isn't
module _ (names : List QName) (found : List Found) (k : ℕ) (q : QName) (one : Found) (at : slice_get names k ≡ Some q) (there : slice_get found k ≡ Some one) (seen : List QName)
    (each : IsEach (declared_of (take k names) (take k found)) seen) where
  so : (b : Bool) → is_here one ≡ b → declared_of (take (k + 1) names) (take (k + 1) found) ≡ declared_of (take k names) (take k found) ++ cond b (q ∷ []) []
  so b is =
      let n : k + 1 ≡ suc k = omega arith in
      ap (λ n. declared_of (take n names) (take n found)) n ∙ declared_next names found k q one at there ∙ ap (λ b. declared_of (take k names) (take k found) ++ cond b (q ∷ []) []) is

  by_case : (b : Bool) → is_here one ≡ b → (new : List QName) → IsNotedIf b seen q new → IsEach (declared_of (take (k + 1) names) (take (k + 1) found)) new
  by_case true is new noted = subst (λ ns. IsEach ns new) (sym (so true is)) (noted_more (declared_of (take k names) (take k found)) q seen new each noted)
  by_case false is new same = subst (λ ns. IsEach ns new) (sym (so false is ∙ append-nil (declared_of (take k names) (take k found)))) (subst (IsEach (declared_of (take k names) (take k found))) (sym same) each)

  pub counts_on : (new : List QName) → IsNotedIf (is_here one) seen q new → IsEach (declared_of (take (k + 1) names) (take (k + 1) found)) new
  counts_on new noted = by_case (is_here one) refl new noted

-- what was found is what is declared
found_here : (nodes : List Node) (entry : Option Entry) (one : Found) → IsFound nodes entry one → is_here one ≡ is_declared entry
found_here nodes entry Unknown is = ap is_declared (sym is)
found_here nodes entry (Damaged fault) is = ap is_declared (sym is.1)
found_here nodes entry (Declared node) is = ap is_declared (sym is.0)

pub declared_are : (nodes : List Node) (entries : Entries) (names : List QName) (found : List Found) → AreFound nodes entries names found → declared_of names found ≡ declared_among entries names
declared_are nodes entries [] [] are = refl
declared_are nodes entries [] (f ∷ fs) are = absurd are
declared_are nodes entries (q ∷ qs) [] are = absurd are
declared_are nodes entries (q ∷ qs) (f ∷ fs) are =
    (λ i. cond (found_here nodes (entries q) f are.0 i) (q ∷ declared_of qs fs) (declared_of qs fs))
    ∙ ap (λ t. cond (is_declared (entries q)) (q ∷ t) t) (declared_are nodes entries qs fs are.1)

pub count_is : (nodes : List Node) (entries : Entries) (names : List QName) (found : List Found) (each : List QName) (count : ℕ) → AreFound nodes entries names found → IsEach (declared_of names found) each
    → count ≡ length each → IsCount (declared_among entries names) count
count_is nodes entries names found each count are is counted = (each, subst (λ ns. IsEach ns each) (declared_are nodes entries names found are) is, sym counted)

pub nothing_yet : (names : List QName) (found : List Found) → IsEach (declared_of (take 0 names) (take 0 found)) []
nothing_yet [] found = nothing_noted
nothing_yet (n ∷ names) [] = nothing_noted
nothing_yet (n ∷ names) (f ∷ found) = nothing_noted

-- all were looked at
pub all_counted : (names : List QName) (found : List Found) (k : ℕ) (seen : List QName) → length found ≡ length names → length found ≤ k
    → IsEach (declared_of (take k names) (take k found)) seen → IsEach (declared_of names found) seen
all_counted names found k seen same all each =
    subst (λ fs. IsEach (declared_of names fs) seen) (take_all k found all)
    (subst (λ ns. IsEach (declared_of ns (take k found)) seen) (take_all k names (omega (arith, same, all))) each)
