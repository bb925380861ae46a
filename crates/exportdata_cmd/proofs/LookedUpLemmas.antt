-- What was found for names, and what stands behind them.
use Rattle.std.proofs.Common.{◌≡◌, ◌⊎◌, inl, inr, ℕ, zero, suc, ◌≤◌, Bool, true, false, cond, List, [], ◌∷◌, ◌++◌, length, drop, Option, Some}
use Rattle.std.proofs.Common.{None, slice_get, refl, sym, ◌∙◌, ap, arith}
use Rattle.std.specs.List.{AllByRecursion, flat_map}
use Rattle.std.proofs.lemmas.List.{drop_all}
use Rattle.wire_bytes.specs.declared.fault.ByteFault.{ByteFault}
use Rattle.go_values.specs.declared.qualified.QName.{QName}
use Rattle.type_terms.specs.declared.descriptors.Node.{Node}
use Rattle.type_terms.specs.Declarations.{decl_of}
use Rattle.environments.specs.Environments.{Entry, declared, damaged}
use Rattle.asked_names.specs.Finding.{Entries, IsFound, AreFound}
use Rattle.asked_names.specs.Counting.{is_declared, is_here}
use Rattle.asked_names.specs.declared.finding.Found.{Found}
use Rattle.asked_names.specs.declared.finding.Found.TheVariants.{Unknown, Damaged, Declared}
use Rattle.exportdata_cmd.specs.Printed.{Line}
use Rattle.exportdata_cmd.specs.Showing.{answer_text, answer_texts, shown_status}
use Rattle.exportdata_cmd.specs.LookedUp.{entry_found, found_texts, found_status, IsInside}
use Rattle.exportdata_cmd.specs.declared.exits.Status.{Status}
use Rattle.exportdata_cmd.specs.declared.exits.Status.TheVariants.{Done, Refused}

-- ---- names and what was found for them, as pairs

abbrev pub pairs : List QName → List Found → List (QName × Found)
pairs [] found = []
pairs (q ∷ names) [] = []
pairs (q ∷ names) (one ∷ found) = (q, one) ∷ pairs names found

abbrev pub lines_of_pair : List Node → QName × Found → List Line
lines_of_pair nodes x = answer_text x.0 (entry_found nodes x.1) ∷ []

pub texts_are : (nodes : List Node) (names : List QName) (found : List Found)
    → found_texts nodes names found ≡ flat_map (lines_of_pair nodes) (pairs names found)
texts_are nodes [] found = refl
texts_are nodes (q ∷ names) [] = refl
texts_are nodes (q ∷ names) (one ∷ found) =
    ap (λ ls. answer_text q (entry_found nodes one) ∷ ls) (texts_are nodes names found)

pub pair_there : (names : List QName) (found : List Found) (k : ℕ) (q : QName) (one : Found)
    → slice_get names k ≡ Some q → slice_get found k ≡ Some one
    → slice_get (pairs names found) k ≡ Some (q, one)
pair_there [] found k q one is here = absurd cc
pair_there (n ∷ names) [] k q one is here = absurd cc
pair_there (n ∷ names) (f ∷ found) zero q one is here =
    let same : n ≡ q = cc in
    let same_found : f ≡ one = cc in
    λ i. Some (same i, same_found i)
pair_there (n ∷ names) (f ∷ found) (suc k) q one is here = pair_there names found k q one is here

pub pair_count : (names : List QName) (found : List Found) → length found ≡ length names
    → length (pairs names found) ≡ length found
pair_count [] [] same = refl
pair_count [] (one ∷ found) same = absurd (omega (arith, same))
pair_count (q ∷ names) [] same = refl
pair_count (q ∷ names) (one ∷ found) same = omega (arith, pair_count names found (omega (arith, same)))

pub inside_there : (nodes : List Node) (found : List Found) (k : ℕ) (one : Found)
    → AllByRecursion (IsInside nodes) found → slice_get found k ≡ Some one
    → IsInside nodes one
inside_there nodes [] k one all here = absurd cc
inside_there nodes (f ∷ found) zero one all here = let same : f ≡ one = cc in subst_inside f one same all.0
  where
    subst_inside : (a b : Found) → a ≡ b → IsInside nodes a → IsInside nodes b
    subst_inside a b e is = rw (← e) is
inside_there nodes (f ∷ found) (suc k) one all here = inside_there nodes found k one all.1 here

-- ---- the status

passes_one : (one : Found) → is_here one ≡ true → (found : List Found) → found_status (one ∷ found) ≡ found_status found
passes_one one here found = ap (λ b. cond b (found_status found) Refused) here

stops_one : (one : Found) → is_here one ≡ false → (found : List Found) → found_status (one ∷ found) ≡ Refused
stops_one one here found = ap (λ b. cond b (found_status found) Refused) here

pub passes_at : (found : List Found) (k : ℕ) (one : Found) → slice_get found k ≡ Some one → is_here one ≡ true
    → found_status (drop k found) ≡ found_status (drop (suc k) found)
passes_at [] k one there here = absurd cc
passes_at (f ∷ found) zero one there here =
    let same : f ≡ one = cc in passes_one f (ap is_here same ∙ here) found
passes_at (f ∷ found) (suc k) one there here = passes_at found k one there here

refused_at : (found : List Found) (k : ℕ) (one : Found) → slice_get found k ≡ Some one → is_here one ≡ false
    → Refused ≡ found_status (drop k found)
refused_at [] k one there here = absurd cc
refused_at (f ∷ found) zero one there here =
    let same : f ≡ one = cc in sym (stops_one f (ap is_here same ∙ here) found)
refused_at (f ∷ found) (suc k) one there here = refused_at found k one there here

pub refused_either : (found : List Found) (k : ℕ) (one : Found) → slice_get found k ≡ Some one
    → (one ≡ Unknown) ⊎ ((fault : ByteFault) × (one ≡ Damaged fault))
    → Refused ≡ found_status (drop k found)
refused_either found k one there (inl is) = refused_at found k one there (ap is_here is)
refused_either found k one there (inr (fault, is)) = refused_at found k one there (ap is_here is)

pub nothing_left : (found : List Found) (k : ℕ) → length found ≤ k → found_status (drop k found) ≡ Done
nothing_left found k all = ap found_status (drop_all k found all)

-- ---- what was found is what stands there

module _ (nodes : List Node) (entries : Entries) where
  text_is : (q : QName) (one : Found) (entry : Option Entry) → IsFound nodes entry one
      → answer_text q (entry_found nodes one) ≡ answer_text q entry
  text_is q Unknown entry is = ap (answer_text q) (sym is)
  text_is q (Damaged fault) entry (read, is) = ap (answer_text q) (sym is)
  text_is q (Declared node) entry (is, inside) = ap (answer_text q) (sym is)

  here_is : (one : Found) (entry : Option Entry) → IsFound nodes entry one → is_here one ≡ is_declared entry
  here_is Unknown entry is = ap is_declared (sym is)
  here_is (Damaged fault) entry (read, is) = ap is_declared (sym is)
  here_is (Declared node) entry (is, inside) = ap is_declared (sym is)

  inside_one : (one : Found) (entry : Option Entry) → IsFound nodes entry one → IsInside nodes one
  inside_one Unknown entry is = tt
  inside_one (Damaged fault) entry is = tt
  inside_one (Declared node) entry is = is.1

  pub as_many : (names : List QName) (found : List Found) → AreFound nodes entries names found
      → length found ≡ length names
  as_many [] [] are = refl
  as_many [] (one ∷ found) are = absurd are
  as_many (q ∷ names) [] are = absurd are
  as_many (q ∷ names) (one ∷ found) are = omega (arith, as_many names found are.1)

  pub all_inside : (names : List QName) (found : List Found) → AreFound nodes entries names found
      → AllByRecursion (IsInside nodes) found
  all_inside [] [] are = tt
  all_inside [] (one ∷ found) are = absurd are
  all_inside (q ∷ names) [] are = absurd are
  all_inside (q ∷ names) (one ∷ found) are = (inside_one one (entries q) are.0, all_inside names found are.1)

  pub texts_shown : (names : List QName) (found : List Found) → AreFound nodes entries names found
      → found_texts nodes names found ≡ answer_texts entries names
  texts_shown [] [] are = refl
  texts_shown [] (one ∷ found) are = absurd are
  texts_shown (q ∷ names) [] are = absurd are
  texts_shown (q ∷ names) (one ∷ found) are =
      let first = text_is q one (entries q) are.0 in
      let others = texts_shown names found are.1 in
      λ i. first i ∷ others i

  pub status_shown : (names : List QName) (found : List Found) → AreFound nodes entries names found
      → found_status found ≡ shown_status entries names
  status_shown [] [] are = refl
  status_shown [] (one ∷ found) are = absurd are
  status_shown (q ∷ names) [] are = absurd are
  status_shown (q ∷ names) (one ∷ found) are =
      let first = here_is one (entries q) are.0 in
      let others = status_shown names found are.1 in
      λ i. cond (first i) (others i) Refused
