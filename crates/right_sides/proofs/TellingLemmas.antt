-- What is told of aliases as they are declared is what they cover.
use Rattle.std.proofs.Common.{◌≡◌, inl, inr, ℕ, ◌≤◌, ◌==◌, zero, suc, false, cond, List, [], ◌∷◌, ◌++◌, length, length-append, Some, Ok, Err, refl, ap, sym, subst, ◌∙◌, arith, append_assoc}
use Rattle.std.specs.Prelude.{Result}
use Rattle.std.specs.List.{Contains}
use Rattle.std.proofs.lemmas.List.{append-nil}
use Rattle.std.proofs.lemmas.List.Elements.{Contains-push_cases, Contains-append_right}
use Rattle.go_values.specs.declared.positions.Pos.{Pos}
use Rattle.go_values.specs.declared.qualified.QName.{QName}
use Rattle.type_terms.specs.Declarations.{renamed_of}
use Rattle.type_terms.specs.Trees.{Tree}
use Rattle.replacement.specs.declared.faults.SetFault.{SetFault}
use Rattle.replacement.specs.declared.faults.SetFault.TheVariants.{Arity}
use Rattle.replacement.specs.Expansion.{Entries, then, parameter_names, capped}
use Rattle.type_sets.specs.RightSides.{passed_on, by_right}
use Rattle.type_sets.specs.Covering.{Answer, Test, alike, itself, alias_alike, identical_to}
use Rattle.type_sets.specs.TermTests.{mentioned, right_of}
use Rattle.term_tests.specs.Mentions.{declared_right}
use Rattle.term_tests.specs.Walks.{IsEnding, AreRanked}
use Rattle.term_tests.proofs.ListLemmas.{none_of, here_of}
use Rattle.whole_terms.specs.Tables.{fault_of, wrong_use}
use Rattle.right_sides.specs.Tables.{Table, by_told, table_alike, identical_by}
use Rattle.right_sides.specs.Readings.{IsTold, AreTold}
use Rattle.right_sides.proofs.AlikeLemmas.{mentions_agree}
use Rattle.right_sides.proofs.ParameterLemmas.{names_many}

abbrev fails : SetFault → Test
fails fault type = Err fault

-- a wrong number of arguments is told as the definition says
wrong_told : (q : QName) (t : Tree) (ts : List Tree) (have : ℕ) (xs : List QName) → length xs ≡ length (t ∷ ts)
    → fails (Arity q (capped (length (t ∷ ts))) (capped have)) ≡ fails (fault_of (wrong_use q (length xs) have))
wrong_told q t ts have [] m = absurd (omega (arith, m))
wrong_told q t ts have (x ∷ xs) m = ap (λ (k : ℕ). fails (Arity q (capped k) (capped have))) (sym m)

module _ (settle : Tree → Result Tree SetFault) (free : Tree → Answer) (q : QName) (pos : Pos) (right : Tree) (inside other : Tree → (QName → Test) → Test)
    (same : (given : QName → Test) → inside right given ≡ other right given) where
  abbrev lone : QName → Test
  lone = itself settle free

  -- as the declaration says, with the names of its type parameters
  pub declared_by : (ts : List Tree) (names : List QName) → names ≡ parameter_names ts → length names ≡ length ts → (tests : List Test)
      → by_right fails lone inside q tests (Ok (renamed_of pos ts right)) ≡ by_told fails lone other q tests (Some (record { names = names; right = right }))
  declared_by [] [] is many [] = same lone
  declared_by [] [] is many (a ∷ more) =
      let e : (length (a ∷ more) == 0) ≡ false = search arith in
      sym (ap (λ b. cond {A = Test} b (other right (passed_on fails lone [] (a ∷ more))) (fails (fault_of (wrong_use q zero (length (a ∷ more)))))) e)
  declared_by [] (x ∷ xs) is many tests = absurd cc
  declared_by (t ∷ ts) names is many [] = none_given ∙ wrong_told q t ts zero names many ∙ sym (short names many)
    where
      none_given : by_right fails lone inside q [] (Ok (renamed_of pos (t ∷ ts) right)) ≡ fails (Arity q (capped (length (t ∷ ts))) (capped zero))
      none_given =
          let e : (0 == length (t ∷ ts)) ≡ false = search arith in
          ap (λ b. cond {A = Test} b (inside right (passed_on fails lone (parameter_names (t ∷ ts)) [])) (fails (Arity q (capped (length (t ∷ ts))) (capped zero)))) e

      short : (xs : List QName) → length xs ≡ length (t ∷ ts) → by_told fails lone other q [] (Some (record { names = xs; right = right })) ≡ fails (fault_of (wrong_use q (length xs) zero))
      short [] m = absurd (omega (arith, m))
      short (x ∷ xs) m =
          let e : (0 == length (x ∷ xs)) ≡ false = search arith in
          ap (λ b. cond {A = Test} b (other right (passed_on fails lone (x ∷ xs) [])) (fails (fault_of (wrong_use q (length (x ∷ xs)) zero)))) e
  declared_by (t ∷ ts) names is many (a ∷ more) =
      (λ i. cond {A = Test} (length (a ∷ more) == length (t ∷ ts)) (same (passed_on fails lone (sym is i) (a ∷ more)) i) (wrong_told q t ts (length (a ∷ more)) names many i))
      ∙ ap (λ k. cond {A = Test} (length (a ∷ more) == k) (other right (passed_on fails lone names (a ∷ more))) (fails (fault_of (wrong_use q (length names) (length (a ∷ more)))))) (sym many)

module _ (settle : Tree → Result Tree SetFault) (free : Tree → Answer) (entries : Entries) (table : Table) where
  abbrev by_entries : ℕ → QName → List Test → Test
  by_entries = alias_alike settle free entries

  abbrev by_table : ℕ → QName → List Test → Test
  by_table = table_alike settle free table

  -- these aliases cover by what is told of them what they cover as they are declared
  abbrev AllAlike : List QName → Type 0
  AllAlike done = (q : QName) → Contains done q → (n m : ℕ) → length done ≤ n → length done ≤ m → (tests : List Test) → by_entries n q tests ≡ by_table m q tests

  one_alike : (q : QName) → IsTold entries table q → (done : List QName) → IsEnding entries q (Contains done) → AllAlike done
      → (n m : ℕ) → length done ≤ n → length done ≤ m → (tests : List Test) → by_entries (suc n) q tests ≡ by_table (suc m) q tests
  unfolding alias_alike table_alike
  one_alike q told done ending before n m here there tests =
      ap (by_right fails (itself settle free) (λ right given. alike settle free (by_entries n) given right) q tests) told.declared
      ∙ declared_by settle free q told.pos told.right (λ right given. alike settle free (by_entries n) given right) (λ right given. alike settle free (by_table m) given right)
      (λ given. mentions_agree settle free (by_entries n) (by_table m) given told.right (λ p held. before p (each p held) n m here there))
      told.tparams (parameter_names told.tparams) refl (names_many told.tparams told.are) tests
      ∙ ap (by_told fails (itself settle free) (λ right given. alike settle free (by_table m) given right) q tests) (sym told.is)
    where
      same_side : ending.right ≡ told.right
      same_side =
          let is : declared_right entries q ≡ Ok told.right = ap (λ r. then r (right_of q)) told.declared in
          let both_are : Ok ending.right ≡ Ok told.right = sym ending.right_is ∙ is in
          cc

      each : (p : QName) → Contains (mentioned told.right) p → Contains done p
      each p held = ending.each p (subst (λ t. Contains (mentioned t) p) (sym same_side) held)

  all_alike : (done qs : List QName) → AreRanked entries done qs → AreTold entries (done ++ qs) table → AllAlike done → AllAlike (done ++ qs)
  all_alike done [] ranked told before = subst AllAlike (sym (append-nil done)) before
  all_alike done (q ∷ qs) ranked told before =
      subst AllAlike (append_assoc done (q ∷ []) qs)
      (all_alike (done ++ q ∷ []) qs ranked.1 (λ p held. told p (subst (λ l. Contains l p) (append_assoc done (q ∷ []) qs) held)) more)
    where
      more : AllAlike (done ++ q ∷ [])
      more p held zero m here there tests = absurd (omega (arith, here, length-append done (q ∷ [])))
      more p held (suc n) zero here there tests = absurd (omega (arith, there, length-append done (q ∷ [])))
      more p held (suc n) (suc m) here there tests =
          let a : length done ≤ n = omega (arith, here, length-append done (q ∷ [])) in
          let b : length done ≤ m = omega (arith, there, length-append done (q ∷ [])) in
          elim (Contains-push_cases done q p held) [
            | inl early ↦ before p early (suc n) (suc m) (omega (arith, a)) (omega (arith, b)) tests
            | inr same ↦ subst (λ o. by_entries (suc n) o tests ≡ by_table (suc m) o tests) same
                (one_alike q (told q (Contains-append_right done (q ∷ qs) q (here_of q qs))) done ranked.0 before n m a b tests)
          ]

  pub covers_alike : (names order : List QName) (type : Tree) → AreRanked entries [] order → AreTold entries order table
      → ((q : QName) → Contains (mentioned type) q → Contains order q) → length order ≤ length names
      → identical_to settle free entries names type ≡ identical_by settle free table (length order) type
  covers_alike names order type ranked told all few =
      mentions_agree settle free (by_entries (length names)) (by_table (length order)) (itself settle free) type
      (λ q held. all_alike [] order ranked told (λ p none. absurd (none_of p none)) q (all q held) (length names) (length order) few (omega arith))
