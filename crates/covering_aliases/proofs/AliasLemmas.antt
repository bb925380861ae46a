-- What an alias is that ends: its right side, with the arguments put in.
use Rattle.std.proofs.Common.{◌≡◌, ℕ, zero, suc, ◌≤◌, Bool, true, false, cond, List, [], ◌∷◌, ◌==◌, map, length, Ok, Err, refl, ap, sym, ◌∙◌, arith}
use Rattle.std.specs.Prelude.{Result}
use Rattle.std.proofs.lemmas.Bool.{eqb-true, eq-eqb}
use Rattle.go_values.specs.declared.qualified.QName.{QName}
use Rattle.go_values.specs.declared.positions.Pos.{Pos}
use Rattle.type_terms.specs.Trees.{Tree, Trees, no_types, types, parameter, alias, instance, type_list, types_of}
use Rattle.type_terms.specs.TreeEquality.{same_name}
use Rattle.type_terms.specs.Declarations.{Decl, renamed_of}
use Rattle.replacement.specs.declared.faults.SetFault.{SetFault}
use Rattle.replacement.specs.declared.faults.SetFault.TheVariants.{Arity, Kind}
use Rattle.replacement.specs.Expansion.{Entries, Applied, then, known, parameter_names, capped, wrong_number, put_each, alias_side, alias_right, alias_use}
use Rattle.replacement.specs.Substitution.{argument, substituted}
use Rattle.type_sets.specs.Covering.{Answer, Test, itself, alike, types_alike, alias_alike}
use Rattle.type_sets.specs.RightSides.{passed_on, by_declared, by_right}
use Rattle.type_sets.specs.TermTests.{right_of}
use Rattle.term_tests.specs.Mentions.{declared_right}
use Rattle.covering_aliases.specs.SoundTypes.{IsSound, Ends}
use Rattle.covering_aliases.specs.Covered.{is_at, is_given}
use Rattle.covering_aliases.proofs.ReplacedLemmas.{type_put, type_agrees}

abbrev fails : SetFault → Test
fails fault type = Err fault

-- counts are told apart alike
counts_agree : (a b c d : ℕ) → (a ≡ b → c ≡ d) → (c ≡ d → a ≡ b) → (a == b) ≡ (c == d)
counts_agree a b c d one two = by (a == b) refl (c == d) refl
  where
    by : (x : Bool) → (a == b) ≡ x → (y : Bool) → (c == d) ≡ y → (a == b) ≡ (c == d)
    by true e y f = e ∙ sym (eq-eqb c d (one (eqb-true a b e)))
    by false e true f = eq-eqb a b (two (eqb-true c d f)) ∙ sym f
    by false e false f = e ∙ sym f

count_mapped : {X Y : Type 0} (g : X → Y) (xs : List X) → length (map g xs) ≡ length xs
count_mapped g [] = refl
count_mapped g (x ∷ xs) = ap suc (count_mapped g xs)

module _ (settle : Tree → Result Tree SetFault) (free : Test) (entries : Entries) where
  abbrev At : ℕ → QName → List Test → Test
  At = alias_alike settle free entries

  abbrev own : QName → Test
  own = itself settle free

  abbrev is_type : ℕ → Tree → Test
  is_type n = is_at settle free entries n

  -- ---- more right sides change nothing

  inside_agrees : (n : ℕ) (one two : Tree → (QName → Test) → Test) (q : QName)
      → ((right : Tree) (given : QName → Test) → declared_right entries q ≡ Ok right → one right given ≡ two right given)
      → (tests : List Test) → by_right fails own one q tests (known (entries q) q) ≡ by_right fails own two q tests (known (entries q) q)
  inside_agrees n one two q same tests = by (known (entries q) q) refl tests
    where
      by : (r : Result Decl SetFault) → known (entries q) q ≡ r → (tests : List Test) → by_right fails own one q tests r ≡ by_right fails own two q tests r
      by (Err fault) is tests = refl
      by (Ok (renamed_of pos [] right)) is [] = same right own (ap (λ r. then r (right_of q)) is)
      by (Ok (renamed_of pos [] right)) is (test ∷ tests) = refl
      by (Ok (renamed_of pos (p ∷ ps) right)) is [] =
          ap (λ t. cond (0 == length (p ∷ ps)) t (fails (Arity q (capped (length (p ∷ ps))) (capped 0))))
          (same right (passed_on fails own (parameter_names (p ∷ ps)) []) (ap (λ r. then r (right_of q)) is))
      by (Ok (renamed_of pos (p ∷ ps) right)) is (test ∷ tests) =
          ap (λ t. cond (length (test ∷ tests) == length (p ∷ ps)) t (fails (Arity q (capped (length (p ∷ ps))) (capped (length (test ∷ tests))))))
          (same right (passed_on fails own (parameter_names (p ∷ ps)) (test ∷ tests)) (ap (λ r. then r (right_of q)) is))
      by (Ok _) is [] = refl
      by (Ok _) is (test ∷ tests) = refl

  enough : (n m : ℕ) (q : QName) → Ends entries n q → n ≤ m → (tests : List Test) → At m q tests ≡ At n q tests
  unfolding alias_alike
  enough zero m q ends less tests = absurd ends
  enough (suc n) zero q ends less tests = absurd (omega (arith, less))
  enough (suc n) (suc m) q ends less tests =
      let fits : n ≤ m = omega (arith, less) in
      inside_agrees n (λ right given. alike settle free (At m) given right) (λ right given. alike settle free (At n) given right) q
      (λ right given is. type_agrees settle free (Ends entries n) (At m) (At n) (λ p inner tests. enough n m p inner fits tests) given right (ends right is)) tests

  pub one_more : (n : ℕ) (type : Tree) → IsSound (Ends entries n) type → is_type n type ≡ is_type (suc n) type
  one_more n type sound =
      type_agrees settle free (Ends entries n) (At n) (At (suc n)) (λ q ends tests. sym (enough n (suc n) q ends (omega arith) tests)) own type sound

  -- ---- an alias is its right side

  passed : (n : ℕ) (ps : List QName) (args : List Tree) (q : QName) → is_type n (argument ps args q) ≡ passed_on fails own ps (map (is_type n) args) q
  passed n [] args q = refl
  passed n (p ∷ ps) [] q = refl
  passed n (p ∷ ps) (arg ∷ args) q = by (same_name q p) (passed n ps args q)
    where
      by : (b : Bool) → is_type n (argument ps args q) ≡ passed_on fails own ps (map (is_type n) args) q
          → is_type n (cond b arg (argument ps args q)) ≡ cond b (is_type n arg) (passed_on fails own ps (map (is_type n) args) q)
      by true later = refl
      by false later = later

  module _ (n m : ℕ) (q : QName) (ends : Ends entries (suc n) q) (fits : n ≤ m) where
    agrees : (p : QName) → Ends entries n p → (tests : List Test) → At (suc m) p tests ≡ At m p tests
    agrees p inner tests =
        let more : n ≤ suc m = omega (arith, fits) in
        enough n (suc m) p inner more tests ∙ sym (enough n m p inner fits tests)

    put_in : (ps : List QName) (args : List Tree) (right : Tree) → declared_right entries q ≡ Ok right
        → alike settle free (At m) (passed_on fails own ps (map (is_type (suc m)) args)) right ≡ is_type (suc m) (substituted ps args right)
    put_in ps args right is =
        ap (λ given. alike settle free (At m) given right) (λ i p. sym (passed (suc m) ps args p) i)
        ∙ sym (type_put settle free (Ends entries n) (At (suc m)) (At m) agrees own (argument ps args) right (ends right is))

    pub alias_is : (args : List Tree) → At (suc m) q (map (is_type (suc m)) args) ≡ is_given settle free entries (suc m) (alias_right entries (record { name = q; args = args }))
    unfolding alias_alike
    alias_is args = by (known (entries q) q) refl args
      where
        by_count : (a b : Bool) → a ≡ b → (pos : Pos) (p : Tree) (ps : List Tree) (right : Tree) → known (entries q) q ≡ Ok (renamed_of pos (p ∷ ps) right)
            → (arg : Tree) (args : List Tree)
            → cond {A = Test} a (alike settle free (At m) (passed_on fails own (parameter_names (p ∷ ps)) (map (is_type (suc m)) (arg ∷ args))) right)
            (fails (Arity q (capped (length (p ∷ ps))) (capped (length (arg ∷ args)))))
            ≡ is_given settle free entries (suc m) (cond {A = Result Tree SetFault} b (Ok (substituted (parameter_names (p ∷ ps)) (arg ∷ args) right))
            (Err (wrong_number (record { name = q; args = arg ∷ args }) (p ∷ ps))))
        by_count true true e pos p ps right is arg args = put_in (parameter_names (p ∷ ps)) (arg ∷ args) right (ap (λ r. then r (right_of q)) is)
        by_count true false e pos p ps right is arg args = absurd cc
        by_count false true e pos p ps right is arg args = absurd cc
        by_count false false e pos p ps right is arg args = refl

        by : (r : Result Decl SetFault) → known (entries q) q ≡ r → (args : List Tree)
            → by_right fails own (λ right given. alike settle free (At m) given right) q (map (is_type (suc m)) args) r
            ≡ is_given settle free entries (suc m) (then r (alias_side (record { name = q; args = args })))
        by (Err fault) is args = refl
        by (Ok (renamed_of pos [] right)) is [] =
            sym (type_agrees settle free (Ends entries n) (At (suc m)) (At m) agrees own right (ends right (ap (λ r. then r (right_of q)) is)))
        by (Ok (renamed_of pos [] right)) is (arg ∷ args) = refl
        by (Ok (renamed_of pos (p ∷ ps) right)) is [] =
            let e : (0 == length (p ∷ ps)) ≡ false = search arith in
            ap (λ b. cond {A = Test} b (alike settle free (At m) (passed_on fails own (parameter_names (p ∷ ps)) []) right) (fails (Arity q (capped (length (p ∷ ps))) (capped 0)))) e
        by (Ok (renamed_of pos (p ∷ ps) right)) is (arg ∷ args) =
            ap (λ n. cond {A = Test} (suc n == length (p ∷ ps)) (alike settle free (At m) (passed_on fails own (parameter_names (p ∷ ps)) (map (is_type (suc m)) (arg ∷ args))) right)
            (fails (Arity q (capped (length (p ∷ ps))) (capped (suc n))))) (count_mapped (is_type (suc m)) args)
            ∙ by_count (suc (length args) == length (p ∷ ps)) (length ps == length args)
            (counts_agree (suc (length args)) (suc (length ps)) (length ps) (length args) (λ e. omega (arith, e)) (λ e. omega (arith, e))) pos p ps right is arg args
        by (Ok _) is [] = refl
        by (Ok _) is (arg ∷ args) = refl
