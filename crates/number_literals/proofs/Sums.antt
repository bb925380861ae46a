-- Reading digits one by one gives the sum of their place values.
use Rattle.std.proofs.Common.{◌≡◌, ◌≤◌, ◌<◌, ◌+◌, ◌*◌, ◌^◌, ℕ, suc, Bool, true, false, cond, ◌||◌, ◌==◌, List, [], ◌∷◌, length, Some, None, option_and_then, sym, ap, ◌∙◌, ⊎_elim, arith, eqb, ltb, nat_lt}
use Rattle.std.proofs.lemmas.Bool.{lt-ltb, le-ltb, cases_lt}
use Rattle.std.proofs.Math.Nat.{add-mul, mul_assoc, pow-zero, pow-succ', one-le-pow, le-mul_of_pos_right}
use Rattle.std.specs.Char.{digit_value}
use Rattle.go_lexer.specs.Characters.{underscore, Each}
use Rattle.number_literals.specs.PlaceValues.{plain_digits, place_sum}
use Rattle.number_literals.specs.Reading.{below, run}

pub below_yes : (n : ℕ) → n < 2 ^ 127 → below n ≡ Some n
below_yes n h = ap (λ t. cond t (Some n) None) (lt-ltb n (2 ^ 127) h)

pub below_no : (n : ℕ) → 2 ^ 127 ≤ n → below n ≡ None
below_no n h = ap (λ t. cond t (Some n) None) (le-ltb n (2 ^ 127) h)

-- a digit of the base, or `_`
abbrev pub in_run : ℕ → ℕ → Bool
in_run base c = nat_lt (digit_value c) base || c == underscore

-- the sum with one digit more in front
pub longer : (base v d k s : ℕ) → (v * base + d) * base ^ k + s ≡ v * base ^ suc k + (d * base ^ k + s)
longer base v d k s =
    let a : (v * base + d) * base ^ k ≡ v * base * base ^ k + d * base ^ k = add-mul (v * base) d (base ^ k) in
    let b : v * base ^ suc k ≡ v * (base * base ^ k) = ap (λ x. v * x) (pow-succ' base k) in
    let c : v * base * base ^ k ≡ v * (base * base ^ k) = mul_assoc v base (base ^ k) in
    omega (arith, a, b, c)

module _ (base : ℕ) (some : 1 ≤ base) where
  abbrev Total : ℕ → List ℕ → ℕ
  Total v ds = v * base ^ length ds + place_sum base ds

  more : (m k s : ℕ) → m ≤ m * base ^ k + s
  more m k s =
      let one : 1 ≤ base ^ k = one-le-pow k base some in
      let up : m ≤ m * base ^ k = le-mul_of_pos_right m one in
      omega (arith, up)

  digit_by : (cs : List ℕ) (v c : ℕ) (ds : List ℕ) → ((w : ℕ) → w < 2 ^ 127 → run base cs w ≡ below (Total w ds)) → option_and_then (run base cs) (below (v * base + digit_value c)) ≡ below (Total v (c ∷ ds))
  digit_by cs v c ds again =
      let next : ℕ = v * base + digit_value c in
      let same : Total next ds ≡ Total v (c ∷ ds) = longer base v (digit_value c) (length ds) (place_sum base ds) in
      ⊎_elim
      (λ (l : next < 2 ^ 127). ap (option_and_then (run base cs)) (below_yes next l) ∙ again next l ∙ ap below same)
      (λ (l : 2 ^ 127 ≤ next). ap (option_and_then (run base cs)) (below_no next l) ∙ sym (below_no (Total v (c ∷ ds)) (let up : next ≤ Total next ds = more next (length ds) (place_sum base ds) in omega (arith, l, up, same))))
      (cases_lt next (2 ^ 127))

  step_by : (t u : Bool) (cs : List ℕ) (v c : ℕ) (ds : List ℕ) → (u || t) ≡ true → ((w : ℕ) → w < 2 ^ 127 → run base cs w ≡ below (Total w ds)) → v < 2 ^ 127
      → option_and_then (run base cs) (cond t (Some v) (cond u (below (v * base + digit_value c)) None)) ≡ below (Total v (cond t ds (c ∷ ds)))
  step_by true u cs v c ds h again l = again v l
  step_by false true cs v c ds h again l = digit_by cs v c ds again
  step_by false false cs v c ds h again l = cc

  pub run_value : (cs : List ℕ) (v : ℕ) → Each (in_run base) cs → v < 2 ^ 127 → run base cs v ≡ below (Total v (plain_digits cs))
  run_value [] v h l =
      let none : v * base ^ 0 + 0 ≡ v = ap (λ p. v * p + 0) (pow-zero base) ∙ (let e : v * 1 + 0 ≡ v = omega arith in e) in
      sym (below_yes v l) ∙ ap below (sym none)
  run_value (c ∷ cs) v h l = step_by (eqb c underscore) (ltb (digit_value c) base) cs v c (plain_digits cs) h.0 (λ w k. run_value cs w h.1 k) l
