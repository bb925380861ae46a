-- Numbers: the running sum of a reader, and each way in which it ends.
use Rattle.std.proofs.Common.{◌≡◌, ◌≢◌, subst, inl, inr, ℕ, zero, suc, ◌+◌, ◌-◌, ◌*◌, ◌^◌, ◌<◌, ◌≤◌, List, [], ◌∷◌, length, drop, take, get_or, Ok, Err, refl, ap, ◌∙◌, sym, arith, ltb, add-one, true}
use Rattle.std.proofs.Math.Nat.{pow-le-pow_right, mul-le-mul_right}
use Rattle.std.proofs.Math.Seq.{drop-cons}
use Rattle.std.proofs.lemmas.Grind.{pow_more}
use Rattle.std.proofs.lemmas.Bool.{le-ltb, lt-ltb, cases_lt}
use Rattle.std.proofs.lemmas.List.{drop_all, length-drop, take_all}
use Rattle.wire_bytes.specs.declared.number.Unspelled.TheVariants.{Cut, Wrong}
use Rattle.wire_bytes.specs.Uvarint.{Front, behind, groups_in, of_64_bits, uvarint_in}

-- what the whole number is, where i groups came to sum, the next one counts weight times, and r is what the bytes
-- behind them spell
abbrev pub onto : ℕ → ℕ → ℕ → Front → Front
onto sum weight zero r = r
onto sum weight (suc i) (Ok (zero, rest)) = Err Wrong
onto sum weight (suc i) (Ok (suc h, rest)) = Ok (sum + suc h * weight, rest)
onto sum weight (suc i) (Err e) = Err e

-- i groups were read
pub record SoFar (bytes : List ℕ) (sum weight i : ℕ) : Type 0 where
  pub few : i ≤ 9
  pub there : i ≤ length bytes
  pub weighs : weight ≡ 128 ^ i
  pub below : sum < weight
  pub so_far : onto sum weight i (groups_in (drop i bytes)) ≡ groups_in bytes

weight_small : (weight i : ℕ) → weight ≡ 128 ^ i → i < 9 → weight ≤ 2 ^ 56
weight_small weight i weighs few =
    let some : 0 < 128 = omega arith in
    let le : i ≤ 8 = omega arith in
    let bound : 128 ^ i ≤ 128 ^ 8 = pow-le-pow_right some le in
    omega (arith, bound)

pub group_small : (bytes : List ℕ) (sum weight i byte : ℕ) → SoFar bytes sum weight i → i < 9 → byte < 128 → byte * weight < 2 ^ 63
group_small bytes sum weight i byte so few low =
    let small = weight_small weight i so.weighs few in
    let le : byte ≤ 127 = omega arith in
    let most : byte * weight ≤ 127 * weight = mul-le-mul_right weight le in
    omega arith

pub sum_small : (bytes : List ℕ) (sum weight i byte : ℕ) → SoFar bytes sum weight i → i < 9 → byte < 128 → sum + byte * weight < weight * 128
sum_small bytes sum weight i byte so few low =
    let le : byte ≤ 127 = omega arith in
    let most : byte * weight ≤ 127 * weight = mul-le-mul_right weight le in
    omega (arith, so.below)

pub next_small : (bytes : List ℕ) (sum weight i : ℕ) → SoFar bytes sum weight i → i < 9 → weight * 128 ≤ 2 ^ 63
next_small bytes sum weight i so few =
    let small = weight_small weight i so.weighs few in omega arith

onto_ok : (sum weight i v : ℕ) (rest : List ℕ) → weight ≡ 128 ^ i → sum < weight → (0 < i → 0 < v) → onto sum weight i (Ok (v, rest)) ≡ Ok (sum + v * weight, rest)
onto_ok sum weight zero v rest weighs below some =
    let one : weight ≡ 1 = weighs in
    let none : sum ≡ 0 = omega arith in
    ap (λ (n : ℕ). Ok (n, rest)) (rw (one, none) (omega arith))
onto_ok sum weight (suc i) zero rest weighs below some = absurd (let h : 0 < 0 = some (omega arith) in omega arith)
onto_ok sum weight (suc i) (suc h) rest weighs below some = refl

one_more : (sum weight i b : ℕ) (r : Front) → 128 ≤ b → weight ≡ 128 ^ i → sum < weight
    → onto sum weight i (behind b r) ≡ onto (sum + (b - 128) * weight) (weight * 128) (suc i) r
one_more sum weight zero b (Ok (zero, rest)) high weighs below = refl
one_more sum weight zero b (Ok (suc h, rest)) high weighs below =
    let one : weight ≡ 1 = weighs in
    let none : sum ≡ 0 = omega arith in
    ap (λ (n : ℕ). Ok (n, rest)) (rw (one, none) (omega arith))
one_more sum weight zero b (Err e) high weighs below = refl
one_more sum weight (suc i) b (Ok (zero, rest)) high weighs below = refl
one_more sum weight (suc i) b (Ok (suc h, rest)) high weighs below =
    onto_ok sum weight (suc i) (b - 128 + 128 * suc h) rest weighs below (λ _. omega arith)
    ∙ ap (λ (n : ℕ). Ok (n, rest)) (omega arith)
one_more sum weight (suc i) b (Err e) high weighs below = refl

groups_low : (b : ℕ) (rest : List ℕ) → b < 128 → groups_in (b ∷ rest) ≡ Ok (b, rest)
groups_low b rest low = rw (lt-ltb b 128 low) refl

groups_high : (b : ℕ) (rest : List ℕ) → 128 ≤ b → groups_in (b ∷ rest) ≡ behind b (groups_in rest)
groups_high b rest high = rw (le-ltb b 128 high) refl

-- ---- one more group

pub goes_on : (bytes : List ℕ) (sum weight i : ℕ) → SoFar bytes sum weight i → i < 9 → i < length bytes → 128 ≤ get_or bytes i 0 → get_or bytes i 0 < 256
    → SoFar bytes (sum + (get_or bytes i 0 - 128) * weight) (weight * 128) (i + 1)
goes_on bytes sum weight i so few lt high byte =
    let b = get_or bytes i 0 in
    let here : drop i bytes ≡ b ∷ drop (suc i) bytes = drop-cons bytes i 0 lt in
    let low : b - 128 < 128 = omega arith in
    let heavier : weight * 128 ≡ 128 ^ (i + 1) = rw (pow_more 128 i, so.weighs) refl in
    let same : onto sum weight i (groups_in (drop i bytes)) ≡ onto (sum + (b - 128) * weight) (weight * 128) (suc i) (groups_in (drop (suc i) bytes))
    = rw (here, groups_high b (drop (suc i) bytes) high) (one_more sum weight i b (groups_in (drop (suc i) bytes)) high so.weighs so.below) in
    record {
      few = omega arith;
      there = omega arith;
      weighs = heavier;
      below = sum_small bytes sum weight i (b - 128) so few low;
      so_far = rw add-one (sym same ∙ so.so_far);
    }

-- ---- the ways in which it ends

pub ends_whole : (bytes : List ℕ) (sum weight i : ℕ) → SoFar bytes sum weight i → i < 9 → i < length bytes → get_or bytes i 0 < 128 → (0 < i → 0 < get_or bytes i 0)
    → uvarint_in bytes ≡ Ok (sum + get_or bytes i 0 * weight, drop (i + 1) bytes)
unfolding uvarint_in
ends_whole bytes sum weight i so few lt low some =
    let b = get_or bytes i 0 in
    let here : drop i bytes ≡ b ∷ drop (suc i) bytes = drop-cons bytes i 0 lt in
    let all : groups_in bytes ≡ Ok (sum + b * weight, drop (suc i) bytes)
    = sym so.so_far ∙ rw (here, groups_low b (drop (suc i) bytes) low) (onto_ok sum weight i b (drop (suc i) bytes) so.weighs so.below some) in
    let small = sum_small bytes sum weight i b so few low in
    let bound = next_small bytes sum weight i so few in
    let test : ltb (sum + b * weight) (2 ^ 64) ≡ true = lt-ltb _ _ (omega arith) in
    rw (all, test, add-one) refl

pub ends_zero : (bytes : List ℕ) (sum weight i : ℕ) → SoFar bytes sum weight i → 0 < i → i < length bytes → get_or bytes i 0 ≡ 0 → uvarint_in bytes ≡ Err Wrong
unfolding uvarint_in
ends_zero bytes sum weight zero so some lt none = absurd (omega arith)
ends_zero bytes sum weight (suc i) so some lt none =
    let here : drop (suc i) bytes ≡ 0 ∷ drop (suc (suc i)) bytes = drop-cons bytes (suc i) 0 lt ∙ ap (λ (b : ℕ). b ∷ drop (suc (suc i)) bytes) none in
    let all : groups_in bytes ≡ Err Wrong = sym so.so_far ∙ rw here refl in
    rw all refl

pub ends_cut : (bytes : List ℕ) (sum weight i : ℕ) → SoFar bytes sum weight i → length bytes ≤ i → uvarint_in bytes ≡ Err Cut
unfolding uvarint_in
ends_cut bytes sum weight i so le =
    let nothing : drop i bytes ≡ [] = drop_all i bytes le in
    let all : groups_in bytes ≡ Err Cut = sym so.so_far ∙ rw nothing (onto_err i) in
    let short : ltb (length bytes) 10 ≡ true = lt-ltb _ _ (omega (arith, so.few)) in
    rw (all, short) refl
  where
    onto_err : (i : ℕ) → onto sum weight i (Err Cut) ≡ Err Cut
    onto_err zero = refl
    onto_err (suc i) = refl

-- Nine groups were read, so the tenth counts 2 ^ 63 times.
nine : (bytes : List ℕ) (sum weight i : ℕ) → SoFar bytes sum weight i → 9 ≤ i → SoFar bytes sum (2 ^ 63) 9
nine bytes sum weight i so le =
    let i-is : i ≡ 9 = omega (arith, so.few) in
    let at_nine : SoFar bytes sum weight 9 = subst (SoFar bytes sum weight) i-is so in
    let weight-is : weight ≡ 2 ^ 63 = at_nine.weighs in
    subst (λ (w : ℕ). SoFar bytes sum w 9) weight-is at_nine

nine_weighs : (bytes : List ℕ) (sum weight i : ℕ) → SoFar bytes sum weight i → 9 ≤ i → weight ≡ 2 ^ 63
nine_weighs bytes sum weight i so le =
    let i-is : i ≡ 9 = omega (arith, so.few) in
    let at_nine : SoFar bytes sum weight 9 = subst (SoFar bytes sum weight) i-is so in
    at_nine.weighs

pub tenth_fits : (bytes : List ℕ) (sum weight i : ℕ) → SoFar bytes sum weight i → 9 ≤ i → sum + weight < 2 ^ 64
tenth_fits bytes sum weight i so le = let w = nine_weighs bytes sum weight i so le in omega (arith, so.below, w)

pub ends_tenth : (bytes : List ℕ) (sum weight i : ℕ) → SoFar bytes sum weight i → 9 ≤ i → 9 < length bytes → get_or bytes 9 0 ≡ 1 → uvarint_in bytes ≡ Ok (sum + weight, drop 10 bytes)
unfolding uvarint_in
ends_tenth bytes sum weight i so le lt one =
    let at = nine bytes sum weight i so le in
    let here : drop 9 bytes ≡ 1 ∷ drop 10 bytes = drop-cons bytes 9 0 lt ∙ ap (λ (b : ℕ). b ∷ drop 10 bytes) one in
    let all : groups_in bytes ≡ Ok (sum + 1 * 2 ^ 63, drop 10 bytes)
    = sym at.so_far ∙ rw here (onto_ok sum (2 ^ 63) 9 1 (drop 10 bytes) refl at.below (λ _. omega arith)) in
    let small : sum + 1 * 2 ^ 63 < 2 ^ 64 = omega (arith, at.below) in
    let w = nine_weighs bytes sum weight i so le in
    rw (all, lt-ltb _ _ small, w) (ap (λ (n : ℕ). Ok (n, drop 10 bytes)) (omega arith))

ends_above : (len sum v : ℕ) (rest : List ℕ) → 2 ≤ v → of_64_bits len (Ok (sum + v * 2 ^ 63, rest)) ≡ Err Wrong
ends_above len sum v rest le =
    let large : 2 ^ 64 ≤ sum + v * 2 ^ 63 = omega arith in
    rw (le-ltb _ _ large) refl

too_long : (len sum b : ℕ) (r : Front) → 10 ≤ len → sum < 2 ^ 63 → 128 ≤ b → of_64_bits len (onto sum (2 ^ 63) 9 (behind b r)) ≡ Err Wrong
too_long len sum b (Ok (zero, rest)) long below high = refl
too_long len sum b (Ok (suc h, rest)) long below high =
    rw (onto_ok sum (2 ^ 63) 9 (b - 128 + 128 * suc h) rest refl below (λ _. omega arith)) (ends_above len sum (b - 128 + 128 * suc h) rest (omega arith))
too_long len sum b (Err Cut) long below high = rw (le-ltb len 10 long) refl
too_long len sum b (Err Wrong) long below high = refl

pub ends_tenth_wrong : (bytes : List ℕ) (sum weight i : ℕ) → SoFar bytes sum weight i → 9 ≤ i → 9 < length bytes → get_or bytes 9 0 ≢ 1 → uvarint_in bytes ≡ Err Wrong
unfolding uvarint_in
ends_tenth_wrong bytes sum weight i so le lt not_one =
    let at = nine bytes sum weight i so le in
    let b = get_or bytes 9 0 in
    let rest = drop 10 bytes in
    let here : drop 9 bytes ≡ b ∷ rest = drop-cons bytes 9 0 lt in
    let long : 10 ≤ length bytes = omega arith in
    sym (ap (of_64_bits (length bytes)) at.so_far) ∙ elim (cases_lt b 128) [
      | inl low ↦ rw (here, groups_low b rest low) (ends_low bytes rest sum b low not_one at.below)
      | inr high ↦ rw (here, groups_high b rest high) (too_long (length bytes) sum b (groups_in rest) long at.below high)
    ]
  where
    ends_low : (bytes rest : List ℕ) (sum b : ℕ) → b < 128 → b ≢ 1 → sum < 2 ^ 63 → of_64_bits (length bytes) (onto sum (2 ^ 63) 9 (Ok (b, rest))) ≡ Err Wrong
    ends_low bytes rest sum zero low not_one below = refl
    ends_low bytes rest sum (suc h) low not_one below = ends_above (length bytes) sum (suc h) rest (omega arith)

-- what a slice from n on is
pub rest_from : (n : ℕ) (bytes : List ℕ) → take (length bytes - n) (drop n bytes) ≡ drop n bytes
rest_from n bytes = take_all (length bytes - n) (drop n bytes) (omega (arith, length-drop n bytes))
