-- What is read from the front of some bytes is spelled there, and what is spelled there is read.
use Rattle.std.proofs.Common.{◌≡◌, ℕ, zero, suc, ◌+◌, ◌-◌, ◌*◌, ◌^◌, ◌/◌, ◌%◌, ◌<◌, ◌≤◌, ltb, List, [], ◌∷◌, ◌++◌, length, get_or, Result, Ok, Err, refl, sym, ap, subst, ◌∙◌, arith, inl, inr, add-one, Bor}
use Rattle.std.specs.Prelude.{IfOk, IsErrOf}
use Rattle.std.proofs.Math.Nat.{pow-le-pow_right}
use Rattle.std.proofs.lemmas.Bool.{ltb-true, ltb-false, lt-ltb, le-ltb, cases_lt}
use Rattle.std.proofs.lemmas.Grind.{pow_more}
use Rattle.std.proofs.lemmas.List.{length-append, append_cancel_right, append_cancel_left, append-nil}
use Rattle.wire_bytes.specs.declared.number.Unspelled.{Unspelled}
use Rattle.wire_bytes.specs.declared.number.Unspelled.TheVariants.{Cut, Wrong}
use Rattle.wire_bytes.specs.Uvarint.{IsGroups, Uvarint, BeginsWith, IsCutShort, BeginsNone, Front, behind, groups_in, of_64_bits, uvarint_in}
use Rattle.wire_bytes.specs.Reading.{seen}
use Rattle.wire_bytes.proofs.Steps.{chosen}

-- each of them is a byte
abbrev pub IsBytes : List ℕ → Type 0
IsBytes bytes = (i : ℕ) → get_or bytes i 0 < 256

pub IsBytes-rest : (b : ℕ) (bytes : List ℕ) → IsBytes (b ∷ bytes) → IsBytes bytes
IsBytes-rest b bytes fits i = fits (suc i)

-- ---- a number of any size

abbrev pub front : ℕ × List ℕ → Front
front p = Ok p

pub front_is : (x y : ℕ × List ℕ) → front x ≡ front y → x ≡ y
front_is x y h = cc

-- what stands behind a byte with its top bit set
pub behind_ok : (b n : ℕ) (r : Front) (rest : List ℕ) → behind b r ≡ Ok (n, rest) → (h : ℕ) × (r ≡ Ok (suc h, rest)) × (n ≡ b - 128 + 128 * suc h)
behind_ok b n (Ok (zero, bytes)) rest e = absurd cc
behind_ok b n (Ok (suc h, bytes)) rest e =
    let same : (b - 128 + 128 * suc h, bytes) ≡ (n, rest) = front_is _ _ e in
    (h, ap (λ (p : ℕ × List ℕ). front (suc h, p.1)) same, sym (ap (λ (p : ℕ × List ℕ). p.0) same))
behind_ok b n (Err d) rest e = absurd cc

pub behind_cut : (b : ℕ) (r : Front) → behind b r ≡ Err Cut → r ≡ Err Cut
behind_cut b (Ok (zero, bytes)) e = absurd cc
behind_cut b (Ok (suc h, bytes)) e = absurd cc
behind_cut b (Err Cut) e = refl
behind_cut b (Err Wrong) e = absurd cc

-- one more byte before a spelling
longer : (b h : ℕ) (front : List ℕ) → 128 ≤ b → b < 256 → 0 < h → IsGroups front h → IsGroups (b ∷ front) (b - 128 + 128 * h)
longer b h [] high byte some groups = elim groups [ ]
longer b h (c ∷ front) high byte some groups = (high, byte, h, some, omega arith, groups)

groups_takes : (bytes : List ℕ) (n : ℕ) (rest : List ℕ) → IsBytes bytes → groups_in bytes ≡ Ok (n, rest) → (front : List ℕ) × IsGroups front n × (bytes ≡ front ++ rest)
groups_takes [] n rest fits e = absurd cc
groups_takes (b ∷ bytes) n rest fits e =
    elim (chosen (ltb b 128) (Ok (b, bytes)) (behind b (groups_in bytes)) (Ok (n, rest)) e) [
      | inl low ↦
          let same = front_is (b, bytes) (n, rest) low.1 in
          let b-is : n ≡ b = sym (ap (λ (p : ℕ × List ℕ). p.0) same) in
          (b ∷ [], (ltb-true b 128 low.0, b-is), ap (λ (p : ℕ × List ℕ). b ∷ p.1) same)
      | inr high ↦
          let inner = behind_ok b n (groups_in bytes) rest high.1 in
          let taken = groups_takes bytes (suc inner.0) rest (IsBytes-rest b bytes fits) inner.1 in
          let first : b < 256 = fits 0 in
          (b ∷ taken.0, subst (IsGroups (b ∷ taken.0)) (sym inner.2) (longer b (suc inner.0) taken.0 (ltb-false b 128 high.0) first (omega arith) taken.1), ap (λ (bs : List ℕ). b ∷ bs) taken.2)
    ]

behind_some : (b high : ℕ) (rest : List ℕ) → 0 < high → behind b (Ok (high, rest)) ≡ Ok (b - 128 + 128 * high, rest)
behind_some b zero rest some = absurd (omega arith)
behind_some b (suc h) rest some = refl

groups_again : (spelling : List ℕ) (n : ℕ) (rest : List ℕ) → IsGroups spelling n → groups_in (spelling ++ rest) ≡ Ok (n, rest)
groups_again [] n rest groups = elim groups [ ]
groups_again (b ∷ []) n rest groups = rw (lt-ltb b 128 groups.0, groups.1) refl
groups_again (b ∷ c ∷ bs) n rest groups =
    let inner : groups_in ((c ∷ bs) ++ rest) ≡ Ok (groups.2, rest) = groups_again (c ∷ bs) groups.2 rest groups.5 in
    let value : b - 128 + 128 * groups.2 ≡ n = omega (arith, groups.0, groups.4) in
    rw (le-ltb b 128 groups.0, inner, behind_some b groups.2 rest groups.3, value) refl

-- a beginning of a spelling only lacks bytes
groups_cut : (bytes more : List ℕ) (n : ℕ) → 0 < length more → IsGroups (bytes ++ more) n → groups_in bytes ≡ Err Cut
groups_cut [] more n some groups = refl
groups_cut (b ∷ []) [] n some groups = absurd (omega arith)
groups_cut (b ∷ []) (m ∷ more) n some groups = rw (le-ltb b 128 groups.0) refl
groups_cut (b ∷ c ∷ bs) more n some groups =
    let inner : groups_in (c ∷ bs) ≡ Err Cut = groups_cut (c ∷ bs) more groups.2 some groups.5 in
    rw (le-ltb b 128 groups.0, inner) refl

-- bytes that only lack some are ended by a byte 1
groups_ended : (bytes : List ℕ) → IsBytes bytes → groups_in bytes ≡ Err Cut → (n : ℕ) × IsGroups (bytes ++ 1 ∷ []) n × (0 < n) × (n < 2 * 128 ^ length bytes)
groups_ended [] fits e = (1, (omega arith, refl), omega arith, omega arith)
groups_ended (b ∷ bytes) fits e =
    elim (chosen (ltb b 128) (Ok (b, bytes)) (behind b (groups_in bytes)) (Err Cut) e) [
      | inl low ↦ absurd (let no = low.1 in cc)
      | inr high ↦
          let inner = groups_ended bytes (IsBytes-rest b bytes fits) (behind_cut b (groups_in bytes) high.1) in
          let first : b < 256 = fits 0 in
          let power : 128 ^ suc (length bytes) ≡ 128 ^ length bytes * 128 = rw (← add-one (length bytes)) (pow_more 128 (length bytes)) in
          (b - 128 + 128 * inner.0, longer b inner.0 (bytes ++ 1 ∷ []) (ltb-false b 128 high.0) first inner.2 inner.1, omega (arith, inner.2), rw power (omega (arith, inner.3)))
    ]

-- k + 1 groups that don't spell 0 spell 128 ^ k at least
groups_large : (spelling : List ℕ) (n k : ℕ) → IsGroups spelling n → 0 < n → length spelling ≡ suc k → 128 ^ k ≤ n
groups_large [] n k groups some len = elim groups [ ]
groups_large (b ∷ []) n zero groups some len = omega arith
groups_large (b ∷ []) n (suc k) groups some len = absurd (omega arith)
groups_large (b ∷ c ∷ bs) n zero groups some len = absurd (omega arith)
groups_large (b ∷ c ∷ bs) n (suc k) groups some len =
    let inner : 128 ^ k ≤ groups.2 = groups_large (c ∷ bs) groups.2 k groups.5 groups.3 (omega arith) in
    let power : 128 ^ suc k ≡ 128 ^ k * 128 = rw (← add-one k) (pow_more 128 k) in
    rw power (omega (arith, groups.0, groups.4, inner))

-- ---- a number of 64 bits

pub of_64_bits_ok : (len n : ℕ) (r : Front) (rest : List ℕ) → of_64_bits len r ≡ Ok (n, rest) → (r ≡ Ok (n, rest)) × (n < 2 ^ 64)
of_64_bits_ok len n (Ok (v, bytes)) rest e =
    elim (chosen (ltb v (2 ^ 64)) (Ok (v, bytes)) (Err Wrong) (Ok (n, rest)) e) [
      | inl small ↦ (small.1, let same = ap (λ (p : ℕ × List ℕ). p.0) (front_is (v, bytes) (n, rest) small.1) in omega (arith, ltb-true v (2 ^ 64) small.0))
      | inr large ↦ absurd (let no = large.1 in cc)
    ]
of_64_bits_ok len n (Err Cut) rest e =
    elim (chosen (ltb len 10) (Err Cut) (Err Wrong) (Ok (n, rest)) e) [
      | inl short ↦ absurd (let no = short.1 in cc)
      | inr long ↦ absurd (let no = long.1 in cc)
    ]
of_64_bits_ok len n (Err Wrong) rest e = absurd cc

pub of_64_bits_cut : (len : ℕ) (r : Front) → of_64_bits len r ≡ Err Cut → (r ≡ Err Cut) × (len < 10)
of_64_bits_cut len (Ok (v, bytes)) e =
    elim (chosen (ltb v (2 ^ 64)) (Ok (v, bytes)) (Err Wrong) (Err Cut) e) [
      | inl small ↦ absurd (let no = small.1 in cc)
      | inr large ↦ absurd (let no = large.1 in cc)
    ]
of_64_bits_cut len (Err Cut) e =
    elim (chosen (ltb len 10) (Err Cut) (Err Wrong) (Err Cut) e) [
      | inl short ↦ (refl, ltb-true len 10 short.0)
      | inr long ↦ absurd (let no = long.1 in cc)
    ]
of_64_bits_cut len (Err Wrong) e = absurd cc

-- what is read is spelled
pub uvarint_takes : (bytes : List ℕ) (n : ℕ) (rest : List ℕ) → IsBytes bytes → uvarint_in bytes ≡ Ok (n, rest) → BeginsWith bytes n rest
unfolding uvarint_in
uvarint_takes bytes n rest fits e =
    let number = of_64_bits_ok (length bytes) n (groups_in bytes) rest e in
    let taken = groups_takes bytes n rest fits number.0 in
    (taken.0, record { groups = taken.1; bits = number.1 }, taken.2)

-- what is spelled is read, whatever follows it
pub uvarint_again : (spelling : List ℕ) (n : ℕ) (rest : List ℕ) → Uvarint spelling n → uvarint_in (spelling ++ rest) ≡ Ok (n, rest)
unfolding uvarint_in
uvarint_again spelling n rest spelled =
    let number : groups_in (spelling ++ rest) ≡ Ok (n, rest) = groups_again spelling n rest spelled.groups in
    rw (number, lt-ltb n (2 ^ 64) spelled.bits) refl

pub begins_again : (bytes : List ℕ) (n : ℕ) (rest : List ℕ) → BeginsWith bytes n rest → uvarint_in bytes ≡ Ok (n, rest)
begins_again bytes n rest begins = rw begins.2 (uvarint_again begins.0 n rest begins.1)

pub cut_takes : (bytes : List ℕ) → IsBytes bytes → uvarint_in bytes ≡ Err Cut → IsCutShort bytes
unfolding uvarint_in
cut_takes bytes fits e =
    let short = of_64_bits_cut (length bytes) (groups_in bytes) e in
    let ended = groups_ended bytes fits short.0 in
    let some : 0 < 128 = omega arith in
    let nine : length bytes ≤ 9 = omega (arith, short.1) in
    let bound : 128 ^ length bytes ≤ 128 ^ 9 = pow-le-pow_right some nine in
    (1 ∷ [], ended.0, omega arith, record { groups = ended.1; bits = omega (arith, ended.3, bound) })

-- at most nine bytes stand before the end of a number
ten : (bytes more : List ℕ) (n : ℕ) → 0 < length more → Uvarint (bytes ++ more) n → length bytes < 10
ten [] more n some spelled = omega arith
ten (b ∷ bytes) more n some spelled =
    let positive : 0 < n = above b bytes more n some spelled.groups in
    let k = length bytes + (length more - 1) + 1 in
    let len : length (b ∷ (bytes ++ more)) ≡ suc k = omega (arith, length-append bytes more) in
    let large : 128 ^ k ≤ n = groups_large (b ∷ (bytes ++ more)) n k spelled.groups positive len in
    elim (cases_lt k 10) [
      | inl lt ↦ omega arith
      | inr ge ↦
          let some : 0 < 128 = omega arith in
          let bound : 128 ^ 10 ≤ 128 ^ k = pow-le-pow_right some ge in
          absurd (omega (arith, spelled.bits, large, bound))
    ]
  where
    above : (b : ℕ) (bytes more : List ℕ) (n : ℕ) → 0 < length more → IsGroups (b ∷ (bytes ++ more)) n → 0 < n
    above b [] [] n some groups = absurd (omega arith)
    above b [] (m ∷ more) n some groups = omega (arith, groups.0, groups.3, groups.4)
    above b (c ∷ bytes) more n some groups = omega (arith, groups.0, groups.3, groups.4)

pub cut_again : (bytes : List ℕ) → IsCutShort bytes → uvarint_in bytes ≡ Err Cut
unfolding uvarint_in
cut_again bytes cut =
    let more = cut.0 in
    let n = cut.1 in
    let spelled = cut.3 in
    let groups : groups_in bytes ≡ Err Cut = groups_cut bytes more n cut.2 spelled.groups in
    let short : length bytes < 10 = ten bytes more n cut.2 spelled in
    rw (groups, lt-ltb (length bytes) 10 short) refl

pub wrong_takes : (bytes : List ℕ) → uvarint_in bytes ≡ Err Wrong → BeginsNone bytes
wrong_takes bytes e = record {
  not_whole = λ n rest begins. absurd (let no = begins_again bytes n rest begins in cc);
  not_cut = λ cut. absurd (let no = cut_again bytes cut in cc);
}

-- ---- the laws

pub one_spelling : (a b x y : List ℕ) (m n : ℕ) → Uvarint a m → Uvarint b n → a ++ x ≡ b ++ y → (a ≡ b) × (m ≡ n)
one_spelling a b x y m n first second same =
    let one : uvarint_in (b ++ y) ≡ Ok (m, x) = subst (λ (t : List ℕ). uvarint_in t ≡ Ok (m, x)) same (uvarint_again a m x first) in
    let two : uvarint_in (b ++ y) ≡ Ok (n, y) = uvarint_again b n y second in
    let both = front_is (m, x) (n, y) (sym one ∙ two) in
    let rest-is : x ≡ y = ap (λ (p : ℕ × List ℕ). p.1) both in
    (append_cancel_right a b y (ap (λ (t : List ℕ). a ++ t) (sym rest-is) ∙ same), ap (λ (p : ℕ × List ℕ). p.0) both)

-- k groups are enough for a number below 128 ^ k
groups_exist : (k n : ℕ) → n < 128 ^ k → (spelling : List ℕ) × IsGroups spelling n
groups_exist zero n small = (n ∷ [], (omega arith, refl))
groups_exist (suc k) n small =
    elim (cases_lt n 128) [
      | inl low ↦ (n ∷ [], (low, refl))
      | inr high ↦
          let power : 128 ^ suc k ≡ 128 ^ k * 128 = rw (← add-one k) (pow_more 128 k) in
          let smaller : n / 128 < 128 ^ k = omega (arith, power) in
          let inner = groups_exist k (n / 128) smaller in
          let value : n % 128 + 128 - 128 + 128 * (n / 128) ≡ n = omega arith in
          ((n % 128 + 128) ∷ inner.0, subst (IsGroups ((n % 128 + 128) ∷ inner.0)) value (longer (n % 128 + 128) (n / 128) inner.0 (omega arith) (omega arith) (omega arith) inner.1))
    ]

pub every_number : (n : ℕ) → n < 2 ^ 64 → (spelling : List ℕ) × Uvarint spelling n
every_number n small =
    let enough : n < 128 ^ 10 = omega arith in
    let groups = groups_exist 10 n enough in
    (groups.0, record { groups = groups.1; bits = small })

pub none_begins_another : (a x : List ℕ) (m n : ℕ) → Uvarint a m → Uvarint (a ++ x) n → x ≡ []
none_begins_another a x m n first second =
    let both = one_spelling a (a ++ x) x [] m n first second (sym (append-nil (a ++ x))) in
    append_cancel_left a x [] (sym both.0 ∙ sym (append-nil a))

pub one_front : (bytes x y : List ℕ) (m n : ℕ) → BeginsWith bytes m x → BeginsWith bytes n y → (m ≡ n) × (x ≡ y)
one_front bytes x y m n first second =
    let both = front_is (m, x) (n, y) (sym (begins_again bytes m x first) ∙ begins_again bytes n y second) in
    (ap (λ (p : ℕ × List ℕ). p.0) both, ap (λ (p : ℕ × List ℕ). p.1) both)

pub whole_or_cut : (bytes x : List ℕ) (n : ℕ) → BeginsWith bytes n x → IsCutShort bytes → ⊥
whole_or_cut bytes x n begins cut = absurd (let whole = begins_again bytes n x begins in let short = cut_again bytes cut in cc)

pub same_groups : (a b : List ℕ) (n : ℕ) → IsGroups a n → IsGroups b n → a ≡ b
same_groups [] b n first second = elim first [ ]
same_groups (x ∷ a) [] n first second = elim second [ ]
same_groups (x ∷ []) (y ∷ []) n first second = ap (λ (z : ℕ). z ∷ []) (sym first.1 ∙ second.1)
same_groups (x ∷ []) (y ∷ c ∷ b) n first second = absurd (omega (arith, first.0, first.1, second.0, second.3, second.4))
same_groups (x ∷ c ∷ a) (y ∷ []) n first second = absurd (omega (arith, second.0, second.1, first.0, first.3, first.4))
same_groups (x ∷ c ∷ a) (y ∷ d ∷ b) n first second =
    let high : first.2 ≡ second.2 = omega (arith, first.0, first.1, first.4, second.0, second.1, second.4) in
    let low : x ≡ y = omega (arith, first.0, first.1, first.4, second.0, second.1, second.4) in
    let rest : c ∷ a ≡ d ∷ b = same_groups (c ∷ a) (d ∷ b) second.2 (subst (IsGroups (c ∷ a)) high first.5) second.5 in
    cc

pub same_number : (a b : List ℕ) (n : ℕ) → Uvarint a n → Uvarint b n → a ≡ b
same_number a b n first second = same_groups a b n first.groups second.groups

-- ---- an answer of the code

abbrev failed : Unspelled → Front
failed d = Err d

pub is_number : (bytes : List ℕ) (result : Result (ℕ × Bor (List ℕ)) Unspelled) → IsBytes bytes → seen (λ x. (x.0, x.1.now)) result ≡ uvarint_in bytes → IfOk result (λ x. BeginsWith bytes x.0 x.1.now)
is_number bytes (Ok x) fits e = uvarint_takes bytes x.0 x.1.now fits (sym e)
is_number bytes (Err d) fits e = tt

pub is_cut : (bytes : List ℕ) (result : Result (ℕ × Bor (List ℕ)) Unspelled) → IsBytes bytes → seen (λ x. (x.0, x.1.now)) result ≡ uvarint_in bytes → IsErrOf result Cut → IsCutShort bytes
is_cut bytes (Ok x) fits e is = absurd cc
is_cut bytes (Err d) fits e is = let same : d ≡ Cut = cc in cut_takes bytes fits (sym e ∙ ap (λ (x : Unspelled). failed x) same)

pub is_wrong : (bytes : List ℕ) (result : Result (ℕ × Bor (List ℕ)) Unspelled) → seen (λ x. (x.0, x.1.now)) result ≡ uvarint_in bytes → IsErrOf result Wrong → BeginsNone bytes
is_wrong bytes (Ok x) e is = absurd cc
is_wrong bytes (Err d) e is = let same : d ≡ Wrong = cc in wrong_takes bytes (sym e ∙ ap (λ (x : Unspelled). failed x) same)
