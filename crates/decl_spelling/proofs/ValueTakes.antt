-- What the readers of flags, signed numbers, whole constants and places take.
use Rattle.std.proofs.Common.{◌≡◌, ◌≢◌, ℕ, zero, suc, ◌+◌, ◌-◌, ◌/◌, ◌%◌, ◌^◌, ◌<◌, ◌≤◌, Bool, true, false, not, cond, ltb, List, [], ◌∷◌, ◌++◌, Some, None, Ok, Err, refl, sym, ap, subst, ◌∙◌, inl, inr, arith}
use Rattle.std.specs.Prelude.{ℤ, pos, negsuc, ◌==◌, nat_eq}
use Rattle.std.specs.Cmp.Lexicographic.{pointwise}
use Rattle.std.proofs.lemmas.Bool.{ltb-true, ltb-false, eqb-true, eqb-false}
use Rattle.std.proofs.lemmas.Cmp.{nat_list_eq_equiv}
use Rattle.wire_bytes.specs.declared.fault.ByteFault.TheVariants as faults
use Rattle.wire_bytes.specs.Reading.{Spot, place, onward, ◌>>=◌, demand, or_fault, byte_at, bytes_at}
use Rattle.wire_bytes.specs.Begins.{Begins}
use Rattle.wire_bytes.specs.Uvarint.{Uvarint, BeginsWith, uvarint_at}
use Rattle.wire_bytes.specs.Varint.{Varint, Flag, number_of, signed_of, varint_at, flag_of, flag_at}
use Rattle.wire_bytes.specs.Whole.{IsGreatestLength, Whole, small_limit, length_behind, judged, value_of, long_at, whole_at}
use Rattle.wire_bytes.specs.Text.{Text, text_in}
use Rattle.wire_bytes.proofs.Steps.{bind_ok, demand_ok, chosen, done_is}
use Rattle.wire_bytes.proofs.Spellings.{IsBytes}
use Rattle.wire_bytes.proofs.TextLemmas.{text_takes}
use Rattle.wire_bytes.proofs.ManyLemmas.{Takes}
use Rattle.wire_bytes.proofs.CursorLemmas.{uvarint_at_takes, uvarint_at_again, byte_at_takes, bytes_at_takes, or_fault_ok}
use Rattle.wire_bytes.proofs.WholeLemmas.{long_takes, found_short, found_long}
use Rattle.position_codec.specs.Place.{Place, Named, half, is_odd, moved}
use Rattle.position_codec.specs.Position.{Position, moved_at, file_at, line_at, behind_line, behind_column, position_at}
use Rattle.position_codec.proofs.DeltaLemmas.{number_zero}
use Rattle.position_codec.proofs.PlaceLemmas.{Moves, column_stands, line_stands, file_stands}

-- ---- flags

flag_is : (at n : ℕ) (x : Bool) (front : List ℕ) → flag_of at n ≡ Ok x → Uvarint front n → Flag front x
flag_is at n x front e spelled =
    elim (chosen (ltb 1 n) (Err (faults.Tag at n)) (Ok (n == 1)) (Ok x) e) [
      | inl large ↦ absurd (let no = large.1 in cc)
      | inr small ↦ subst (Flag front) (done_is (n == 1) x small.1) (by n (ltb-false 1 n small.0) spelled)
    ]
  where
    by : (n : ℕ) → n ≤ 1 → Uvarint front n → Flag front (n == 1)
    by zero le spelled = spelled
    by (suc zero) le spelled = spelled
    by (suc (suc n)) le spelled = absurd (omega arith)

pub flag_takes : (s : Spot) (x : Bool) (after : Spot) → IsBytes s.left → flag_at s ≡ Ok (x, after) → Takes (Begins Flag) s x after
flag_takes s x after fits e =
    let first = bind_ok (uvarint_at s) (λ n. flag_of (place s) n.0 >>= λ flag. Ok (flag, n.1)) (x, after) e in
    let second = bind_ok (flag_of (place s) first.0.0) (λ flag. Ok (flag, first.0.1)) (x, after) first.2 in
    let number = uvarint_at_takes s first.0.0 first.0.1 fits first.1 in
    subst (λ (p : Bool × Spot). Takes (Begins Flag) s p.0 p.1) (done_is (second.0, first.0.1) (x, after) second.2)
    (record { stands = (number.stands.0, flag_is (place s) first.0.0 second.0 number.stands.0 second.1 number.stands.1, number.stands.2); same_end = number.same_end; fits = number.fits })

pub flag_again : (s : Spot) (x : Bool) (front rest : List ℕ) → Flag front x → s.left ≡ front ++ rest → flag_at s ≡ Ok (x, onward s rest)
flag_again s false front rest spelled e = rw (uvarint_at_again s 0 rest (front, spelled, e)) refl
flag_again s true front rest spelled e = rw (uvarint_at_again s 1 rest (front, spelled, e)) refl

-- ---- signed numbers

pub number_again : (n : ℕ) → number_of (signed_of n) ≡ n
number_again n = by (n % 2 == 0) refl
  where
    by : (b : Bool) → (n % 2 == 0) ≡ b → number_of (signed_of n) ≡ n
    by true e = let even : n % 2 ≡ 0 = eqb-true (n % 2) 0 e in ap (λ (b : Bool). number_of (cond b (pos (n / 2)) (negsuc (n / 2)))) e ∙ omega arith
    by false e = let odd : n % 2 ≢ 0 = eqb-false (n % 2) 0 e in ap (λ (b : Bool). number_of (cond b (pos (n / 2)) (negsuc (n / 2)))) e ∙ omega arith

pub varint_takes : (s : Spot) (x : ℤ) (after : Spot) → IsBytes s.left → varint_at s ≡ Ok (x, after) → Takes (Begins Varint) s x after
varint_takes s x after fits e =
    let first = bind_ok (uvarint_at s) (λ n. Ok (signed_of n.0, n.1)) (x, after) e in
    let number = uvarint_at_takes s first.0.0 first.0.1 fits first.1 in
    subst (λ (p : ℤ × Spot). Takes (Begins Varint) s p.0 p.1) (done_is (signed_of first.0.0, first.0.1) (x, after) first.2)
    (record { stands = (number.stands.0, subst (Uvarint number.stands.0) (sym (number_again first.0.0)) number.stands.1, number.stands.2); same_end = number.same_end; fits = number.fits })

-- ---- whole constants

pub whole_takes : (signed : Bool) (max : ℕ) (s : Spot) (v : ℤ) (after : Spot) → IsGreatestLength max → IsBytes s.left → whole_at signed max s ≡ Ok (v, after) → Takes (Begins (Whole signed max)) s v after
whole_takes signed max s v after of fits e =
    let first = bind_ok (byte_at s) (λ b. cond (ltb b.0 (small_limit signed max)) (Ok (value_of signed b.0, b.1)) (long_at signed max (place s) b.0 b.1)) (v, after) e in
    let b = first.0.0 in
    let mid = first.0.1 in
    let byte = byte_at_takes s b mid fits first.1 in
    elim (chosen (ltb b (small_limit signed max)) (Ok (value_of signed b, mid)) (long_at signed max (place s) b mid) (Ok (v, after)) first.2) [
      | inl short ↦
          subst (λ (p : ℤ × Spot). Takes (Begins (Whole signed max)) s p.0 p.1) (done_is (value_of signed b, mid) (v, after) short.1)
          (record { stands = found_short signed max b s mid of first.1 (ltb-true b (small_limit signed max) short.0); same_end = byte.same_end; fits = byte.fits })
      | inr long ↦
          let n = length_behind signed b in
          let size = bind_ok (bytes_at n mid) (λ size. judged signed max (place s) b size.0 >>= λ value. Ok (value, size.1)) (v, after) long.1 in
          let value = bind_ok (judged signed max (place s) b size.0.0) (λ value. Ok (value, size.0.1)) (v, after) size.2 in
          let taken = bytes_at_takes n mid size.0.0 size.0.1 byte.fits size.1 in
          let small : b < 256 = first_byte s.left b mid.left byte.stands fits in
          let sized : IsBytes size.0.0 = front_bytes mid.left size.0.0 size.0.1.left taken.0.stands byte.fits in
          let whole : Whole signed max (b ∷ size.0.0) value.0 = long_takes signed max (place s) b size.0.0 value.0 sized small of taken.1 (ltb-false b (small_limit signed max) long.0) value.1 in
          subst (λ (p : ℤ × Spot). Takes (Begins (Whole signed max)) s p.0 p.1) (done_is (value.0, size.0.1) (v, after) value.2)
          (record { stands = found_long signed max b n size.0.0 value.0 s mid size.0.1 first.1 size.1 whole; same_end = taken.0.same_end ∙ byte.same_end; fits = taken.0.fits })
    ]
  where
    first_byte : (bytes : List ℕ) (b : ℕ) (rest : List ℕ) → bytes ≡ b ∷ rest → IsBytes bytes → b < 256
    first_byte bytes b rest e fits = let there : IsBytes (b ∷ rest) = subst IsBytes e fits in there 0

    front_bytes : (bytes front rest : List ℕ) → bytes ≡ front ++ rest → IsBytes bytes → IsBytes front
    front_bytes bytes front rest e fits = part front (subst IsBytes e fits)
      where
        part : (front : List ℕ) → IsBytes (front ++ rest) → IsBytes front
        part [] h i = omega arith
        part (b ∷ front) h zero = h 0
        part (b ∷ front) h (suc i) = part front (λ j. h (suc j)) i

-- ---- places

pub record MovesTo (s : Spot) (from to : ℕ) (x : ℤ) (after : Spot) : Type 0 where
  pub moves : Moves s.left after.left from to x
  pub small : to < 2 ^ 32
  pub same_end : after.end ≡ s.end
  pub fits : IsBytes after.left

moved_small : (from to : ℕ) (x : ℤ) → from < 2 ^ 32 → moved from x ≡ Some to → to < 2 ^ 32
moved_small from to (pos d) small e =
    elim (chosen (ltb (from + d) (2 ^ 32)) (Some (from + d)) None (Some to) e) [
      | inl fine ↦ let lt : from + d < 2 ^ 32 = ltb-true (from + d) (2 ^ 32) fine.0 in omega (arith, lt, some_is (from + d) to fine.1)
      | inr large ↦ absurd (let no = large.1 in cc)
    ]
  where
    some_is : (m n : ℕ) → Some m ≡ Some n → m ≡ n
    some_is m n e = cc
moved_small from to (negsuc d) small e =
    elim (chosen (ltb d from) (Some (from - (d + 1))) None (Some to) e) [
      | inl fine ↦ omega (arith, some_is (from - (d + 1)) to fine.1)
      | inr large ↦ absurd (let no = large.1 in cc)
    ]
  where
    some_is : (m n : ℕ) → Some m ≡ Some n → m ≡ n
    some_is m n e = cc

moved_takes : (from : ℕ) (s : Spot) (x : ℤ) (to : ℕ) (after : Spot) → from < 2 ^ 32 → IsBytes s.left → moved_at from s ≡ Ok ((x, to), after) → MovesTo s from to x after
unfolding moved_at
moved_takes from s x to after small fits e =
    let first = bind_ok (varint_at s) (λ number. or_fault (faults.Range (place s) (number_of number.0)) (moved from (half number.0)) >>= λ now. Ok ((number.0, now), number.1)) ((x, to), after) e in
    let second = bind_ok (or_fault (faults.Range (place s) (number_of first.0.0)) (moved from (half first.0.0))) (λ now. Ok ((first.0.0, now), first.0.1)) ((x, to), after) first.2 in
    let number = varint_takes s first.0.0 first.0.1 fits first.1 in
    let there : moved from (half first.0.0) ≡ Some second.0 = or_fault_ok _ _ second.0 second.1 in
    subst (λ (p : (ℤ × ℕ) × Spot). MovesTo s from p.0.1 p.0.0 p.1) (done_is ((first.0.0, second.0), first.0.1) ((x, to), after) second.2)
    (record { moves = record { stands = number.stands; to_there = there }; small = moved_small from second.0 (half first.0.0) small there; same_end = number.same_end; fits = number.fits })

-- another file
record Files (strings before : List ℕ) (s : Spot) (offset : ℕ) (file : List ℕ) (after : Spot) : Type 0 where
  number : Takes BeginsWith s offset after
  there : Text strings offset file
  other : file ≢ before

file_takes : (strings before : List ℕ) (s : Spot) (offset : ℕ) (file : List ℕ) (after : Spot) → IsBytes strings → IsBytes s.left → file_at strings before s ≡ Ok ((offset, file), after) → Files strings before s offset file after
unfolding file_at
file_takes strings before s offset file after bytes fits e =
    let first = bind_ok (uvarint_at s) (λ o. or_fault (faults.Range (place s) o.0) (text_in strings o.0) >>= λ f. demand (not (pointwise nat_eq f before)) (faults.Number (place s)) >>= λ _. Ok ((o.0, f), o.1)) ((offset, file), after) e in
    let o = first.0.0 in
    let second = bind_ok (or_fault (faults.Range (place s) o) (text_in strings o)) (λ f. demand (not (pointwise nat_eq f before)) (faults.Number (place s)) >>= λ _. Ok ((o, f), first.0.1)) ((offset, file), after) first.2 in
    let f = second.0 in
    let third = bind_ok (demand (not (pointwise nat_eq f before)) (faults.Number (place s))) (λ _. Ok ((o, f), first.0.1)) ((offset, file), after) second.2 in
    let differs : not (pointwise nat_eq f before) ≡ true = demand_ok _ _ third.0 third.1 in
    subst (λ (p : (ℕ × List ℕ) × Spot). Files strings before s p.0.0 p.0.1 p.1) (done_is ((o, f), first.0.1) ((offset, file), after) third.2)
    (record {
      number = uvarint_at_takes s o first.0.1 fits first.1;
      there = text_takes strings o f bytes (or_fault_ok _ _ f second.1);
      other = λ same. let equal : pointwise nat_eq f before ≡ true = subst (λ (g : List ℕ). pointwise nat_eq f g ≡ true) same (nat_list_eq_equiv.refl f) in absurd (let no = sym differs ∙ ap not equal in cc);
    })

-- another line, or another file at a line
record Lines (from : ℕ) (s : Spot) (y : ℤ) (to : ℕ) (after : Spot) : Type 0 where
  moves : MovesTo s from to y after
  some : y ≢ pos 0

line_takes : (from : ℕ) (s : Spot) (y : ℤ) (to : ℕ) (after : Spot) → from < 2 ^ 32 → IsBytes s.left → line_at from s ≡ Ok ((y, to), after) → Lines from s y to after
unfolding line_at
line_takes from s y to after small fits e =
    let first = bind_ok (moved_at from s) (λ line. demand (not (number_of line.0.0 == 0)) (faults.Number (place s)) >>= λ _. Ok line) ((y, to), after) e in
    let z = first.0.0.0 in
    let second = bind_ok (demand (not (number_of z == 0)) (faults.Number (place s))) (λ _. Ok first.0) ((y, to), after) first.2 in
    let differs : not (number_of z == 0) ≡ true = demand_ok _ _ second.0 second.1 in
    subst (λ (p : (ℤ × ℕ) × Spot). Lines from s p.0.0 p.0.1 p.1) (done_is first.0 ((y, to), after) second.2)
    (record {
      moves = moved_takes from s z first.0.0.1 first.0.1 small fits first.1;
      some = λ none. absurd (let no = sym differs ∙ ap not (number_zero z none) in cc);
    })

module _ (strings : List ℕ) (before : Place) (bytes : IsBytes strings) (line_small : before.line < 2 ^ 32) (column_small : before.column < 2 ^ 32) (s : Spot) (now : Named) (after : Spot) where
  abbrev Found : Named → Spot → Type 0
  Found now after = Takes (Begins (Position strings before)) s now after

  behind_line_takes : (column line : ℕ) (x y : ℤ) (mid behind : Spot) → MovesTo s before.column column x mid → is_odd x ≡ true → Lines before.line mid y line behind → (more : Bool) → is_odd y ≡ more
      → behind_line strings before line column more behind ≡ Ok (now, after) → Found now after
  behind_line_takes column line x y mid behind m odd l false even e =
      subst (λ (p : Named × Spot). Found p.0 p.1) (done_is (record { place = record { file = before.file; line = line; column = column }; name = None }, behind) (now, after) e)
      (record { stands = line_stands strings s.left mid.left behind.left before column line x y l.moves.small m.small m.moves odd l.moves.moves l.some even; same_end = l.moves.same_end ∙ m.same_end; fits = l.moves.fits })
  behind_line_takes column line x y mid behind m odd l true odd' e =
      let first = bind_ok (file_at strings before.file behind) (λ file. Ok (record { place = record { file = file.0.1; line = line; column = column }; name = Some file.0.0 }, file.1)) (now, after) e in
      let offset = first.0.0.0 in
      let file = first.0.0.1 in
      let f = file_takes strings before.file behind offset file first.0.1 bytes l.moves.fits first.1 in
      subst (λ (p : Named × Spot). Found p.0 p.1) (done_is (record { place = record { file = file; line = line; column = column }; name = Some offset }, first.0.1) (now, after) first.2)
      (record {
        stands = file_stands strings s.left mid.left behind.left first.0.1.left file before column line offset x y l.moves.small m.small m.moves odd l.moves.moves odd' f.number.stands f.there f.other;
        same_end = f.number.same_end ∙ l.moves.same_end ∙ m.same_end;
        fits = f.number.fits;
      })

  behind_column_takes : (column : ℕ) (x : ℤ) (mid : Spot) → MovesTo s before.column column x mid → (more : Bool) → is_odd x ≡ more → behind_column strings before column more mid ≡ Ok (now, after) → Found now after
  behind_column_takes column x mid m false even e =
      subst (λ (p : Named × Spot). Found p.0 p.1) (done_is (record { place = record { file = before.file; line = before.line; column = column }; name = None }, mid) (now, after) e)
      (record { stands = column_stands strings s.left mid.left before column x line_small m.small m.moves even; same_end = m.same_end; fits = m.fits })
  behind_column_takes column x mid m true odd e =
      let first = bind_ok (line_at before.line mid) (λ line. behind_line strings before line.0.1 column (is_odd line.0.0) line.1) (now, after) e in
      behind_line_takes column first.0.0.1 x first.0.0.0 mid first.0.1 m odd (line_takes before.line mid first.0.0.0 first.0.0.1 first.0.1 line_small m.fits first.1) (is_odd first.0.0.0) refl first.2

  pub position_takes : IsBytes s.left → position_at strings before s ≡ Ok (now, after) → Takes (Begins (Position strings before)) s now after
  unfolding position_at
  position_takes fits e =
      let first = bind_ok (moved_at before.column s) (λ column. behind_column strings before column.0.1 (is_odd column.0.0) column.1) (now, after) e in
      behind_column_takes first.0.0.1 first.0.0.0 first.0.1 (moved_takes before.column s first.0.0.0 first.0.0.1 first.0.1 column_small fits first.1) (is_odd first.0.0.0) refl first.2
