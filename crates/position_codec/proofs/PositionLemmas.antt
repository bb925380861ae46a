-- What is spelled is read, and each place has one spelling after the one before it.
use Rattle.std.proofs.Common.{◌≡◌, ◌≢◌, ℕ, ◌^◌, ◌<◌, Bool, true, false, not, cond, List, [], ◌∷◌, ◌++◌, length, Option, Some, None, Result, Ok, Err, refl, sym, ap, subst, ◌∙◌, append_assoc, inl, inr, ◌⊎◌, arith}
use Rattle.std.specs.Prelude.{ℤ, pos, negsuc, ◌==◌, ◌&&◌, nat_eq, IfErr}
use Rattle.std.specs.Cmp.Lexicographic.{pointwise, same_text as same_list}
use Rattle.std.proofs.lemmas.Bool.{false_from_ne_true, eqb-true, and_parts}
use Rattle.wire_bytes.specs.declared.fault.ByteFault.{ByteFault}
use Rattle.wire_bytes.specs.declared.fault.ByteFault.TheVariants as faults
use Rattle.wire_bytes.specs.Reading.{Spot, place, onward, ◌>>=◌, demand, or_fault}
use Rattle.wire_bytes.specs.Begins.{IsPrefixCode}
use Rattle.wire_bytes.specs.Uvarint.{Uvarint}
use Rattle.wire_bytes.specs.Varint.{Varint, number_of, signed_of, varint_at}
use Rattle.wire_bytes.specs.Text.{text_in}
use Rattle.wire_bytes.proofs.CursorLemmas.{uvarint_at_again}
use Rattle.wire_bytes.proofs.TextLemmas.{text_again}
use Rattle.wire_bytes.proofs.Spellings.{same_number}
use Rattle.wire_bytes.proofs.PrefixCodeLemmas.{Found, prefix_code, signed_even, signed_odd}
use Rattle.go_values.specs.declared.positions.Pos.{Pos}
use Rattle.go_values.specs.declared.positions.Pos.TheVariants.{Nowhere, At}
use Rattle.wire_bytes.specs.declared.fault.ReadFault.{ReadFault}
use Rattle.wire_bytes.specs.declared.fault.ReadFault.TheVariants as answers
use Rattle.position_codec.specs.Place.{Place, Named, delta, half, is_odd, moved, place_of, pos_of}
use Rattle.position_codec.specs.Position.{ColumnAlone, ColumnAndLine, ColumnLineAndFile, Position, moved_at, file_at, line_at, behind_line, behind_column, position_at}
use Rattle.position_codec.specs.Calls.{SpellsNone, ReadsPosition}
use Rattle.position_codec.proofs.DeltaLemmas.{moved_again, odd_again, number_some, line_some, line_and_more}

-- ---- the steps of the reader

signed_again : (x : ℤ) → signed_of (number_of x) ≡ x
signed_again (pos n) = signed_even n
signed_again (negsuc n) = signed_odd n

pub varint_at_again : (s : Spot) (x : ℤ) (a rest : List ℕ) → Varint a x → s.left ≡ a ++ rest → varint_at s ≡ Ok (x, onward s rest)
varint_at_again s x a rest spelled e =
    ap (λ (r : Result (ℕ × Spot) ByteFault). r >>= λ n. Ok (signed_of n.0, n.1)) (uvarint_at_again s (number_of x) rest (a, spelled, e))
    ∙ ap (λ (y : ℤ). Ok (y, onward s rest)) (signed_again x)

moved_at_again : (s : Spot) (from to : ℕ) (more : Bool) (a rest : List ℕ) → to < 2 ^ 32 → Varint a (delta from to more) → s.left ≡ a ++ rest
    → moved_at from s ≡ Ok ((delta from to more, to), onward s rest)
unfolding moved_at
moved_at_again s from to more a rest small spelled e =
    ap (λ (r : Result (ℤ × Spot) ByteFault). r >>= λ number. or_fault (faults.Range (place s) (number_of number.0)) (moved from (half number.0)) >>= λ now. Ok ((number.0, now), number.1)) (varint_at_again s (delta from to more) a rest spelled e)
    ∙ ap (λ (o : Option ℕ). or_fault (faults.Range (place s) (number_of (delta from to more))) o >>= λ now. Ok ((delta from to more, now), onward s rest)) (moved_again from to more small)

line_at_again : (s : Spot) (from to : ℕ) (more : Bool) (a rest : List ℕ) → to < 2 ^ 32 → Varint a (delta from to more) → s.left ≡ a ++ rest → delta from to more ≢ pos 0
    → line_at from s ≡ Ok ((delta from to more, to), onward s rest)
unfolding line_at
line_at_again s from to more a rest small spelled e some =
    ap (λ (r : Result ((ℤ × ℕ) × Spot) ByteFault). r >>= λ line. demand (not (number_of line.0.0 == 0)) (faults.Number (place s)) >>= λ _. Ok line) (moved_at_again s from to more a rest small spelled e)
    ∙ ap (λ (b : Bool). demand (not b) (faults.Number (place s)) >>= λ _. Ok ((delta from to more, to), onward s rest)) (number_some (delta from to more) some)

others : (a b : List ℕ) → a ≢ b → pointwise nat_eq a b ≡ false
others a b ne = false_from_ne_true (pointwise nat_eq a b) (λ e. ne (same_list a b (sym e)))

-- ---- a whole place

pub position_again : (strings : List ℕ) (before : Place) (s : Spot) (a rest : List ℕ) (now : Named) → Position strings before a now → s.left ≡ a ++ rest → position_at strings before s ≡ Ok (now, onward s rest)
unfolding position_at file_at
position_again strings before s a rest now p e = by p.spelled
  where
    first : (more : Bool) (c behind : List ℕ) → Varint c (delta before.column now.place.column more) → s.left ≡ c ++ behind
        → position_at strings before s ≡ behind_column strings before now.place.column more (onward s behind)
    first more c behind spelled e =
        ap (λ (r : Result ((ℤ × ℕ) × Spot) ByteFault). r >>= λ x. behind_column strings before x.0.1 (is_odd x.0.0) x.1) (moved_at_again s before.column now.place.column more c behind p.column_fits spelled e)
        ∙ ap (λ (b : Bool). behind_column strings before now.place.column b (onward s behind)) (odd_again before.column now.place.column more)

    second : (more : Bool) (l behind mid : List ℕ) → Varint l (delta before.line now.place.line more) → mid ≡ l ++ behind → delta before.line now.place.line more ≢ pos 0
        → behind_column strings before now.place.column true (onward s mid) ≡ behind_line strings before now.place.line now.place.column more (onward s behind)
    second more l behind mid spelled e some =
        ap (λ (r : Result ((ℤ × ℕ) × Spot) ByteFault). r >>= λ x. behind_line strings before x.0.1 now.place.column (is_odd x.0.0) x.1) (line_at_again (onward s mid) before.line now.place.line more l behind p.line_fits spelled e some)
        ∙ ap (λ (b : Bool). behind_line strings before now.place.line now.place.column b (onward s behind)) (odd_again before.line now.place.line more)

    by : ColumnAlone before a now ⊎ (ColumnAndLine before a now ⊎ ColumnLineAndFile strings before a now) → position_at strings before s ≡ Ok (now, onward s rest)
    by (inl alone) =
        first false a rest alone.column e
        ∙ (λ i. Ok (record { place = record { file = sym alone.same_file i; line = sym alone.same_line i; column = now.place.column }; name = sym alone.no_name i }, onward s rest))
    by (inr (inl both)) =
        first true both.column_part (both.line_part ++ rest) both.column (e ∙ ap (λ (t : List ℕ). t ++ rest) both.parts ∙ append_assoc both.column_part both.line_part rest)
        ∙ second false both.line_part rest (both.line_part ++ rest) both.line refl (line_some before.line now.place.line both.other_line)
        ∙ (λ i. Ok (record { place = record { file = sym both.same_file i; line = now.place.line; column = now.place.column }; name = sym both.no_name i }, onward s rest))
    by (inr (inr all)) =
        let split : s.left ≡ all.column_part ++ (all.line_part ++ (all.file_part ++ rest))
        = e ∙ ap (λ (t : List ℕ). t ++ rest) all.parts ∙ append_assoc all.column_part (all.line_part ++ all.file_part) rest ∙ ap (λ (t : List ℕ). all.column_part ++ t) (append_assoc all.line_part all.file_part rest) in
        first true all.column_part (all.line_part ++ (all.file_part ++ rest)) all.column split
        ∙ second true all.line_part (all.file_part ++ rest) (all.line_part ++ (all.file_part ++ rest)) all.line refl (line_and_more before.line now.place.line)
        ∙ ap (λ (r : Result ((ℕ × List ℕ) × Spot) ByteFault). r >>= λ file. Ok (record { place = record { file = file.0.1; line = now.place.line; column = now.place.column }; name = Some file.0.0 }, file.1)) (third all)
        ∙ (λ i. Ok (record { place = record { file = now.place.file; line = now.place.line; column = now.place.column }; name = sym all.its_name i }, onward s rest))
      where
        third : (all : ColumnLineAndFile strings before a now) → file_at strings before.file (onward s (all.file_part ++ rest)) ≡ Ok ((all.offset, now.place.file), onward s rest)
        third all =
            let t : Spot = onward s (all.file_part ++ rest) in
            ap (λ (r : Result (ℕ × Spot) ByteFault). r >>= λ o. or_fault (faults.Range (place t) o.0) (text_in strings o.0) >>= λ f. demand (not (pointwise nat_eq f before.file)) (faults.Number (place t)) >>= λ _. Ok ((o.0, f), o.1)) (uvarint_at_again t all.offset rest (all.file_part, all.file, refl))
            ∙ ap (λ (o : Option (List ℕ)). or_fault (faults.Range (place t) all.offset) o >>= λ f. demand (not (pointwise nat_eq f before.file)) (faults.Number (place t)) >>= λ _. Ok ((all.offset, f), onward s rest)) (text_again strings all.offset now.place.file all.there)
            ∙ ap (λ (b : Bool). demand (not b) (faults.Number (place t)) >>= λ _. Ok ((all.offset, now.place.file), onward s rest)) (others now.place.file before.file all.other_file)

pub spells_none : (strings : List ℕ) (before after : Named) (old new : Spot) (result : Result Pos ReadFault) → ReadsPosition result before after old new (position_at strings before.place old)
    → IfErr result (SpellsNone strings before.place old.left)
spells_none strings before after old new (Ok found) read = tt
spells_none strings before after old new (Err (answers.Bytes f)) read = λ now rest begins.
    let again = position_again strings before.place old begins.0 rest now begins.1 begins.2 in absurd (let no = read.0 in cc)
spells_none strings before after old new (Err answers.OutOfMemory) read = tt

-- ---- one spelling

same_varint : (a b : List ℕ) (x : ℤ) → Varint a x → Varint b x → a ≡ b
same_varint a b x first second = same_number a b (number_of x) first second

same_position : (strings : List ℕ) (before : Place) (a b : List ℕ) (now : Named) → Position strings before a now → Position strings before b now → a ≡ b
same_position strings before a b now p q = by p.spelled q.spelled
  where
    offset_is : (m n : ℕ) → Some m ≡ Some n → m ≡ n
    offset_is m n e = cc

    by : ColumnAlone before a now ⊎ (ColumnAndLine before a now ⊎ ColumnLineAndFile strings before a now) → ColumnAlone before b now ⊎ (ColumnAndLine before b now ⊎ ColumnLineAndFile strings before b now) → a ≡ b
    by (inl x) (inl y) = same_varint a b (delta before.column now.place.column false) x.column y.column
    by (inl x) (inr (inl y)) = absurd (y.other_line x.same_line)
    by (inl x) (inr (inr y)) = absurd (y.other_file x.same_file)
    by (inr (inl x)) (inl y) = absurd (x.other_line y.same_line)
    by (inr (inl x)) (inr (inl y)) =
        let column = same_varint x.column_part y.column_part (delta before.column now.place.column true) x.column y.column in
        let line = same_varint x.line_part y.line_part (delta before.line now.place.line false) x.line y.line in
        x.parts ∙ (λ i. column i ++ line i) ∙ sym y.parts
    by (inr (inl x)) (inr (inr y)) = absurd (y.other_file x.same_file)
    by (inr (inr x)) (inl y) = absurd (x.other_file y.same_file)
    by (inr (inr x)) (inr (inl y)) = absurd (x.other_file y.same_file)
    by (inr (inr x)) (inr (inr y)) =
        let column = same_varint x.column_part y.column_part (delta before.column now.place.column true) x.column y.column in
        let line = same_varint x.line_part y.line_part (delta before.line now.place.line true) x.line y.line in
        let offset : y.offset ≡ x.offset = offset_is y.offset x.offset (sym y.its_name ∙ x.its_name) in
        let file = same_number x.file_part y.file_part x.offset x.file (subst (Uvarint y.file_part) offset y.file) in
        x.parts ∙ (λ i. column i ++ (line i ++ file i)) ∙ sym y.parts

found_in : Result (Named × Spot) ByteFault → Found Named
found_in (Ok x) = Some (x.0, x.1.left)
found_in (Err f) = None

pub position_code : (strings : List ℕ) (before : Place) → IsPrefixCode (Position strings before)
unfolding found_in
position_code strings before = prefix_code (Position strings before) (λ bytes. found_in (position_at strings before (record { end = 0; left = bytes }))) (same_position strings before)
    (λ a rest now p. ap found_in (position_again strings before (record { end = 0; left = a ++ rest }) a rest now p refl))

-- ---- places and positions

no_items : (xs : List ℕ) → (length xs == 0) ≡ true → [] ≡ xs
no_items [] e = refl
no_items (x ∷ xs) e = absurd (let no : length (x ∷ xs) ≡ 0 = eqb-true (length (x ∷ xs)) 0 e in omega arith)

pub place_back : (p : Place) → place_of (pos_of p) ≡ p
place_back p = by ((length p.file == 0) && (p.line == 0) && (p.column == 0)) refl
  where
    by : (b : Bool) → ((length p.file == 0) && (p.line == 0) && (p.column == 0)) ≡ b → place_of (cond b Nowhere (At p.file p.line p.column)) ≡ p
    by true e =
        let outer = and_parts ((length p.file == 0) && (p.line == 0)) (p.column == 0) e in
        let inner = and_parts (length p.file == 0) (p.line == 0) outer.0 in
        let file : [] ≡ p.file = no_items p.file inner.0 in
        let line : 0 ≡ p.line = sym (eqb-true p.line 0 inner.1) in
        let column : 0 ≡ p.column = sym (eqb-true p.column 0 outer.1) in
        λ i. record { file = file i; line = line i; column = column i }
    by false e = refl
