-- The starts are the places where lines begin.
use Rattle.std.proofs.Common.{◌≡◌, ◌≤◌, ◌<◌, ◌+◌, ℕ, zero, suc, Bool, true, false, cond, List, [], ◌∷◌, ◌++◌, length, get_or, ◌-◌, ⊎_elim, sym, ap, ◌∙◌, refl, subst, arith, eqb}
use Rattle.std.proofs.lemmas.Bool.{cases_lt}
use borrow.Author.Tests.{true-eqb}
use Rattle.std.specs.List.{Contains}
use Rattle.source_positions.specs.Positions.{line_feed, IsLineStart, start_of_source, behind_line_feed, IsPosition}
use Rattle.source_positions.specs.Lines.{starts_in, line_starts, Cuts}
use Rattle.source_positions.specs.declared.lines.LineColumn.{LineColumn}
use Rattle.source_positions.proofs.Starts.{starts_rise, ordered, line_is}

-- a place behind a line feed in what stands from a place on
record Entry (at : ℕ) (bs : List ℕ) (x : ℕ) : Type 0 where
  before : List ℕ
  next : ℕ
  after : List ℕ
  is : bs ≡ before ++ (line_feed ∷ next ∷ after)
  place : x ≡ at + (length before + 1)

put : (at b : ℕ) (bs : List ℕ) (x : ℕ) → Entry (suc at) bs x → Entry at (b ∷ bs) x
put at b bs x e = record { before = b ∷ e.before; next = e.next; after = e.after; is = ap (λ l. b ∷ l) e.is; place = omega (arith, e.place) }

entry_by : (t : Bool) (at b c : ℕ) (bs more : List ℕ) → eqb b line_feed ≡ t → ((i : ℕ) → i < length more → Entry (suc at) (c ∷ bs) (get_or more i 0)) → (i : ℕ) → i < length (cond t (suc at ∷ more) more) → Entry at (b ∷ c ∷ bs) (get_or (cond t (suc at ∷ more) more) i 0)
entry_by true at b c bs more e h zero l = record { before = []; next = c; after = bs; is = ap (λ x. x ∷ c ∷ bs) (true-eqb b line_feed (sym e)); place = omega arith }
entry_by true at b c bs more e h (suc i) l = put at b (c ∷ bs) (get_or more i 0) (h i (omega arith))
entry_by false at b c bs more e h i l = put at b (c ∷ bs) (get_or more i 0) (h i l)

entries : (at : ℕ) (bs : List ℕ) (i : ℕ) → i < length (starts_in at bs) → Entry at bs (get_or (starts_in at bs) i 0)
entries at [] i l = absurd (omega arith)
entries at (b ∷ []) i l = absurd (omega arith)
entries at (b ∷ c ∷ bs) i l = entry_by (eqb b line_feed) at b c bs (starts_in (suc at) (c ∷ bs)) refl (entries (suc at) (c ∷ bs)) i l

pub start_at : (source : List ℕ) (i : ℕ) → i < length (line_starts source) → IsLineStart source (get_or (line_starts source) i 0)
start_at source zero l = start_of_source
start_at source (suc i) l =
    let e : Entry 0 source (get_or (starts_in 0 source) i 0) = entries 0 source i (omega arith) in
    subst (IsLineStart source) (sym (let k : get_or (starts_in 0 source) i 0 ≡ length e.before + 1 = omega (arith, e.place) in k)) (behind_line_feed e.before e.next e.after e.is)

-- and all of them
record Found (xs : List ℕ) (x : ℕ) : Type 0 where
  i : ℕ
  inside : i < length xs
  is : get_or xs i 0 ≡ x

found_by : (t : Bool) (at x : ℕ) (more : List ℕ) → Found more x → Found (cond t (suc at ∷ more) more) x
found_by true at x more f = record { i = suc f.i; inside = omega (arith, f.inside); is = f.is }
found_by false at x more f = f

found_behind : (at b x : ℕ) (bs : List ℕ) → 0 < length bs → Found (starts_in (suc at) bs) x → Found (starts_in at (b ∷ bs)) x
found_behind at b x [] l f = absurd (omega arith)
found_behind at b x (c ∷ bs) l f = found_by (eqb b line_feed) at x (starts_in (suc at) (c ∷ bs)) f

some : (before rest : List ℕ) → 0 < length rest → 0 < length (before ++ rest)
some [] rest l = l
some (b ∷ before) rest l = omega arith

all_found : (at : ℕ) (before : List ℕ) (next : ℕ) (after : List ℕ) → Found (starts_in at (before ++ (line_feed ∷ next ∷ after))) (at + (length before + 1))
all_found at [] next after = record { i = 0; inside = omega arith; is = omega arith }
all_found at (b ∷ before) next after =
    let rest : List ℕ = line_feed ∷ next ∷ after in
    let f : Found (starts_in (suc at) (before ++ rest)) (suc at + (length before + 1)) = all_found (suc at) before next after in
    subst (Found (starts_in at (b ∷ (before ++ rest)))) (let k : suc at + (length before + 1) ≡ at + (length (b ∷ before) + 1) = omega arith in k)
    (found_behind at b (suc at + (length before + 1)) (before ++ rest) (some before rest (omega arith)) f)

found_start : (source : List ℕ) (k : ℕ) → IsLineStart source k → Found (line_starts source) k
found_start source k start_of_source = record { i = 0; inside = omega arith; is = refl }
found_start source k (behind_line_feed before next after e) =
    let f : Found (starts_in 0 source) (0 + (length before + 1)) = subst (λ l. Found (starts_in 0 l) (0 + (length before + 1))) (sym e) (all_found 0 before next after) in
    record { i = suc f.i; inside = omega (arith, f.inside); is = omega (arith, f.is) }

-- an element is the same whatever stands for none
at_any : (xs : List ℕ) (i d : ℕ) → i < length xs → get_or xs i d ≡ get_or xs i 0
at_any [] i d l = absurd (omega arith)
at_any (x ∷ xs) zero d l = refl
at_any (x ∷ xs) (suc i) d l = at_any xs i d (omega arith)

pub are_starts : (source : List ℕ) (k : ℕ) → Contains (line_starts source) k → IsLineStart source k
are_starts source k c = subst (IsLineStart source) (sym (at_any (line_starts source) c.0 k c.1) ∙ c.2) (start_at source c.0 c.1)

pub all_starts : (source : List ℕ) (k : ℕ) → IsLineStart source k → Contains (line_starts source) k
all_starts source k h = let f : Found (line_starts source) k = found_start source k h in (f.i, f.inside, at_any (line_starts source) f.i k f.inside ∙ f.is)

-- the position
last_by : (source : List ℕ) (offset n other : ℕ) → Cuts (line_starts source) offset n → IsLineStart source other → other ≤ offset → other ≤ get_or (line_starts source) (n - 1) 0
last_by source offset n other c h l =
    let f : Found (line_starts source) other = found_start source other h in
    let few : f.i < n = ⊎_elim (λ h. h) (λ (m : n ≤ f.i). let over : offset < get_or (line_starts source) f.i 0 = c.high f.i m f.inside in absurd (omega (arith, over, f.is))) (cases_lt f.i n) in
    let up : get_or (line_starts source) f.i 0 ≤ get_or (line_starts source) (n - 1) 0 = ordered (line_starts source) (starts_rise source) f.i (n - 1) (omega arith) (omega (arith, c.few, c.some)) in
    omega (arith, up, f.is)

pub position_is : (source : List ℕ) (offset : ℕ) (p : LineColumn) → Cuts (line_starts source) offset p.line → get_or (line_starts source) (p.line - 1) 0 + p.column ≡ offset + 1 → IsPosition source offset p
position_is source offset p c e = record {
  line = line_is source offset p.line c;
  start = get_or (line_starts source) (p.line - 1) 0;
  begins = start_at source (p.line - 1) (omega (arith, c.some, c.few));
  before = c.low (p.line - 1) (omega (arith, c.some));
  last = λ other h l. last_by source offset p.line other c h l;
  column = e;
}
