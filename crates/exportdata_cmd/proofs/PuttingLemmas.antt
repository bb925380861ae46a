-- What is put one after the other, and the loops that put lines.
use Rattle.std.proofs.Common.{min, subst, ◌≡◌, ℕ, zero, suc, ◌+◌, ◌≤◌, List, [], ◌∷◌, ◌++◌, length, take, drop, Option}
use Rattle.std.proofs.Common.{Some, None, Result, Ok, Err, slice_get, refl, sym, ◌∙◌, ap, append_assoc, arith, add-one}
use Rattle.std.specs.List.{concat, flat_map}
use Rattle.std.proofs.lemmas.List.{append-nil, take-append-le, length-append, take_min, take_all}
use Rattle.std.proofs.lemmas.Result.{on_ok_weaker}
use Rattle.std.proofs.lemmas.List.Concat.{flat_map-append}
use Rattle.std.proofs.lemmas.List.Folds.{concat-append}
use Rattle.std.proofs.Math.Seq.{take-append-add}
use Rattle.outside.specs.Sinks.{SinkState, IfBothWritten, AddsPrefix, Wrote, WroteSome}
use Rattle.exportdata_cmd.specs.Printed.{Line}
use Rattle.exportdata_cmd.specs.Putting.{PutsLines}
use Rattle.exportdata_cmd.specs.declared.putting.PutFault.{PutFault}
use Rattle.exportdata_cmd.specs.declared.putting.PutFault.TheVariants.{Failed, OutOfMemory}

-- ONE TEXT AFTER ANOTHER

same : (a : Option (List ℕ)) → IfBothWritten a a (λ x y. y ≡ x ++ [])
same (Some x) = sym (append-nil x)
same None = tt

both : (a b c : Option (List ℕ)) (s t : List ℕ) → IfBothWritten a b (λ x y. y ≡ x ++ s)
    → IfBothWritten b c (λ x y. y ≡ x ++ t) → IfBothWritten a c (λ x y. y ≡ x ++ (s ++ t))
both (Some x) (Some y) (Some z) s t e f = rw (f, e, append_assoc) refl
both (Some x) (Some y) None s t e f = absurd f
both (Some x) None c s t e f = absurd e
both None (Some y) c s t e f = absurd e
both None None (Some z) s t e f = absurd f
both None None None s t e f = tt

prefix : (x y z s t : List ℕ) → y ≡ x ++ s → AddsPrefix t y z → AddsPrefix (s ++ t) x z
prefix x y z s t e (n, short, f) = (
  length s + n,
  simp length-append (omega arith),
  f ∙ ap (λ (w : List ℕ). w ++ take n t) e ∙ append_assoc x s (take n t)
      ∙ ap (λ (w : List ℕ). x ++ w) (sym (take-append-add s t n)),
)

both_part : (a b c : Option (List ℕ)) (s t : List ℕ) → IfBothWritten a b (λ x y. y ≡ x ++ s)
    → IfBothWritten b c (AddsPrefix t) → IfBothWritten a c (AddsPrefix (s ++ t))
both_part (Some x) (Some y) (Some z) s t e f = prefix x y z s t e f
both_part (Some x) (Some y) None s t e f = absurd f
both_part (Some x) None c s t e f = absurd e
both_part None (Some y) c s t e f = absurd e
both_part None None (Some z) s t e f = absurd f
both_part None None None s t e f = tt

longer : (x z s t : List ℕ) → AddsPrefix s x z → AddsPrefix (s ++ t) x z
longer x z s t (n, short, f) =
    (n, simp length-append (omega arith), f ∙ ap (λ (w : List ℕ). x ++ w) (sym (take-append-le n s t short)))

part_longer : (a b : Option (List ℕ)) (s t : List ℕ) → IfBothWritten a b (AddsPrefix s)
    → IfBothWritten a b (AddsPrefix (s ++ t))
part_longer (Some x) (Some z) s t f = longer x z s t f
part_longer (Some x) None s t f = absurd f
part_longer None (Some z) s t f = absurd f
part_longer None None s t f = tt

pub wrote_nothing : (a : SinkState) → Wrote a a []
wrote_nothing a = record { added = same a.written; sound = refl }

pub wrote_both : (a b c : SinkState) (s t : List ℕ) → Wrote a b s → Wrote b c t → Wrote a c (s ++ t)
wrote_both a b c s t first second = record {
  added = both a.written b.written c.written s t first.added second.added;
  sound = second.sound ∙ first.sound;
}

pub wrote_then_part : (a b c : SinkState) (s t : List ℕ) → Wrote a b s → WroteSome b c t → WroteSome a c (s ++ t)
wrote_then_part a b c s t first second = record {
  added = both_part a.written b.written c.written s t first.added second.added;
  failed = rw (sym first.sound) second.failed;
}

pub wrote_part : (a b : SinkState) (s t : List ℕ) → WroteSome a b s → WroteSome a b (s ++ t)
wrote_part a b s t part = record { added = part_longer a.written b.written s t part.added; failed = part.failed }

-- LINES AFTER LINES

-- lines were put, and then others, all of them or some
pub puts_then : (a b c : SinkState) (xs ys : List Line) (r : Result (Unit {0}) PutFault) → Wrote a b (concat xs)
    → PutsLines ys r b c → PutsLines (xs ++ ys) r a c
puts_then a b c xs ys r first second = record {
  whole = rw (concat-append xs ys) (on_ok_weaker r (wrote_both a b c (concat xs) (concat ys) first) second.whole);
  broken = λ e. rw (concat-append xs ys) (wrote_then_part a b c (concat xs) (concat ys) first (second.broken e));
  starved = λ e.
      let some = second.starved e in (
        length xs + some.0,
        rw (take-append-add xs ys some.0, concat-append xs (take some.0 ys)) (wrote_both a b c (concat xs) (concat (take some.0 ys)) first some.1),
      );
}

-- where not all lines were put, those that would have followed change nothing
pub puts_fewer : (a b : SinkState) (xs ys : List Line) (e : PutFault) → PutsLines xs (Err e) a b
    → PutsLines (xs ++ ys) (Err e) a b
puts_fewer a b xs ys e puts = record {
  whole = tt;
  broken = λ is. rw (concat-append xs ys) (wrote_part a b (concat xs) (concat ys) (puts.broken is));
  starved = λ is.
      let some = puts.starved is in
      let n = min some.0 (length xs) in
      let within : n ≤ length xs = omega arith in
      let front : take n (xs ++ ys) ≡ take some.0 xs = take-append-le n xs ys within ∙ take_min some.0 xs in
      (n, subst (λ (ls : List Line). Wrote a b (concat ls)) (sym front) some.1);
}

-- the same lines, and the same result
pub puts_as : (a b : SinkState) (xs ys : List Line) (r s : Result (Unit {0}) PutFault) → xs ≡ ys → r ≡ s
    → PutsLines ys s a b → PutsLines xs r a b
puts_as a b xs ys r s lines result puts =
    subst (λ (w : List Line). PutsLines w r a b) (sym lines) (subst (λ (w : Result (Unit {0}) PutFault). PutsLines ys w a b) (sym result) puts)

-- THE LOOPS: the lines of each element of a list

divided : {X : Type 0} (xs : List X) (k : ℕ) (x : X) → slice_get xs k ≡ Some x → xs ≡ take k xs ++ (x ∷ drop (suc k) xs)
divided [] k x e = cc
divided (y ∷ ys) zero x e = cc
divided (y ∷ ys) (suc k) x e = ap (λ zs. y ∷ zs) (divided ys k x e)

pub one_more : {X : Type 0} (xs : List X) (k : ℕ) (x : X) → slice_get xs k ≡ Some x
    → take (suc k) xs ≡ take k xs ++ (x ∷ [])
one_more [] k x e = cc
one_more (y ∷ ys) zero x e = cc
one_more (y ∷ ys) (suc k) x e = ap (λ zs. y ∷ zs) (one_more ys k x e)

not_err : (e : PutFault) → ◌≡◌ {A = Result (Unit {0}) PutFault} (Ok tt) (Err e) → ⊥
not_err e is = cc

module _ {X : Type 0} (lines : X → List Line) (xs : List X) where
  pub loop_begins : (a : SinkState) → Wrote a a (concat (flat_map lines (take 0 xs)))
  loop_begins a = wrote_nothing a

  pub loop_goes_on : (a b c : SinkState) (k : ℕ) (x : X) → slice_get xs k ≡ Some x
      → Wrote a b (concat (flat_map lines (take k xs))) → PutsLines (lines x) (Ok tt) b c
      → Wrote a c (concat (flat_map lines (take (k + 1) xs)))
  loop_goes_on a b c k x is first second =
      rw (add-one k, one_more xs k x is, flat_map-append lines (take k xs) (x ∷ []), append-nil (lines x), concat-append (flat_map lines (take k xs)) (lines x))
      (wrote_both a b c _ _ first second.whole)

  pub loop_stops : (a b c : SinkState) (k : ℕ) (x : X) (e : PutFault) → slice_get xs k ≡ Some x
      → Wrote a b (concat (flat_map lines (take k xs))) → PutsLines (lines x) (Err e) b c
      → PutsLines (flat_map lines xs) (Err e) a c
  loop_stops a b c k x e is first second =
      let before = flat_map lines (take k xs) in
      let after = flat_map lines (drop (suc k) xs) in
      let whole : flat_map lines xs ≡ before ++ (lines x ++ after) =
      ap (flat_map lines) (divided xs k x is) ∙ flat_map-append lines (take k xs) (x ∷ drop (suc k) xs) in
      subst (λ (ls : List Line). PutsLines ls (Err e) a c) (sym whole)
      (puts_then a b c before (lines x ++ after) (Err e) first (puts_fewer b c (lines x) after e second))

  pub loop_ends : (a b : SinkState) (k : ℕ) → length xs ≤ k
      → Wrote a b (concat (flat_map lines (take k xs))) → PutsLines (flat_map lines xs) (Ok tt) a b
  loop_ends a b k h all = record {
    whole = rw (take_all k xs h) at all;
    broken = λ e. absurd (not_err Failed e);
    starved = λ e. absurd (not_err OutOfMemory e);
  }
