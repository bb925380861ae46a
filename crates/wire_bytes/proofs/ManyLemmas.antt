-- Things read one after the other: the loop that reads them, and what they are apart from how they are read.
use Rattle.std.proofs.Common.{◌≡◌, ℕ, zero, suc, ◌+◌, ◌-◌, ◌<◌, ◌≤◌, List, [], ◌∷◌, ◌++◌, length, Result, Ok, Err, refl, sym, ap, subst, ◌∙◌, append_assoc, arith}
use Rattle.std.proofs.lemmas.List.{append-nil}
use Rattle.wire_bytes.specs.declared.fault.ByteFault.{ByteFault}
use Rattle.wire_bytes.specs.Reading.{Spot, onward, ◌>>=◌, many, InOrder, Linked}
use Rattle.wire_bytes.proofs.Steps.{bind_ok, done_is}
use Rattle.wire_bytes.proofs.Spellings.{IsBytes}

module _ {X : Type 0} where
  -- what was read before, and what is still read
  abbrev pub with_front : List X → Result (List X × Spot) ByteFault → Result (List X × Spot) ByteFault
  with_front front read = read >>= λ x. Ok (front ++ x.0, x.1)

  regroup : (front : List X) (x : X) (read : Result (List X × Spot) ByteFault) → with_front front (read >>= λ xs. Ok (x ∷ xs.0, xs.1)) ≡ with_front (front ++ x ∷ []) read
  regroup front x (Ok xs) = ap (λ (all : List X). Ok (all, xs.1)) (sym (append_assoc front (x ∷ []) xs.0))
  regroup front x (Err f) = refl

module _ {X K : Type 0} where
  -- ---- the loop

  pub goes_on : (one : K → Spot → Result (X × Spot) ByteFault) (next : X → K) (front : List X) (count i : ℕ) (k : K) (s : Spot) (x : X) (after : Spot) (total : Result (List X × Spot) ByteFault)
      → i < count → one k s ≡ Ok (x, after) → with_front front (many one next (count - i) k s) ≡ total → with_front (front ++ x ∷ []) (many one next (count - (i + 1)) (next x) after) ≡ total
  unfolding many
  goes_on one next front count i k s x after total lt read so_far =
      let left : count - i ≡ suc (count - (i + 1)) = omega arith in
      let step : with_front front (many one next (count - i) k s) ≡ with_front (front ++ x ∷ []) (many one next (count - (i + 1)) (next x) after)
      = rw (left, read) (regroup front x (many one next (count - (i + 1)) (next x) after)) in
      sym step ∙ so_far

  pub fails : (one : K → Spot → Result (X × Spot) ByteFault) (next : X → K) (front : List X) (count i : ℕ) (k : K) (s : Spot) (f : ByteFault) (total : Result (List X × Spot) ByteFault)
      → i < count → one k s ≡ Err f → with_front front (many one next (count - i) k s) ≡ total → total ≡ Err f
  unfolding many
  fails one next front count i k s f total lt read so_far =
      let left : count - i ≡ suc (count - (i + 1)) = omega arith in
      let step : with_front front (many one next (count - i) k s) ≡ Err f = rw (left, read) refl in
      sym so_far ∙ step

  pub is_done : (one : K → Spot → Result (X × Spot) ByteFault) (next : X → K) (front : List X) (count i : ℕ) (k : K) (s : Spot) (total : Result (List X × Spot) ByteFault)
      → count ≤ i → with_front front (many one next (count - i) k s) ≡ total → total ≡ Ok (front, s)
  unfolding many
  is_done one next front count i k s total le so_far =
      let left : count - i ≡ 0 = omega arith in
      let step : with_front front (many one next (count - i) k s) ≡ Ok (front, s) = rw left (ap (λ (all : List X). Ok (all, s)) (append-nil front)) in
      sym so_far ∙ step

-- ---- what they are

-- What a reader took: x stands between the spots, and nothing else changed.
pub record Takes {X : Type 0} (Stands : List ℕ → X → List ℕ → Type 0) (s : Spot) (x : X) (after : Spot) : Type 0 where
  pub stands : Stands s.left x after.left
  pub same_end : after.end ≡ s.end
  pub fits : IsBytes after.left

module _ {X K : Type 0} where
  pub many_takes : (one : K → Spot → Result (X × Spot) ByteFault) (next : X → K) (Stands : List ℕ → X → List ℕ → Type 0) (Fits : K → X → Type 0)
      → ((k : K) (s : Spot) (x : X) (after : Spot) → IsBytes s.left → one k s ≡ Ok (x, after) → Takes Stands s x after × Fits k x)
      → (n : ℕ) (k : K) (s : Spot) (xs : List X) (after : Spot) → IsBytes s.left → many one next n k s ≡ Ok (xs, after)
      → Takes (InOrder Stands) s xs after × Linked Fits next k xs × (length xs ≡ n)
  unfolding many
  many_takes one next Stands Fits takes zero k s xs after fits e =
      subst (λ (p : List X × Spot). Takes (InOrder Stands) s p.0 p.1 × Linked Fits next k p.0 × (length p.0 ≡ 0)) (done_is ([], s) (xs, after) e)
      (record { stands = refl; same_end = refl; fits = fits }, tt, refl)
  many_takes one next Stands Fits takes (suc n) k s xs after fits e =
      let first = bind_ok (one k s) (λ f. many one next n (next f.0) f.1 >>= λ o. Ok (f.0 ∷ o.0, o.1)) (xs, after) e in
      let others = bind_ok (many one next n (next first.0.0) first.0.1) (λ o. Ok (first.0.0 ∷ o.0, o.1)) (xs, after) first.2 in
      let one_taken = takes k s first.0.0 first.0.1 fits first.1 in
      let rest_taken = many_takes one next Stands Fits takes n (next first.0.0) first.0.1 others.0.0 others.0.1 one_taken.0.fits others.1 in
      subst (λ (p : List X × Spot). Takes (InOrder Stands) s p.0 p.1 × Linked Fits next k p.0 × (length p.0 ≡ suc n)) (done_is (first.0.0 ∷ others.0.0, others.0.1) (xs, after) others.2) (
        record {
          stands = (first.0.1.left, one_taken.0.stands, rest_taken.0.stands);
          same_end = rest_taken.0.same_end ∙ one_taken.0.same_end;
          fits = rest_taken.0.fits;
        },
        (one_taken.1, rest_taken.1),
        ap suc rest_taken.2,
      )

  pub many_again : (one : K → Spot → Result (X × Spot) ByteFault) (next : X → K) (Stands : List ℕ → X → List ℕ → Type 0) (Fits : K → X → Type 0)
      → ((k : K) (s : Spot) (x : X) (rest : List ℕ) → Stands s.left x rest → Fits k x → one k s ≡ Ok (x, onward s rest))
      → (k : K) (s : Spot) (xs : List X) (rest : List ℕ) → InOrder Stands s.left xs rest → Linked Fits next k xs → many one next (length xs) k s ≡ Ok (xs, onward s rest)
  unfolding many
  many_again one next Stands Fits again k s [] rest stands linked = ap (λ (bytes : List ℕ). Ok ([], onward s bytes)) stands
  many_again one next Stands Fits again k s (x ∷ xs) rest stands linked =
      let first : one k s ≡ Ok (x, onward s stands.0) = again k s x stands.0 stands.1 linked.0 in
      let others : many one next (length xs) (next x) (onward s stands.0) ≡ Ok (xs, onward s rest) = many_again one next Stands Fits again (next x) (onward s stands.0) xs rest stands.2 linked.1 in
      rw (first, others) refl
