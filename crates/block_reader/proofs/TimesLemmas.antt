-- Things read one after the other: the loop that reads them.
use Rattle.std.proofs.Common.{◌≡◌, ℕ, suc, ◌+◌, ◌-◌, ◌<◌, ◌≤◌, List, [], ◌∷◌, ◌++◌, Result, Ok, Err, refl, sym, ap, ◌∙◌, append_assoc, arith}
use Rattle.std.proofs.lemmas.List.{append-nil}
use Rattle.wire_bytes.specs.declared.fault.ReadFault.{ReadFault}
use Rattle.wire_bytes.specs.declared.fault.ReadFault.TheVariants.{Bytes, OutOfMemory}
use Rattle.wire_bytes.specs.Reading.{◌>>=◌}
use Rattle.decl_spelling.specs.Reading.{Ahead, Reader, Stopped, times}
use Rattle.block_reader.specs.Calls.{Stops}

module _ {X : Type 0} where
  -- what was read before, and what is still read
  abbrev pub with_front : List X → Result (List X × Ahead) Stopped → Result (List X × Ahead) Stopped
  with_front front read = read >>= λ x. Ok (front ++ x.0, x.1)

  regroup : (front : List X) (x : X) (read : Result (List X × Ahead) Stopped) → with_front front (read >>= λ xs. Ok (x ∷ xs.0, xs.1)) ≡ with_front (front ++ x ∷ []) read
  regroup front x (Ok xs) = ap (λ (all : List X). Ok (all, xs.1)) (sym (append_assoc front (x ∷ []) xs.0))
  regroup front x (Err f) = refl

  pub goes_on : (one : Reader X) (front : List X) (count i : ℕ) (a : Ahead) (x : X) (after : Ahead) (total : Result (List X × Ahead) Stopped)
      → i < count → one a ≡ Ok (x, after) → with_front front (times one (count - i) a) ≡ total → with_front (front ++ x ∷ []) (times one (count - (i + 1)) after) ≡ total
  unfolding times
  goes_on one front count i a x after total lt read so_far =
      let left : count - i ≡ suc (count - (i + 1)) = omega arith in
      let step : with_front front (times one (count - i) a) ≡ with_front (front ++ x ∷ []) (times one (count - (i + 1)) after)
      = rw (left, read) (regroup front x (times one (count - (i + 1)) after)) in
      sym step ∙ so_far

  fails : (one : Reader X) (front : List X) (count i : ℕ) (a : Ahead) (s : Stopped) (total : Result (List X × Ahead) Stopped)
      → i < count → one a ≡ Err s → with_front front (times one (count - i) a) ≡ total → total ≡ Err s
  unfolding times
  fails one front count i a s total lt read so_far =
      let left : count - i ≡ suc (count - (i + 1)) = omega arith in
      let step : with_front front (times one (count - i) a) ≡ Err s = rw (left, read) refl in
      sym so_far ∙ step

  pub is_done : (one : Reader X) (front : List X) (count i : ℕ) (a : Ahead) (total : Result (List X × Ahead) Stopped)
      → count ≤ i → with_front front (times one (count - i) a) ≡ total → total ≡ Ok (front, a)
  unfolding times
  is_done one front count i a total le so_far =
      let left : count - i ≡ 0 = omega arith in
      let step : with_front front (times one (count - i) a) ≡ Ok (front, a) = rw left (ap (λ (all : List X). Ok (all, a)) (append-nil front)) in
      sym so_far ∙ step

-- an item that couldn't be read ends the reading of them all
pub ends : {Y : Type 0} (e : ReadFault) (one : Reader Y) (front : List Y) (count i : ℕ) (a new : Ahead) (total : Result (List Y × Ahead) Stopped)
    → i < count → Stops e new (one a) → with_front front (times one (count - i) a) ≡ total → Stops e new total
ends (Bytes f) one front count i a new total lt failed so_far = fails one front count i a (record { fault = f; mentions = new.mentions }) total lt failed so_far
ends OutOfMemory one front count i a new total lt failed so_far = tt
