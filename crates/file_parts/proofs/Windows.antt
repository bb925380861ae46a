-- A part of the data section, as a part of the file.
use Rattle.std.proofs.Common.{◌≡◌, ℕ, ◌+◌, ◌-◌, ◌≤◌, List, take, drop, sym, ap, ◌∙◌, arith, slice_range}
use Rattle.std.proofs.lemmas.List.{take-take, drop-take, drop-drop}

pub window_is : (file : List ℕ) (at len from to : ℕ) → from ≤ to → to ≤ len → take (at + to - (at + from)) (drop (at + from) file) ≡ take (to - from) (drop from (slice_range file at (at + len)))
window_is file at len from to order inside =
    let length_is : at + to - (at + from) ≡ to - from = omega arith in
    let section : at + len - at ≡ from + (len - from) = omega arith in
    let front : drop from (take (at + len - at) (drop at file)) ≡ take (len - from) (drop from (drop at file))
    = ap (λ (n : ℕ). drop from (take n (drop at file))) section ∙ drop-take from (len - from) (drop at file) in
    let behind : take (len - from) (drop from (drop at file)) ≡ take (len - from) (drop (at + from) file) = ap (take (len - from)) (drop-drop from at file) in
    ap (λ (n : ℕ). take n (drop (at + from) file)) length_is
    ∙ sym (take-take (to - from) (len - from) (drop (at + from) file) (omega arith))
    ∙ ap (take (to - from)) (sym (front ∙ behind))
