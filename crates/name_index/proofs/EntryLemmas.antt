-- The names of a package: what is read stands there, and what stands there is read.
use Rattle.std.proofs.Common.{◌≡◌, ℕ, List, length, map, Option, Some, None, ltb, Ok, refl, subst, ◌∙◌}
use Rattle.std.proofs.lemmas.Bool.{ltb-true, lt-ltb}
use Rattle.wire_bytes.specs.declared.fault.ByteFault.TheVariants as faults
use Rattle.wire_bytes.specs.Reading.{Spot, place, onward, ◌>>=◌, demand, or_fault, InOrder}
use Rattle.wire_bytes.specs.Uvarint.{BeginsWith, uvarint_at}
use Rattle.wire_bytes.specs.Text.{Text, text_in}
use Rattle.wire_bytes.proofs.Steps.{bind_ok, demand_ok, done_is}
use Rattle.wire_bytes.proofs.Spellings.{IsBytes}
use Rattle.wire_bytes.proofs.TextLemmas.{text_takes, text_again}
use Rattle.wire_bytes.proofs.ManyLemmas.{Takes, many_takes, many_again}
use Rattle.wire_bytes.proofs.CursorLemmas.{uvarint_at_takes, uvarint_at_again, or_fault_ok}
use Rattle.name_index.specs.FullFile.{Entry}
use Rattle.wire_bytes.specs.Order.{rises, Rise}
use Rattle.name_index.specs.Envelope.{IsEntry}
use Rattle.name_index.specs.FirstBreach.{text_offset_at, entry_at, entries_at}
use Rattle.name_index.proofs.RiseLemmas.{Rising, linked_rise, rise_linked}

-- an offset, and the text to which it leads
abbrev pub LeadsTo : List ℕ → List ℕ → ℕ × List ℕ → List ℕ → Type 0
LeadsTo strings bytes x rest = BeginsWith bytes x.0 rest × Text strings x.0 x.1

pub text_offset_takes : (strings : List ℕ) (s : Spot) (x : ℕ × List ℕ) (after : Spot) → IsBytes strings → IsBytes s.left → text_offset_at strings s ≡ Ok (x, after) → Takes (LeadsTo strings) s x after
unfolding text_offset_at
text_offset_takes strings s x after texts fits e =
    let number = bind_ok (uvarint_at s) (λ o. or_fault (faults.Range (place s) o.0) (text_in strings o.0) >>= λ t. Ok ((o.0, t), o.1)) (x, after) e in
    let text = bind_ok (or_fault (faults.Range (place s) number.0.0) (text_in strings number.0.0)) (λ t. Ok ((number.0.0, t), number.0.1)) (x, after) number.2 in
    let taken = uvarint_at_takes s number.0.0 number.0.1 fits number.1 in
    let there = text_takes strings number.0.0 text.0 texts (or_fault_ok _ (text_in strings number.0.0) text.0 text.1) in
    subst (λ (p : (ℕ × List ℕ) × Spot). Takes (LeadsTo strings) s p.0 p.1) (done_is ((number.0.0, text.0), number.0.1) (x, after) text.2)
    (record { stands = (taken.stands, there); same_end = taken.same_end; fits = taken.fits })

pub text_offset_again : (strings : List ℕ) (s : Spot) (x : ℕ × List ℕ) (rest : List ℕ) → LeadsTo strings s.left x rest → text_offset_at strings s ≡ Ok (x, onward s rest)
unfolding text_offset_at
text_offset_again strings s x rest stands =
    rw (uvarint_at_again s x.0 rest stands.0, text_again strings x.0 x.1 stands.1) refl

pub entry_takes : (strings : List ℕ) (size : ℕ) (last : Option (List ℕ)) (s : Spot) (x : Entry) (after : Spot) → IsBytes strings → IsBytes s.left → entry_at strings size last s ≡ Ok (x, after)
    → Takes (IsEntry strings size) s x after × Rising (λ e. e.name) last x
unfolding entry_at
entry_takes strings size last s x after texts fits e =
    let name = bind_ok (text_offset_at strings s) (λ n. demand (rises last n.0.1) (faults.Order (place s)) >>= λ _. uvarint_at n.1 >>= λ o. demand (ltb o.0 size) (faults.Range (place n.1) o.0) >>= λ _. Ok (record { name = n.0.1; offset = o.0 }, o.1)) (x, after) e in
    let n = name.0 in
    let rising = bind_ok (demand (rises last n.0.1) (faults.Order (place s))) (λ _. uvarint_at n.1 >>= λ o. demand (ltb o.0 size) (faults.Range (place n.1) o.0) >>= λ _. Ok (record { name = n.0.1; offset = o.0 }, o.1)) (x, after) name.2 in
    let offset = bind_ok (uvarint_at n.1) (λ o. demand (ltb o.0 size) (faults.Range (place n.1) o.0) >>= λ _. Ok (record { name = n.0.1; offset = o.0 }, o.1)) (x, after) rising.2 in
    let o = offset.0 in
    let inside = bind_ok (demand (ltb o.0 size) (faults.Range (place n.1) o.0)) (λ _. Ok (record { name = n.0.1; offset = o.0 }, o.1)) (x, after) offset.2 in
    let first = text_offset_takes strings s n.0 n.1 texts fits name.1 in
    let second = uvarint_at_takes n.1 o.0 o.1 first.fits offset.1 in
    let made : Entry × Spot = (record { name = n.0.1; offset = o.0 }, o.1) in
    subst (λ (p : Entry × Spot). Takes (IsEntry strings size) s p.0 p.1 × Rising (λ e. e.name) last p.0) (done_is made (x, after) inside.2) (
      record {
        stands = (n.1.left, (n.0.0, first.stands.0, first.stands.1), second.stands, ltb-true o.0 size (demand_ok (ltb o.0 size) (faults.Range (place n.1) o.0) inside.0 inside.1));
        same_end = second.same_end ∙ first.same_end;
        fits = second.fits;
      },
      demand_ok (rises last n.0.1) (faults.Order (place s)) rising.0 rising.1,
    )

pub entry_again : (strings : List ℕ) (size : ℕ) (last : Option (List ℕ)) (s : Spot) (x : Entry) (rest : List ℕ) → IsEntry strings size s.left x rest → Rising (λ e. e.name) last x
    → entry_at strings size last s ≡ Ok (x, onward s rest)
unfolding entry_at
entry_again strings size last s x rest stands rising =
    let next = stands.0 in
    let offset = stands.1.0 in
    let name : text_offset_at strings s ≡ Ok ((offset, x.name), onward s next) = text_offset_again strings s (offset, x.name) next (stands.1.1, stands.1.2) in
    let number : uvarint_at (onward s next) ≡ Ok (x.offset, onward s rest) = uvarint_at_again (onward s next) x.offset rest stands.2 in
    rw (name, rising, number, lt-ltb x.offset size stands.3) refl

pub entries_take : (strings : List ℕ) (size n : ℕ) (s : Spot) (xs : List Entry) (after : Spot) → IsBytes strings → IsBytes s.left → entries_at strings size n s ≡ Ok (xs, after)
    → Takes (InOrder (IsEntry strings size)) s xs after × Rise (map (λ e. e.name) xs) × (length xs ≡ n)
entries_take strings size n s xs after texts fits e =
    let taken = many_takes (entry_at strings size) (λ e. Some e.name) (IsEntry strings size) (Rising (λ e. e.name)) (λ k s x after fits e. entry_takes strings size k s x after texts fits e) n None s xs after fits e in
    (taken.0, linked_rise (λ e. e.name) xs taken.1, taken.2)

pub entries_again : (strings : List ℕ) (size : ℕ) (s : Spot) (xs : List Entry) (rest : List ℕ) → InOrder (IsEntry strings size) s.left xs rest → Rise (map (λ e. e.name) xs)
    → entries_at strings size (length xs) s ≡ Ok (xs, onward s rest)
entries_again strings size s xs rest stands rising =
    many_again (entry_at strings size) (λ e. Some e.name) (IsEntry strings size) (Rising (λ e. e.name)) (λ k s x rest stands rises. entry_again strings size k s x rest stands rises) None s xs rest stands (rise_linked (λ e. e.name) xs rising)
