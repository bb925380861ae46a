use Rattle.std.proofs.Common.{◌≡◌, ◌≤◌, ◌-◌, ◌<◌, ℕ, sym, ap, subst, ◌∙◌, arith, Ok, None}
use Rattle.decl_spelling.specs.Sections.{window}
use Rattle.decl_spelling.specs.Reading.{start}
use Rattle.decl_spelling.specs.Descriptors.{flat_at}
use Rattle.decl_spelling.specs.Tables.{at, free_to}
use Rattle.decl_spelling.proofs.DeclAtLaws.{strings_are, body_is}
use Rattle.decl_spelling.proofs.TableLaws.{free_within}
use Rattle.decl_reader.specs.Progress.{known}
use Rattle.wire_bytes.specs.declared.fault.ReadFault.{ReadFault}
use Rattle.block_reader.specs.Calls.{sections_of, ahead_of, Stops}
use Rattle.block_reader.specs.Parts.{flat_spelled}
use Rattle.decl_reader.proofs.BegunLemmas.{free_at_least, whole, begun_whole_at, begun_fault_at, body_length}
use Rattle.decl_reader.proofs.reading.Reading.open_at.Goals as goal
use Rattle.decl_reader.proofs.reading.Reading.open_at.Goals.{in-Ok, in-Err-Bytes}

pub new-block-requires-clause-order : goal.new-block-requires-clause-order
new-block-requires-clause-order g c =
    let o = c.args.start in
    let before : o < c.args.holder = c.requires.before in
    subst (λ (n : ℕ). o ≤ n) (sym c.free_to-free.ensures) (free_at_least o c.args.holder (known c.args.parts.now c.args.self.now) (omega arith))

pub new-block-requires-clause-inside : goal.new-block-requires-clause-inside
new-block-requires-clause-inside g c =
    let o = c.args.start in
    let before : o < c.args.holder = c.requires.before in
    let within : c.args.holder ≤ c.args.parts.now.body_len = c.requires.within in
    let free : free_to o c.args.holder (known c.args.parts.now c.args.self.now) ≤ c.args.holder = free_within o c.args.holder (known c.args.parts.now c.args.self.now) (omega arith) in
    omega (arith, c.free_to-free.ensures)

pub overflow_sub-own : goal.overflow_sub-own
overflow_sub-own g c =
    let o = c.args.start in
    let src = sections_of c.args.parts.now in
    let before : o < c.args.holder = c.requires.before in
    let within : c.args.holder ≤ c.args.parts.now.body_len = c.requires.within in
    let size = body_length c.args.parts.now c.requires.sections in
    let least : o ≤ free_to o c.args.holder (known c.args.parts.now c.args.self.now) = free_at_least o c.args.holder (known c.args.parts.now c.args.self.now) (omega arith) in
    let free : free_to o c.args.holder (known c.args.parts.now c.args.self.now) ≤ c.args.holder = free_within o c.args.holder (known c.args.parts.now c.args.self.now) (omega arith) in
    let at : c.free_to-free.result ≡ free_to o c.args.holder (known c.args.parts.now c.args.self.now) = c.free_to-free.ensures in
    let read = whole src (strings_are src c.new-block.ensures.bytes) (body_is src c.new-block.ensures.bytes) o c.free_to-free.result (omega (arith, at, free, size)) (flat_spelled c.in-Ok.flat) (ahead_of c.read_flat.new.block) (omega (arith, at, least))
    (ap (flat_at src) (sym c.new-block.ensures.ahead) ∙ c.in-Ok.ensures) in
    omega (arith, read.begun, c.place.ensures.place)

pub returns : goal.returns
returns g c =
    let done = known c.args.parts.now c.args.self.now in
    let src = sections_of c.args.parts.now in
    let within : c.args.holder ≤ c.args.parts.now.body_len = c.requires.within in
    let size = body_length c.args.parts.now c.requires.sections in
    let less : c.args.start < c.args.holder = c.requires.before in
    let same : c.args.named.value - 32 ≡ c.args.start = omega (arith, c.requires.its_start) in
    let none : at done (c.args.named.value - 32) ≡ None = ap (at done) same ∙ c.requires.new in
    let free : c.free_to-free.result ≡ free_to c.args.start c.args.holder done = c.free_to-free.ensures in
    let there : flat_at src (start (window src c.args.start (free_to c.args.start c.args.holder done))) ≡ flat_at src (ahead_of c.new-block.result)
    = sym (ap (λ (to : ℕ). flat_at src (start (window src c.args.start to))) free) ∙ ap (flat_at src) (sym c.new-block.ensures.ahead) in
    elim c.match-read_flat.branch [
      | in-Ok w ↦ begun_whole_at src c.new-block.ensures.bytes done c.requires.ready.own.stacked c.args.holder c.args.named (omega (arith, c.requires.its_start)) (omega (arith, same)) (omega (arith, within, size)) none
          c.args.start same w.in-Ok.flat c.read_flat.new.block c.match-read_flat.own (there ∙ w.in-Ok.ensures) (w.own-is ∙ ap (λ (at : ℕ). Ok (w.in-Ok.flat, at - c.args.parts.now.body_at)) w.place.ensures.place)
      | in-Err-Bytes w ↦ begun_fault_at src c.new-block.ensures.bytes done c.requires.ready.own.stacked c.args.holder c.args.named (omega (arith, c.requires.its_start)) (omega (arith, same)) (omega (arith, within, size)) none
          c.args.start same c.read_flat.new.block w.in-Err-Bytes.fault c.match-read_flat.own
          (there ∙ subst (λ (e : ReadFault). Stops e (ahead_of c.read_flat.new.block) (flat_at src (ahead_of c.new-block.result))) w.in-Err-Bytes.field-0-is w.in-Err-Bytes.ensures) w.own-is
    ]
