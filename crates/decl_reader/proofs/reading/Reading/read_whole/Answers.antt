use Rattle.std.proofs.Common.{◌≡◌, ◌+◌, ◌-◌, sym, ◌∙◌, ap, subst, length, refl, arith}
use Rattle.std.proofs.lemmas.Result.{err_from_is_err_and}
use Rattle.wire_bytes.specs.Reading.{place}
use Rattle.file_parts.specs.FileParts.{body_of}
use Rattle.decl_spelling.specs.Tables.{Table}
use Rattle.decl_spelling.specs.Declarations.{Read}
use Rattle.block_reader.specs.Calls.{sections_of, ahead_of}
use Rattle.block_reader.specs.Parts.{head_spelled, form_spelled, value_spelled}
use Rattle.decl_reader.specs.Finished.{known_after}
use Rattle.decl_reader.specs.Progress.{remembered, known, IsReady}
use Rattle.decl_reader.proofs.BegunLemmas.{body_length}
use Rattle.decl_reader.proofs.CountsLemmas.{counts_first, counts_twice, counts_most, lies_in, steps_are, steps_most, counts_new}
use Rattle.decl_reader.proofs.JoinedLemmas.{none_ready}
use Rattle.decl_reader.proofs.WholeLemmas.{up_to_types, first_is, whole_read, first_faults, rest_faults, fault_as}
use Rattle.decl_reader.proofs.reading.Reading.read_whole.Goals as goal

pub read_head_types-requires-clause-ready : goal.read_head_types-requires-clause-ready
read_head_types-requires-clause-ready g c = record {
  held = c.requires.memory.held;
  own = none_ready c.args.parts.now.version _ (remembered c.args.self.now) c.args.self.now.finished.items c.args.self.now.places c.requires.memory.held.stacked c.requires.memory.ends c.requires.empty c.requires.none_placed;
}

pub returns-in_err-head-clause-exact : goal.returns-in_err-head-clause-exact
returns-in_err-head-clause-exact g c =
    let p = c.args.parts.now in
    let src = sections_of p in
    let basics = g.B.Basics.meaning c.args.basics.now in
    let size = body_length p c.requires.of_file in
    let memory = remembered c.args.self.now in
    let none = ap (known_after p.version memory) c.requires.empty in
    let same = first_is src basics memory c.args.offset (ahead_of c.args.block.now) _ _ c.requires.block size none in
    let e = err_from_is_err_and c.from_residual.result c.from_residual.ensures.1 in
    rw (e.1, e.2) (first_faults src basics memory c.args.offset c.in_err-head.field-0.0 (fault_as _ _ c.in_err-head.field-0.0 same c.in_err-head.ensures.exact))

pub returns-in_err-whole-clause-exact : goal.returns-in_err-whole-clause-exact
returns-in_err-whole-clause-exact g c =
    let p = c.args.parts.now in
    let src = sections_of p in
    let basics = g.B.Basics.meaning c.args.basics.now in
    let size = body_length p c.requires.of_file in
    let memory = remembered c.args.self.now in
    let none = ap (known_after p.version memory) c.requires.empty in
    let same = first_is src basics memory c.args.offset (ahead_of c.args.block.now) _ _ c.requires.block size none in
    let e = err_from_is_err_and c.from_residual-in_err-whole.result c.from_residual-in_err-whole.ensures.1 in
    rw (e.1, e.2) (rest_faults src basics memory c.args.offset (head_spelled c.in_ok-head.head) _ _ c.in_err-whole.field-0.0 (sym same ∙ c.in_ok-head.ensures.exact) c.in_err-whole.ensures.exact)

pub returns-clause-exact : goal.returns-clause-exact
returns-clause-exact g c =
    let p = c.args.parts.now in
    let src = sections_of p in
    let basics = g.B.Basics.meaning c.args.basics.now in
    let size = body_length p c.requires.of_file in
    let memory = remembered c.args.self.now in
    let none = ap (known_after p.version memory) c.requires.empty in
    let same = first_is src basics memory c.args.offset (ahead_of c.args.block.now) _ _ c.requires.block size none in
    let x : Read = record { form = form_spelled c.in_ok-whole.whole; value = value_spelled c.in_ok-whole.whole; end = place (ahead_of c.read_rest.new.block).spot; table = known p c.read_rest.new.self } in
    let is = whole_read src basics memory c.args.offset (head_spelled c.in_ok-head.head) _ _ x (sym same ∙ c.in_ok-head.ensures.exact) c.in_ok-whole.ensures.exact in
    let new = c.read_rest.new.self in
    let ds = new.finished.items in
    let memory_is : remembered new ≡ memory = c.read_rest.ensures.goes_on.same_memory ∙ c.read_head_types.ensures.goes_on.same_memory in
    let ready = subst (λ (m : Table). IsReady p.version (length (body_of p)) m ds new.places) memory_is c.read_rest.ensures.goes_on.ready.own in
    record {
      read = x;
      is = is;
      form = refl;
      value = refl;
      table = ap (λ (m : Table). known_after p.version m ds) memory_is;
      turn = ready.turn;
      stacked = ready.stacked;
      ends = ready.ends;
    }

pub returns-in_err-head-clause-at_most : goal.returns-in_err-head-clause-at_most
returns-in_err-head-clause-at_most g c =
    let p = c.args.parts.now in
    let size = body_length p c.requires.of_file in
    let memory = remembered c.args.self.now in
    let none = ap (known_after p.version memory) c.requires.empty in
    let on = c.read_head_types.ensures.goes_on in
    let counts = counts_first c.args.self.now.steps.now c.read_head_types.new.self.steps.now memory (known p c.args.self.now) (known p c.read_head_types.new.self) none on.counted in
    omega (arith, size, counts_most _ c.args.self.now.steps.now c.read_head_types.new.self.steps.now memory (known p c.read_head_types.new.self) on.ready.own.stacked on.ready.own.ends counts)

pub returns-in_err-whole-clause-at_most : goal.returns-in_err-whole-clause-at_most
returns-in_err-whole-clause-at_most g c =
    let p = c.args.parts.now in
    let size = body_length p c.requires.of_file in
    let memory = remembered c.args.self.now in
    let none = ap (known_after p.version memory) c.requires.empty in
    let on = c.read_rest.ensures.goes_on in
    let counts = counts_first c.args.self.now.steps.now c.read_rest.new.self.steps.now memory (known p c.args.self.now) (known p c.read_rest.new.self) none
    (counts_twice c.args.self.now.steps.now c.read_head_types.new.self.steps.now c.read_rest.new.self.steps.now (known p c.args.self.now) (known p c.read_head_types.new.self) (known p c.read_rest.new.self) c.read_head_types.ensures.goes_on.counted c.read_rest.ensures.goes_on.counted) in
    omega (arith, size, counts_most _ c.args.self.now.steps.now c.read_rest.new.self.steps.now memory (known p c.read_rest.new.self) on.ready.own.stacked on.ready.own.ends counts)

pub overflow_sub-end : goal.overflow_sub-end
overflow_sub-end g c =
    let p = c.args.parts.now in
    let src = sections_of p in
    let basics = g.B.Basics.meaning c.args.basics.now in
    let size = body_length p c.requires.of_file in
    let memory = remembered c.args.self.now in
    let none = ap (known_after p.version memory) c.requires.empty in
    let same = first_is src basics memory c.args.offset (ahead_of c.args.block.now) _ _ c.requires.block size none in
    let x : Read = record { form = form_spelled c.in_ok-whole.whole; value = value_spelled c.in_ok-whole.whole; end = place (ahead_of c.read_rest.new.block).spot; table = known p c.read_rest.new.self } in
    let is = whole_read src basics memory c.args.offset (head_spelled c.in_ok-head.head) _ _ x (sym same ∙ c.in_ok-head.ensures.exact) c.in_ok-whole.ensures.exact in
    let lies = lies_in src basics c.requires.bytes memory c.requires.memory.memory c.args.offset x is in
    omega (arith, lies.0, c.place.ensures.place)

pub overflow_sub-end-2 : goal.overflow_sub-end-2
overflow_sub-end-2 g c =
    let p = c.args.parts.now in
    let src = sections_of p in
    let basics = g.B.Basics.meaning c.args.basics.now in
    let size = body_length p c.requires.of_file in
    let memory = remembered c.args.self.now in
    let none = ap (known_after p.version memory) c.requires.empty in
    let same = first_is src basics memory c.args.offset (ahead_of c.args.block.now) _ _ c.requires.block size none in
    let x : Read = record { form = form_spelled c.in_ok-whole.whole; value = value_spelled c.in_ok-whole.whole; end = place (ahead_of c.read_rest.new.block).spot; table = known p c.read_rest.new.self } in
    let is = whole_read src basics memory c.args.offset (head_spelled c.in_ok-head.head) _ _ x (sym same ∙ c.in_ok-head.ensures.exact) c.in_ok-whole.ensures.exact in
    let lies = lies_in src basics c.requires.bytes memory c.requires.memory.memory c.args.offset x is in
    omega (arith, lies.0, c.place.ensures.place)

pub returns-clause-counted : goal.returns-clause-counted
returns-clause-counted g c =
    let p = c.args.parts.now in
    let src = sections_of p in
    let basics = g.B.Basics.meaning c.args.basics.now in
    let size = body_length p c.requires.of_file in
    let memory = remembered c.args.self.now in
    let none = ap (known_after p.version memory) c.requires.empty in
    let same = first_is src basics memory c.args.offset (ahead_of c.args.block.now) _ _ c.requires.block size none in
    let x : Read = record { form = form_spelled c.in_ok-whole.whole; value = value_spelled c.in_ok-whole.whole; end = place (ahead_of c.read_rest.new.block).spot; table = known p c.read_rest.new.self } in
    let is = whole_read src basics memory c.args.offset (head_spelled c.in_ok-head.head) _ _ x (sym same ∙ c.in_ok-head.ensures.exact) c.in_ok-whole.ensures.exact in
    let counts = counts_first c.args.self.now.steps.now c.read_rest.new.self.steps.now memory (known p c.args.self.now) (known p c.read_rest.new.self) none
    (counts_twice c.args.self.now.steps.now c.read_head_types.new.self.steps.now c.read_rest.new.self.steps.now (known p c.args.self.now) (known p c.read_head_types.new.self) (known p c.read_rest.new.self) c.read_head_types.ensures.goes_on.counted c.read_rest.ensures.goes_on.counted) in
    let more = c.place.result - p.body_at - c.args.offset in
    let own : more ≡ x.end - (src.body_at + c.args.offset) = omega (arith, c.place.ensures.place) in
    let risen = steps_are src basics c.requires.bytes memory c.requires.memory.memory c.args.offset x is (known p c.read_rest.new.self) c.args.self.now.steps.now c.read_rest.new.self.steps.now c.add.new.self more refl counts c.add.ensures own in
    counts_new src basics c.requires.bytes memory c.requires.memory.memory c.args.offset x is c.args.self.now.steps.now c.add.new.self risen

pub returns-clause-at_most : goal.returns-clause-at_most
returns-clause-at_most g c =
    let p = c.args.parts.now in
    let src = sections_of p in
    let basics = g.B.Basics.meaning c.args.basics.now in
    let size = body_length p c.requires.of_file in
    let memory = remembered c.args.self.now in
    let none = ap (known_after p.version memory) c.requires.empty in
    let same = first_is src basics memory c.args.offset (ahead_of c.args.block.now) _ _ c.requires.block size none in
    let x : Read = record { form = form_spelled c.in_ok-whole.whole; value = value_spelled c.in_ok-whole.whole; end = place (ahead_of c.read_rest.new.block).spot; table = known p c.read_rest.new.self } in
    let is = whole_read src basics memory c.args.offset (head_spelled c.in_ok-head.head) _ _ x (sym same ∙ c.in_ok-head.ensures.exact) c.in_ok-whole.ensures.exact in
    let counts = counts_first c.args.self.now.steps.now c.read_rest.new.self.steps.now memory (known p c.args.self.now) (known p c.read_rest.new.self) none
    (counts_twice c.args.self.now.steps.now c.read_head_types.new.self.steps.now c.read_rest.new.self.steps.now (known p c.args.self.now) (known p c.read_head_types.new.self) (known p c.read_rest.new.self) c.read_head_types.ensures.goes_on.counted c.read_rest.ensures.goes_on.counted) in
    let more = c.place.result - p.body_at - c.args.offset in
    let own : more ≡ x.end - (src.body_at + c.args.offset) = omega (arith, c.place.ensures.place) in
    let risen = steps_are src basics c.requires.bytes memory c.requires.memory.memory c.args.offset x is (known p c.read_rest.new.self) c.args.self.now.steps.now c.read_rest.new.self.steps.now c.add.new.self more refl counts c.add.ensures own in
    omega (arith, size, risen, steps_most src basics c.requires.bytes memory c.requires.memory.memory c.args.offset x is)

pub read_rest-requires-clause-whole : goal.read_rest-requires-clause-whole
read_rest-requires-clause-whole g c =
    let src = sections_of c.args.parts.now in
    up_to_types src c.requires.bytes c.args.offset _ c.in_ok-head.head _ _ _ _ c.requires.block c.in_ok-head.ensures.exact
