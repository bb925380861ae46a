use Rattle.std.proofs.Common.{sym, ap, subst, ◌∙◌, arith, rules, Ok}
use Rattle.block_reader.specs.Calls.{sections_of}
use Rattle.block_reader.specs.Parts.{flat_spelled}
use Rattle.decl_spelling.specs.Tables.{Table, type_named}
use Rattle.decl_reader.specs.declared.finished.Descriptor.{Descriptor}
use Rattle.decl_reader.specs.Finished.{MayJoin, known_after}
use Rattle.decl_reader.specs.Opens.{IsFinished, checked_type}
use Rattle.decl_reader.specs.Places.{bytes_of}
use Rattle.decl_reader.specs.Progress.{remembered, known}
use Rattle.decl_reader.proofs.ClosedLemmas.{none_found, joined_ok, joined_fault, joined_finished}
use Rattle.decl_reader.proofs.EntryLemmas.{added_room}
use Rattle.decl_reader.proofs.JoinedLemmas.{joined_known, joined_ready, joined_counts, same_ready}
use Rattle.decl_reader.proofs.MeantLemmas.{tree_is}
use Rattle.decl_reader.proofs.reading.Reading.finish.Goals as goal

pub returns-in_err-join-clause-goes_on : goal.returns-in_err-join-clause-goes_on
returns-in_err-join-clause-goes_on g c =
    let p = c.args.parts.now in
    let same = c.in_err-join.ensures.same in
    let same_known = ap bytes_of (ap (known_after p.version (remembered c.args.self.now)) same) in
    record {
      ready = record { held = c.requires.ready.held; own = same_ready p.version _ (remembered c.args.self.now) c.args.self.now.finished.items c.join.new.finished.items c.args.self.now.places c.join.new.places same c.in_err-join.ensures.same_places c.requires.ready.own };
      same_memory = search rules;
      counted = omega (arith, same_known);
      same_steps = search rules;
    }

pub returns-in-Ok-clause-exact : goal.returns-in-Ok-clause-exact
returns-in-Ok-clause-exact g c =
    let p = c.args.parts.now in
    let src = sections_of p in
    let v = p.version in
    let ds = c.args.self.now.finished.items in
    let done = known p c.args.self.now in
    let d : Descriptor = record { start = c.args.start; end = c.args.end; flat = c.args.flat } in
    let now_is = joined_known v (remembered c.args.self.now) ds c.join.new.finished.items d c.in_ok-join.ensures.finished in
    let ok = ap (checked_type c.args.named) (tree_is v done c.args.flat) ∙ sym (c.check_flat-met.ensures (type_named v done)) ∙ c.in-Ok.is in
    joined_ok src done c.args.start (flat_spelled c.args.flat) c.args.end c.args.named c.requires.its_start _ ok ∙ ap (λ (t : Table). Ok t) (sym now_is)

pub returns-in-Err-clause-exact : goal.returns-in-Err-clause-exact
returns-in-Err-clause-exact g c =
    let p = c.args.parts.now in
    let src = sections_of p in
    let v = p.version in
    let ds = c.args.self.now.finished.items in
    let done = known p c.args.self.now in
    let d : Descriptor = record { start = c.args.start; end = c.args.end; flat = c.args.flat } in
    let now_is = joined_known v (remembered c.args.self.now) ds c.join.new.finished.items d c.in_ok-join.ensures.finished in
    let fault = ap (checked_type c.args.named) (tree_is v done c.args.flat) ∙ sym (c.check_flat-met.ensures (type_named v done)) ∙ c.in-Err.is in
    joined_fault src done c.args.start (flat_spelled c.args.flat) c.args.end c.args.named c.requires.its_start c.in-Err.fault fault

pub returns-in-Ok-clause-finished : goal.returns-in-Ok-clause-finished
returns-in-Ok-clause-finished g c =
    let p = c.args.parts.now in
    let src = sections_of p in
    let v = p.version in
    let ds = c.args.self.now.finished.items in
    let done = known p c.args.self.now in
    let d : Descriptor = record { start = c.args.start; end = c.args.end; flat = c.args.flat } in
    let now_is = joined_known v (remembered c.args.self.now) ds c.join.new.finished.items d c.in_ok-join.ensures.finished in
    let ok = ap (checked_type c.args.named) (tree_is v done c.args.flat) ∙ sym (c.check_flat-met.ensures (type_named v done)) ∙ c.in-Ok.is in
    let none = none_found c.args.start c.args.end done c.requires.ready.own.stacked c.requires.room c.requires.some in
    subst (λ (t : Table). IsFinished src done t c.args.named c.args.end) (sym now_is)
    (joined_finished src done c.args.start (flat_spelled c.args.flat) c.args.end c.args.named c.requires.its_start _ none ok (λ from to ends room. added_room from to done c.args.start (record { end = c.args.end; tree = _ }) ends room))

pub returns-in-Ok-clause-goes_on : goal.returns-in-Ok-clause-goes_on
returns-in-Ok-clause-goes_on g c =
    let p = c.args.parts.now in
    let src = sections_of p in
    let v = p.version in
    let ds = c.args.self.now.finished.items in
    let done = known p c.args.self.now in
    let d : Descriptor = record { start = c.args.start; end = c.args.end; flat = c.args.flat } in
    let now_is = joined_known v (remembered c.args.self.now) ds c.join.new.finished.items d c.in_ok-join.ensures.finished in
    let none = none_found c.args.start c.args.end done c.requires.ready.own.stacked c.requires.room c.requires.some in
    let may : MayJoin v done d = record { new = none; generic = c.requires.generic } in
    record {
      ready = record { held = c.requires.ready.held; own = joined_ready v _ (remembered c.args.self.now) ds c.args.self.now.places d c.requires.ready.own may c.requires.some c.requires.inside c.requires.room c.join.new.finished.items c.join.new.places c.in_ok-join.ensures.finished c.in_ok-join.ensures.placed };
      same_memory = search rules;
      counted = joined_counts v _ (remembered c.args.self.now) ds c.args.self.now.places d c.requires.ready.own may c.requires.some c.requires.inside c.requires.room c.join.new.finished.items c.args.self.now.steps.now c.add.new.self c.in_ok-join.ensures.finished (omega (arith, c.add.ensures));
      same_steps = search rules;
    }

pub returns-in-Err-clause-goes_on : goal.returns-in-Err-clause-goes_on
returns-in-Err-clause-goes_on g c =
    let p = c.args.parts.now in
    let src = sections_of p in
    let v = p.version in
    let ds = c.args.self.now.finished.items in
    let done = known p c.args.self.now in
    let d : Descriptor = record { start = c.args.start; end = c.args.end; flat = c.args.flat } in
    let now_is = joined_known v (remembered c.args.self.now) ds c.join.new.finished.items d c.in_ok-join.ensures.finished in
    let none = none_found c.args.start c.args.end done c.requires.ready.own.stacked c.requires.room c.requires.some in
    let may : MayJoin v done d = record { new = none; generic = c.requires.generic } in
    record {
      ready = record { held = c.requires.ready.held; own = joined_ready v _ (remembered c.args.self.now) ds c.args.self.now.places d c.requires.ready.own may c.requires.some c.requires.inside c.requires.room c.join.new.finished.items c.join.new.places c.in_ok-join.ensures.finished c.in_ok-join.ensures.placed };
      same_memory = search rules;
      counted = joined_counts v _ (remembered c.args.self.now) ds c.args.self.now.places d c.requires.ready.own may c.requires.some c.requires.inside c.requires.room c.join.new.finished.items c.args.self.now.steps.now c.add.new.self c.in_ok-join.ensures.finished (omega (arith, c.add.ensures));
      same_steps = search rules;
    }
