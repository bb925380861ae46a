use Rattle.std.proofs.Common.{List, ◌+◌, take, refl, sym, ◌∙◌, subst}
use Rattle.std.proofs.lemmas.Option.{slice_get_read}
use Rattle.std.proofs.lemmas.Result.{err_from_is_err_and}
use Rattle.dangling_references.specs.declared.fault.AskFault.TheVariants.{Nodes}
use Rattle.asked_names.specs.Finding.{AreFound}
use Rattle.asked_names.specs.declared.finding.Found.{Found}
use Rattle.asked_names.proofs.FindingLemmas.{passed, where_no_error, kept_here, outgrown_here, finds_here}
use Rattle.asked_names.proofs.finding.find_all.Goals as goal

pub loop-place-preserved : goal.loop-place-preserved
loop-place-preserved g c =
    let inv = c.loop-place.invariant in
    let does = c.find.ensures in
    let entries = g.E.Env.entries c.args.env.now c.args.arena.now.nodes in
    let at = slice_get_read c.args.names.now _ c.loop-place.place c.index-names-place.result refl c.loop-place-test.true c.index-names-place.is in
    let pushed = c.push.ensures.items ∙ where_no_error c.push.result _ _ (sym c.is_err.ensures.value ∙ c.if-is_err.false) in (
      subst (λ (found : List Found). AreFound c.find.new.arena.nodes entries (take (c.loop-place.place + 1) c.args.names.now) found) (sym pushed)
          (finds_here _ _ c.args.names.now c.loop-place.place c.index-names-place.result c.args.arena.now c.loop-place.arena inv.1 at c.find.new.arena does.extends c.loop-place.found.items c.in_ok-one.one inv.0 c.in_ok-one.ensures.found),
      kept_here _ _ c.args.names.now c.loop-place.place c.index-names-place.result c.args.arena.now c.loop-place.arena inv.1 at _ c.find.new.arena
          does.entries does.names does.packages does.asked does.extends does.adds,
      does.stands_after,
    )

pub returns-in_err-one-clause-kept : goal.returns-in_err-one-clause-kept
returns-in_err-one-clause-kept g c =
    let inv = c.loop-place.invariant in
    let does = c.find.ensures in
    let at = slice_get_read c.args.names.now _ c.loop-place.place c.index-names-place.result refl c.loop-place-test.true c.index-names-place.is in
    kept_here _ _ c.args.names.now c.loop-place.place c.index-names-place.result c.args.arena.now c.loop-place.arena inv.1 at _ c.find.new.arena
    does.entries does.names does.packages does.asked does.extends does.adds

pub returns-in_err-one-clause-outgrown : goal.returns-in_err-one-clause-outgrown
returns-in_err-one-clause-outgrown g c =
    let inv = c.loop-place.invariant in
    let at = slice_get_read c.args.names.now _ c.loop-place.place c.index-names-place.result refl c.loop-place-test.true c.index-names-place.is in
    let p = err_from_is_err_and c.from_residual.result c.from_residual.ensures.1 in
    λ wants. outgrown_here _ _ c.args.names.now c.loop-place.place c.index-names-place.result c.args.arena.now c.loop-place.arena inv.1 at
    (c.find.ensures.outgrown (passed c.from_residual.result c.find.result p.0 c.in_err-one.field-0.0 Nodes p.1 p.2 c.in_err-one.was wants))

pub returns-then-is_err-clause-kept : goal.returns-then-is_err-clause-kept
returns-then-is_err-clause-kept g c =
    let inv = c.loop-place.invariant in
    let does = c.find.ensures in
    let at = slice_get_read c.args.names.now _ c.loop-place.place c.index-names-place.result refl c.loop-place-test.true c.index-names-place.is in
    kept_here _ _ c.args.names.now c.loop-place.place c.index-names-place.result c.args.arena.now c.loop-place.arena inv.1 at _ c.find.new.arena
    does.entries does.names does.packages does.asked does.extends does.adds
