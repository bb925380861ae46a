use Rattle.std.proofs.Common.{◌≡◌, Some, sym, subst}
use Rattle.std.proofs.lemmas.Result.{err_from_is_err_and, IfOk-weaker}
use Rattle.environments.specs.KeptLaws.{kept_itself}
use Rattle.dangling_references.specs.declared.fault.AskFault.TheVariants.{Nodes}
use Rattle.dangling_references.specs.Dangling.{IsFirstIfAny}
use Rattle.dangling_references.proofs.DanglingLemmas.{passed, none_yet, kept_here, outgrown_here, goes_on, found_here}
use Rattle.dangling_references.proofs.dangling.first_among.Goals as goal

pub loop-place-init : goal.loop-place-init
loop-place-init g c =
    (none_yet (g.E.Env.entries c.args.env.now c.args.arena.now.nodes) c.args.mentions.now.keys, kept_itself _ _ _ _, c.requires.stands)

pub returns-in_err-dangles-clause-kept : goal.returns-in_err-dangles-clause-kept
returns-in_err-dangles-clause-kept g c =
    let inv = c.loop-place.invariant in
    let does = c.dangles.ensures in
    kept_here _ _ c.args.mentions.now.keys c.loop-place.place c.in-Some.reference.now c.args.arena.now c.loop-place.arena inv.1 (sym c.in-Some.ensures.key) _ c.dangles.new.arena
    does.entries does.names does.packages does.asked does.extends does.adds

pub returns-in_err-dangles-clause-outgrown : goal.returns-in_err-dangles-clause-outgrown
returns-in_err-dangles-clause-outgrown g c =
    let inv = c.loop-place.invariant in
    let p = err_from_is_err_and c.from_residual.result c.from_residual.ensures.1 in
    λ wants. outgrown_here _ _ c.args.mentions.now.keys c.loop-place.place c.in-Some.reference.now c.args.arena.now c.loop-place.arena inv.1 (sym c.in-Some.ensures.key)
    (c.dangles.ensures.outgrown (passed c.from_residual.result c.dangles.result p.0 c.in_err-dangles.field-0.0 Nodes p.1 p.2 c.in_err-dangles.was wants))

pub returns-then-branch-clause-first : goal.returns-then-branch-clause-first
returns-then-branch-clause-first g c =
    let inv = c.loop-place.invariant in
    let old = g.E.Env.entries c.args.env.now c.args.arena.now.nodes in
    let x = c.in-Some.reference.now in
    let found = found_here _ _ c.args.mentions.now.keys c.loop-place.place x c.args.arena.now c.loop-place.arena inv.1 (sym c.in-Some.ensures.key) inv.0
    c.in_ok-dangles.field-0 c.if-branch.true c.in_ok-dangles.ensures.exact in
    IfOk-weaker c.copy_of.result (λ answer. answer ≡ Some x) (IsFirstIfAny old c.args.mentions.now.keys) (λ answer same. subst (IsFirstIfAny old c.args.mentions.now.keys) (sym same) found) c.copy_of.ensures.copied

pub returns-then-branch-clause-kept : goal.returns-then-branch-clause-kept
returns-then-branch-clause-kept g c =
    let inv = c.loop-place.invariant in
    let does = c.dangles.ensures in
    kept_here _ _ c.args.mentions.now.keys c.loop-place.place c.in-Some.reference.now c.args.arena.now c.loop-place.arena inv.1 (sym c.in-Some.ensures.key) _ c.dangles.new.arena
    does.entries does.names does.packages does.asked does.extends does.adds

pub loop-place-preserved : goal.loop-place-preserved
loop-place-preserved g c =
    let inv = c.loop-place.invariant in
    let does = c.dangles.ensures in
    let x = c.in-Some.reference.now in (
      goes_on _ _ c.args.mentions.now.keys c.loop-place.place x c.args.arena.now c.loop-place.arena inv.1 (sym c.in-Some.ensures.key) inv.0
          c.in_ok-dangles.field-0 c.if-branch.false c.in_ok-dangles.ensures.exact,
      kept_here _ _ c.args.mentions.now.keys c.loop-place.place x c.args.arena.now c.loop-place.arena inv.1 (sym c.in-Some.ensures.key) _ c.dangles.new.arena
          does.entries does.names does.packages does.asked does.extends does.adds,
      does.stands_after,
    )
