use Rattle.std.proofs.Common.{◌≡◌, Some, ap, sym, subst, ◌∙◌}
use Rattle.std.specs.Prelude.{IfSome}
use Rattle.std.proofs.lemmas.Result.{err_from_is_err_and}
use Rattle.common_terms.specs.Calls.{AllWithin}
use Rattle.set_terms.specs.Shares.{listed}
use Rattle.set_terms.proofs.MeetLemmas.{lists_stop, lists_kept}
use Rattle.set_terms.proofs.meeting.meet.Goals as goal

pub returns-in_err-left-clause-exact : goal.returns-in_err-left-clause-exact
returns-in_err-left-clause-exact g c =
    let entries = g.E.Env.entries c.args.env.now c.args.arena.now.nodes in
    let names = g.E.Env.names c.args.env.now in
    let first : listed c.args.whole ≡ Some c.deref.result.now = ap listed c.in-Some.is ∙ ap Some (sym c.deref.ensures.value) in
    let second : listed c.args.union ≡ Some c.deref-2.result.now = ap listed c.in-Some-union.is ∙ ap Some (sym c.deref-2.ensures.value) in
    let p = err_from_is_err_and c.from_residual.result c.from_residual.ensures.1 in
    rw (p.1, p.2) (lists_stop (g.C.Covering.covered entries names) (g.C.Covering.opens entries names) (g.C.Covering.asks entries names) c.args.arena.now (listed c.args.whole) (listed c.args.union)
    c.deref.result.now c.deref-2.result.now first second (g.E.Env.full c.common_terms.new.env) c.in_err-left.field-0.0 c.in_err-left.ensures.exact)

pub returns-in_err-left-clause-kept : goal.returns-in_err-left-clause-kept
returns-in_err-left-clause-kept g c =
    let entries = g.E.Env.entries c.args.env.now c.args.arena.now.nodes in
    let names = g.E.Env.names c.args.env.now in
    let first : listed c.args.whole ≡ Some c.deref.result.now = ap listed c.in-Some.is ∙ ap Some (sym c.deref.ensures.value) in
    let second : listed c.args.union ≡ Some c.deref-2.result.now = ap listed c.in-Some-union.is ∙ ap Some (sym c.deref-2.ensures.value) in
    lists_kept (g.C.Covering.covered entries names) (g.C.Covering.opens entries names) (g.C.Covering.asks entries names) c.args.arena.now (listed c.args.whole) (listed c.args.union)
    c.deref.result.now c.deref-2.result.now first second _ _ _ c.in_err-left.ensures.kept

pub returns-clause-within : goal.returns-clause-within
returns-clause-within g c n here there =
    let first : listed c.args.whole ≡ Some c.deref.result.now = ap listed c.in-Some.is ∙ ap Some (sym c.deref.ensures.value) in
    let second : listed c.args.union ≡ Some c.deref-2.result.now = ap listed c.in-Some-union.is ∙ ap Some (sym c.deref-2.ensures.value) in
    c.in_ok-left.ensures.within n (subst (λ w. IfSome w (AllWithin n)) first here) (subst (λ w. IfSome w (AllWithin n)) second there)

pub returns-clause-kept : goal.returns-clause-kept
returns-clause-kept g c =
    let entries = g.E.Env.entries c.args.env.now c.args.arena.now.nodes in
    let names = g.E.Env.names c.args.env.now in
    let first : listed c.args.whole ≡ Some c.deref.result.now = ap listed c.in-Some.is ∙ ap Some (sym c.deref.ensures.value) in
    let second : listed c.args.union ≡ Some c.deref-2.result.now = ap listed c.in-Some-union.is ∙ ap Some (sym c.deref-2.ensures.value) in
    lists_kept (g.C.Covering.covered entries names) (g.C.Covering.opens entries names) (g.C.Covering.asks entries names) c.args.arena.now (listed c.args.whole) (listed c.args.union)
    c.deref.result.now c.deref-2.result.now first second _ _ _ c.in_ok-left.ensures.kept
