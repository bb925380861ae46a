use Rattle.std.proofs.Common.{cond, ap, sym, subst, ◌∙◌}
use Rattle.std.specs.Prelude.{IfSome, nat_eq}
use Rattle.std.proofs.lemmas.Result.{err_from_is_err_and}
use Rattle.common_terms.specs.Calls.{AllWithin}
use Rattle.set_terms.specs.Known.{known_of}
use Rattle.set_terms.specs.Shares.{listed}
use Rattle.set_terms.proofs.KnownLemmas.{ended_holds}
use Rattle.set_terms.proofs.MeetLemmas.{end_stops, end_kept}
use Rattle.set_terms.proofs.meeting.end_element.Goals as goal

pub returns-in_err-left-clause-exact : goal.returns-in_err-left-clause-exact
returns-in_err-left-clause-exact g c =
    let entries = g.E.Env.entries c.args.env.now c.args.arena.now.nodes in
    let names = g.E.Env.names c.args.env.now in
    let p = err_from_is_err_and c.from_residual.result c.from_residual.ensures.1 in
    rw (p.1, p.2) (end_stops (g.C.Covering.covered entries names) (g.C.Covering.opens entries names) (g.C.Covering.asks entries names) c.args.arena.now
    (listed c.take_whole-whole.result) (listed c.take_union-union.result) (known_of c.args.shares.now) c.args.holder c.take_whole-whole.ensures.value c.take_union-union.ensures.value
    (g.E.Env.full c.meet.new.env) c.in_err-left.field-0.0 (known_of (record { wholes = c.take_whole-whole.new.wholes; unions = c.take_union-union.new.unions })) c.in_err-left.ensures.exact)

pub returns-in_err-left-clause-kept : goal.returns-in_err-left-clause-kept
returns-in_err-left-clause-kept g c =
    let entries = g.E.Env.entries c.args.env.now c.args.arena.now.nodes in
    let names = g.E.Env.names c.args.env.now in
    end_kept (g.C.Covering.covered entries names) (g.C.Covering.opens entries names) (g.C.Covering.asks entries names) c.args.arena.now
    (listed c.take_whole-whole.result) (listed c.take_union-union.result) (known_of c.args.shares.now) c.args.holder c.take_whole-whole.ensures.value c.take_union-union.ensures.value
    _ _ _ c.in_err-left.ensures.kept

pub returns-in-Ok-clause-within : goal.returns-in-Ok-clause-within
returns-in-Ok-clause-within g c n held =
    let holder = c.args.holder in
    let left = listed c.in_ok-left.left in
    ended_holds n holder (known_of c.args.shares.now) (known_of (record { wholes = c.put_whole.new.wholes; unions = c.take_union-union.new.unions })) left
    (λ id. c.in-Ok.ensures id ∙ ap (cond (nat_eq holder id) left) (c.take_whole-whole.ensures.left id))
    c.take_union-union.ensures.left
    (c.in_ok-left.ensures.within n (subst (λ w. IfSome w (AllWithin n)) (sym c.take_whole-whole.ensures.value) (held.wholes holder))
    (subst (λ w. IfSome w (AllWithin n)) (sym c.take_union-union.ensures.value) (held.unions holder))) held

pub returns-in-Ok-clause-kept : goal.returns-in-Ok-clause-kept
returns-in-Ok-clause-kept g c =
    let entries = g.E.Env.entries c.args.env.now c.args.arena.now.nodes in
    let names = g.E.Env.names c.args.env.now in
    end_kept (g.C.Covering.covered entries names) (g.C.Covering.opens entries names) (g.C.Covering.asks entries names) c.args.arena.now
    (listed c.take_whole-whole.result) (listed c.take_union-union.result) (known_of c.args.shares.now) c.args.holder c.take_whole-whole.ensures.value c.take_union-union.ensures.value
    _ _ _ c.in_ok-left.ensures.kept

pub returns-in-Err-clause-kept : goal.returns-in-Err-clause-kept
returns-in-Err-clause-kept g c =
    let entries = g.E.Env.entries c.args.env.now c.args.arena.now.nodes in
    let names = g.E.Env.names c.args.env.now in
    end_kept (g.C.Covering.covered entries names) (g.C.Covering.opens entries names) (g.C.Covering.asks entries names) c.args.arena.now
    (listed c.take_whole-whole.result) (listed c.take_union-union.result) (known_of c.args.shares.now) c.args.holder c.take_whole-whole.ensures.value c.take_union-union.ensures.value
    _ _ _ c.in_ok-left.ensures.kept
