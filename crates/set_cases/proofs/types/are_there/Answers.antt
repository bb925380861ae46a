use Rattle.std.proofs.Common.{rules, ◌≡◌, ℕ, suc, ◌+◌, length, subst, arith, true}
use Rattle.set_cases.proofs.TypeLemmas.{Left, one_more, none_left}
use Rattle.set_cases.proofs.types.are_there.Goals as goal

pub loop-id-preserved : goal.loop-id-preserved
loop-id-preserved c =
    let n = length c.args.arena.now.nodes in
    let ids = c.args.ids.now in
    let at = c.loop-id in
    let item = c.id-item.result in
    let told : c.is_there.result ≡ true = search rules in
    let next : suc at.id-index ≡ at.id-index + 1 = omega arith in
    subst (λ (k : ℕ). Left n ids k) next (one_more n ids at.id-index item c.loop-id-test.true c.id-item.is (c.is_there.ensures told) at.invariant)

pub returns : goal.returns
returns c is = none_left (length c.args.arena.now.nodes) c.args.ids.now c.loop-id.id-index (omega (arith, c.loop-id-test.false)) c.loop-id.invariant
