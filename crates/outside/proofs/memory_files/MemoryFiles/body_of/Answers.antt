use Rattle.std.proofs.Common.{sym, ◌∙◌}
use Rattle.outside.proofs.Bodies.{looks_up, looks_on}
use Rattle.outside.proofs.memory_files.MemoryFiles.body_of.Goals as goal

pub loop-key-init : goal.loop-key-init
loop-key-init c = rw (c.deref-key-items.ensures.value, ← c.self.view_is) (looks_up _ _)

pub returns-then-eq : goal.returns-then-eq
returns-then-eq c =
    let yes = rw (c.as_str.ensures.value, c.if-eq.true) at c.eq.ensures in
    let step = looks_on c.args.name.now c.deref-key-items.result.now c.loop-key.key-index c.loop-key-item.result c.loop-key-test.true c.loop-key-item.is in
    let found = rw (← yes) at step in
    rw c.as_slice.ensures.value (sym (c.loop-key.invariant ∙ found))

pub loop-key-preserved : goal.loop-key-preserved
loop-key-preserved c =
    let no = rw (c.as_str.ensures.value, c.if-eq.false) at c.eq.ensures in
    let step = looks_on c.args.name.now c.deref-key-items.result.now c.loop-key.key-index c.loop-key-item.result c.loop-key-test.true c.loop-key-item.is in
    let found = rw (← no) at step in
    c.loop-key.invariant ∙ found
