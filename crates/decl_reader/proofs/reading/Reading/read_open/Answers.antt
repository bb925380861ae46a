use Rattle.std.proofs.Common.{◌≡◌, sym, ap, subst, ◌∙◌, ◌++◌, ◌∷◌, [], List, arith, rules}
use Rattle.std.specs.Prelude.{reverse}
use Rattle.std.proofs.lemmas.List.{reverse-reverse}
use Rattle.std.proofs.lemmas.Result.{err_from_is_err_and}
use Rattle.decl_reader.specs.declared.descent.Open.{Open}
use Rattle.decl_reader.specs.Progress.{known}
use Rattle.block_reader.specs.Calls.{sections_of}
use Rattle.decl_reader.proofs.ProgressLemmas.{goes_on_itself, goes_on_twice}
use Rattle.decl_reader.proofs.DescentLoop.{Running, running_begins, none_goes_on, some_opens, some_smaller, returns_to, fault_resolves, known_smaller, last_first}
use Rattle.decl_reader.proofs.reading.Reading.read_open.Goals as goal

pub returns-in_err-begin-clause-exact : goal.returns-in_err-begin-clause-exact
returns-in_err-begin-clause-exact g c =
    let p = err_from_is_err_and c.from_residual.result c.from_residual.ensures.1 in
    let size = c.len.ensures in
    let less = c.if-current-len.true in
    rw (p.1, p.2) (fault_resolves (sections_of c.args.parts.now) c.args.first (known c.args.parts.now c.args.self.now) (known c.args.parts.now c.loop-current.self) c.loop-current.current (reverse c.loop-current.holders.items) c.index-named.result.now
    c.index-named.ensures c.loop-current.invariant.0 (omega (arith, size, less)) c.in_err-begin.field-0.0 _ c.in_err-begin.ensures)

pub loop-current-smaller-in-None : goal.loop-current-smaller-in-None
loop-current-smaller-in-None g c =
    let size = c.len.ensures in
    let less = c.if-current-len.true in
    known_smaller _ c.loop-current.current (reverse c.loop-current.holders.items) (omega (arith, size, less))

pub loop-current-preserved-in-None : goal.loop-current-preserved-in-None
loop-current-preserved-in-None g c =
    let size = c.len.ensures in
    let less = c.if-current-len.true in (
      none_goes_on (sections_of c.args.parts.now) c.args.first (known c.args.parts.now c.args.self.now) (known c.args.parts.now c.loop-current.self) c.loop-current.current (reverse c.loop-current.holders.items) c.index-named.result.now
          c.index-named.ensures c.loop-current.invariant.0 (omega (arith, size, less)) c.in_ok-begin.field-0 c.in-None.is c.in_ok-begin.ensures,
      c.loop-current.invariant.1,
    )

pub loop-current-smaller-in-Some : goal.loop-current-smaller-in-Some
loop-current-smaller-in-Some g c =
    let size = c.len.ensures in
    let less = c.if-current-len.true in
    some_smaller (sections_of c.args.parts.now) c.args.first (known c.args.parts.now c.args.self.now) (known c.args.parts.now c.loop-current.self) c.loop-current.current (reverse c.loop-current.holders.items) c.index-named.result.now
    c.index-named.ensures c.loop-current.invariant.0 (omega (arith, size, less)) c.in_ok-begin.field-0 c.in-Some.inner c.push.new.self.items c.in-Some.is c.in_ok-begin.ensures
    (c.in_ok-push-in-Some.ensures.items ∙ ap (λ (os : List Open). os ++ c.loop-current.current ∷ []) (sym (reverse-reverse c.loop-current.holders.items)))

pub loop-current-preserved-in-Some : goal.loop-current-preserved-in-Some
loop-current-preserved-in-Some g c =
    let size = c.len.ensures in
    let less = c.if-current-len.true in (
      some_opens (sections_of c.args.parts.now) c.args.first (known c.args.parts.now c.args.self.now) (known c.args.parts.now c.loop-current.self) c.loop-current.current (reverse c.loop-current.holders.items) c.index-named.result.now
          c.index-named.ensures c.loop-current.invariant.0 (omega (arith, size, less)) c.in_ok-begin.field-0 c.in-Some.inner c.push.new.self.items c.in-Some.is c.in_ok-begin.ensures
          (c.in_ok-push-in-Some.ensures.items ∙ ap (λ (os : List Open). os ++ c.loop-current.current ∷ []) (sym (reverse-reverse c.loop-current.holders.items))),
      c.loop-current.invariant.1,
    )

pub loop-current-preserved : goal.loop-current-preserved
loop-current-preserved g c =
    let p = c.args.parts.now in
    let at = c.loop-current in
    let size = c.len.ensures in
    let more = c.if-current-len.false in
    let some = at.invariant.0.is_open.some in
    let popped : reverse at.holders.items ≡ c.in-Some-pop.holder ∷ reverse c.pop.new.self.items = ap reverse c.in-Some-pop.ensures.items ∙ last_first c.pop.new.self.items c.in-Some-pop.holder in
    let running = subst (λ (os : List Open). Running (sections_of p) c.args.first (known p c.args.self.now) (known p at.self) at.current os) popped at.invariant.0 in (
      returns_to (sections_of p) c.args.first (known p c.args.self.now) (known p at.self) (known p c.close.new.self) at.current c.in-Some-pop.holder (reverse c.pop.new.self.items) running (omega (arith, size, more, some)) c.in_ok-close.ensures.exact c.in_ok-close.ensures.closed,
      goes_on_twice p c.args.self.now at.self c.close.new.self at.invariant.1 c.close.ensures.goes_on,
    )

pub loop-current-init : goal.loop-current-init
loop-current-init g c = (running_begins _ _ _ _ (search rules) c.requires.first, goes_on_itself c.args.parts.now _ c.requires.ready)
