use Rattle.std.proofs.Common.{sym, ◌∙◌}
use Rattle.const_values.proofs.Admits.{admits_result}
use Rattle.const_values.proofs.calls.binary.Goals as goal

pub within_kind-requires : goal.within_kind-requires
within_kind-requires c =
    let value = c.in_ok-value.ensures.value in
    let kind = c.result_kind.ensures in
    rw (kind, value) (admits_result c.args.op c.args.left.now.kind c.args.right.now.kind c.in-Some.kind c.args.left.now.value c.args.right.now.value c.requires.left_is.admitted c.requires.right_is.admitted
    (sym c.has.ensures ∙ c.if-not-has.false) (sym c.common_kind.ensures ∙ c.in-Some.is))
