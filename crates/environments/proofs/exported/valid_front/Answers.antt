use Rattle.std.proofs.Common.{take, sym, ap, ◌∙◌}
use Rattle.std.proofs.Math.Seq.{take-length}
use Rattle.std.proofs.lemmas.Str.{utf8_valid_len-IsUtf8}
use Rattle.environments.proofs.exported.valid_front.Goals as goal

pub returns-in-Ok : goal.returns-in-Ok
returns-in-Ok c =
    let whole = ap (λ n. take n c.args.bytes.now) (utf8_valid_len-IsUtf8 c.args.bytes.now c.in-Ok.ensures.cases.1) ∙ take-length c.args.bytes.now in
    c.in-Ok.ensures.cases.0 ∙ sym whole
