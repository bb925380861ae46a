use Rattle.std.proofs.Common.{sym, ◌∙◌, arith}
use Rattle.std.proofs.lemmas.Result.{err_from_is_err_and}
use Rattle.decl_reader.specs.Progress.{known}
use Rattle.block_reader.specs.Calls.{sections_of}
use Rattle.decl_reader.proofs.CheckedTypeLemmas.{basic_fault, basic_known}
use Rattle.decl_reader.proofs.reading.Reading.begin.Goals as goal

pub returns-in_err-check_basic-in-Basic : goal.returns-in_err-check_basic-in-Basic
returns-in_err-check_basic-in-Basic g c =
    let p = err_from_is_err_and c.from_residual.result c.from_residual.ensures.1 in
    rw (p.1, p.2) (basic_fault (sections_of c.args.parts.now) c.args.holder c.args.named (known c.args.parts.now c.args.self.now) c.in_err-check_basic-in-Basic.field-0.0 (omega (arith, c.in-Basic.ensures)) (sym c.check_basic.ensures ∙ c.in_err-check_basic-in-Basic.was))

pub returns-in_ok-check_basic-in-Basic : goal.returns-in_ok-check_basic-in-Basic
returns-in_ok-check_basic-in-Basic g c =
    basic_known (sections_of c.args.parts.now) c.args.holder c.args.named (known c.args.parts.now c.args.self.now) c.in_ok-check_basic-in-Basic.field-0 (omega (arith, c.in-Basic.ensures)) (sym c.check_basic.ensures ∙ c.in_ok-check_basic-in-Basic.was)
