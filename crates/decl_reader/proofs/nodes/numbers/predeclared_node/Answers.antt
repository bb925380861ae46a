use Rattle.std.proofs.lemmas.Result.{err_from_is_err_and}
use Rattle.decl_reader.proofs.WantLemmas.{full_passed}
use Rattle.decl_reader.proofs.nodes.numbers.predeclared_node.Goals as goal

pub returns-in_err-add-clause-outgrown : goal.returns-in_err-add-clause-outgrown
returns-in_err-add-clause-outgrown c wants =
    let p = err_from_is_err_and c.from_residual.result c.from_residual.ensures.1 in
    c.add.ensures.outgrown (full_passed c.from_residual.result c.add.result p.0 c.in_err-add.field-0.0 p.1 p.2 c.in_err-add.was wants)
