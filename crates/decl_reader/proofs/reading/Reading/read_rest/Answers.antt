use Rattle.std.proofs.lemmas.Result.{err_from_is_err_and}
use Rattle.type_terms.specs.Declarations.{constant_of}
use Rattle.decl_spelling.specs.Constants.{basic_type}
use Rattle.decl_spelling.specs.Declarations.{read, has_methods, methods_of}
use Rattle.decl_spelling.specs.Spelled.{without_pos}
use Rattle.decl_spelling.specs.Tables.{type_named}
use Rattle.block_reader.specs.Calls.{sections_of, ahead_of}
use Rattle.block_reader.specs.Parts.{types_spelled}
use Rattle.block_reader.specs.Spelled.{pos_spelled}
use Rattle.decl_reader.specs.Progress.{known}
use Rattle.decl_reader.specs.Wholes.{methods_by, value_by}
use Rattle.decl_reader.proofs.WholeLemmas.{methods_then, value_then, then_fault, fault_as}
use Rattle.decl_reader.proofs.reading.Reading.read_rest.Goals as goal

pub returns-in_err-value-in-Constant-clause-exact : goal.returns-in_err-value-in-Constant-clause-exact
returns-in_err-value-in-Constant-clause-exact g c =
    let src = sections_of c.args.parts.now in
    let done = known c.args.parts.now c.args.self.now in
    let basics = g.B.Basics.meaning c.args.basics.now in
    let a = ahead_of c.args.block.now in
    let k = c.in-Constant in
    let p = err_from_is_err_and c.from_residual-in_err-value-in-Constant.result c.from_residual-in_err-value-in-Constant.ensures.1 in
    rw (p.1, p.2, k.is) (fault_as _ _ c.in_err-value-in-Constant.field-0.0 (value_then src basics (pos_spelled k.pos) (without_pos k.ty) k.at a done)
    (then_fault (value_by src k.at (basic_type basics (type_named src.version done k.ty)) a) (λ value. read (constant_of (pos_spelled k.pos) (without_pos k.ty) (value.0).value) (value.0).offset value.1 done) c.in_err-value-in-Constant.field-0.0 c.in_err-value-in-Constant.ensures))

pub returns-in_err-methods-in-Defined-clause-exact : goal.returns-in_err-methods-in-Defined-clause-exact
returns-in_err-methods-in-Defined-clause-exact g c =
    let src = sections_of c.args.parts.now in
    let done = known c.args.parts.now c.args.self.now in
    let a = ahead_of c.args.block.now in
    let k = c.in-Defined in
    let own = has_methods (type_named src.version done k.underlying) in
    let e = c.in_err-methods-in-Defined.field-0.0 in
    let p = err_from_is_err_and c.from_residual.result c.from_residual.ensures.1 in
    rw (p.1, p.2, k.is) (fault_as _ _ e (methods_then src c.args.offset (pos_spelled k.pos) (types_spelled k.tparams.items) (without_pos k.underlying) a done own)
    (then_fault (methods_by src c.args.offset a done own) (methods_of (pos_spelled k.pos) (types_spelled k.tparams.items) (without_pos k.underlying)) e c.in_err-methods-in-Defined.ensures.exact))
