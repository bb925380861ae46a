use Rattle.std.proofs.Common.{◌≤◌, List, Err, sym, ap, ◌∙◌, arith}
use Rattle.std.proofs.lemmas.Result.{err_from_is_err_and}
use Rattle.decl_spelling.specs.declared.mention.Mention.{Mention}
use Rattle.decl_spelling.specs.Descent.{block_at, resolve_all}
use Rattle.decl_reader.specs.Progress.{known}
use Rattle.block_reader.specs.Calls.{sections_of}
use Rattle.decl_reader.proofs.BegunLemmas.{body_length}
use Rattle.decl_reader.proofs.DescentLoop.{resolves_as}
use Rattle.decl_reader.proofs.WholeLemmas.{types_same}
use Rattle.decl_reader.proofs.reading.Reading.know_types.Goals as goal

pub returns-in_err-read_types-clause-exact : goal.returns-in_err-read_types-clause-exact
returns-in_err-read_types-clause-exact g c =
    let src = sections_of c.args.parts.now in
    let done = known c.args.parts.now c.args.self.now in
    let within : c.args.offset ≤ c.args.parts.now.body_len = c.requires.within in
    let size = body_length c.args.parts.now c.requires.of_file in
    let p = err_from_is_err_and c.from_residual.result c.from_residual.ensures.1 in
    let same = types_same src c.args.offset c.as_slice.result.now done (omega (arith, within, size)) ∙ ap (λ (ms : List Mention). resolve_all src (block_at src c.args.offset) c.args.offset ms done) c.as_slice.ensures.value in
    rw (p.1, p.2) (resolves_as (Err c.in_err-read_types.field-0.0) (known c.args.parts.now c.read_types.new.self) _ _ same c.in_err-read_types.ensures.exact)

pub returns-clause-exact : goal.returns-clause-exact
returns-clause-exact g c =
    let src = sections_of c.args.parts.now in
    let done = known c.args.parts.now c.args.self.now in
    let within : c.args.offset ≤ c.args.parts.now.body_len = c.requires.within in
    let size = body_length c.args.parts.now c.requires.of_file in
    let same = types_same src c.args.offset c.as_slice.result.now done (omega (arith, within, size)) ∙ ap (λ (ms : List Mention). resolve_all src (block_at src c.args.offset) c.args.offset ms done) c.as_slice.ensures.value in
    sym same ∙ c.in_ok-read_types.ensures.exact
