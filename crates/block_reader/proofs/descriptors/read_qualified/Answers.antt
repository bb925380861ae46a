use Rattle.std.proofs.Common.{refl}
use Rattle.std.proofs.lemmas.Result.{err_from_is_err_and}
use Rattle.decl_spelling.specs.Descriptors.{qualified_at}
use Rattle.decl_spelling.specs.Reading.{path_at, text_at}
use Rattle.block_reader.specs.Calls.{ahead_of, sections_of}
use Rattle.block_reader.proofs.StopsLemmas.{stops_then}
use Rattle.block_reader.proofs.descriptors.read_qualified.Goals as goal

pub returns-in_err-name : goal.returns-in_err-name
unfolding qualified_at
returns-in_err-name c =
    let p = err_from_is_err_and c.from_residual.result c.from_residual.ensures.1 in
    record { each = λ make. rw (p.1, p.2) (stops_then c.in_err-name.field-0.0 _ (text_at (sections_of c.args.parts.now) (ahead_of c.args.block.now)) _ c.in_err-name.ensures) }

pub returns-in_err-path : goal.returns-in_err-path
unfolding qualified_at
returns-in_err-path c =
    let p = err_from_is_err_and c.from_residual-in_err-path.result c.from_residual-in_err-path.ensures.1 in
    record { each = λ make. rw (p.1, p.2, c.in_ok-name.ensures) (stops_then c.in_err-path.field-0.0 _ (path_at (sections_of c.args.parts.now) (ahead_of c.read_text.new.block)) _ c.in_err-path.ensures) }

pub returns : goal.returns
unfolding qualified_at
returns c = record { each = λ make. rw (c.in_ok-name.ensures, c.in_ok-path.ensures) refl }
