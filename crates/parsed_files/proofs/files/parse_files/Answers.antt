use Rattle.std.proofs.lemmas.Result.{err_from_is_err_and}
use Rattle.parsed_files.specs.Outcomes.{bytes_of, file_places}
use Rattle.parsed_files.proofs.RefusalLaws.{lex_refused, syntax_refused, left_out_refused, all_are_trees}
use Rattle.parsed_files.proofs.files.parse_files.Goals as goal

pub returns-in_err-settle-clause-refused : goal.returns-in_err-settle-clause-refused
returns-in_err-settle-clause-refused c =
    let places = file_places (bytes_of c.args.sources.now) in
    let p = err_from_is_err_and c.from_residual.result c.from_residual.ensures.1 in
    rw (p.1, p.2) (lex_refused _ (Unit {0}) places c.in_err-settle.field-0.0 (c.in_err-settle.ensures.stage places c.in-Ok.ensures.first.lex))

pub returns-in_err-settle-2-clause-refused : goal.returns-in_err-settle-2-clause-refused
returns-in_err-settle-2-clause-refused c =
    let places = file_places (bytes_of c.args.sources.now) in
    let p = err_from_is_err_and c.from_residual-in_err-settle-2.result c.from_residual-in_err-settle-2.ensures.1 in
    rw (p.1, p.2) (syntax_refused _ (Unit {0}) places c.in_err-settle-2.field-0.0 (c.in_ok-settle.ensures.stage places c.in-Ok.ensures.first.lex)
    (c.in_err-settle-2.ensures.stage places c.in-Ok.ensures.first.syntax))

pub returns-in_err-settle-3-clause-refused : goal.returns-in_err-settle-3-clause-refused
returns-in_err-settle-3-clause-refused c =
    let places = file_places (bytes_of c.args.sources.now) in
    let p = err_from_is_err_and c.from_residual-in_err-settle-3.result c.from_residual-in_err-settle-3.ensures.1 in
    rw (p.1, p.2) (left_out_refused _ (Unit {0}) places c.in_err-settle-3.field-0.0 (c.in_ok-settle.ensures.stage places c.in-Ok.ensures.first.lex)
    (c.in_ok-settle-2.ensures.stage places c.in-Ok.ensures.first.syntax) (c.in_err-settle-3.ensures.stage places c.in-Ok.ensures.first.left_out))

pub returns-clause-trees : goal.returns-clause-trees
returns-clause-trees c =
    let places = file_places (bytes_of c.args.sources.now) in
    all_are_trees 0 (bytes_of c.args.sources.now) _ c.in-Ok.ensures.told
    (record {
      lex = c.in_ok-settle.ensures.stage places c.in-Ok.ensures.first.lex;
      syntax = c.in_ok-settle-2.ensures.stage places c.in-Ok.ensures.first.syntax;
      left_out = c.in_ok-settle-3.ensures.stage places c.in-Ok.ensures.first.left_out;
    })
    c.in-Ok.ensures.trees
