use Rattle.std.proofs.lemmas.Result.{err_from_is_err_and}
use Rattle.parsed_files.proofs.ReadLaws.{no_tokens, no_tree, a_tree}
use Rattle.parsed_files.proofs.faults.read_file.Goals as goal

pub returns-in_err-tokens-clause-exact : goal.returns-in_err-tokens-clause-exact
returns-in_err-tokens-clause-exact c =
    let p = err_from_is_err_and c.from_residual.result c.from_residual.ensures.1 in
    rw p.1 (no_tokens c.args.source.now c.in_err-tokens.field-0.0 p.0 c.in_err-tokens.ensures.exact p.2)

pub returns-in_err-parse-clause-exact : goal.returns-in_err-parse-clause-exact
returns-in_err-parse-clause-exact c =
    let p = err_from_is_err_and c.from_residual-in_err-parse.result c.from_residual-in_err-parse.ensures.1 in
    rw p.1 (no_tree c.args.source.now _ _ c.in_err-parse.field-0.0 p.0 c.in_ok-tokens.ensures.source c.in_ok-tokens.ensures.exact c.in_err-parse.ensures.exact p.2)

pub returns-clause-exact : goal.returns-clause-exact
returns-clause-exact c = a_tree c.args.source.now _ _ c.in_ok-parse.field-0 c.in_ok-tokens.ensures.source c.in_ok-tokens.ensures.exact c.in_ok-parse.ensures.exact
