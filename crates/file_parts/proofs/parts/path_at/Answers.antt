use Rattle.std.proofs.Common.{List, ℕ, Option, ap, ◌∙◌}
use Rattle.std.specs.Option.{option_and_then}
use Rattle.file_parts.specs.Paths.{texts_of, path_for}
use Rattle.file_parts.proofs.PathLemmas.{path_found, no_path}
use Rattle.file_parts.proofs.parts.path_at.Goals as goal

pub returns-in_err-text_at-clause-none : goal.returns-in_err-text_at-clause-none
returns-in_err-text_at-clause-none c = rw c.from_residual.ensures (λ path stands. c.in_err-text_at.ensures.none stands.0 stands.1)

pub returns-clause-found : goal.returns-clause-found
returns-clause-found c =
    path_found c.args.strings.now c.args.own.now (texts_of c.args.strings.now c.args.paths.now) c.args.offset c.in_ok-text_at.field-0.now c.path_for.result c.in_ok-text_at.ensures.found c.path_for.ensures

pub returns-clause-none : goal.returns-clause-none
returns-clause-none c =
    let paths = texts_of c.args.strings.now c.args.paths.now in
    no_path c.args.strings.now c.args.own.now paths c.args.offset c.path_for.result
    (c.path_for.ensures ∙ ap (λ (t : Option (List ℕ)). option_and_then (path_for c.args.own.now paths) t) c.in_ok-text_at.ensures.exact)
