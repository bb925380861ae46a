use Rattle.std.proofs.lemmas.Result.{err_from_is_err_and}
use Rattle.go_syntax.specs.Files.{import_decl, import_step, imports_at}
use Rattle.go_syntax.proofs.StepTurns.{import_steps, step_stops, done_at, goes_at, smaller_at}
use Rattle.go_syntax.proofs.files.imports.Goals as goal

pub returns-in_err-decl : goal.returns-in_err-decl
returns-in_err-decl c =
    let p = err_from_is_err_and c.from_residual.result c.from_residual.ensures.1 in
    rw (p.1, p.2) (step_stops import_decl import_step import_steps c.loop-found.found c.loop-found.rest.now c.in_err-decl.field-0.0 (imports_at c.args.tokens.now) c.in_err-decl.ensures c.loop-found.invariant)

pub returns-in_default : goal.returns-in_default
returns-in_default c =
    done_at import_decl import_step import_steps c.loop-found.found c.loop-found.rest.now c.in_ok-decl.decl c.in_ok-decl.after.now (imports_at c.args.tokens.now) c.in_ok-decl.ensures c.in_default.is c.loop-found.invariant

pub loop-found-smaller : goal.loop-found-smaller
loop-found-smaller c =
    rw c.onward-rest.ensures (smaller_at import_decl import_step import_steps c.loop-found.rest.now c.in_ok-decl.decl c.in-Some.more c.in_ok-decl.after.now c.in_ok-decl.ensures c.in-Some.is)

pub loop-found-preserved : goal.loop-found-preserved
loop-found-preserved c =
    rw (c.in_ok-append.ensures, c.onward-rest.ensures) (goes_at import_decl import_step import_steps c.loop-found.found c.loop-found.rest.now c.in_ok-decl.decl c.in-Some.more c.in_ok-decl.after.now (imports_at c.args.tokens.now) c.in_ok-decl.ensures c.in-Some.is c.loop-found.invariant)
