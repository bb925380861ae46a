use Rattle.std.proofs.lemmas.Result.{err_from_is_err_and}
use Rattle.name_index.proofs.EnvelopeLemmas.{is_no_file, is_open, is_found, is_only}
use Rattle.name_index.proofs.image.read_full_file.Goals as goal

pub returns-in_err-layout-clause-only : goal.returns-in_err-layout-clause-only
returns-in_err-layout-clause-only c = λ file env.
    let p = err_from_is_err_and c.from_residual.result c.from_residual.ensures.1 in
    rw (p.1, p.2) (is_no_file c.args.path.now c.as_slice.result.now c.in_err-layout.field-0.0 file c.in_err-layout.ensures.exact (rw c.as_slice.ensures.value env))

pub invariant_of-result : goal.invariant_of-result
invariant_of-result c = is_open c.in_ok-own.own.items c.args.path.now c.args.bytes.items c.as_slice.result.now c.in_ok-layout.layout c.as_slice.ensures.value c.in_ok-own.ensures.items c.requires c.in_ok-layout.ensures.inside c.in_ok-layout.ensures.paths c.in_ok-layout.ensures.found

pub returns-clause-found : goal.returns-clause-found
returns-clause-found c = is_found c.in_ok-own.own.items c.args.path.now c.args.bytes.items c.as_slice.result.now c.in_ok-layout.layout c.as_slice.ensures.value c.in_ok-own.ensures.items c.in_ok-layout.ensures.found

pub returns-clause-only : goal.returns-clause-only
returns-clause-only c = λ file env.
    is_only c.in_ok-own.own.items c.args.path.now c.args.bytes.items c.as_slice.result.now c.in_ok-layout.layout file c.as_slice.ensures.value c.in_ok-own.ensures.items c.in_ok-layout.ensures.exact env
