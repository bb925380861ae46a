use Rattle.std.proofs.Common.{subst, Ok, Option}
use Rattle.decl_reader.specs.declared.descent.Open.{Open}
use Rattle.decl_reader.specs.Progress.{known}
use Rattle.block_reader.specs.Calls.{sections_of}
use Rattle.decl_reader.specs.Opens.{Begins}
use Rattle.decl_reader.proofs.DescentLoop.{begun_is, resolves_as}
use Rattle.decl_reader.proofs.reading.Reading.read_type.Goals as goal

pub returns-in-Some-clause-exact : goal.returns-in-Some-clause-exact
returns-in-Some-clause-exact g c =
    let src = sections_of c.args.parts.now in
    let done = known c.args.parts.now c.args.self.now in
    let begun = subst (λ (a : Option Open). Begins src done c.args.holder c.args.named (Ok a)) c.in-Some.is c.in_ok-first.ensures in
    resolves_as c.read_open.result _ _ _ (begun_is src done c.args.holder c.args.named c.in-Some.first begun) c.read_open.ensures.exact
