use Rattle.std.proofs.Common.{Ok, Err, OnErr}
use Rattle.std.specs.Prelude.{Result}
use Rattle.type_terms.proofs.InsertionLemmas.{inserted, new_from_missing}
use Rattle.type_terms.proofs.shared_nodes.insert.Goals as goal

on_err : {T E : Type 0} (result : Result T E) (P : Type 0) → P → OnErr result P
on_err (Ok value) P p = tt
on_err (Err error) P p = p

pub returns-in_err-place-clause-refused : goal.returns-in_err-place-clause-refused
returns-in_err-place-clause-refused c =
    on_err c.from_residual.result _ (c.in_err-place.ensures.err, new_from_missing _ _ c.in_err-place.ensures.absent)

pub returns-clause-inserted : goal.returns-clause-inserted
returns-clause-inserted c =
    let s = c.in_ok-place.ensures.stored in
    inserted _ _ _ _ s.0 c.requires.arena c.requires.children c.requires.generic c.in_ok-place.ensures.keys s.1 s.2
