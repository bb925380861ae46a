use Rattle.std.proofs.Common.{◌∙◌, rules}
use Rattle.std.specs.Prelude.{FitsSigned}
use Rattle.std.specs.Int.{w128}
use Rattle.std.proofs.lemmas.Int.{to_z-of_z}
use Rattle.const_values.proofs.Shifts.{shift_answers}
use Rattle.const_values.proofs.calls.shift.Goals as goal

pub returns-in-Some-clause-answer : goal.returns-in-Some-clause-answer
returns-in-Some-clause-answer c =
    let number_fits : FitsSigned w128 c.in-Int-Int.number = search rules in
    let places_fits : FitsSigned w128 c.in-Int-Int.places = search rules in
    let exact_fits : FitsSigned w128 c.in-Some.exact = search rules in
    let exact_is = simp to_z-of_z at c.in-Some.ensures.1 in
    let from_zero = simp to_z-of_z at c.if-places-lt0.false in
    let given = simp to_z-of_z at c.within_kind.ensures.answer in
    given ∙ shift_answers c.args.left c.args.v.now c.args.count.now c.in-Int-Int.number c.in-Int-Int.places c.in-Some.exact c.in-Int-Int.is-0 c.in-Int-Int.is-1 from_zero exact_is
