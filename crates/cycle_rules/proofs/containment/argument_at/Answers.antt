use Rattle.std.specs.Prelude.{IfNone, is_some}
use Rattle.std.proofs.Common.{◌≡◌, ◌<◌, List, length, Option, Some, None, refl, ap, sym, ◌∙◌, subst, arith}
use borrow.Author.Tests.{ltb-false}
use Rattle.cycle_rules.specs.declared.shapes.Form.{Form}
use Rattle.cycle_rules.proofs.FitsLemmas.{same_Apply}
use Rattle.cycle_rules.proofs.PlaceLemmas.{at_within}
use Rattle.cycle_rules.proofs.containment.argument_at.Goals as goal

none_if : {X P : Type 0} (o : Option X) → (o ≡ None → P) → IfNone o P
none_if None p = p refl
none_if (Some x) p = tt

pub returns-clause-none : goal.returns-clause-none
returns-clause-none c = none_if c.get.result (λ none argument is.
    let forms = c.as_slice.result.now in
    let same = (same_Apply c.args.form.now is.applied c.in-Apply.field-0 is.arguments c.in-Apply.arguments is.formed c.in-Apply.is).1 ∙ sym c.as_slice.ensures in
    let below : c.args.place < length forms = subst (λ (l : List Form). c.args.place < length l) same (at_within is.arguments c.args.place argument is.there) in
    let above = ltb-false c.args.place (length forms) (sym c.get.ensures.lookup.0 ∙ ap is_some none) in
    omega arith)
