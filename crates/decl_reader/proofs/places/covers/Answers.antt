use Rattle.std.proofs.Common.{inr, sym, ◌∙◌, refl}
use Rattle.decl_reader.proofs.places.covers.Goals as goal

pub returns-in-Some : goal.returns-in-Some
returns-in-Some c = inr (c.next_back.new.self, (c.in-Some.field-0-0.now, c.in-Some.before.now), sym (c.range.ensures.between tt) ∙ c.in-Some.ensures.steps, refl)
