use Rattle.std.proofs.Common.{◌≡◌, ◌<◌, ◌∙◌, sym, arith}
use Rattle.code_tables.proofs.Distinct.{one_place}
use Rattle.code_tables.proofs.Numbered.{the_value}
use Rattle.code_tables.proofs.code_table.CodeTable.of_code.Goals as goal

-- The value has the code that stands here, and codes are distinct, so its number is this place.
pub returns-then-from-code-clause-inverse : goal.returns-then-from-code-clause-inverse
returns-then-from-code-clause-inverse g c = λ value same.
    let own = rw (← c.self.view_is) at same in
    let count : g.T.Coded.count ≡ g.row.N = c.self.invariant.0 in
    let below : g.T.Coded.number value < g.T.Coded.count = g.met.T.Coded.below value in
    let place : g.T.Coded.number value ≡ c.loop-place.place =
    one_place c.self.inside.codes c.self.invariant.1 (g.T.Coded.number value) c.loop-place.place
    (omega (arith, c.self.told)) (omega (arith, c.self.told)) (own ∙ sym (sym c.from.ensures ∙ c.if-from-code.true)) in
    the_value g.T.Coded.number g.met.T.Coded.exact c.of_ordinal.result c.loop-place.place
    (c.of_ordinal.ensures.every (omega arith)) c.of_ordinal.ensures.numbered value place
