use Rattle.std.proofs.Common.{◌≡◌, ◌+◌, ◌-◌, ◌∙◌, List, ℕ, length, get_or, ap, sym, subst, arith}
use Rattle.source_positions.specs.Lines.{line_starts, AreStarts, Cuts}
use Rattle.source_positions.specs.Positions.{IsPosition}
use Rattle.source_positions.proofs.Entries.{position_is}
use Rattle.source_positions.proofs.Starts.{starts_rise, starts_few}
use Rattle.source_positions.proofs.lines.SourceLines.position.Goals as goal

pub position_by-requires-clause-starts : goal.position_by-requires-clause-starts
position_by-requires-clause-starts c =
    subst AreStarts (sym (c.deref.ensures.value ∙ c.self.invariant.starts_are)) (starts_rise c.self.inside.source.now)

pub position_by-requires-clause-few : goal.position_by-requires-clause-few
position_by-requires-clause-few c =
    let few = starts_few c.self.inside.source.now in
    let long : length c.deref.result.now ≡ length (line_starts c.self.inside.source.now) = ap length (c.deref.ensures.value ∙ c.self.invariant.starts_are) in
    omega (arith, few, long, c.self.invariant.short)

pub returns : goal.returns
returns c =
    let is : c.deref.result.now ≡ line_starts c.self.inside.source.now = c.deref.ensures.value ∙ c.self.invariant.starts_are in
    subst (λ (s : List ℕ). IsPosition s c.args.offset c.position_by.result) c.self.view_is
    (position_is c.self.inside.source.now c.args.offset c.position_by.result
    (subst (λ (l : List ℕ). Cuts l c.args.offset c.position_by.result.line) is c.position_by.ensures.line)
    (subst (λ (l : List ℕ). get_or l (c.position_by.result.line - 1) 0 + c.position_by.result.column ≡ c.args.offset + 1) is c.position_by.ensures.column))
