use Rattle.std.proofs.Common.{rules, arith, ◌∙◌}
use Rattle.cycle_rules.specs.declared.components.Mark.TheVariants.{Done}
use Rattle.cycle_rules.proofs.PlaceLemmas.{at_within}
use Rattle.cycle_rules.proofs.CloseLemmas.{kept_popped, closed_more, others_more, open_popped, count-closed}
use Rattle.cycle_rules.proofs.components.Search.close.Goals as goal

pub index_mut-requires : goal.index_mut-requires
index_mut-requires c =
    let at = open_popped c.loop-self.self.stack.items c.pop.new.self.items c.args.self.now.stack.items c.in-Some.node c.loop-self.self.marks.items c.args.self.now.marks.items c.in-Some.ensures.items c.loop-self.invariant.kept c.requires.opened c.loop-self.invariant.others in
    let w = at_within c.loop-self.self.marks.items c.in-Some.node _ at in
    omega (arith, c.loop-self.self.marks.ok.0)

pub loop-self-preserved : goal.loop-self-preserved
loop-self-preserved c =
    let now = c.loop-self.self.stack.items in
    let rest = c.pop.new.self.items in
    let old = c.args.self.now.stack.items in
    let marks = c.loop-self.self.marks.items in
    let first = c.args.self.now.marks.items in
    let node = c.in-Some.node in
    let kept = c.loop-self.invariant.kept in
    let popped = c.in-Some.ensures.items in
    let at = open_popped now rest old node marks first popped kept c.requires.opened c.loop-self.invariant.others in
    let fits = at_within marks node _ at in
    record {
      kept = kept_popped now rest old node popped kept;
      within = search rules;
      closed = rw c.loop-self.invariant.rank (closed_more now rest old node marks (Done c.args.self.now.rank) popped kept fits c.loop-self.invariant.closed);
      others = others_more now rest old node marks first _ popped kept c.loop-self.invariant.others;
      sized = search rules;
      fresh = count-closed marks node _ _ at ∙ c.loop-self.invariant.fresh;
      pending = search rules;
      bounds = search rules;
      rank = search rules;
      graph = search rules;
    }
