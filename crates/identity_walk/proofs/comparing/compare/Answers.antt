use Rattle.std.proofs.Common.{◌≡◌, length, refl, sym, ap, ◌∙◌, ◌++◌}
use Rattle.std.proofs.lemmas.List.{append-nil}
use Rattle.pair_walk.specs.Walk.{visits}
use Rattle.type_terms.specs.Extensions.{extends_itself}
use Rattle.identity_walk.specs.Walking.{due_of}
use Rattle.identity_walk.proofs.StackLemmas.{on_ok}
use Rattle.identity_walk.proofs.CompareLemmas.{begins, begins_state}
use Rattle.identity_walk.proofs.comparing.compare.Goals as goal

pub loop-met-init : goal.loop-met-init
loop-met-init g c =
    let starts = c.args.starts.now in
    let nodes = c.args.arena.now.nodes in
    let due : due_of c.push_visits.new.stack.items ≡ visits 0 starts
    = on_ok c.push_visits.result _ (sym c.is_err.ensures.value ∙ c.if-is_err.false) c.push_visits.ensures.pushed
    ∙ ap (λ items. visits 0 starts ++ due_of items) c.new-stack.ensures.items ∙ append-nil (visits 0 starts) in (
      begins (g.S.Sides.meant c.args.sides.now nodes) nodes starts (due_of c.push_visits.new.stack.items) c.new-met.result.keys due c.new-met.ensures.empty,
      begins_state (length nodes) starts (due_of c.push_visits.new.stack.items) c.new-met.result.keys due c.new-met.ensures.empty c.requires.there,
      refl,
      extends_itself c.args.arena.now,
      c.requires.stands,
    )
