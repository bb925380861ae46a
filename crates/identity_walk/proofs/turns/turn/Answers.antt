use Rattle.std.proofs.Common.{rules, ◌≡◌, ◌<◌, ◌++◌, ◌∷◌, [], length, Ok, Err, Some, None, ap, sym, subst, refl, ◌∙◌, arith, ◌+◌}
use Rattle.pair_walk.specs.Walk.{visits}
use Rattle.type_alike.specs.Comparing.{steps}
use Rattle.type_demands.specs.NodeDemands.{pair_tree}
use Rattle.identity_walk.specs.Walking.{GivesParts, visit_of, due_of, rest_of, IsState}
use Rattle.identity_walk.proofs.StackLemmas.{due_pushed, on_ok}
use Rattle.identity_walk.proofs.TurnLemmas as laws
use Rattle.identity_walk.proofs.turns.turn.Goals as goal

pub returns-in_default-clause-turned : goal.returns-in_default-clause-turned
returns-in_default-clause-turned g c =
    let none : c.pop.result ≡ None = search rules in
    let empty : c.args.stack.now.items ≡ [] = search rules in
    laws.nothing_due (g.S.Sides.meant c.args.sides.now c.args.arena.now.nodes) c.args.arena.now.nodes (due_of c.args.stack.now.items) c.args.met.now.keys (ap due_of empty)

pub returns-in-Err-clause-turned : goal.returns-in-Err-clause-turned
returns-in-Err-clause-turned g c =
    let due = ap due_of c.in-Some.ensures.items ∙ due_pushed c.pop.new.self.items c.in-Some.visit in
    laws.settle_fails (g.S.Sides.meant c.args.sides.now c.args.arena.now.nodes) c.args.arena.now c.settle.new.arena (due_of c.args.stack.now.items)
    (due_of c.pop.new.self.items) (visit_of c.in-Some.visit) c.args.met.now.keys c.in-Err.fault due c.in-Err.ensures.exact

pub returns-then-is_met-clause-turned : goal.returns-then-is_met-clause-turned
returns-then-is_met-clause-turned g c =
    let due = ap due_of c.in-Some.ensures.items ∙ due_pushed c.pop.new.self.items c.in-Some.visit in
    laws.met_before (g.S.Sides.meant c.args.sides.now c.args.arena.now.nodes) c.args.arena.now c.settle.new.arena (due_of c.args.stack.now.items)
    (due_of c.pop.new.self.items) (visit_of c.in-Some.visit) c.args.met.now.keys c.in-Ok.pair due c.requires.state c.in-Ok.ensures.extends c.is_met.ensures.once
    c.in-Ok.ensures.exact (sym c.is_met.ensures.tested ∙ c.if-is_met.true)

pub returns-then-is_met-clause-state : goal.returns-then-is_met-clause-state
returns-then-is_met-clause-state g c = λ goes.
    let due = ap due_of c.in-Some.ensures.items ∙ due_pushed c.pop.new.self.items c.in-Some.visit in
    laws.state_passed (g.S.Sides.meant c.args.sides.now c.args.arena.now.nodes) c.args.arena.now c.settle.new.arena (due_of c.args.stack.now.items)
    (due_of c.pop.new.self.items) (visit_of c.in-Some.visit) c.args.met.now.keys due c.requires.state c.in-Ok.ensures.extends

pub returns-then-len-ge-PAIR_LIMIT-clause-turned :
    goal.returns-then-len-ge-PAIR_LIMIT-clause-turned
returns-then-len-ge-PAIR_LIMIT-clause-turned g c =
    let due = ap due_of c.in-Some.ensures.items ∙ due_pushed c.pop.new.self.items c.in-Some.visit in (
      laws.one_too_many (g.S.Sides.meant c.args.sides.now c.args.arena.now.nodes) c.args.arena.now c.settle.new.arena (due_of c.args.stack.now.items)
          (due_of c.pop.new.self.items) (visit_of c.in-Some.visit) c.args.met.now.keys c.in-Ok.pair due c.requires.state c.in-Ok.ensures.extends c.is_met.ensures.once
          c.in-Ok.ensures.exact (sym c.is_met.ensures.tested ∙ c.if-is_met.false) (omega (arith, c.len.ensures.len, c.if-len-ge-PAIR_LIMIT.true)),
      refl,
    )

pub returns-in-Ok-None-clause-turned : goal.returns-in-Ok-None-clause-turned
returns-in-Ok-None-clause-turned g c =
    let due = ap due_of c.in-Some.ensures.items ∙ due_pushed c.pop.new.self.items c.in-Some.visit in
    let few : length c.args.met.now.keys < 65536 = omega (arith, c.len.ensures.len, c.if-len-ge-PAIR_LIMIT.false) in
    let is : c.parts_of.result ≡ Ok None = search rules in
    let exact = subst (λ r. GivesParts c.parts_of.new.arena.nodes r (steps (g.S.Sides.meant c.settle.new.self c.settle.new.arena.nodes) (pair_tree c.settle.new.arena.nodes c.in-Ok.pair))) is c.parts_of.ensures.exact in
    let none = subst (λ w. GivesParts c.parts_of.new.arena.nodes (Ok None) (steps w (pair_tree c.settle.new.arena.nodes c.in-Ok.pair))) c.in-Ok.ensures.meant exact in
    laws.parts_differ (g.S.Sides.meant c.args.sides.now c.args.arena.now.nodes) c.args.arena.now c.settle.new.arena c.parts_of.new.arena (due_of c.args.stack.now.items)
    (due_of c.pop.new.self.items) (visit_of c.in-Some.visit) c.args.met.now.keys c.in-Ok.pair due c.requires.state c.in-Ok.ensures.extends c.is_met.ensures.once
    c.in-Ok.ensures.exact (sym c.is_met.ensures.tested ∙ c.if-is_met.false) few none

pub returns-in-Err-parts_of-clause-turned : goal.returns-in-Err-parts_of-clause-turned
returns-in-Err-parts_of-clause-turned g c =
    let due = ap due_of c.in-Some.ensures.items ∙ due_pushed c.pop.new.self.items c.in-Some.visit in
    let few : length c.args.met.now.keys < 65536 = omega (arith, c.len.ensures.len, c.if-len-ge-PAIR_LIMIT.false) in
    let is : c.parts_of.result ≡ Err c.in-Err-parts_of.fault = search rules in
    let exact = subst (λ r. GivesParts c.parts_of.new.arena.nodes r (steps (g.S.Sides.meant c.settle.new.self c.settle.new.arena.nodes) (pair_tree c.settle.new.arena.nodes c.in-Ok.pair))) is c.parts_of.ensures.exact in
    let fault = subst (λ w. GivesParts c.parts_of.new.arena.nodes (Err c.in-Err-parts_of.fault) (steps w (pair_tree c.settle.new.arena.nodes c.in-Ok.pair))) c.in-Ok.ensures.meant exact in
    laws.parts_fail (g.S.Sides.meant c.args.sides.now c.args.arena.now.nodes) c.args.arena.now c.settle.new.arena c.parts_of.new.arena (due_of c.args.stack.now.items)
    (due_of c.pop.new.self.items) (visit_of c.in-Some.visit) c.args.met.now.keys c.in-Ok.pair due c.requires.state c.in-Ok.ensures.extends c.is_met.ensures.once
    c.in-Ok.ensures.exact (sym c.is_met.ensures.tested ∙ c.if-is_met.false) few c.in-Err-parts_of.fault fault

pub returns-in-Ok-push_visits-clause-turned : goal.returns-in-Ok-push_visits-clause-turned
returns-in-Ok-push_visits-clause-turned g c =
    let w = g.S.Sides.meant c.args.sides.now c.args.arena.now.nodes in
    let due = ap due_of c.in-Some.ensures.items ∙ due_pushed c.pop.new.self.items c.in-Some.visit in
    let few : length c.args.met.now.keys < 65536 = omega (arith, c.len.ensures.len, c.if-len-ge-PAIR_LIMIT.false) in
    let is : c.parts_of.result ≡ Ok (Some c.in-Ok-Some.parts) = search rules in
    let exact = subst (λ r. GivesParts c.parts_of.new.arena.nodes r (steps (g.S.Sides.meant c.settle.new.self c.settle.new.arena.nodes) (pair_tree c.settle.new.arena.nodes c.in-Ok.pair))) is c.parts_of.ensures.exact in
    let found = subst (λ v. GivesParts c.parts_of.new.arena.nodes (Ok (Some c.in-Ok-Some.parts)) (steps v (pair_tree c.settle.new.arena.nodes c.in-Ok.pair))) c.in-Ok.ensures.meant exact in
    let met : c.put.new.met.keys ≡ c.args.met.now.keys ++ c.in-Ok.pair ∷ []
    = on_ok c.put.result _ (sym c.is_err.ensures.value ∙ c.if-is_err.false) c.put.ensures.put in
    let later : due_of c.push_visits.new.stack.items ≡ visits (c.in-Some.visit.depth + 1) c.in-Ok-Some.parts.items ++ due_of c.pop.new.self.items
    = c.in-Ok-push_visits.ensures.pushed ∙ ap (λ ps. visits (c.in-Some.visit.depth + 1) ps ++ due_of c.pop.new.self.items) c.deref.ensures.value in
    laws.parts_go w c.args.arena.now c.settle.new.arena c.parts_of.new.arena (due_of c.args.stack.now.items)
    (due_of c.pop.new.self.items) (visit_of c.in-Some.visit) c.args.met.now.keys c.in-Ok.pair due c.requires.state c.in-Ok.ensures.extends c.is_met.ensures.once
    c.in-Ok.ensures.exact (sym c.is_met.ensures.tested ∙ c.if-is_met.false) few c.in-Ok-Some.parts.items found.0 c.parts_of.ensures.extends
    ∙ (λ i. rest_of w c.parts_of.new.arena.nodes (sym later i) (sym met i))

pub returns-in-Ok-push_visits-clause-state : goal.returns-in-Ok-push_visits-clause-state
returns-in-Ok-push_visits-clause-state g c = λ goes.
    let w = g.S.Sides.meant c.args.sides.now c.args.arena.now.nodes in
    let due = ap due_of c.in-Some.ensures.items ∙ due_pushed c.pop.new.self.items c.in-Some.visit in
    let few : length c.args.met.now.keys < 65536 = omega (arith, c.len.ensures.len, c.if-len-ge-PAIR_LIMIT.false) in
    let is : c.parts_of.result ≡ Ok (Some c.in-Ok-Some.parts) = search rules in
    let found = subst (λ r. GivesParts c.parts_of.new.arena.nodes r (steps (g.S.Sides.meant c.settle.new.self c.settle.new.arena.nodes) (pair_tree c.settle.new.arena.nodes c.in-Ok.pair))) is c.parts_of.ensures.exact in
    let met : c.put.new.met.keys ≡ c.args.met.now.keys ++ c.in-Ok.pair ∷ []
    = on_ok c.put.result _ (sym c.is_err.ensures.value ∙ c.if-is_err.false) c.put.ensures.put in
    let later : due_of c.push_visits.new.stack.items ≡ visits (c.in-Some.visit.depth + 1) c.in-Ok-Some.parts.items ++ due_of c.pop.new.self.items
    = c.in-Ok-push_visits.ensures.pushed ∙ ap (λ ps. visits (c.in-Some.visit.depth + 1) ps ++ due_of c.pop.new.self.items) c.deref.ensures.value in
    subst (λ (t : Type 0). t) (λ i. IsState (length c.parts_of.new.arena.nodes) (sym later i) (sym met i))
    (laws.state_after w c.args.arena.now c.settle.new.arena c.parts_of.new.arena (due_of c.args.stack.now.items)
    (due_of c.pop.new.self.items) (visit_of c.in-Some.visit) c.args.met.now.keys c.in-Ok.pair due c.requires.state c.in-Ok.ensures.extends c.is_met.ensures.once
    c.in-Ok.ensures.exact (sym c.is_met.ensures.tested ∙ c.if-is_met.false) few c.in-Ok-Some.parts.items found.1 c.parts_of.ensures.extends)
