use Rattle.std.proofs.Common.{rules, ◌≡◌, [], None, refl, ap, ◌∙◌, subst, arith}
use Rattle.std.proofs.lemmas.List.{length-reverse}
use Rattle.whole_terms.specs.Tables.{table_of}
use Rattle.whole_terms.specs.Looks.{View, view, stack, Does}
use Rattle.whole_terms.proofs.PutLemmas.{pushed}
use Rattle.whole_terms.proofs.LookLemmas.{begins, next_within, goes_on, falls, stops, all_looked}
use Rattle.whole_terms.proofs.looking.look.Goals as goal

pub loop-task-init : goal.loop-task-init
loop-task-init c = begins c.args.arena.now.nodes (table_of c.args.table.now.entries) c.args.id (view c.in_ok-walk.walk) c.in_ok-walk.ensures c.requires.there

pub step-requires : goal.step-requires
step-requires c =
    let rest = c.pop.new.self.items in
    let top = ap stack c.in-Some.ensures.items ∙ pushed rest c.in-Some.task in
    record { there = next_within c.args.arena.now.nodes (table_of c.args.table.now.entries) c.args.id (view c.loop-task.walk) c.in-Some.task (stack rest) top c.loop-task.invariant }

pub returns-in-Some-2 : goal.returns-in-Some-2
returns-in-Some-2 c given =
    let nodes = c.args.arena.now.nodes in
    let table = table_of c.args.table.now.entries in
    let at = c.loop-task in
    let rest = c.pop.new.self.items in
    let top = ap stack c.in-Some.ensures.items ∙ pushed rest c.in-Some.task in
    let old : View = record { tasks = stack rest; entered = at.walk.entered.keys; looks = at.walk.looks.keys } in
    let does = subst (Does nodes table c.in-Some.task old (view c.step.new.walk)) c.in-Some-2.is c.in_ok-breach.ensures in
    stops nodes table c.args.id (view at.walk) (stack rest) old refl refl refl at.invariant c.in-Some.task top (view c.step.new.walk) c.in-Some-2.breach does given

pub loop-task-smaller : goal.loop-task-smaller
loop-task-smaller c =
    let nodes = c.args.arena.now.nodes in
    let table = table_of c.args.table.now.entries in
    let at = c.loop-task in
    let rest = c.pop.new.self.items in
    let top = ap stack c.in-Some.ensures.items ∙ pushed rest c.in-Some.task in
    let old : View = record { tasks = stack rest; entered = at.walk.entered.keys; looks = at.walk.looks.keys } in
    let none : c.in_ok-breach.field-0 ≡ None = search rules in
    let does = subst (Does nodes table c.in-Some.task old (view c.step.new.walk)) none c.in_ok-breach.ensures in
    let long = length-reverse c.step.new.walk.tasks.items in
    falls nodes table c.args.id (view at.walk) (stack rest) old refl refl refl at.invariant c.in-Some.task top (view c.step.new.walk) (omega (arith, long, c.step.new.walk.tasks.small)) does

pub loop-task-preserved : goal.loop-task-preserved
loop-task-preserved c =
    let nodes = c.args.arena.now.nodes in
    let table = table_of c.args.table.now.entries in
    let at = c.loop-task in
    let rest = c.pop.new.self.items in
    let top = ap stack c.in-Some.ensures.items ∙ pushed rest c.in-Some.task in
    let old : View = record { tasks = stack rest; entered = at.walk.entered.keys; looks = at.walk.looks.keys } in
    let none : c.in_ok-breach.field-0 ≡ None = search rules in
    let does = subst (Does nodes table c.in-Some.task old (view c.step.new.walk)) none c.in_ok-breach.ensures in
    goes_on nodes table c.args.id (view at.walk) (stack rest) old refl refl refl at.invariant c.in-Some.task top (view c.step.new.walk) does

pub returns : goal.returns
returns c given =
    let none : c.loop-task.walk.tasks.items ≡ [] = search rules in
    all_looked c.args.arena.now.nodes (table_of c.args.table.now.entries) c.args.id (view c.loop-task.walk) c.loop-task.invariant (ap stack none) given
