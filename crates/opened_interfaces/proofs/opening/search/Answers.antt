use Rattle.std.proofs.Common.{rules, ◌≡◌, ◌∷◌, ◌++◌, [], ap, subst, ◌∙◌, length, Err, None}
use Rattle.std.proofs.lemmas.Result.{err_from_is_err_and}
use Rattle.environments.specs.KeptLaws.{kept_itself, kept_again, kept_more}
use Rattle.interface_opener.specs.Numbered.{state}
use Rattle.interface_opener.specs.Stacked.{item_of, stacked}
use Rattle.interface_opener.proofs.StackLemmas.{stacked_pushed}
use Rattle.opened_interfaces.specs.Calls.{IsRun, left_by}
use Rattle.opened_interfaces.specs.Meant.{known_meant, due_meant}
use Rattle.opened_interfaces.proofs.LoopLemmas.{IsSearching, searching, search_stops, search_goes, search_finds, joining_stays, asked_here, opened_here, step_told, some_told, none_told}
use Rattle.opened_interfaces.proofs.opening.search.Goals as goal

pub loop-task-init : goal.loop-task-init
loop-task-init g c = (searching _ _ _ _, (λ n. kept_itself _ _ _ _), c.requires.stands, c.requires.runs)

pub returns-in_err-met-clause-exact : goal.returns-in_err-met-clause-exact
returns-in_err-met-clause-exact g c n =
    let nodes = c.args.arena.now.nodes in
    let entries = g.E.Env.entries c.args.env.now nodes in
    let names = g.E.Env.names c.args.env.now in
    let first = due_meant nodes (stacked c.args.run.now.tasks.items) in
    let began = known_meant nodes (state c.args.run.now.found) in
    let at = c.loop-task in
    let is = at.invariant in
    let item = item_of c.in-Some.task in
    let rest = stacked c.pop.new.self.items in
    let s = state at.run.found in
    let popped : at.run.tasks.items ≡ c.pop.new.self.items ++ c.in-Some.task ∷ [] = search rules in
    let split = ap stacked popped ∙ stacked_pushed c.pop.new.self.items c.in-Some.task in
    let runs = subst (λ l. IsRun (length at.arena.nodes) s l at.run.entered.keys) split is.3 in
    let was = subst (λ l. IsSearching entries names first began (due_meant at.arena.nodes l) (known_meant at.arena.nodes s)) split is.0 in
    let later = g.E.Env.entries at.env at.arena.nodes in
    let more = g.E.Env.names at.env in
    let does = c.in_err-met.ensures in
    let p = err_from_is_err_and c.from_residual.result c.from_residual.ensures.1 in
    rw (p.1, p.2) (search_stops entries names first began at.arena item rest s was c.turn.new.arena does.kept.extends c.turn.new.run c.args.arena.now (is.1 n).extends n (is.1 n).adds (g.E.Env.full c.turn.new.env) c.in_err-met.field-0.0
    (step_told entries names first began at.arena item rest s was later more (is.1 0).entries (is.1 0).names c.turn.new.arena (g.E.Env.full c.turn.new.env) (Err c.in_err-met.field-0.0) c.turn.new.run does.exact))

pub returns-in_err-met-clause-kept : goal.returns-in_err-met-clause-kept
returns-in_err-met-clause-kept g c n =
    let nodes = c.args.arena.now.nodes in
    let entries = g.E.Env.entries c.args.env.now nodes in
    let names = g.E.Env.names c.args.env.now in
    let first = due_meant nodes (stacked c.args.run.now.tasks.items) in
    let began = known_meant nodes (state c.args.run.now.found) in
    let at = c.loop-task in
    let is = at.invariant in
    let item = item_of c.in-Some.task in
    let rest = stacked c.pop.new.self.items in
    let s = state at.run.found in
    let popped : at.run.tasks.items ≡ c.pop.new.self.items ++ c.in-Some.task ∷ [] = search rules in
    let split = ap stacked popped ∙ stacked_pushed c.pop.new.self.items c.in-Some.task in
    let runs = subst (λ l. IsRun (length at.arena.nodes) s l at.run.entered.keys) split is.3 in
    let was = subst (λ l. IsSearching entries names first began (due_meant at.arena.nodes l) (known_meant at.arena.nodes s)) split is.0 in
    let later = g.E.Env.entries at.env at.arena.nodes in
    let more = g.E.Env.names at.env in
    let does = c.in_err-met.ensures in
    kept_again _ _ _ _ _ _ _ _ (is.1 n) (kept_more _ _ _ _ _ _ _ _ (asked_here entries names first began at.arena item rest s was later more (is.1 0).entries (is.1 0).names n) (opened_here entries names first began at.arena item rest s was later more (is.1 0).entries (is.1 0).names n) does.kept)

pub returns-in-Some-2-clause-exact : goal.returns-in-Some-2-clause-exact
returns-in-Some-2-clause-exact g c n =
    let nodes = c.args.arena.now.nodes in
    let entries = g.E.Env.entries c.args.env.now nodes in
    let names = g.E.Env.names c.args.env.now in
    let first = due_meant nodes (stacked c.args.run.now.tasks.items) in
    let began = known_meant nodes (state c.args.run.now.found) in
    let at = c.loop-task in
    let is = at.invariant in
    let item = item_of c.in-Some.task in
    let rest = stacked c.pop.new.self.items in
    let s = state at.run.found in
    let popped : at.run.tasks.items ≡ c.pop.new.self.items ++ c.in-Some.task ∷ [] = search rules in
    let split = ap stacked popped ∙ stacked_pushed c.pop.new.self.items c.in-Some.task in
    let runs = subst (λ l. IsRun (length at.arena.nodes) s l at.run.entered.keys) split is.3 in
    let was = subst (λ l. IsSearching entries names first began (due_meant at.arena.nodes l) (known_meant at.arena.nodes s)) split is.0 in
    let later = g.E.Env.entries at.env at.arena.nodes in
    let more = g.E.Env.names at.env in
    let does = c.in_ok-met.ensures in
    let grown = does.kept.extends in
    let met = c.in-Some-2.met in
    let told = some_told entries names first began at.arena item rest s was later more (is.1 0).entries (is.1 0).names c.turn.new.arena (g.E.Env.full c.turn.new.env) c.in_ok-met.field-0 c.turn.new.run does.exact met c.in-Some-2.is in
    let left = does.left ∙ ap (λ o. left_by item o ++ rest) c.in-Some-2.is in
    (search_finds entries names first began at.arena item rest s was c.turn.new.arena grown c.turn.new.run met runs.due.1 left (joining_stays entries names at.arena c.turn.new.arena grown item runs.due.0 met) told.0, told.1, told.2)

pub returns-in-Some-2-clause-kept : goal.returns-in-Some-2-clause-kept
returns-in-Some-2-clause-kept g c n =
    let nodes = c.args.arena.now.nodes in
    let entries = g.E.Env.entries c.args.env.now nodes in
    let names = g.E.Env.names c.args.env.now in
    let first = due_meant nodes (stacked c.args.run.now.tasks.items) in
    let began = known_meant nodes (state c.args.run.now.found) in
    let at = c.loop-task in
    let is = at.invariant in
    let item = item_of c.in-Some.task in
    let rest = stacked c.pop.new.self.items in
    let s = state at.run.found in
    let popped : at.run.tasks.items ≡ c.pop.new.self.items ++ c.in-Some.task ∷ [] = search rules in
    let split = ap stacked popped ∙ stacked_pushed c.pop.new.self.items c.in-Some.task in
    let runs = subst (λ l. IsRun (length at.arena.nodes) s l at.run.entered.keys) split is.3 in
    let was = subst (λ l. IsSearching entries names first began (due_meant at.arena.nodes l) (known_meant at.arena.nodes s)) split is.0 in
    let later = g.E.Env.entries at.env at.arena.nodes in
    let more = g.E.Env.names at.env in
    let does = c.in_ok-met.ensures in
    kept_again _ _ _ _ _ _ _ _ (is.1 n) (kept_more _ _ _ _ _ _ _ _ (asked_here entries names first began at.arena item rest s was later more (is.1 0).entries (is.1 0).names n) (opened_here entries names first began at.arena item rest s was later more (is.1 0).entries (is.1 0).names n) does.kept)

pub loop-task-preserved-in_default-2 : goal.loop-task-preserved-in_default-2
loop-task-preserved-in_default-2 g c =
    let nodes = c.args.arena.now.nodes in
    let entries = g.E.Env.entries c.args.env.now nodes in
    let names = g.E.Env.names c.args.env.now in
    let first = due_meant nodes (stacked c.args.run.now.tasks.items) in
    let began = known_meant nodes (state c.args.run.now.found) in
    let at = c.loop-task in
    let is = at.invariant in
    let item = item_of c.in-Some.task in
    let rest = stacked c.pop.new.self.items in
    let s = state at.run.found in
    let popped : at.run.tasks.items ≡ c.pop.new.self.items ++ c.in-Some.task ∷ [] = search rules in
    let split = ap stacked popped ∙ stacked_pushed c.pop.new.self.items c.in-Some.task in
    let runs = subst (λ l. IsRun (length at.arena.nodes) s l at.run.entered.keys) split is.3 in
    let was = subst (λ l. IsSearching entries names first began (due_meant at.arena.nodes l) (known_meant at.arena.nodes s)) split is.0 in
    let later = g.E.Env.entries at.env at.arena.nodes in
    let more = g.E.Env.names at.env in
    let does = c.in_ok-met.ensures in
    let grown = does.kept.extends in
    let none : c.in_ok-met.field-0 ≡ None = search rules in
    let told = none_told entries names first began at.arena item rest s was later more (is.1 0).entries (is.1 0).names c.turn.new.arena (g.E.Env.full c.turn.new.env) c.in_ok-met.field-0 c.turn.new.run does.exact none in
    let left = does.left ∙ ap (λ o. left_by item o ++ rest) none in (
      search_goes entries names first began at.arena item rest s was c.turn.new.arena grown c.turn.new.run runs.due.1 left told.0,
      (λ n. kept_again _ _ _ _ _ _ _ _ (is.1 n) (kept_more _ _ _ _ _ _ _ _ (asked_here entries names first began at.arena item rest s was later more (is.1 0).entries (is.1 0).names n) (opened_here entries names first began at.arena item rest s was later more (is.1 0).entries (is.1 0).names n) does.kept)),
      does.stands_after,
      told.1,
    )

pub loop-task-preserved : goal.loop-task-preserved
loop-task-preserved g c =
    let nodes = c.args.arena.now.nodes in
    let entries = g.E.Env.entries c.args.env.now nodes in
    let names = g.E.Env.names c.args.env.now in
    let first = due_meant nodes (stacked c.args.run.now.tasks.items) in
    let began = known_meant nodes (state c.args.run.now.found) in
    let at = c.loop-task in
    let is = at.invariant in
    let item = item_of c.in-Some.task in
    let rest = stacked c.pop.new.self.items in
    let s = state at.run.found in
    let popped : at.run.tasks.items ≡ c.pop.new.self.items ++ c.in-Some.task ∷ [] = search rules in
    let split = ap stacked popped ∙ stacked_pushed c.pop.new.self.items c.in-Some.task in
    let runs = subst (λ l. IsRun (length at.arena.nodes) s l at.run.entered.keys) split is.3 in
    let was = subst (λ l. IsSearching entries names first began (due_meant at.arena.nodes l) (known_meant at.arena.nodes s)) split is.0 in
    let later = g.E.Env.entries at.env at.arena.nodes in
    let more = g.E.Env.names at.env in
    let does = c.in_ok-met.ensures in
    let grown = does.kept.extends in
    let none : c.in_ok-met.field-0 ≡ None = search rules in
    let told = none_told entries names first began at.arena item rest s was later more (is.1 0).entries (is.1 0).names c.turn.new.arena (g.E.Env.full c.turn.new.env) c.in_ok-met.field-0 c.turn.new.run does.exact none in
    let left = does.left ∙ ap (λ o. left_by item o ++ rest) none in (
      search_goes entries names first began at.arena item rest s was c.turn.new.arena grown c.turn.new.run runs.due.1 left told.0,
      (λ n. kept_again _ _ _ _ _ _ _ _ (is.1 n) (kept_more _ _ _ _ _ _ _ _ (asked_here entries names first began at.arena item rest s was later more (is.1 0).entries (is.1 0).names n) (opened_here entries names first began at.arena item rest s was later more (is.1 0).entries (is.1 0).names n) does.kept)),
      does.stands_after,
      told.1,
    )
