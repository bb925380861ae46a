use Rattle.std.proofs.Common.{[], ◌∷◌, ◌++◌, ◌<◌, refl, sym, subst}
use Rattle.std.proofs.lemmas.Result.{on_ok_weaker}
use Rattle.type_terms.specs.Denotation.{tree}
use Rattle.block_walk.specs.declared.steps.Step.TheVariants as todo
use Rattle.block_walk.specs.Standing.{left_steps, Goes}
use Rattle.block_walk.specs.Steps.{say, tell, finish, type_steps}
use Rattle.block_walk.specs.Weights.{steps_weight}
use Rattle.block_walk.proofs.WalkingLemmas.{there_front, goes_past, goes_in, meet_weighs, entered_weighs, one_weighs, next_goes, next_weighs, next_there}
use Rattle.block_walk.proofs.walking.do_step.Goals as goal

pub is_marked-requires : goal.is_marked-requires
is_marked-requires c = record { there = (next_there c.args.nodes.now.nodes c.args.left.now.items c.args.step (todo.Meet c.in-Meet.id) c.in-Meet.is c.requires.there).0 }

pub enter-requires : goal.enter-requires
enter-requires c = (next_there c.args.nodes.now.nodes c.args.left.now.items c.args.step (todo.Meet c.in-Meet.id) c.in-Meet.is c.requires.there).0

pub finish-requires-clause-there : goal.finish-requires-clause-there
finish-requires-clause-there c = (next_there c.args.nodes.now.nodes c.args.left.now.items c.args.step (todo.Finish c.in-Finish.id) c.in-Finish.is c.requires.there).0

pub returns-in-Say-clause-goes : goal.returns-in-Say-clause-goes
returns-in-Say-clause-goes c =
    let nodes = c.args.nodes.now.nodes in
    let own = c.args.own.now in
    let left = c.args.left.now.items in
    let rest = left_steps (tree nodes) left in
    on_ok_weaker c.mention.result (λ does. next_goes nodes left c.args.step (todo.Say c.in-Say.text) c.in-Say.is own c.args.section.now c.mention.new.section rest (does nodes own rest c.requires.room)) c.mention.ensures

pub returns-in-Say-clause-lighter : goal.returns-in-Say-clause-lighter
returns-in-Say-clause-lighter c =
    let nodes = c.args.nodes.now.nodes in
    let left = c.args.left.now.items in
    let rest = left_steps (tree nodes) left in
    on_ok_weaker c.mention.result (λ does. next_weighs nodes left c.args.step (todo.Say c.in-Say.text) c.in-Say.is (steps_weight rest) (one_weighs (say c.in-Say.text.now) rest refl)) c.mention.ensures

pub returns-in-Tell-clause-goes : goal.returns-in-Tell-clause-goes
returns-in-Tell-clause-goes c =
    let nodes = c.args.nodes.now.nodes in
    let left = c.args.left.now.items in
    let rest = left_steps (tree nodes) left in
    on_ok_weaker c.mention_path.result (λ does. next_goes nodes left c.args.step (todo.Tell c.in-Tell.path) c.in-Tell.is c.args.own.now c.args.section.now c.mention_path.new.section rest (does nodes rest c.requires.room)) c.mention_path.ensures

pub returns-in-Tell-clause-lighter : goal.returns-in-Tell-clause-lighter
returns-in-Tell-clause-lighter c =
    let nodes = c.args.nodes.now.nodes in
    let left = c.args.left.now.items in
    let rest = left_steps (tree nodes) left in
    on_ok_weaker c.mention_path.result (λ does. next_weighs nodes left c.args.step (todo.Tell c.in-Tell.path) c.in-Tell.is (steps_weight rest) (one_weighs (tell c.in-Tell.path.now) rest refl)) c.mention_path.ensures

pub returns-then-is_marked-clause-goes : goal.returns-then-is_marked-clause-goes
returns-then-is_marked-clause-goes c =
    let nodes = c.args.nodes.now.nodes in
    let left = c.args.left.now.items in
    let rest = left_steps (tree nodes) left in
    let there = (next_there nodes left c.args.step (todo.Meet c.in-Meet.id) c.in-Meet.is c.requires.there).0 in
    next_goes nodes left c.args.step (todo.Meet c.in-Meet.id) c.in-Meet.is c.args.own.now c.args.section.now c.args.section.now rest
    (goes_past nodes c.args.own.now c.args.section.now c.in-Meet.id c.requires.room there (sym c.if-is_marked.ensures) rest)

pub returns-then-is_marked-clause-there : goal.returns-then-is_marked-clause-there
returns-then-is_marked-clause-there c = there_front c.args.nodes.now.nodes c.args.left.now.items (c.args.step ∷ []) c.requires.there

pub returns-then-is_marked-clause-lighter : goal.returns-then-is_marked-clause-lighter
returns-then-is_marked-clause-lighter c =
    let nodes = c.args.nodes.now.nodes in
    let left = c.args.left.now.items in
    let rest = left_steps (tree nodes) left in
    next_weighs nodes left c.args.step (todo.Meet c.in-Meet.id) c.in-Meet.is (steps_weight rest) (meet_weighs (tree nodes c.in-Meet.id) rest)

pub returns-else-is_marked-clause-goes : goal.returns-else-is_marked-clause-goes
returns-else-is_marked-clause-goes c =
    let nodes = c.args.nodes.now.nodes in
    let own = c.args.own.now in
    let section = c.args.section.now in
    let left = c.args.left.now.items in
    let rest = left_steps (tree nodes) left in
    let id = c.in-Meet.id in
    let there = (next_there nodes left c.args.step (todo.Meet id) c.in-Meet.is c.requires.there).0 in
    let goes = next_goes nodes left c.args.step (todo.Meet id) c.in-Meet.is own section section (type_steps (tree nodes id) ++ rest) (goes_in nodes own section id c.requires.room there (sym c.if-is_marked.ensures) rest) in
    on_ok_weaker c.enter.result (λ enters. subst (λ ss. Goes nodes own section section (left_steps (tree nodes) (left ++ c.args.step ∷ [])) ss) (sym enters.steps) goes) c.enter.ensures

pub returns-else-is_marked-clause-there : goal.returns-else-is_marked-clause-there
returns-else-is_marked-clause-there c = on_ok_weaker c.enter.result (λ enters. enters.there (there_front c.args.nodes.now.nodes c.args.left.now.items (c.args.step ∷ []) c.requires.there)) c.enter.ensures

pub returns-else-is_marked-clause-lighter : goal.returns-else-is_marked-clause-lighter
returns-else-is_marked-clause-lighter c =
    let nodes = c.args.nodes.now.nodes in
    let left = c.args.left.now.items in
    let rest = left_steps (tree nodes) left in
    let id = c.in-Meet.id in
    let less = next_weighs nodes left c.args.step (todo.Meet id) c.in-Meet.is (steps_weight (type_steps (tree nodes id) ++ rest)) (entered_weighs nodes c.args.section.now id (sym c.if-is_marked.ensures) rest) in
    on_ok_weaker c.enter.result (λ enters. subst (λ ss. steps_weight ss < steps_weight (left_steps (tree nodes) (left ++ c.args.step ∷ []))) (sym enters.steps) less) c.enter.ensures

pub returns-in-Finish-clause-goes : goal.returns-in-Finish-clause-goes
returns-in-Finish-clause-goes c =
    let nodes = c.args.nodes.now.nodes in
    let left = c.args.left.now.items in
    let rest = left_steps (tree nodes) left in
    on_ok_weaker c.finish.result (λ does. next_goes nodes left c.args.step (todo.Finish c.in-Finish.id) c.in-Finish.is c.args.own.now c.args.section.now c.finish.new.section rest (does rest)) c.finish.ensures

pub returns-in-Finish-clause-there : goal.returns-in-Finish-clause-there
returns-in-Finish-clause-there c = on_ok_weaker c.finish.result (λ does. there_front c.args.nodes.now.nodes c.args.left.now.items (c.args.step ∷ []) c.requires.there) c.finish.ensures

pub returns-in-Finish-clause-lighter : goal.returns-in-Finish-clause-lighter
returns-in-Finish-clause-lighter c =
    let nodes = c.args.nodes.now.nodes in
    let left = c.args.left.now.items in
    let rest = left_steps (tree nodes) left in
    on_ok_weaker c.finish.result (λ does. next_weighs nodes left c.args.step (todo.Finish c.in-Finish.id) c.in-Finish.is (steps_weight rest) (one_weighs (finish (tree nodes c.in-Finish.id)) rest refl)) c.finish.ensures
