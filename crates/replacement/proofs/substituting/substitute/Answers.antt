use Rattle.std.proofs.Common.{rules, ◌≡◌, ◌<◌, [], ◌∷◌, length, ap, sym, subst, ◌∙◌}
use Rattle.type_terms.specs.Additions.{AddsOnly, Outgrows}
use Rattle.type_terms.specs.AdditionLaws.{additions_join}
use Rattle.type_terms.specs.Denotation.{tree}
use Rattle.type_terms.specs.Extensions.{extends_below, extends_tree}
use Rattle.replacement.specs.Substitution.{replaced}
use Rattle.replacement.specs.Moves.{put_of, AreMoves}
use Rattle.replacement.proofs.MoveLemmas.{put_later, is_moved}
use Rattle.replacement.proofs.MovingLemmas.{next_within, children_are_made, adds_whole, outgrown_whole, moving_goes, made_at_end}
use Rattle.replacement.proofs.substituting.substitute.Goals as goal

pub move_node-requires-clause-there : goal.move_node-requires-clause-there
move_node-requires-clause-there c =
    let first = c.args.arena.now in
    next_within first (put_of first.nodes c.args.params.now c.args.args.now) c.args.node c.in-Ok.left.items c.in-Ok.ensures c.loop-id.arena c.loop-id.left.items c.pop.new.self.items c.in-Some.id c.loop-id.moves.entries c.loop-id.invariant c.in-Some.ensures.items

pub move_node-requires-clause-args : goal.move_node-requires-clause-args
move_node-requires-clause-args c = extends_below c.args.arena.now c.loop-id.arena c.loop-id.invariant.extends c.args.args.now c.requires.args

pub move_node-requires-clause-moves : goal.move_node-requires-clause-moves
move_node-requires-clause-moves c =
    let now = c.loop-id.arena in
    let same = put_later c.args.arena.now now c.args.params.now c.args.args.now c.loop-id.invariant.extends c.requires.args in
    subst (λ put. AreMoves now.nodes put c.loop-id.moves.entries) (sym same) c.loop-id.invariant.denotes

pub move_node-requires-clause-made : goal.move_node-requires-clause-made
move_node-requires-clause-made c node stands =
    let first = c.args.arena.now in
    children_are_made first (put_of first.nodes c.args.params.now c.args.args.now) c.args.node c.in-Ok.left.items c.in-Ok.ensures c.loop-id.arena c.loop-id.left.items c.pop.new.self.items c.in-Some.id c.loop-id.moves.entries c.loop-id.invariant c.in-Some.ensures.items node stands

pub loop-id-preserved : goal.loop-id-preserved
loop-id-preserved c =
    let first = c.args.arena.now in
    let now = c.loop-id.arena in
    let new = c.move_node.new.arena in
    let id = c.in-Some.id in
    let does = c.in_ok-move_node.ensures in
    let same = put_later first now c.args.params.now c.args.args.now c.loop-id.invariant.extends c.requires.args in
    moving_goes first (put_of first.nodes c.args.params.now c.args.args.now) c.args.node c.in-Ok.left.items c.in-Ok.ensures now c.loop-id.left.items c.pop.new.self.items id c.loop-id.moves.entries c.loop-id.invariant c.in-Some.ensures.items
    new c.move_node.new.moves.entries does.extends
    (subst (λ put. AddsOnly (replaced put (tree now.nodes id) ∷ []) now new) same does.adds)
    (subst (λ put. AreMoves new.nodes put c.move_node.new.moves.entries) same does.moves)
    does.kept does.made

pub returns-in_err-move_node-clause-adds : goal.returns-in_err-move_node-clause-adds
returns-in_err-move_node-clause-adds c =
    let first = c.args.arena.now in
    let now = c.loop-id.arena in
    let new = c.move_node.new.arena in
    let id = c.in-Some.id in
    let put = put_of first.nodes c.args.params.now c.args.args.now in
    let does = c.in_err-move_node.ensures in
    let same = put_later first now c.args.params.now c.args.args.now c.loop-id.invariant.extends c.requires.args in
    let own = subst (λ put. AddsOnly (replaced put (tree now.nodes id) ∷ []) now new) same does.adds in
    additions_join first now new (replaced put (tree first.nodes c.args.node) ∷ []) c.loop-id.invariant.adds does.extends
    (adds_whole first put c.args.node c.in-Ok.left.items c.in-Ok.ensures now c.loop-id.left.items c.pop.new.self.items id c.loop-id.moves.entries c.loop-id.invariant c.in-Some.ensures.items new own)

pub returns-in_err-move_node-clause-outgrown : goal.returns-in_err-move_node-clause-outgrown
returns-in_err-move_node-clause-outgrown c full =
    let first = c.args.arena.now in
    let now = c.loop-id.arena in
    let id = c.in-Some.id in
    let put = put_of first.nodes c.args.params.now c.args.args.now in
    let same = put_later first now c.args.params.now c.args.args.now c.loop-id.invariant.extends c.requires.args in
    let own : Outgrows now (replaced (put_of now.nodes c.args.params.now c.args.args.now) (tree now.nodes id) ∷ []) = search rules in
    outgrown_whole first put c.args.node c.in-Ok.left.items c.in-Ok.ensures now c.loop-id.left.items c.pop.new.self.items id c.loop-id.moves.entries c.loop-id.invariant c.in-Some.ensures.items
    (subst (λ put. Outgrows now (replaced put (tree now.nodes id) ∷ [])) same own)

pub returns-clause-denotes : goal.returns-clause-denotes
returns-clause-denotes c =
    let first = c.args.arena.now in
    let now = c.loop-id.arena in
    let put = put_of first.nodes c.args.params.now c.args.args.now in
    let empty : c.loop-id.left.items ≡ [] = search rules in
    let made = made_at_end first put c.args.node c.in-Ok.left.items c.in-Ok.ensures now c.loop-id.left.items c.loop-id.moves.entries c.loop-id.invariant empty in
    ap (tree now.nodes) (c.moved.ensures ∙ is_moved c.loop-id.moves.entries c.args.node made.0 made.1)
    ∙ made.2.denotes ∙ ap (replaced put) (extends_tree first now c.loop-id.invariant.extends c.args.node c.requires.there)

pub returns-clause-within : goal.returns-clause-within
returns-clause-within c =
    let first = c.args.arena.now in
    let now = c.loop-id.arena in
    let put = put_of first.nodes c.args.params.now c.args.args.now in
    let empty : c.loop-id.left.items ≡ [] = search rules in
    let made = made_at_end first put c.args.node c.in-Ok.left.items c.in-Ok.ensures now c.loop-id.left.items c.loop-id.moves.entries c.loop-id.invariant empty in
    subst (λ n. n < length now.nodes) (sym (c.moved.ensures ∙ is_moved c.loop-id.moves.entries c.args.node made.0 made.1)) made.2.within
