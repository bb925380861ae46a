use Rattle.std.proofs.Common.{[], map, subst, sym}
use Rattle.std.specs.List.{AllByRecursion}
use Rattle.std.proofs.lemmas.Result.{on_ok_weaker}
use Rattle.position_codec.specs.Place.{no_place}
use Rattle.type_terms.specs.Denotation.{tree}
use Rattle.block_writer.specs.Adding.{meant}
use Rattle.block_writer.specs.Declaring.{AddsDecl}
use Rattle.block_walk.specs.Standing.{IsThere, Goes}
use Rattle.block_walk.specs.Steps.{items_steps}
use Rattle.block_walk.proofs.DeclaringLemmas.{items_there, steps_are}
use Rattle.block_walk.proofs.declaring.go_before.Goals as goal

pub go_through-requires-clause-there : goal.go_through-requires-clause-there
go_through-requires-clause-there c =
    let items = c.push_declaration.new.into.items in
    let adds = subst (λ none. AddsDecl c.args.told c.args.decl.now none items) c.new-items.ensures.items c.in_ok-push_declaration.ensures in
    subst (AllByRecursion (IsThere c.args.nodes.now.nodes)) (sym c.as_slice.ensures.value) (items_there c.args.nodes.now.nodes c.args.told c.args.decl.now items c.requires.methods adds c.requires.there)

pub returns-clause-goes : goal.returns-clause-goes
returns-clause-goes c =
    let nodes = c.args.nodes.now.nodes in
    let items = c.push_declaration.new.into.items in
    let adds = subst (λ none. AddsDecl c.args.told c.args.decl.now none items) c.new-items.ensures.items c.in_ok-push_declaration.ensures in
    on_ok_weaker c.go_through.result
    (λ goes basics so.
    subst (λ ss. Goes nodes c.args.own.now c.args.section.now c.go_through.new.self ss []) (steps_are c.args.told c.args.decl.now items (tree nodes) basics adds so)
    (subst (λ all. Goes nodes c.args.own.now c.args.section.now c.go_through.new.self (items_steps no_place (map (meant (tree nodes)) all)) []) c.as_slice.ensures.value goes))
    c.go_through.ensures

pub returns-clause-room : goal.returns-clause-room
returns-clause-room c = on_ok_weaker c.go_through.result (λ goes. goes.room) c.go_through.ensures
