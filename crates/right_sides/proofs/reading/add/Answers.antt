use Rattle.std.proofs.Common.{rules, ◌≡◌, length, subst, sym}
use Rattle.environments.specs.Environments.{given_decl}
use Rattle.environments.specs.KeptLaws.{kept_by_declare}
use Rattle.type_terms.specs.declared.declarations.DeclNode.TheVariants.{Alias}
use Rattle.type_terms.specs.Arenas.{AllBelow}
use Rattle.type_terms.specs.Declarations.{decl_nodes}
use Rattle.right_sides.proofs.ReadingLemmas.{ask_stops, right_below, tparams_below}
use Rattle.right_sides.proofs.reading.add.Goals as goal

pub returns-in-Err-clause-adds : goal.returns-in-Err-clause-adds
returns-in-Err-clause-adds g c =
    ask_stops (g.E.Env.entries c.args.env.now c.args.arena.now.nodes) c.args.q.now c.args.arena.now c.declare.new.arena (g.E.Env.full c.declare.new.self) c.in-Err.fault c.in-Err.ensures.answer
    (λ same. c.in-Err.ensures.outgrown (search rules))

pub returns-in-Err-clause-kept : goal.returns-in-Err-clause-kept
returns-in-Err-clause-kept g c =
    let does = c.in-Err.ensures in
    kept_by_declare c.args.q.now _ _ _ _ does.entries does.names does.packages does.asked does.extends does.adds

pub put-requires-clause-there : goal.put-requires-clause-there
put-requires-clause-there g c =
    let given : given_decl c.in-Ok.given ≡ Alias c.in-Alias.pos c.in-Alias.tparams c.in-Alias.ty = search rules in
    right_below (length c.declare.new.arena.nodes) c.in-Alias.tparams c.in-Alias.ty (subst (λ d. AllBelow (length c.declare.new.arena.nodes) (decl_nodes d)) given c.in-Ok.ensures.answer.1)

pub put-requires-clause-tparams : goal.put-requires-clause-tparams
put-requires-clause-tparams g c =
    let given : given_decl c.in-Ok.given ≡ Alias c.in-Alias.pos c.in-Alias.tparams c.in-Alias.ty = search rules in
    subst (AllBelow (length c.declare.new.arena.nodes)) (sym c.items.ensures)
    (tparams_below (length c.declare.new.arena.nodes) c.in-Alias.tparams c.in-Alias.ty (subst (λ d. AllBelow (length c.declare.new.arena.nodes) (decl_nodes d)) given c.in-Ok.ensures.answer.1))

pub returns-in-Ok-put-clause-kept : goal.returns-in-Ok-put-clause-kept
returns-in-Ok-put-clause-kept g c =
    let does = c.in-Ok.ensures in
    kept_by_declare c.args.q.now _ _ _ _ does.entries does.names does.packages does.asked does.extends does.adds

pub returns-in-Alias-clause-kept : goal.returns-in-Alias-clause-kept
returns-in-Alias-clause-kept g c =
    let does = c.in-Ok.ensures in
    kept_by_declare c.args.q.now _ _ _ _ does.entries does.names does.packages does.asked does.extends does.adds

pub returns-clause-kept : goal.returns-clause-kept
returns-clause-kept g c =
    let does = c.in-Ok.ensures in
    kept_by_declare c.args.q.now _ _ _ _ does.entries does.names does.packages does.asked does.extends does.adds
