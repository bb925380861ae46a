use Rattle.std.proofs.Common.{◌≡◌, ◌∷◌, [], ◌++◌, List, length, ap, sym, subst, ◌∙◌, arith, rules}
use Rattle.std.specs.Vec.Iter.{into_iter_items}
use Rattle.std.proofs.lemmas.Result.{err_from_is_err_and}
use Rattle.type_terms.specs.Additions.{Covers}
use Rattle.type_terms.specs.AdditionLaws.{covers_left, covers_right, covers_again, adds_more, additions_join, outgrown_by_more, want_of_nodes_joins}
use Rattle.type_terms.specs.Extensions.{extends_again}
use Rattle.decl_spelling.specs.Tables.{Table}
use Rattle.decl_reader.specs.declared.finished.Descriptor.{Descriptor}
use Rattle.decl_reader.specs.Blocks.{table_of}
use Rattle.decl_reader.specs.Finished.{joined, known_after, types_after, type_of, AreInTurn}
use Rattle.decl_reader.proofs.ExtendsLemmas.{none_left}
use Rattle.decl_reader.proofs.WantLemmas.{passed}
use Rattle.decl_reader.proofs.nodes.descriptors.add_descriptors.Goals as goal

pub loop-descriptor-preserved : goal.loop-descriptor-preserved
loop-descriptor-preserved c =
    let at = c.loop-descriptor in
    let v = c.args.version in
    let d = c.in-Some.descriptor in
    let left = into_iter_items c.next.new.self in
    let steps : into_iter_items at.descriptor-iterator ≡ d ∷ left = c.in-Some.ensures.steps.0 in
    let was = table_of at.arena.nodes at.table in
    let new = c.add_descriptor.new.arena in
    let all = types_after v (table_of c.args.arena.now.nodes c.args.table.now) c.args.finished.items in
    let now_is = sym c.in_ok-add_descriptor.ensures.denotes in
    let turn = rw steps at at.invariant.turn in
    let known = rw steps at at.invariant.known in
    let covers = rw steps at at.invariant.covers in
    let first = type_of v was d ∷ [] in
    let own = covers_again all (first ++ types_after v (joined v was d) left) first covers (covers_left first (types_after v (joined v was d) left)) in
    record {
      extends = extends_again c.args.arena.now at.arena new at.invariant.extends c.add_descriptor.ensures.extends;
      inside = c.in_ok-add_descriptor.ensures.inside;
      turn = subst (λ (t : Table). AreInTurn v t left) now_is turn.1;
      known = ap (λ (t : Table). known_after v t left) (sym now_is) ∙ known;
      covers = subst (λ (t : Table). Covers all (types_after v t left)) now_is (covers_again all (first ++ types_after v (joined v was d) left) (types_after v (joined v was d) left) covers (covers_right first (types_after v (joined v was d) left)));
      adds = additions_join c.args.arena.now at.arena new all at.invariant.adds c.add_descriptor.ensures.extends (adds_more all first at.arena new own c.add_descriptor.ensures.adds);
      left = let gone = c.in-Some.ensures.steps.1 in let short = ap length steps in let was_left = at.invariant.left in omega arith;
    }

pub loop-descriptor-init : goal.loop-descriptor-init
loop-descriptor-init c = search rules

pub returns-clause-denotes : goal.returns-clause-denotes
returns-clause-denotes c =
    let at = c.loop-descriptor in
    let none = none_left (into_iter_items at.descriptor-iterator) (sym at.invariant.left ∙ c.in-None.ensures.steps.0) in
    ap (λ (ds : List Descriptor). known_after c.args.version (table_of at.arena.nodes at.table) ds) (sym none) ∙ at.invariant.known

pub returns-in_err-add_descriptor-clause-adds : goal.returns-in_err-add_descriptor-clause-adds
returns-in_err-add_descriptor-clause-adds c =
    let at = c.loop-descriptor in
    let v = c.args.version in
    let d = c.in-Some.descriptor in
    let left = into_iter_items c.next.new.self in
    let steps : into_iter_items at.descriptor-iterator ≡ d ∷ left = c.in-Some.ensures.steps.0 in
    let was = table_of at.arena.nodes at.table in
    let all = types_after v (table_of c.args.arena.now.nodes c.args.table.now) c.args.finished.items in
    let covers = rw steps at at.invariant.covers in
    let first = type_of v was d ∷ [] in
    let own = covers_again all (first ++ types_after v (joined v was d) left) first covers (covers_left first (types_after v (joined v was d) left)) in
    additions_join c.args.arena.now at.arena c.add_descriptor.new.arena all at.invariant.adds c.add_descriptor.ensures.extends (adds_more all first at.arena c.add_descriptor.new.arena own c.add_descriptor.ensures.adds)

pub returns-in_err-add_descriptor-clause-outgrown : goal.returns-in_err-add_descriptor-clause-outgrown
returns-in_err-add_descriptor-clause-outgrown c wants =
    let p = err_from_is_err_and c.from_residual.result c.from_residual.ensures.1 in
    let at = c.loop-descriptor in
    let v = c.args.version in
    let d = c.in-Some.descriptor in
    let left = into_iter_items c.next.new.self in
    let steps : into_iter_items at.descriptor-iterator ≡ d ∷ left = c.in-Some.ensures.steps.0 in
    let was = table_of at.arena.nodes at.table in
    let all = types_after v (table_of c.args.arena.now.nodes c.args.table.now) c.args.finished.items in
    let covers = rw steps at at.invariant.covers in
    let first = type_of v was d ∷ [] in
    let own = covers_again all (first ++ types_after v (joined v was d) left) first covers (covers_left first (types_after v (joined v was d) left)) in
    want_of_nodes_joins c.args.arena.now at.arena all at.invariant.extends at.invariant.adds
    (outgrown_by_more at.arena all first own (c.add_descriptor.ensures.outgrown (passed c.from_residual.result c.add_descriptor.result p.0 c.in_err-add_descriptor.field-0.0 p.1 p.2 c.in_err-add_descriptor.was wants)))

pub returns-clause-adds : goal.returns-clause-adds
returns-clause-adds c = c.loop-descriptor.invariant.adds
