use Rattle.std.proofs.lemmas.Result.{err_from_is_err_and}
use Rattle.decl_reader.proofs.WantLemmas.{passed}
use Rattle.std.proofs.Common.{◌≡◌, ◌∷◌, [], ◌++◌, length, map, ap, sym, subst, ◌∙◌, arith}
use Rattle.std.specs.Vec.Iter.{into_iter_items}
use Rattle.std.specs.List.{flat_map}
use Rattle.std.proofs.lemmas.List.{map_push}
use Rattle.type_terms.specs.Arenas.{AllBelow}
use Rattle.type_terms.specs.Denotation.{tree}
use Rattle.type_terms.specs.Extensions.{extends_again}
use Rattle.decl_reader.specs.Meant.{Named, named_by}
use Rattle.decl_reader.proofs.AdditionLemmas.{more_added, more_outgrown, head_covered, tail_covered}
use Rattle.decl_reader.proofs.ExtendsLemmas.{one_more, one_more_below, all_kept, none_left}
use Rattle.decl_reader.proofs.nodes.kept.all_with_nodes.Goals as goal

pub loop-part-preserved : goal.loop-part-preserved
loop-part-preserved g c =
    let t = g.T.Kept in
    let at = c.loop-part in
    let new = c.with_nodes.new.arena in
    let grown = c.with_nodes.ensures.extends in
    let kept = map t.item_shape at.kept.items in
    let item = t.item_shape c.in_ok-item.item in
    let left = into_iter_items c.next.new.self in
    let steps : into_iter_items at.part-iterator ≡ c.in-Some.part ∷ left = c.in-Some.ensures.steps.0 in
    let pushed : map t.item_shape c.push.new.self.items ≡ kept ++ item ∷ [] = rw c.in_ok-push.ensures.items (map_push t.item_shape at.kept.items c.in_ok-item.item) in
    let so_far = rw steps at at.invariant.meant in
    let named : Named = named_by c.args.version c.args.arena.now.nodes c.args.table.now in
    let all = map named (flat_map t.types (map t.shape c.args.parts.items)) in
    let covers = rw steps at at.invariant.covers in
    let meant = one_more t.types t.meant g.met.T.Kept.agrees at.arena new grown c.args.version c.args.table.now c.args.arena.now at.invariant.extends c.requires.inside kept item (t.shape c.in-Some.part) (map t.shape left) (map (t.meant (named_by c.args.version c.args.arena.now.nodes c.args.table.now)) (map t.shape c.args.parts.items)) at.invariant.within c.in_ok-item.ensures.meant so_far in
    record {
      extends = extends_again c.args.arena.now at.arena new at.invariant.extends grown;
      within = subst (λ xs. AllBelow (length new.nodes) (flat_map t.types xs)) (sym pushed) (one_more_below t.types t.meant g.met.T.Kept.agrees at.arena new grown kept item at.invariant.within c.in_ok-item.ensures.within);
      meant = rw pushed meant;
      covers = tail_covered t.types named all (t.shape c.in-Some.part) (map t.shape left) covers;
      adds = more_added c.args.version c.args.table.now c.args.arena.now at.arena new c.requires.inside all (t.types (t.shape c.in-Some.part)) at.invariant.extends at.invariant.adds (head_covered t.types named all (t.shape c.in-Some.part) (map t.shape left) covers)
          grown c.with_nodes.ensures.adds;
      left = let gone = c.in-Some.ensures.steps.1 in let short = ap length steps in let was = at.invariant.left in omega arith;
    }

pub returns-clause-meant : goal.returns-clause-meant
returns-clause-meant g c =
    let t = g.T.Kept in
    let at = c.loop-part in
    let named : Named = named_by c.args.version c.args.arena.now.nodes c.args.table.now in
    let none = none_left (into_iter_items at.part-iterator) (sym at.invariant.left ∙ c.in-None.ensures.steps.0) in
    all_kept (map (t.meant (tree at.arena.nodes)) (map t.item_shape at.kept.items)) (map (t.meant named) (map t.shape (into_iter_items at.part-iterator))) (map (t.meant named) (map t.shape c.args.parts.items))
    (ap (λ xs. map (t.meant named) (map t.shape xs)) none) at.invariant.meant

pub returns-in_err-item-clause-adds : goal.returns-in_err-item-clause-adds
returns-in_err-item-clause-adds g c =
    let t = g.T.Kept in
    let at = c.loop-part in
    let named : Named = named_by c.args.version c.args.arena.now.nodes c.args.table.now in
    let left = into_iter_items c.next.new.self in
    let steps : into_iter_items at.part-iterator ≡ c.in-Some.part ∷ left = c.in-Some.ensures.steps.0 in
    let all = map named (flat_map t.types (map t.shape c.args.parts.items)) in
    let covers = rw steps at at.invariant.covers in
    let its_own = head_covered t.types named all (t.shape c.in-Some.part) (map t.shape left) covers in
    more_added c.args.version c.args.table.now c.args.arena.now at.arena c.with_nodes.new.arena c.requires.inside all (t.types (t.shape c.in-Some.part)) at.invariant.extends at.invariant.adds its_own c.with_nodes.ensures.extends c.with_nodes.ensures.adds

pub returns-in_err-item-clause-outgrown : goal.returns-in_err-item-clause-outgrown
returns-in_err-item-clause-outgrown g c wants =
    let p = err_from_is_err_and c.from_residual-in_err-item.result c.from_residual-in_err-item.ensures.1 in
    let t = g.T.Kept in
    let at = c.loop-part in
    let named : Named = named_by c.args.version c.args.arena.now.nodes c.args.table.now in
    let left = into_iter_items c.next.new.self in
    let steps : into_iter_items at.part-iterator ≡ c.in-Some.part ∷ left = c.in-Some.ensures.steps.0 in
    let all = map named (flat_map t.types (map t.shape c.args.parts.items)) in
    let covers = rw steps at at.invariant.covers in
    let its_own = head_covered t.types named all (t.shape c.in-Some.part) (map t.shape left) covers in
    more_outgrown c.args.version c.args.table.now c.args.arena.now at.arena c.with_nodes.new.arena c.requires.inside all (t.types (t.shape c.in-Some.part)) at.invariant.extends at.invariant.adds its_own
    (c.with_nodes.ensures.outgrown (passed c.from_residual-in_err-item.result c.with_nodes.result p.0 c.in_err-item.field-0.0 p.1 p.2 c.in_err-item.was wants))

pub returns-in_err-push-clause-adds : goal.returns-in_err-push-clause-adds
returns-in_err-push-clause-adds g c =
    let t = g.T.Kept in
    let at = c.loop-part in
    let named : Named = named_by c.args.version c.args.arena.now.nodes c.args.table.now in
    let left = into_iter_items c.next.new.self in
    let steps : into_iter_items at.part-iterator ≡ c.in-Some.part ∷ left = c.in-Some.ensures.steps.0 in
    let all = map named (flat_map t.types (map t.shape c.args.parts.items)) in
    let covers = rw steps at at.invariant.covers in
    let its_own = head_covered t.types named all (t.shape c.in-Some.part) (map t.shape left) covers in
    more_added c.args.version c.args.table.now c.args.arena.now at.arena c.with_nodes.new.arena c.requires.inside all (t.types (t.shape c.in-Some.part)) at.invariant.extends at.invariant.adds its_own c.with_nodes.ensures.extends c.with_nodes.ensures.adds

pub returns-clause-adds : goal.returns-clause-adds
returns-clause-adds g c = c.loop-part.invariant.adds
