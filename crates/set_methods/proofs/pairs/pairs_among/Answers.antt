use Rattle.std.proofs.Common.{◌≡◌, ◌∷◌, List, ap, sym, subst, ◌∙◌, arith, length, map}
use Rattle.std.specs.List.{flat_map}
use Rattle.std.specs.Vec.Iter.{into_iter_items}
use Rattle.type_terms.specs.Arenas.{AllBelow}
use Rattle.set_methods.specs.declared.pairs.MethodPair.{MethodPair}
use Rattle.set_methods.specs.Pairs.{pair_meant, pair_nodes, known}
use Rattle.set_methods.proofs.PairLemmas.{pairs_from, no_first, one_more, all_pairs_meant, pairs_below, none_left, no_more}
use Rattle.set_methods.proofs.pairs.pairs_among.Goals as goal

pub loop-method-preserved : goal.loop-method-preserved
loop-method-preserved c =
    let at = c.loop-method in
    let x = c.in-Some.method in
    let left = into_iter_items c.next.new.self in
    let steps : into_iter_items at.method-iterator ≡ x ∷ left = c.in-Some.ensures.steps.0 in
    record {
      same = one_more (known at.firsts.entries) (known c.meet.new.firsts.entries) x (into_iter_items at.method-iterator) left at.pairs.items c.meet.new.pairs.items
          (pairs_from no_first c.args.methods.items) steps c.in_ok-meet.ensures.pairs c.in_ok-meet.ensures.firsts at.invariant.same;
      left = let gone = c.in-Some.ensures.steps.1 in let short = ap length steps in let was_left = at.invariant.left in omega arith;
    }

pub returns-clause-exact : goal.returns-clause-exact
returns-clause-exact c nodes =
    let at = c.loop-method in
    let none = none_left (into_iter_items at.method-iterator) (sym at.invariant.left ∙ c.in-None.ensures.steps.0) in
    let all : at.pairs.items ≡ pairs_from no_first c.args.methods.items =
    sym (no_more at.pairs.items) ∙ rw none at at.invariant.same in
    ap (map (pair_meant nodes)) all ∙ all_pairs_meant nodes c.args.methods.items

pub returns-clause-within : goal.returns-clause-within
returns-clause-within c n each =
    let at = c.loop-method in
    let none = none_left (into_iter_items at.method-iterator) (sym at.invariant.left ∙ c.in-None.ensures.steps.0) in
    let all : at.pairs.items ≡ pairs_from no_first c.args.methods.items =
    sym (no_more at.pairs.items) ∙ rw none at at.invariant.same in
    subst (λ (l : List MethodPair). AllBelow n (flat_map pair_nodes l)) (sym all) (pairs_below n c.args.methods.items no_first (λ key. tt) each)
