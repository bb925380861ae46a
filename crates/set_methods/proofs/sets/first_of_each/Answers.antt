use Rattle.std.proofs.Common.{◌≡◌, [], List, ap, sym, subst, ◌∙◌, map}
use Rattle.std.specs.List.{AllByRecursion}
use Rattle.std.specs.Vec.Iter.{into_iter_items}
use Rattle.type_terms.specs.Arenas.{AllBelow}
use Rattle.type_sets.specs.TypeSets.{with_methods}
use Rattle.interface_nodes.specs.declared.methods.SetMethod.{SetMethod}
use Rattle.interface_nodes.specs.HeldNodes.{method_meant, method_nodes}
use Rattle.set_methods.specs.Sets.{method_of}
use Rattle.set_methods.proofs.PairLemmas.{none_left}
use Rattle.set_methods.proofs.SetLemmas.{all_noted, all_sets_meant, sets_fit, if_listed}
use Rattle.set_methods.proofs.sets.first_of_each.Goals as goal

pub returns-clause-exact : goal.returns-clause-exact
returns-clause-exact c nodes =
    let at = c.loop-method in
    let none = none_left (into_iter_items at.method-iterator) (sym at.invariant.left ∙ c.in-None.ensures.steps.0) in
    let all : at.found.entries ≡ all_noted [] c.args.methods.items = rw none at at.invariant.same in
    if_listed c.listed.result at.found.entries (λ (own : List SetMethod). map (method_meant nodes) own ≡ with_methods (map (method_meant nodes) c.args.methods.items) []) c.listed.ensures
    (ap (λ es. map (method_meant nodes) (map method_of es)) all ∙ all_sets_meant nodes c.args.methods.items)

pub returns-clause-within : goal.returns-clause-within
returns-clause-within c n each =
    let at = c.loop-method in
    let none = none_left (into_iter_items at.method-iterator) (sym at.invariant.left ∙ c.in-None.ensures.steps.0) in
    let all : at.found.entries ≡ all_noted [] c.args.methods.items = rw none at at.invariant.same in
    if_listed c.listed.result at.found.entries (AllByRecursion (λ (x : SetMethod). AllBelow n (method_nodes x))) c.listed.ensures
    (subst (λ es. AllByRecursion (λ (x : SetMethod). AllBelow n (method_nodes x)) (map method_of es)) (sym all) (sets_fit n c.args.methods.items each))
