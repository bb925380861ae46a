use Rattle.std.proofs.Common.{rules, false, ◌≡◌, [], ◌∷◌, Ok, map, length, ap, sym, ◌∙◌, arith}
use Rattle.std.specs.Prelude.{◌==◌}
use Rattle.std.proofs.lemmas.Bool.{eqb-false}
use Rattle.std.proofs.lemmas.List.{length-map}
use Rattle.type_terms.specs.Additions.{Outgrows}
use Rattle.type_terms.specs.Denotation.{tree}
use Rattle.replacement.specs.Expansion.{parameter_names, put_each}
use Rattle.replacement.specs.Substitution.{substituted}
use Rattle.replacement.specs.Calls.{applied}
use Rattle.replacement.proofs.KeptLemmas.{side_adds, side_outgrows}
use Rattle.replacement.proofs.ParameterLemmas.{names_count, put_is}
use Rattle.replacement.proofs.expanding.put_in.Goals as goal

pub substitute-requires-clause-count : goal.substitute-requires-clause-count
substitute-requires-clause-count c =
    let types = map (tree c.args.arena.now.nodes) c.args.tparams.now in
    let count = names_count types c.requires.are in
    let own = ap length c.in-Ok.ensures in
    let mapped = length-map c.args.tparams.now (tree c.args.arena.now.nodes) in
    let lent = ap length c.deref.ensures.value in
    omega (arith, count, own, mapped, lent, c.if-args-tparams.false)

pub returns-in-Ok-substitute-clause-adds : goal.returns-in-Ok-substitute-clause-adds
returns-in-Ok-substitute-clause-adds c =
    let nodes = c.args.arena.now.nodes in
    let head = applied nodes c.args.q.now c.args.args.now in
    let tparams = map (tree nodes) c.args.tparams.now in
    let args = map (tree nodes) c.args.args.now in
    let right = tree nodes c.args.right in
    let names : c.deref.result.now ≡ parameter_names tparams = c.deref.ensures.value ∙ c.in-Ok.ensures in
    let count : length args ≡ length tparams = omega (arith, length-map c.args.tparams.now (tree nodes), length-map c.args.args.now (tree nodes), c.if-args-tparams.false) in
    let filled : (length c.args.tparams.now == 0) ≡ false = search rules in
    let some : length tparams ≡ 0 → ⊥ = λ none. eqb-false (length c.args.tparams.now) 0 filled (sym (length-map c.args.tparams.now (tree nodes)) ∙ none) in
    let whole : put_each head tparams args right ≡ Ok (substituted c.deref.result.now args right) =
    put_is head tparams args right count some ∙ ap (λ ps. Ok (substituted ps args right)) (sym names) in
    side_adds (put_each head tparams args right) (substituted c.deref.result.now args right) c.args.arena.now c.substitute.new.arena whole c.substitute.ensures.adds

pub returns-in-Err-Full-clause-adds : goal.returns-in-Err-Full-clause-adds
returns-in-Err-Full-clause-adds c =
    let nodes = c.args.arena.now.nodes in
    let head = applied nodes c.args.q.now c.args.args.now in
    let tparams = map (tree nodes) c.args.tparams.now in
    let args = map (tree nodes) c.args.args.now in
    let right = tree nodes c.args.right in
    let names : c.deref.result.now ≡ parameter_names tparams = c.deref.ensures.value ∙ c.in-Ok.ensures in
    let count : length args ≡ length tparams = omega (arith, length-map c.args.tparams.now (tree nodes), length-map c.args.args.now (tree nodes), c.if-args-tparams.false) in
    let filled : (length c.args.tparams.now == 0) ≡ false = search rules in
    let some : length tparams ≡ 0 → ⊥ = λ none. eqb-false (length c.args.tparams.now) 0 filled (sym (length-map c.args.tparams.now (tree nodes)) ∙ none) in
    let whole : put_each head tparams args right ≡ Ok (substituted c.deref.result.now args right) =
    put_is head tparams args right count some ∙ ap (λ ps. Ok (substituted ps args right)) (sym names) in
    side_adds (put_each head tparams args right) (substituted c.deref.result.now args right) c.args.arena.now c.substitute.new.arena whole c.substitute.ensures.adds

pub returns-clause-adds : goal.returns-clause-adds
returns-clause-adds c =
    let nodes = c.args.arena.now.nodes in
    let head = applied nodes c.args.q.now c.args.args.now in
    let tparams = map (tree nodes) c.args.tparams.now in
    let args = map (tree nodes) c.args.args.now in
    let right = tree nodes c.args.right in
    let names : c.deref.result.now ≡ parameter_names tparams = c.deref.ensures.value ∙ c.in-Ok.ensures in
    let count : length args ≡ length tparams = omega (arith, length-map c.args.tparams.now (tree nodes), length-map c.args.args.now (tree nodes), c.if-args-tparams.false) in
    let filled : (length c.args.tparams.now == 0) ≡ false = search rules in
    let some : length tparams ≡ 0 → ⊥ = λ none. eqb-false (length c.args.tparams.now) 0 filled (sym (length-map c.args.tparams.now (tree nodes)) ∙ none) in
    let whole : put_each head tparams args right ≡ Ok (substituted c.deref.result.now args right) =
    put_is head tparams args right count some ∙ ap (λ ps. Ok (substituted ps args right)) (sym names) in
    side_adds (put_each head tparams args right) (substituted c.deref.result.now args right) c.args.arena.now c.substitute.new.arena whole c.substitute.ensures.adds

pub returns-in-Err-Full-clause-exact : goal.returns-in-Err-Full-clause-exact
returns-in-Err-Full-clause-exact c full =
    let nodes = c.args.arena.now.nodes in
    let head = applied nodes c.args.q.now c.args.args.now in
    let tparams = map (tree nodes) c.args.tparams.now in
    let args = map (tree nodes) c.args.args.now in
    let right = tree nodes c.args.right in
    let names : c.deref.result.now ≡ parameter_names tparams = c.deref.ensures.value ∙ c.in-Ok.ensures in
    let count : length args ≡ length tparams = omega (arith, length-map c.args.tparams.now (tree nodes), length-map c.args.args.now (tree nodes), c.if-args-tparams.false) in
    let filled : (length c.args.tparams.now == 0) ≡ false = search rules in
    let some : length tparams ≡ 0 → ⊥ = λ none. eqb-false (length c.args.tparams.now) 0 filled (sym (length-map c.args.tparams.now (tree nodes)) ∙ none) in
    let whole : put_each head tparams args right ≡ Ok (substituted c.deref.result.now args right) =
    put_is head tparams args right count some ∙ ap (λ ps. Ok (substituted ps args right)) (sym names) in
    let grown : Outgrows c.args.arena.now (substituted c.deref.result.now args right ∷ []) = search rules in side_outgrows (put_each head tparams args right) (substituted c.deref.result.now args right) c.args.arena.now whole grown
