use Rattle.std.proofs.Common.{rules, ◌≡◌, true, ap, sym, subst, ◌∙◌}
use Rattle.code_tables.specs.Exact.{exact_basic}
use Rattle.code_tables.specs.declared.predeclared.Basic.TheVariants.{Error}
use Rattle.type_terms.specs.Additions.{AddsOnly}
use Rattle.type_terms.specs.Trees.{predeclared}
use Rattle.interface_nodes.specs.HeldNodes.{made_for}
use Rattle.type_terms.specs.TreeEquality.{same_basic}
use Rattle.type_sets.specs.Interfaces.{predeclared_interface}
use Rattle.interface_nodes.proofs.held.predeclared_at.Goals as goal

pub returns-then-eq-clause-exact : goal.returns-then-eq-clause-exact
returns-then-eq-clause-exact c name =
    let same : same_basic c.args.basic Error ≡ true = search rules in
    c.in_ok-error_held.ensures.exact name ∙ ap (predeclared_interface name) (sym (exact_basic c.args.basic Error same))

pub returns-in_err-error_held-clause-adds : goal.returns-in_err-error_held-clause-adds
returns-in_err-error_held-clause-adds c =
    let same : same_basic c.args.basic Error ≡ true = search rules in
    subst (λ b. AddsOnly (made_for (predeclared b)) c.args.arena.now c.error_held.new.arena) (sym (exact_basic c.args.basic Error same)) c.error_held.ensures.adds

pub returns-then-eq-clause-adds : goal.returns-then-eq-clause-adds
returns-then-eq-clause-adds c =
    let same : same_basic c.args.basic Error ≡ true = search rules in
    subst (λ b. AddsOnly (made_for (predeclared b)) c.args.arena.now c.error_held.new.arena) (sym (exact_basic c.args.basic Error same)) c.error_held.ensures.adds
