use Rattle.std.proofs.Common.{rules, ◌≡◌, ◌∙◌, sym, subst}
use Rattle.std.specs.Prelude.{IfOk}
use Rattle.type_terms.specs.declared.descriptors.Node.TheVariants.{Union}
use Rattle.covering_steps.specs.NodeSteps.{step_meant, union_at}
use Rattle.covering_steps.proofs.NodeStepLemmas.{unions_meant}
use Rattle.covering_steps.proofs.unions.union_step.Goals as goal

pub returns-in-Union : goal.returns-in-Union
returns-in-Union c nodes =
    let is : c.args.right.now ≡ Union c.items.result.now = search rules in
    subst (λ want. IfOk c.terms_step.result (λ found. step_meant nodes found ≡ want))
    (unions_meant nodes c.args.left.now c.items.result.now ∙ (λ i. union_at nodes c.args.left.now (sym is i)))
    (c.terms_step.ensures nodes)
