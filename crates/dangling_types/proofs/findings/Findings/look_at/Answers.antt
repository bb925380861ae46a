use Rattle.std.proofs.Common.{◌≡◌, ◌++◌, ◌∙◌, ℕ, List, ap, subst}
use Rattle.std.specs.Prelude.{IfOk}
use Rattle.type_terms.specs.Declarations.{decl_nodes}
use Rattle.environments.specs.declared.mentions.Reference.{Reference}
use Rattle.dangling_types.specs.FirstDangling.{first_dangling}
use Rattle.dangling_types.specs.NodeReferences.{Finds}
use Rattle.dangling_types.proofs.NodeLemmas.{decl_references}
use Rattle.dangling_types.proofs.findings.Findings.look_at.Goals as goal

pub returns-clause-first : goal.returns-clause-first
returns-clause-first g c =
    let entries = g.R.Roles.entries c.args.roles.now in
    let nodes = c.args.arena.now.nodes in
    let are : c.deref.result.now ≡ decl_nodes c.args.decl.now =
    c.deref.ensures.value ∙ c.in_ok-push_decl.ensures ∙ ap (λ (l : List ℕ). l ++ decl_nodes c.args.decl.now) c.new-types.ensures.items in
    subst (λ (refs : List Reference). IfOk c.look_at_all.result (λ finding. Finds nodes finding (first_dangling entries refs)))
    (decl_references nodes c.args.decl.now c.deref.result.now are) c.look_at_all.ensures.first
