use Rattle.std.proofs.Common.{◌≡◌, List, ℕ, ◌++◌, ap, subst, ◌∙◌}
use Rattle.std.specs.List.{AllByRecursion}
use Rattle.type_terms.specs.Declarations.{decl_nodes}
use Rattle.written_nodes.specs.Making.{decl_made}
use Rattle.written_nodes.specs.Pools.{Made, number_for, IsMade, Pool}
use Rattle.written_nodes.proofs.DeclLemmas.{if_ok, made_denotes, made_within}
use Rattle.written_nodes.proofs.pool.WrittenNodes.write_declaration.Goals as goal

pub returns-clause-denotes : goal.returns-clause-denotes
returns-clause-denotes c =
    let decl = c.args.decl.now in
    let pool = c.write_all.new.self in
    let are : c.deref.result.now ≡ decl_nodes decl = c.deref.ensures.value ∙ c.in_ok-push_decl.ensures ∙ ap (λ (xs : List ℕ). xs ++ decl_nodes decl) c.new-types.ensures.items in
    let all = subst (AllByRecursion (IsMade pool.made)) are c.in_ok-write_all.ensures.made in
    let held : c.self.inside.made.entries ≡ pool.made = ap (λ (p : Pool). p.made) c.self.view_is in
    if_ok c.declaration_written.result _ _ (λ own is. made_denotes c.args.arena.now.nodes pool.nodes.nodes pool.made c.in_ok-write_all.ensures.pool decl own all (is ∙ ap (λ (made : Made). decl_made (number_for made) decl) held)) c.declaration_written.ensures

pub returns-clause-within : goal.returns-clause-within
returns-clause-within c =
    let decl = c.args.decl.now in
    let pool = c.write_all.new.self in
    let are : c.deref.result.now ≡ decl_nodes decl = c.deref.ensures.value ∙ c.in_ok-push_decl.ensures ∙ ap (λ (xs : List ℕ). xs ++ decl_nodes decl) c.new-types.ensures.items in
    let all = subst (AllByRecursion (IsMade pool.made)) are c.in_ok-write_all.ensures.made in
    let held : c.self.inside.made.entries ≡ pool.made = ap (λ (p : Pool). p.made) c.self.view_is in
    if_ok c.declaration_written.result _ _ (λ own is. made_within c.args.arena.now.nodes pool.nodes.nodes pool.made c.in_ok-write_all.ensures.pool decl own all (is ∙ ap (λ (made : Made). decl_made (number_for made) decl) held)) c.declaration_written.ensures
