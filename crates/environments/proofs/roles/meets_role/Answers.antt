use Rattle.std.proofs.Common.{◌≡◌, Some, None, rules}
use Rattle.type_terms.specs.Declarations.{decl_of}
use Rattle.environments.specs.Roles.{role_of}
use Rattle.environments.proofs.MentionLemmas.{role_decides, no_role_decides}
use Rattle.environments.proofs.roles.meets_role.Goals as goal

pub returns-in-Some : goal.returns-in-Some
returns-in-Some c = λ nodes.
    let is : role_of (decl_of nodes c.args.decl.now) ≡ Some c.in-Some.own = search rules in
    role_decides _ c.in-Some.own c.args.role c.eq.result is c.eq.ensures

pub returns-in-None : goal.returns-in-None
returns-in-None c = λ nodes.
    let none : role_of (decl_of nodes c.args.decl.now) ≡ None = search rules in
    no_role_decides _ c.args.role none
