use Rattle.std.proofs.Common.{◌≡◌, ◌⊎◌, inl, inr, Some, None, ap, ◌∙◌, rules}
use Rattle.std.specs.Prelude.{option_map}
use Rattle.type_terms.specs.Declarations.{decl_of}
use Rattle.environments.specs.declared.declaring.EnvError.TheVariants.{Unknown, OutOfMemory}
use Rattle.environments.specs.Environments.{declared}
use Rattle.environments.specs.PackageLists.{first_at, list_entries}
use Rattle.environments.specs.PackageListLaws.{first_stands, entries_of_first, no_entries}
use Rattle.environments.proofs.PackageListLemmas.{unknown_answers}
use Rattle.environments.proofs.package_list.PackageListEnv.declare.Goals as goal

pub own-requires : goal.own-requires
own-requires c =
    let is : first_at c.args.self.now.packages.now c.args.q.now.path ≡ Some c.in-Some.whole.now = search rules in
    record { sorted = (first_stands _ _ _ _ c.requires.stands is).decls.rises }

pub returns-in-Err-clause-answer : goal.returns-in-Err-clause-answer
returns-in-Err-clause-answer c =
    let is : first_at c.args.self.now.packages.now c.args.q.now.path ≡ Some c.in-Some.whole.now = search rules in
    let nodes = c.args._arena.now.nodes in
    let entries = entries_of_first c.args.self.now.packages.now nodes c.args.q.now c.in-Some.whole.now is in
    let cause = elim c.in-Err.ensures.missing as (λ m. (c.in-Err.fault ≡ OutOfMemory) ⊎ ((c.in-Err.fault ≡ Unknown c.args.q.now) × (list_entries c.args.self.now.packages.now nodes c.args.q.now ≡ None))) [
      | inl memory ↦ inl memory
      | inr unknown ↦ inr (unknown.0, entries ∙ ap (option_map (λ d. declared (decl_of nodes d))) unknown.1)
    ] in
    (unknown_answers _ c.args.q.now c.args._arena.now None c.in-Err.fault cause)

pub returns-in-Ok-clause-answer : goal.returns-in-Ok-clause-answer
returns-in-Ok-clause-answer c =
    let is : first_at c.args.self.now.packages.now c.args.q.now.path ≡ Some c.in-Some.whole.now = search rules in
    let nodes = c.args._arena.now.nodes in
    let stands = first_stands nodes _ _ _ c.requires.stands is in
    let found = c.in-Ok.ensures.found in
    (entries_of_first c.args.self.now.packages.now nodes c.args.q.now c.in-Some.whole.now is ∙ ap (option_map (λ d. declared (decl_of nodes d))) found, stands.decls.below c.args.q.now.name c.in-Ok.decl.now found)

pub returns-in-None-clause-answer : goal.returns-in-None-clause-answer
returns-in-None-clause-answer c =
    let none : first_at c.args.self.now.packages.now c.args.q.now.path ≡ None = search rules in
    let nothing = no_entries c.args.self.now.packages.now c.args._arena.now.nodes c.args.q.now none in
    let cause = elim c.unknown.ensures as (λ m. (c.unknown.result ≡ OutOfMemory) ⊎ ((c.unknown.result ≡ Unknown c.args.q.now) × (list_entries c.args.self.now.packages.now c.args._arena.now.nodes c.args.q.now ≡ None))) [
      | inl unknown ↦ inr (unknown, nothing)
      | inr memory ↦ inl memory
    ] in
    unknown_answers _ c.args.q.now c.args._arena.now _ c.unknown.result cause
