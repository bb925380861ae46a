use Rattle.written_types.proofs.NameLemmas.{same_refs, same_names}
use Rattle.written_types.proofs.laws.the_same_names.Goals as goal

pub returns-clause-types : goal.returns-clause-types
returns-clause-types c = λ target type reference. same_refs target type reference

pub returns-clause-decls : goal.returns-clause-decls
returns-clause-decls c = λ target decl q. same_names target decl q
