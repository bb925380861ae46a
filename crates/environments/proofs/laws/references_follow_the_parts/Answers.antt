use Rattle.std.proofs.Common.{refl}
use Rattle.type_terms.specs.Trees.{named, alias}
use Rattle.environments.specs.ReferenceLaws.{references_of_parts, references_of_instance}
use Rattle.environments.proofs.laws.references_follow_the_parts.Goals as goal

pub returns-clause-names : goal.returns-clause-names
returns-clause-names c = λ q. (refl, refl, refl)

pub returns-clause-instances : goal.returns-clause-instances
returns-clause-instances c = λ q args. (references_of_instance (named q) args, references_of_instance (alias q) args)

pub returns-clause-others : goal.returns-clause-others
returns-clause-others c = references_of_parts
