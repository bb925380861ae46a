use Rattle.environments.specs.PackageLaws.{one_more_stands}
use Rattle.environments.proofs.laws.one_more_declaration_stands.Goals as goal

pub returns : goal.returns
returns c = λ front back name decl undeclared. one_more_stands front back name decl undeclared
