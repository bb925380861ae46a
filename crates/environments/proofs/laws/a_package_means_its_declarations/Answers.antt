use Rattle.environments.specs.PackageLaws.{meant_decl}
use Rattle.environments.proofs.laws.a_package_means_its_declarations.Goals as goal

pub returns : goal.returns
returns c = meant_decl
