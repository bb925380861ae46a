use Rattle.std.proofs.Common.{◌≡◌, drop}
use Rattle.environments.specs.PackageLists.{first_at}
use Rattle.environments.proofs.package_list.first_at.Given as goal

abbrev pub invariant-loop-whole : goal.invariant-loop-whole
invariant-loop-whole l = first_at (drop l.whole-index l.packages) l.path ≡ first_at l.packages l.path
