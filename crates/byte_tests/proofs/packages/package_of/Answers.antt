use Rattle.std.proofs.Common.{rules}
use Rattle.byte_tests.proofs.AliasLemmas.{alias_stands}
use Rattle.byte_tests.proofs.packages.package_of.Goals as goal

pub returns : goal.returns
returns c = record {
  stands = alias_stands _ _ _ _ _ _ c.args.basic (search rules) (search rules) c.in_ok-vec.ensures.items (search rules) c.requires.below c.requires.denotes;
}
