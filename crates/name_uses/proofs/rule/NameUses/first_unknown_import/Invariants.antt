use Rattle.std.proofs.Common.{map}
use Rattle.source_trees.specs.Files.{written_import}
use Rattle.name_uses.specs.Uses.{found_at, unknown_imports}
use Rattle.name_uses.proofs.FirstLaws.{Searched}
use Rattle.name_uses.proofs.rule.NameUses.first_unknown_import.Given as goal

abbrev pub invariant-loop-import : goal.invariant-loop-import
invariant-loop-import g l = Searched (λ i xs. map (found_at l.self.cause) (unknown_imports
    (record { names = g.P.Packages.names l.self.packages.now; offers = g.P.Packages.offers l.self.packages.now })
    l.source.file (map (written_import l.source.bytes.now) xs))) l.imports l.import-index l.found
