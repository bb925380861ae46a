use Rattle.std.proofs.Common.{map, option_map, sym, ap, ◌∙◌}
use Rattle.source_trees.specs.Files.{written_import}
use Rattle.source_names.specs.Duplicates.{found_at, import_inits}
use Rattle.source_names.proofs.PlaceLaws.{first_found}
use Rattle.source_names.proofs.duplicates.InnerNamesRule.at_file.Goals as goal

pub returns-clause-first : goal.returns-clause-first
returns-clause-first g c =
    c.found.ensures ∙ ap (option_map (found_at c.args.self.now.cause)) (rw c.as_slice.ensures at c.init_of_imports.ensures)
    ∙ sym (first_found c.args.self.now.cause (import_inits c.args.number (map (written_import c.args.source.now) c.args.tree.now.imports)))
