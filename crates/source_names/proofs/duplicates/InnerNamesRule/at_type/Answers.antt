use Rattle.std.proofs.Common.{option_map, sym, ap, ◌∙◌}
use Rattle.source_trees.specs.Trees.{written_type}
use Rattle.source_names.specs.Duplicates.{found_at, in_type}
use Rattle.source_names.proofs.PlaceLaws.{first_found}
use Rattle.source_names.proofs.duplicates.InnerNamesRule.at_type.Goals as goal

pub returns-clause-first : goal.returns-clause-first
returns-clause-first g c =
    c.found.ensures ∙ ap (option_map (found_at c.args.self.now.cause)) c.in_ok-first_in_type.ensures
    ∙ sym (first_found c.args.self.now.cause (in_type c.args.spot.file (written_type c.args.around.now.source.now c.args.ty.now)))
