use Rattle.std.proofs.Common.{◌++◌, option_map, sym, ap, ◌∙◌}
use Rattle.repeated_names.specs.Firsts.{first, first_of_two}
use Rattle.repeated_names.proofs.FirstLaws.{first_append}
use Rattle.source_trees.specs.Files.{written_top}
use Rattle.source_names.specs.Duplicates.{found_at, in_top, top_inits}
use Rattle.source_names.proofs.PlaceLaws.{first_found}
use Rattle.source_names.proofs.duplicates.InnerNamesRule.at_top.Goals as goal

pub returns-clause-first : goal.returns-clause-first
returns-clause-first g c =
    let top = written_top c.args.around.now.source.now c.args.around.now.tops.now c.args.spot.top c.args.around.now.top.now in
    let a = in_top c.args.spot.file top in
    let b = top_inits c.args.spot.file top in
    c.found.ensures ∙ ap (option_map (found_at c.args.self.now.cause)) (c.first_of_two.ensures
    ∙ ap (λ k. first_of_two k c.init_of_top.result) (c.in_ok-again.ensures c.args.around.now.tops.now c.args.spot.top)
    ∙ ap (first_of_two (first a)) (c.init_of_top.ensures c.args.around.now.tops.now c.args.spot.top) ∙ sym (first_append a b))
    ∙ sym (first_found c.args.self.now.cause (a ++ b))
