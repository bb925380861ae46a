use Rattle.source_names.proofs.WordLaws.{empty_params}
use Rattle.source_names.proofs.inits.no_params.Goals as goal

pub returns : goal.returns
returns c = λ source. empty_params source c.args.params.now c.is_empty.result c.is_empty.ensures
