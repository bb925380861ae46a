use Rattle.source_names.proofs.WordLaws.{empty_tparams}
use Rattle.source_names.proofs.inits.no_tparams.Goals as goal

pub returns : goal.returns
returns c = λ source. empty_tparams source c.args.tparams.now c.is_empty.result c.is_empty.ensures
