use Rattle.command_words.specs.Forms.{check, sources_of}
use Rattle.exportdata_cmd.proofs.CarriedLemmas.{owes_loading, carried}
use Rattle.exportdata_cmd.proofs.command.check.Goals as goal

pub returns-in-Err-clause-carried : goal.returns-in-Err-clause-carried
returns-in-Err-clause-carried g c words form =
    owes_loading words _ _ _ _ (check (sources_of c.args.sources)) _ form c.in-Err.ensures.cause

pub returns-clause-carried : goal.returns-clause-carried
returns-clause-carried g c words form =
    carried words _ _ _ _ _ c.in-Ok.session (check (sources_of c.args.sources))
    (record { asked = form; loaded = c.in-Ok.ensures.loaded }) _ (c.check_files.ensures (sources_of c.args.sources))
