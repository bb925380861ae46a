use Rattle.command_words.specs.Forms.{show, sources_of, names_of}
use Rattle.exportdata_cmd.proofs.CarriedLemmas.{owes_loading, carried}
use Rattle.exportdata_cmd.proofs.command.show.Goals as goal

pub returns-in-Err-clause-carried : goal.returns-in-Err-clause-carried
returns-in-Err-clause-carried g c words form =
    owes_loading words _ _ _ _ (show (sources_of c.args.sources) (names_of c.args.names)) _ form c.in-Err.ensures.cause

pub returns-clause-carried : goal.returns-clause-carried
returns-clause-carried g c words form =
    carried words _ _ _ _ _ c.in-Ok.session (show (sources_of c.args.sources) (names_of c.args.names))
    (record { asked = form; loaded = c.in-Ok.ensures.loaded }) _ (c.show_names.ensures (sources_of c.args.sources))
