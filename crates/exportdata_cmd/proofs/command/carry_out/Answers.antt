use Rattle.exportdata_cmd.proofs.CarriedLemmas.{owes_word}
use Rattle.exportdata_cmd.proofs.command.carry_out.Goals as goal

pub returns-in-Err-clause-carried : goal.returns-in-Err-clause-carried
returns-in-Err-clause-carried g c = owes_word _ _ _ _ _ c.in-Err.wrong.number c.in-Err.ensures.wrong
