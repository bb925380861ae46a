use Rattle.exported_file.proofs.Exports.{exported}
use Rattle.exported_file.proofs.laws.an_export_is_read_again.Goals as goal

pub returns : goal.returns
returns c = exported
