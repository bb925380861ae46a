use Rattle.session_files.proofs.ComingDown.{found_down, down_found}
use Rattle.session_files.proofs.laws.names_come_down.Goals as goal

pub returns : goal.returns
returns c = λ files sound path name basic. (found_down files sound path name basic, down_found files sound path name basic)
