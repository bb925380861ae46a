use Rattle.file_layout.proofs.WholeFile.{serves}
use Rattle.file_layout.proofs.laws.a_file_serves_its_readers.Goals as goal

pub returns : goal.returns
returns c = serves
