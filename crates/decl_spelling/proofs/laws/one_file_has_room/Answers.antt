use Rattle.decl_spelling.proofs.OneFileReading.{types_stay, types_suffice}
use Rattle.decl_spelling.proofs.laws.one_file_has_room.Goals as goal

pub returns-clause-stays : goal.returns-clause-stays
returns-clause-stays c = types_stay

pub returns-clause-room : goal.returns-clause-room
returns-clause-room c = types_suffice
