use Rattle.decl_spelling.proofs.OneFileTypes.{one_named, few_types}
use Rattle.decl_spelling.proofs.OneFileReading.{read_of_file}
use Rattle.decl_spelling.proofs.laws.types_of_one_file.Goals as goal

pub returns-clause-read : goal.returns-clause-read
returns-clause-read c = read_of_file

pub returns-clause-one : goal.returns-clause-one
returns-clause-one c = one_named

pub returns-clause-few : goal.returns-clause-few
returns-clause-few c = few_types
