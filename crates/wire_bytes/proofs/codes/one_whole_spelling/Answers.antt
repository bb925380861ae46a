use Rattle.wire_bytes.proofs.WholeSpellings.{every_whole, whole_code, length_inside}
use Rattle.wire_bytes.proofs.codes.one_whole_spelling.Goals as goal

pub returns-clause-every : goal.returns-clause-every
returns-clause-every c = every_whole

pub returns-clause-code : goal.returns-clause-code
returns-clause-code c = whole_code

pub returns-clause-lengths : goal.returns-clause-lengths
returns-clause-lengths c = length_inside
