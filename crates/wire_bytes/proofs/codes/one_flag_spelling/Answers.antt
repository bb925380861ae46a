use Rattle.wire_bytes.proofs.PrefixCodeLemmas.{every_flag, flag_code}
use Rattle.wire_bytes.proofs.codes.one_flag_spelling.Goals as goal

pub returns-clause-every : goal.returns-clause-every
returns-clause-every c = every_flag

pub returns-clause-code : goal.returns-clause-code
returns-clause-code c = flag_code
