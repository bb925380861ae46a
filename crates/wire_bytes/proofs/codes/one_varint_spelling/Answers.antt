use Rattle.wire_bytes.proofs.PrefixCodeLemmas.{every_signed, varint_code}
use Rattle.wire_bytes.proofs.codes.one_varint_spelling.Goals as goal

pub returns-clause-every : goal.returns-clause-every
returns-clause-every c = every_signed

pub returns-clause-code : goal.returns-clause-code
returns-clause-code c = varint_code
