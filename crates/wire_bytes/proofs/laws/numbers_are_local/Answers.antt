use Rattle.wire_bytes.proofs.NumbersLocal.{byte_local, bytes_local, uvarint_local, varint_local, flag_local, whole_local}
use Rattle.wire_bytes.proofs.laws.numbers_are_local.Goals as goal

pub returns-clause-byte : goal.returns-clause-byte
returns-clause-byte c = byte_local

pub returns-clause-bytes : goal.returns-clause-bytes
returns-clause-bytes c = bytes_local

pub returns-clause-number : goal.returns-clause-number
returns-clause-number c = uvarint_local

pub returns-clause-signed : goal.returns-clause-signed
returns-clause-signed c = varint_local

pub returns-clause-flag : goal.returns-clause-flag
returns-clause-flag c = flag_local

pub returns-clause-whole : goal.returns-clause-whole
returns-clause-whole c = whole_local
