use Rattle.file_envelope.proofs.EnvelopeLemmas.{envelope, strings_are, body_is}
use Rattle.file_envelope.proofs.laws.a_file_has_its_envelope.Goals as goal

pub returns-clause-envelope : goal.returns-clause-envelope
returns-clause-envelope c = envelope

pub returns-clause-strings : goal.returns-clause-strings
returns-clause-strings c = strings_are

pub returns-clause-body : goal.returns-clause-body
returns-clause-body c = body_is
