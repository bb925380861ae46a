use Rattle.name_index.proofs.FullFileLemmas.{one_envelope, one_breach, envelope_or_breach, never_both}
use Rattle.name_index.proofs.laws.file_or_breach.Goals as goal

pub returns-clause-either : goal.returns-clause-either
returns-clause-either c = envelope_or_breach

pub returns-clause-one_file : goal.returns-clause-one_file
returns-clause-one_file c = one_envelope

pub returns-clause-one_breach : goal.returns-clause-one_breach
returns-clause-one_breach c = one_breach

pub returns-clause-not_both : goal.returns-clause-not_both
returns-clause-not_both c = never_both
