use Rattle.wire_bytes.proofs.Spellings.{every_number, same_number, none_begins_another, one_front, whole_or_cut}
use Rattle.wire_bytes.proofs.laws.one_number_spelling.Goals as goal

pub returns-clause-every : goal.returns-clause-every
returns-clause-every c = every_number

pub returns-clause-one : goal.returns-clause-one
returns-clause-one c = same_number

pub returns-clause-prefix : goal.returns-clause-prefix
returns-clause-prefix c = none_begins_another

pub returns-clause-front : goal.returns-clause-front
returns-clause-front c = one_front

pub returns-clause-cut : goal.returns-clause-cut
returns-clause-cut c = whole_or_cut
