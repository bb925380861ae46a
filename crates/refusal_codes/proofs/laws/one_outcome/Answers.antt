use Rattle.source_places.proofs.StageLaws.{one_refusal, none_kept, outcome}
use Rattle.refusal_codes.specs.Codes.{order_of, all_codes}
use Rattle.refusal_codes.proofs.CodeLaws.{whole_list, distinct_order}
use Rattle.refusal_codes.proofs.laws.one_outcome.Goals as goal

pub returns-clause-one : goal.returns-clause-one
returns-clause-one g c = one_refusal order_of distinct_order

pub returns-clause-none : goal.returns-clause-none
returns-clause-none g c = none_kept order_of

pub returns-clause-some : goal.returns-clause-some
returns-clause-some g c = outcome order_of all_codes whole_list
