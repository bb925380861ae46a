use Rattle.position_codec.proofs.PositionLemmas.{position_code, place_back}
use Rattle.position_codec.proofs.EveryPlace.{every_place}
use Rattle.position_codec.proofs.laws.one_position_spelling.Goals as goal

pub returns-clause-every : goal.returns-clause-every
returns-clause-every c = every_place

pub returns-clause-code : goal.returns-clause-code
returns-clause-code c = position_code

pub returns-clause-back : goal.returns-clause-back
returns-clause-back c = place_back
