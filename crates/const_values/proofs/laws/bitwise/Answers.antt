use Rattle.const_values.proofs.Words.{bit-both, bit-either, bit-one_of, bit-flip}
use Rattle.const_values.proofs.laws.bitwise.Goals as goal

pub returns-clause-both : goal.returns-clause-both
returns-clause-both c = bit-both

pub returns-clause-either : goal.returns-clause-either
returns-clause-either c = bit-either

pub returns-clause-one_of : goal.returns-clause-one_of
returns-clause-one_of c = bit-one_of

pub returns-clause-flip : goal.returns-clause-flip
returns-clause-flip c = bit-flip
