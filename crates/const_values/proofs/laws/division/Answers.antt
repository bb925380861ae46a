use Rattle.std.proofs.lemmas.Int.{quot-rem}
use Rattle.const_values.proofs.Divisions.{smaller, toward_zero}
use Rattle.const_values.proofs.laws.division.Goals as goal

pub returns-clause-whole : goal.returns-clause-whole
returns-clause-whole c = quot-rem

pub returns-clause-smaller : goal.returns-clause-smaller
returns-clause-smaller c = smaller

pub returns-clause-toward_zero : goal.returns-clause-toward_zero
returns-clause-toward_zero c = toward_zero
