use Rattle.std.proofs.Common.{rules, arith}
use Rattle.block_walk.proofs.section.Section.new.Goals as goal

pub returns-clause-stands : goal.returns-clause-stands
returns-clause-stands c = record {
  bytes = search rules;
  texts = search rules;
  paths = search rules;
  names = search rules;
  numbers = λ id low made. absurd (omega (arith, low));
  placed = λ id low. absurd (omega (arith, low));
  denoted = λ type e. absurd cc;
}

pub returns-clause-room : goal.returns-clause-room
returns-clause-room c = record { numbers = search rules; marks = search rules }
