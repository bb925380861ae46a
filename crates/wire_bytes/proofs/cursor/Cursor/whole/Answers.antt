use Rattle.wire_bytes.proofs.WholeSpellings.{none_stands}
use Rattle.wire_bytes.proofs.WholeFaults.{is_fault, only_fault}
use Rattle.wire_bytes.proofs.cursor.Cursor.whole.Goals as goal

pub returns-clause-none : goal.returns-clause-none
returns-clause-none c = none_stands c.args.signed c.args.max c.args.self.now c.next_whole.new.self c.next_whole.result c.requires.length c.next_whole.ensures.exact

pub returns-clause-fault : goal.returns-clause-fault
returns-clause-fault c = is_fault c.args.signed c.args.max c.args.self.now c.next_whole.new.self c.next_whole.result c.next_whole.ensures.exact

pub returns-clause-only : goal.returns-clause-only
returns-clause-only c = only_fault c.args.signed c.args.max c.args.self.now c.next_whole.new.self c.next_whole.result c.requires.length c.next_whole.ensures.exact
