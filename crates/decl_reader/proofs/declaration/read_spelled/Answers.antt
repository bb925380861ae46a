use Rattle.std.proofs.Common.{◌+◌, rules}
use Rattle.block_reader.specs.Calls.{sections_of}
use Rattle.decl_reader.specs.Blocks.{table_of}
use Rattle.decl_reader.proofs.CountsLemmas.{counted_as, at_most_as}
use Rattle.decl_reader.proofs.declaration.read_spelled.Goals as goal

pub returns-clause-counted : goal.returns-clause-counted
returns-clause-counted g c =
    counted_as (sections_of c.args.parts.now) (g.B.Basics.meaning c.args.basics.now) (table_of c.args.arena.now.nodes c.args.memory.now) c.args.offset c.read_out-read.result c.args.steps.now c.read_out-read.new.self.steps.now _ c.read_out-read.ensures.counted (search rules)

pub returns-clause-at_most : goal.returns-clause-at_most
returns-clause-at_most g c = at_most_as c.read_out-read.new.self.steps.now _ (c.args.steps.now + c.args.parts.now.body_len) c.read_out-read.ensures.at_most (search rules)
