use Rattle.std.proofs.Common.{◌+◌, ◌-◌, ◌^◌, length}
use Rattle.whole_terms.specs.Tables.{table_of}
use Rattle.whole_terms.specs.Looks.{view}
use Rattle.whole_terms.proofs.PutLemmas.{times}
use Rattle.whole_terms.proofs.LookLemmas.{IsLooking}
use Rattle.whole_terms.proofs.looking.look.Given as goal

abbrev pub invariant-loop-task : goal.invariant-loop-task
invariant-loop-task l = IsLooking l.arena.nodes (table_of l.table.entries) l.fn.id (view l.walk)

abbrev pub decreases-loop-task : goal.decreases-loop-task
decreases-loop-task l = times (length l.arena.nodes - length (view l.walk).entered) (2 ^ 64) + length (view l.walk).tasks
