use Rattle.std.proofs.Common.{◌≡◌, ◌-◌}
use Rattle.decl_spelling.specs.Heads.{pass_times}
use Rattle.decl_reader.proofs.heads.pass_times.Given as goal

abbrev pub invariant-loop : goal.invariant-loop
invariant-loop l = pass_times (l.count - l.counter) l.cursor.left ≡ pass_times l.count l.fn.cursor.left
