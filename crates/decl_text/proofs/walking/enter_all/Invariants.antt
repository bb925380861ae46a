use Rattle.std.proofs.Common.{◌≡◌, ◌++◌, vec_len}
use Rattle.decl_text.specs.Tasks.{entering}
use Rattle.decl_text.proofs.walking.enter_all.Given as goal

abbrev pub invariant-loop-id : goal.invariant-loop-id
invariant-loop-id l = l.tasks.items ++ entering l.types.items ≡ l.fn.tasks.items ++ entering l.fn.types.items

abbrev pub decreases-loop-id : goal.decreases-loop-id
decreases-loop-id l = vec_len l.types
