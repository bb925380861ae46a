use Rattle.std.proofs.Common.{◌≡◌, ◌++◌, take}
use Rattle.decl_text.specs.DeclText.{number_lines}
use Rattle.decl_text.proofs.rendering.put_number_lines.Given as goal

abbrev pub invariant-loop-number : goal.invariant-loop-number
invariant-loop-number l = l.text.items ≡ l.fn.text.items ++ number_lines 0 (take l.number l.lines.keys)
