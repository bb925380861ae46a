use Rattle.std.proofs.Common.{◌≡◌, ◌++◌, take}
use Rattle.decl_text.specs.Printed.{printed}
use Rattle.decl_text.proofs.escapes.put_printed.Given as goal

abbrev pub invariant-loop-byte : goal.invariant-loop-byte
invariant-loop-byte l = l.line.items ≡ l.fn.line.items ++ printed (take l.byte-index l.text)
