use Rattle.std.proofs.Common.{◌≡◌, ◌++◌, ◌∷◌, take}
use Rattle.std.specs.List.{flat_map}
use Rattle.decl_text.specs.Printed.{quoted_byte}
use Rattle.decl_text.proofs.escapes.put_quoted.Given as goal

abbrev pub invariant-loop-byte : goal.invariant-loop-byte
invariant-loop-byte l = l.line.items ≡ l.fn.line.items ++ 34 ∷ flat_map quoted_byte (take l.byte-index l.text)
