use Rattle.std.proofs.Common.{◌≡◌, ◌<◌, take, get_or}
use Rattle.wire_bytes.specs.Whole.{size_in}
use Rattle.wire_bytes.proofs.whole.size_in.Given as goal

abbrev pub invariant-loop-byte : goal.invariant-loop-byte
invariant-loop-byte l = (l.number ≡ size_in (take l.byte-index l.size)) × (0 < l.byte-index → 0 < get_or l.size 0 0 → 0 < l.number)
