use Rattle.std.proofs.Common.{◌≡◌, ◌++◌, map, take}
use Rattle.decl_text.specs.Joined.{joined}
use Rattle.decl_text.specs.Referring.{refer}
use Rattle.decl_text.proofs.pieces.put_joined.Given as goal

abbrev pub invariant-loop-k : goal.invariant-loop-k
invariant-loop-k g l = l.line.items ≡ l.fn.line.items ++ joined l.divider (map (g.T.Piece.text (refer l.names)) (take l.k l.pieces))
