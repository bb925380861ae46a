use Rattle.std.proofs.Common.{refl, sym}
use Rattle.dangling_types.proofs.SearchLemmas.{inserted, joins_known}
use Rattle.dangling_types.proofs.reaching.wait.Goals as goal

pub returns-then-is_known : goal.returns-then-is_known
returns-then-is_known c = joins_known c.args.waiting.now.keys c.args.id (sym c.if-is_known.ensures)

pub returns : goal.returns
returns c = inserted refl _ _ c.args.id c.in_ok-insert.ensures.keys
