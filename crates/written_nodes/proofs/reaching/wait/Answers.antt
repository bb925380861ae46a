use Rattle.std.proofs.Common.{refl, sym}
use Rattle.written_nodes.proofs.SearchLemmas.{inserted, joins_known}
use Rattle.written_nodes.proofs.reaching.wait.Goals as goal

pub returns-then-is_made : goal.returns-then-is_made
returns-then-is_made c = joins_known c.args.waiting.now.keys c.args.id (sym c.if-is_made.ensures)

pub returns : goal.returns
returns c = inserted refl _ _ c.args.id c.in_ok-insert.ensures.keys
