use Rattle.decl_reader.proofs.StackedLemmas.{covered_is, before_next, behind_limit, no_next}
use Rattle.decl_reader.proofs.places.free_from.Goals as goal

pub returns-then-covers : goal.returns-then-covers
returns-then-covers c types stacked = covered_is types c.args.offset c.args.limit c.args.blocks.now.entries stacked c.if-covers.ensures

pub returns-in-Some : goal.returns-in-Some
returns-in-Some c types stacked = before_next types c.args.offset c.args.limit c.in-Some.start c.args.blocks.now.entries stacked c.if-covers.ensures c.in-Some.ensures c.if-start-limit.true

pub returns-in_default : goal.returns-in_default
returns-in_default c types stacked = behind_limit types c.args.offset c.args.limit c.in-Some.start c.args.blocks.now.entries stacked c.if-covers.ensures c.in-Some.ensures c.if-start-limit.false

pub returns-in_default-2 : goal.returns-in_default-2
returns-in_default-2 c types stacked = no_next types c.args.offset c.args.limit c.args.blocks.now.entries stacked c.if-covers.ensures c.in_default.ensures
