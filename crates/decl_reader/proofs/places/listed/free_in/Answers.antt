use Rattle.std.proofs.Common.{sym, ap, ◌∙◌, cond, lt-ltb, le-ltb, true, None, Some}
use Rattle.decl_reader.proofs.StackedLemmas.{covered_listed, free_listed}
use Rattle.decl_reader.proofs.places.listed.free_in.Goals as goal

pub returns-then-covers : goal.returns-then-covers
returns-then-covers c types stacked = covered_listed types c.args.offset c.args.limit c.count_begun-begun.result c.args.listed.now c.count_begun-begun.ensures stacked c.if-covers.ensures

pub returns-in-Some : goal.returns-in-Some
returns-in-Some c types stacked =
    let limit = c.args.limit in
    sym (free_listed types c.args.offset limit _ (Some c.in-Some.start) c.count_begun-begun.result c.args.listed.now c.count_begun-begun.ensures stacked c.if-covers.ensures c.in-Some.ensures ∙ ap (λ b. cond b c.in-Some.start limit) (lt-ltb c.in-Some.start limit c.if-start-limit.true))

pub returns-in_default : goal.returns-in_default
returns-in_default c types stacked =
    let limit = c.args.limit in
    sym (free_listed types c.args.offset limit _ (Some c.in-Some.start) c.count_begun-begun.result c.args.listed.now c.count_begun-begun.ensures stacked c.if-covers.ensures c.in-Some.ensures ∙ ap (λ b. cond b c.in-Some.start limit) (le-ltb c.in-Some.start limit c.if-start-limit.false))

pub returns-in_default-2 : goal.returns-in_default-2
returns-in_default-2 c types stacked =
    sym (free_listed types c.args.offset c.args.limit _ None c.count_begun-begun.result c.args.listed.now c.count_begun-begun.ensures stacked c.if-covers.ensures c.in_default.ensures)
