use Rattle.std.proofs.Common.{rules}
use Rattle.std.proofs.lemmas.List.Sorted.{answers_always}
use Rattle.std.proofs.lemmas.Result.{on_ok_weaker}
use Rattle.written_nodes.proofs.SortLemmas.{is_named_before, node_order, in_order}
use Rattle.written_nodes.proofs.methods.sort_methods.Goals as goal

pub returns : goal.returns
returns c =
    let compares = answers_always _ _ _ (λ f a r next called. search rules) in
    let does = c.sort_by.ensures in
    on_ok_weaker c.sort_by.result
    (λ up. in_order c.args.methods.now.items c.sort_by.new.self.items does.permutation (up is_named_before node_order compares) (does.stable is_named_before node_order compares))
    does.sorted
