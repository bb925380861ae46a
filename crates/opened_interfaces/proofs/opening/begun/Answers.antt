use Rattle.std.proofs.Common.{rules, false, ◌≡◌, ◌++◌, [], map, ap, ◌∙◌}
use Rattle.interface_opener.specs.Numbered.{by_number, event_of}
use Rattle.interface_opener.specs.Stacked.{stacked, element_at}
use Rattle.interface_opening.specs.Opening.{term, several_terms}
use Rattle.opened_interfaces.proofs.OpenedLemmas.{node_begun}
use Rattle.opened_interfaces.proofs.opening.begun.Goals as goal

pub returns : goal.returns
returns c =
    let nodes = c.args.arena.now.nodes in
    let node = c.args.node in
    let items = map (term node (several_terms by_number (element_at nodes node))) (element_at nodes node) in
    let tasks : stacked c.put_top.new.tasks.items ≡ items ++ [] = c.in_ok-put_top.ensures ∙ ap (λ l. items ++ stacked l) c.new-tasks.ensures.items in
    let types : c.new.result.keys ≡ [] = search rules in
    let marked : c.new-3.result.keys ≡ [] = search rules in
    let entered : c.new-5.result.keys ≡ [] = search rules in
    let methods = c.new-2.ensures.items in
    let events = c.new-4.ensures.items in
    node_begun nodes c.told_apart.ensures node c.requires.there _ tasks
    (λ i. record { types = types i; methods = methods i; flag = false; marked = marked i; events = map event_of (events i) }) entered
