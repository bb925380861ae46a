use Rattle.std.proofs.Common.{◌≡◌, ◌++◌, ap, ◌∙◌}
use Rattle.std.proofs.lemmas.Result.{on_ok_weaker}
use Rattle.interface_opener.specs.Numbered.{by_number}
use Rattle.interface_opener.specs.Stacked.{stacked, elements_left}
use Rattle.interface_opening.specs.Opening.{close_items}
use Rattle.opened_interfaces.proofs.OpenedLemmas.{met_opened}
use Rattle.opened_interfaces.proofs.opening.open_met.Goals as goal

pub returns : goal.returns
returns c =
    let nodes = c.args.arena.now.nodes in
    let run = c.args.run.now in
    let met = c.args.met in
    let tasks : stacked c.put_inside.new.tasks.items ≡ elements_left nodes met.ty met.held.embedded.items ++ (close_items by_number met.name ++ stacked run.tasks.items) =
    c.in_ok-put_inside.ensures ∙ ap (λ ids. elements_left nodes met.ty ids ++ (close_items by_number met.name ++ stacked run.tasks.items)) c.deref.ensures.value
    in
    on_ok_weaker c.enter.result (λ found. met_opened nodes c.told_apart.ensures run met _ c.requires.runs c.requires.met tasks found
    (c.in_ok-enter_name.ensures (stacked run.tasks.items) c.requires.runs.open_is c.requires.met.closed)) c.enter.ensures
