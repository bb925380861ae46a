use Rattle.std.proofs.Common.{ap, sym, ◌∙◌, ◌&&◌, not, map, Ok}
use Rattle.interface_opener.specs.Numbered.{event_of, state}
use Rattle.free_interfaces.specs.AllTypes.{all_after, none_yet, is_none}
use Rattle.free_interfaces.proofs.AllTypesLemmas.{freed}
use Rattle.free_interfaces.proofs.freedom.has_nothing.Goals as goal

pub returns : goal.returns
returns c entries names =
    let events = c.in_ok-all.ensures ∙ ap (λ es. (all_after (map event_of es) none_yet c.args.node).union) c.deref.ensures.value in
    freed c.args.arena.now.nodes c.told_apart.ensures entries names (state c.args.found.now) c.args.node c.requires.within.events c.requires.there
    ∙ ap (λ b. Ok b) (sym (c.is_nothing.ensures ∙ (λ i. (events i && is_none (c.deref-2.ensures.value i)) && not c.args.found.now.comparable)))
