use Rattle.std.proofs.Common.{◌≡◌, ◌∙◌, ap, sym, refl, Some, length, slice_get}
use Rattle.std.proofs.lemmas.Option.{slice_get_read}
use Rattle.interface_opener.specs.Numbered.{event_of}
use Rattle.free_interfaces.specs.AllTypes.{after, none_yet}
use Rattle.free_interfaces.proofs.AllTypesLemmas.{next_after}
use Rattle.free_interfaces.proofs.all_types.has_all_types.Goals as goal

pub loop-event-preserved : goal.loop-event-preserved
loop-event-preserved c =
    let events = c.args.events.now in
    let event = c.event-item.result in
    let at : slice_get events c.loop-event.event-index ≡ Some event = slice_get_read events (length events) c.loop-event.event-index event refl c.loop-event-test.true c.event-item.is in
    (λ i id. c.in_ok-happen.ensures id i) ∙ ap (after (event_of event)) c.loop-event.invariant ∙ sym (next_after events c.loop-event.event-index event none_yet at)
