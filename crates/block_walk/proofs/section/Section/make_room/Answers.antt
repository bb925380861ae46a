use Rattle.std.proofs.Common.{refl, arith}
use Rattle.block_walk.proofs.RoomLemmas.{on_ok_from, room_made}
use Rattle.block_walk.proofs.section.Section.make_room.Goals as goal

pub returns-clause-stands : goal.returns-clause-stands
returns-clause-stands c =
    let a = c.args.self.now in
    let count = c.len-count.ensures.count in
    let first = c.in_ok-resize.ensures.by_index in
    let second = c.resize-2.ensures.by_index in
    on_ok_from c.resize-2.result (λ ok old more out is room stands.
    room_made c.args.nodes.now.nodes old more c.len-count.ensures.arena is a (record { body = a.body; strings = a.strings; paths = a.paths; names = a.names; numbers = c.resize.new.self; placed = c.resize-2.new.self }) room out stands refl refl refl refl
    (λ k d low under. first.0 k d (omega (arith, count, low)) (omega (arith, under, a.numbers.ok.0)))
    (λ k d high low. first.1 k d refl (omega (arith, high, a.numbers.ok.0)) (omega (arith, count, low)))
    (λ k d low under. second.0 k d (omega (arith, count, low)) (omega (arith, under, a.placed.ok.0)))
    (λ k d high low. second.1 k d ok (omega (arith, high, a.placed.ok.0)) (omega (arith, count, low))))
