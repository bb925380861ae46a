use Rattle.std.proofs.Common.{refl}
use Rattle.std.proofs.lemmas.Result.{on_ok_weaker}
use Rattle.block_walk.proofs.WalkingLemmas.{goes_tell}
use Rattle.block_walk.proofs.walking.mention_path.Goals as goal

pub returns : goal.returns
returns c =
    let old = c.args.section.now in
    on_ok_weaker c.put_path.result
    (λ told nodes left room.
    goes_tell nodes c.args.own.now old (record { body = old.body; strings = c.say_path.new.strings; paths = c.put_path.new.paths; names = old.names; numbers = old.numbers; placed = old.placed }) c.args.path.now c.in_ok-say_path.ensures
    told refl refl refl refl room left)
    c.put_path.ensures
