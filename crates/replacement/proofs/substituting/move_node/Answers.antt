use Rattle.std.proofs.lemmas.Result.{on_ok_weaker}
use Rattle.replacement.specs.Moves.{put_of}
use Rattle.replacement.proofs.MoveLemmas.{noted_moves, made_later}
use Rattle.replacement.proofs.substituting.move_node.Goals as goal

pub returns-clause-moves : goal.returns-clause-moves
returns-clause-moves c =
    let old = c.args.arena.now in
    let new = c.made_node.new.arena in
    let put = put_of old.nodes c.args.params.now c.args.args.now in
    let made = c.in_ok-made.ensures in
    on_ok_weaker c.note.result
    (λ notes. noted_moves c.args.moves.now.entries c.note.new.moves.entries c.args.id c.in_ok-made.made notes old new put made.extends c.requires.moves
    (made_later old new put c.args.id c.in_ok-made.made made.extends c.requires.there made.within made.denotes)) c.note.ensures.noted
