use Rattle.std.proofs.Common.{List, ℕ, subst}
use Rattle.position_codec.specs.Calls.{ReadsPosition}
use Rattle.file_parts.specs.FileParts.{strings_of}
use Rattle.position_codec.specs.Position.{position_at}
use Rattle.position_codec.proofs.PositionLemmas.{spells_none}
use Rattle.position_codec.proofs.reading.read_full.Goals as goal

pub returns-clause-none : goal.returns-clause-none
returns-clause-none c =
    let read = subst (λ (strings : List ℕ). ReadsPosition c.read_next.result c.args.prev.now c.read_next.new.prev c.args.cursor.now c.read_next.new.cursor (position_at strings c.args.prev.now.place c.args.cursor.now)) c.strings.ensures c.read_next.ensures.exact in
    spells_none (strings_of c.args.parts.now) c.args.prev.now c.read_next.new.prev c.args.cursor.now c.read_next.new.cursor c.read_next.result read
