use Rattle.std.proofs.Common.{List, ℕ, Some, ap}
use Rattle.position_codec.specs.Place.{Named}
use Rattle.position_codec.proofs.writing.write_file.Goals as goal

pub returns-clause-written : goal.returns-clause-written
returns-clause-written c =
    let there : List ℕ → Named = λ file. record { place = record { file = file; line = c.args.line; column = c.args.column }; name = Some c.in_ok-offset.offset } in
    record {
      offset = c.in_ok-offset.offset;
      middle = c.put_both.new.w;
      numbers = c.in_ok-put_both.ensures.written;
      name = c.in_ok-put_uvarint.ensures.written.0;
      spelled = c.in_ok-put_uvarint.ensures.written.1;
      appended = c.in_ok-put_uvarint.ensures.written.2;
      there = c.in_ok-offset.ensures.stands;
      moved = ap there c.in_ok-copy.ensures;
    }
