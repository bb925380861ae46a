use Rattle.std.proofs.Common.{◌≡◌, ◌≢◌, arith, rules}
use Rattle.wire_bytes.specs.Section.{section_of}
use Rattle.position_codec.proofs.WroteLemmas.{wrote_column, wrote_line, wrote_file}
use Rattle.position_codec.proofs.writing.write_place.Goals as goal

pub returns-then-ne-clause-written : goal.returns-then-ne-clause-written
returns-then-ne-clause-written c =
    let other : c.args.prev.now.place.file ≢ c.args.file.now = search rules in
    wrote_file (section_of c.write_file.new.strings) c.args.prev.now c.write_file.new.prev c.args.file.now c.args.line c.args.column c.args.w.now c.write_file.new.w (omega arith) (omega arith) c.write_file.result other c.write_file.ensures.written

pub returns-then-prev-line-clause-written : goal.returns-then-prev-line-clause-written
returns-then-prev-line-clause-written c =
    let same : c.args.prev.now.place.file ≡ c.args.file.now = search rules in
    let other : c.args.prev.now.place.line ≢ c.args.line = search rules in
    wrote_line (section_of c.args.strings.now) c.args.prev.now c.write_line.new.prev c.args.file.now c.args.line c.args.column c.args.w.now c.write_line.new.w (omega arith) (omega arith) c.write_line.result same other c.write_line.ensures.written c.write_line.ensures.moved

pub returns-clause-written : goal.returns-clause-written
returns-clause-written c =
    let same : c.args.prev.now.place.file ≡ c.args.file.now = search rules in
    let same' : c.args.prev.now.place.line ≡ c.args.line = search rules in
    wrote_column (section_of c.args.strings.now) c.args.prev.now c.write_column.new.prev c.args.file.now c.args.line c.args.column c.args.w.now c.write_column.new.w (omega arith) (omega arith) c.write_column.result same same' c.write_column.ensures.written c.write_column.ensures.moved
