use Rattle.std.proofs.Common.{inl, inr, ◌≡◌, ap, ◌∙◌}
use Rattle.command_words.specs.Texts.{source_word}
use Rattle.command_words.specs.Forms.{source_of}
use Rattle.session_files.specs.Loading.{damaged}
use Rattle.exportdata_cmd.specs.Endings.{damaged_end}
use Rattle.exportdata_cmd.proofs.OpeningLemmas.{opened_alone, unfetched_alone, spoilt_alone, damaged_ends}
use Rattle.exportdata_cmd.proofs.opening.open_source.Goals as goal

pub returns-in-Ok-read_full_file-clause-opened : goal.returns-in-Ok-read_full_file-clause-opened
returns-in-Ok-read_full_file-clause-opened g c =
    opened_alone _ (source_of c.args.source.now) c.in-Ok.bytes.items _ c.in-Ok.ensures.fetched
    (rw c.as_bytes.ensures.value at c.in-Ok-read_full_file.ensures.found)

pub returns-in-Err-clause-cause : goal.returns-in-Err-clause-cause
returns-in-Err-clause-cause g c = unfetched_alone _ (source_of c.args.source.now) _ _ _ c.in-Err.ensures.cause

pub returns-in-Err-Bytes-clause-cause : goal.returns-in-Err-Bytes-clause-cause
returns-in-Err-Bytes-clause-cause g c =
    let source = source_of c.args.source.now in
    let first = rw (c.in-Err-Bytes.field-0-is, c.as_bytes.ensures.value) at c.in-Err-Bytes.ensures.fault in
    damaged_ends _ _ (damaged (source_word source) c.in-Err-Bytes.fault)
    (spoilt_alone _ source _ _ c.in-Ok.bytes.items c.in-Err-Bytes.fault c.in-Ok.ensures.fetched first)
    (rw c.requires at c.damaged.ensures)
