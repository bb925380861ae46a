use Rattle.std.proofs.Common.{ap, ◌∙◌}
use Rattle.std.specs.Option.{option_copied}
use Rattle.file_parts.specs.Paths.{texts_of}
use Rattle.file_parts.proofs.PathLemmas.{path_for_text, copied_then}
use Rattle.file_parts.proofs.parts.path_for.Goals as goal

pub returns : goal.returns
returns c =
    ap option_copied c.then_some-2.ensures ∙ copied_then c.is_path.result c.args.text
    ∙ path_for_text c.args.own.now (texts_of c.args.strings.now c.args.paths.now) c.args.text.now c.is_path.result c.if-is_empty.ensures c.is_path.ensures
