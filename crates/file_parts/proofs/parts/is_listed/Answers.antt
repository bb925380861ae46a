use Rattle.std.proofs.Common.{◌∙◌}
use Rattle.file_parts.specs.Paths.{texts_of}
use Rattle.file_parts.proofs.PathLemmas.{among_is}
use Rattle.file_parts.proofs.parts.is_listed.Goals as goal

pub returns : goal.returns
returns c = c.is_some.ensures ∙ among_is (texts_of c.args.strings.now c.args.paths.now) c.args.path.now c.find_titled.result c.find_titled.ensures.found c.find_titled.ensures.none
