-- What the single parts that are read are spelled with.
use Rattle.std.specs.Prelude.{Some}
use Rattle.decl_spelling.specs.Spelled as of
use Rattle.decl_spelling.specs.Spelled.{without_pos, with_pos}
use Rattle.block_reader.specs.declared.spelled.SpelledText.{SpelledText}
use Rattle.block_reader.specs.declared.spelled.SpelledPath.{SpelledPath}
use Rattle.block_reader.specs.declared.spelled.SpelledPos.{SpelledPos}
use Rattle.block_reader.specs.declared.spelled.Embedded.{Embedded}
use Rattle.block_reader.specs.declared.spelled.SpelledConst.{SpelledConst}

abbrev pub text_spelled : SpelledText → of.SpelledText
text_spelled x = record { offset = Some x.offset; text = x.text }

abbrev pub path_spelled : SpelledPath → of.SpelledPath
path_spelled x = record { offset = Some x.offset; path = x.path }

abbrev pub pos_spelled : SpelledPos → of.SpelledPos
pos_spelled x = record { pos = x.pos; file = x.file }

abbrev pub embedded_spelled : Embedded → of.SpelledType
embedded_spelled x = with_pos (pos_spelled x.pos) (without_pos x.ty)

abbrev pub const_spelled : SpelledConst → of.SpelledConst
const_spelled x = record { offset = x.offset; value = x.value }
