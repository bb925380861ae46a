-- How values are spelled, as the code says it.
use Rattle.std.specs.Prelude.{◌≡◌, IsTrue}
use Rattle.wire_bytes.specs.Whole.{IsGreatestLength}
use Rattle.decl_spelling.specs.Constants.{Spelling as SpellingShape, flag, offset, number, Kind as KindShape, spelled}
use Rattle.decl_spelling.specs.Constants.{floating, none}
use Rattle.block_reader.specs.declared.values.Spelling.{Spelling}
use Rattle.block_reader.specs.declared.values.Spelling.TheVariants.{Flag, Offset, Number}
use Rattle.block_reader.specs.declared.values.Kind.{Kind}
use Rattle.block_reader.specs.declared.values.Kind.TheVariants.{Spelled, Floating, NoConstant}

abbrev pub spelling_shape : Spelling → SpellingShape
spelling_shape Flag = flag
spelling_shape Offset = offset
spelling_shape (Number signed max) = number signed max

abbrev pub kind_shape : Kind → KindShape
kind_shape (Spelled spelling) = spelled (spelling_shape spelling)
kind_shape Floating = floating
kind_shape NoConstant = none

-- whole numbers have one of the lengths that there are, and untyped ones are signed
abbrev pub IsSpelling : Spelling → Type 0
IsSpelling (Number signed max) = IsGreatestLength max × (max ≡ 64 → IsTrue signed)
IsSpelling _ = Unit {0}

abbrev pub IsKind : Kind → Type 0
IsKind (Spelled spelling) = IsSpelling spelling
IsKind _ = Unit {0}
