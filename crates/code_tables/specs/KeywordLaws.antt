-- Each place in the table is that of one value.
use Rattle.std.specs.Prelude.{◌≡◌, ◌<◌, Some, slice_get, refl}
use Rattle.code_tables.specs.declared.words.Keyword.{Keyword}
use Rattle.code_tables.specs.declared.words.Keyword.TheVariants.{Break, Case, Chan, Const, Continue, Default, Defer}
use Rattle.code_tables.specs.declared.words.Keyword.TheVariants.{Else, Fallthrough, For, Func, Go, Goto, If, Import}
use Rattle.code_tables.specs.declared.words.Keyword.TheVariants.{Interface, Map, Package, Range, Return, Select}
use Rattle.code_tables.specs.declared.words.Keyword.TheVariants.{Struct, Switch, «Type», Var}
use Rattle.code_tables.specs.Keyword.{keyword_number, keyword_values}
use Rattle.code_tables.specs.Numbering.{exact_numbers, below_count}

pub keyword_at : (keyword : Keyword) → slice_get keyword_values (keyword_number keyword) ≡ Some keyword
keyword_at Break = refl
keyword_at Case = refl
keyword_at Chan = refl
keyword_at Const = refl
keyword_at Continue = refl
keyword_at Default = refl
keyword_at Defer = refl
keyword_at Else = refl
keyword_at Fallthrough = refl
keyword_at For = refl
keyword_at Func = refl
keyword_at Go = refl
keyword_at Goto = refl
keyword_at If = refl
keyword_at Import = refl
keyword_at Interface = refl
keyword_at Map = refl
keyword_at Package = refl
keyword_at Range = refl
keyword_at Return = refl
keyword_at Select = refl
keyword_at Struct = refl
keyword_at Switch = refl
keyword_at «Type» = refl
keyword_at Var = refl

pub keyword_below : (keyword : Keyword) → keyword_number keyword < 25
keyword_below = below_count keyword_values keyword_number keyword_at

pub keyword_exact : (left right : Keyword) → keyword_number left ≡ keyword_number right → left ≡ right
keyword_exact = exact_numbers keyword_values keyword_number keyword_at
