-- Each place in the table is that of one value.
use Rattle.std.specs.Prelude.{◌≡◌, ◌<◌, Some, slice_get, refl}
use Rattle.code_tables.specs.declared.declarations.DeclTag.{DeclTag}
use Rattle.code_tables.specs.declared.declarations.DeclTag.TheVariants.{Var, Func, GenericFunc, Const, Defined}
use Rattle.code_tables.specs.declared.declarations.DeclTag.TheVariants.{GenericDefined, Alias, GenericAlias}
use Rattle.code_tables.specs.declared.declarations.DeclTag.TheVariants.{TypeParameter}
use Rattle.code_tables.specs.DeclTag.{decl_tag_number, decl_tag_values}
use Rattle.code_tables.specs.Numbering.{exact_numbers, below_count}

pub decl_tag_at : (tag : DeclTag) → slice_get decl_tag_values (decl_tag_number tag) ≡ Some tag
decl_tag_at Var = refl
decl_tag_at Func = refl
decl_tag_at GenericFunc = refl
decl_tag_at Const = refl
decl_tag_at Defined = refl
decl_tag_at GenericDefined = refl
decl_tag_at Alias = refl
decl_tag_at GenericAlias = refl
decl_tag_at TypeParameter = refl

pub decl_tag_below : (tag : DeclTag) → decl_tag_number tag < 9
decl_tag_below = below_count decl_tag_values decl_tag_number decl_tag_at

pub decl_tag_exact : (left right : DeclTag) → decl_tag_number left ≡ decl_tag_number right → left ≡ right
decl_tag_exact = exact_numbers decl_tag_values decl_tag_number decl_tag_at
