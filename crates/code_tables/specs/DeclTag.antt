-- Tags of declarations: their codes in export data, and their places in the table.
use Rattle.std.specs.Prelude.{ℕ, List, [], ◌∷◌}
use Rattle.code_tables.specs.declared.declarations.DeclTag.{DeclTag}
use Rattle.code_tables.specs.declared.declarations.DeclTag.TheVariants.{Var, Func, GenericFunc, Const, Defined}
use Rattle.code_tables.specs.declared.declarations.DeclTag.TheVariants.{GenericDefined, Alias, GenericAlias}
use Rattle.code_tables.specs.declared.declarations.DeclTag.TheVariants.{TypeParameter}

-- the code
abbrev pub decl_tag_code : DeclTag → ℕ
decl_tag_code Var = 86
decl_tag_code Func = 70
decl_tag_code GenericFunc = 71
decl_tag_code Const = 67
decl_tag_code Defined = 84
decl_tag_code GenericDefined = 85
decl_tag_code Alias = 65
decl_tag_code GenericAlias = 66
decl_tag_code TypeParameter = 80

-- the place in the table, from 0
abbrev pub decl_tag_number : DeclTag → ℕ
decl_tag_number Var = 0
decl_tag_number Func = 1
decl_tag_number GenericFunc = 2
decl_tag_number Const = 3
decl_tag_number Defined = 4
decl_tag_number GenericDefined = 5
decl_tag_number Alias = 6
decl_tag_number GenericAlias = 7
decl_tag_number TypeParameter = 8

-- the values by their places
abbrev pub decl_tag_values : List DeclTag
decl_tag_values =
    Var ∷ Func ∷ GenericFunc ∷ Const ∷ Defined ∷ GenericDefined ∷ Alias ∷ GenericAlias ∷ TypeParameter ∷ []
