-- The values that numbers stand for, in a file of a format version. Version 1 has no generic types.
use Rattle.std.specs.Prelude.{ℕ, ◌==◌, ◌&&◌, nat_le, List, [], ◌∷◌, Option, Some, None, cond}
use Rattle.code_tables.specs.declared.predeclared.Basic.{Basic}
use Rattle.code_tables.specs.declared.descriptors.TypeTag.{TypeTag}
use Rattle.code_tables.specs.declared.declarations.DeclTag.{DeclTag}
use Rattle.code_tables.specs.declared.declarations.DeclTag.TheVariants.{GenericFunc, GenericDefined, GenericAlias}
use Rattle.code_tables.specs.declared.declarations.DeclTag.TheVariants.{TypeParameter}
use Rattle.code_tables.specs.Basic.{basic_code, basic_values}
use Rattle.code_tables.specs.TypeTag.{type_tag_code, type_tag_values}
use Rattle.code_tables.specs.DeclTag.{decl_tag_code, decl_tag_values}
use Rattle.type_terms.specs.declared.literals.Dir.{Dir}
use Rattle.type_terms.specs.declared.literals.Dir.TheVariants.{Receive, Send, Both}

-- the first of the values that has the code
abbrev pub coded : {T : Type 0} → (T → ℕ) → List T → ℕ → Option T
coded code [] n = None
coded code (value ∷ values) n = cond (code value == n) (Some value) (coded code values n)

-- a predeclared type; in version 1 there is no comparable and no any
abbrev pub basic_of : ℕ → ℕ → Option Basic
basic_of version n = cond ((version == 1) && nat_le 28 n) None (coded basic_code basic_values n)

-- the kind of a descriptor; version 1 has those up to 8
abbrev pub type_tag_of : ℕ → ℕ → Option TypeTag
type_tag_of version n = cond ((version == 1) && nat_le 9 n) None (coded type_tag_code type_tag_values n)

-- those of version 1
abbrev pub in_version_1 : DeclTag → Option DeclTag
in_version_1 GenericFunc = None
in_version_1 GenericDefined = None
in_version_1 GenericAlias = None
in_version_1 TypeParameter = None
in_version_1 tag = Some tag

abbrev pub in_version : ℕ → Option DeclTag → Option DeclTag
in_version version None = None
in_version version (Some tag) = cond (version == 1) (in_version_1 tag) (Some tag)

-- the kind of a declaration
abbrev pub decl_tag_of : ℕ → ℕ → Option DeclTag
decl_tag_of version n = in_version version (coded decl_tag_code decl_tag_values n)

-- what a channel may do
abbrev pub dir_of : ℕ → Option Dir
dir_of n = cond (n == 1) (Some Receive) (cond (n == 2) (Some Send) (cond (n == 3) (Some Both) None))
