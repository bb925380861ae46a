-- `==` holds of equal codes alone.
use Rattle.std.specs.Prelude.{◌≡◌, true}
use denote.Enum.Bare.{same_true}
use Rattle.code_tables.specs.contracts.predeclared.Basic.{the_type as the_basic}
use Rattle.code_tables.specs.declared.predeclared.Basic.{Basic}
use Rattle.code_tables.specs.contracts.predeclared.BasicPartialEq.TheImpl as basic_eq
use Rattle.code_tables.specs.declared.descriptors.TypeTag.{TypeTag}
use Rattle.code_tables.specs.contracts.descriptors.TypeTagPartialEq.TheImpl as type_tag_eq
use Rattle.code_tables.specs.contracts.descriptors.TypeTag.{the_type as the_type_tag}
use Rattle.code_tables.specs.declared.declarations.DeclTag.{DeclTag}
use Rattle.code_tables.specs.contracts.declarations.DeclTagPartialEq.TheImpl as decl_tag_eq
use Rattle.code_tables.specs.contracts.declarations.DeclTag.{the_type as the_decl_tag}
use Rattle.code_tables.specs.declared.words.Keyword.{Keyword}
use Rattle.code_tables.specs.contracts.words.KeywordPartialEq.TheImpl as keyword_eq
use Rattle.code_tables.specs.contracts.words.Keyword.{the_type as the_keyword}
use Rattle.code_tables.specs.declared.entries.EntryTag.{EntryTag}
use Rattle.code_tables.specs.contracts.entries.EntryTagPartialEq.TheImpl as entry_tag_eq
use Rattle.code_tables.specs.contracts.entries.EntryTag.{the_type as the_entry_tag}

pub exact_basic : (left right : Basic) → basic_eq.ghosts.eq left right ≡ true → left ≡ right
exact_basic left right h = same_true the_basic tt left right h

pub exact_type_tag : (left right : TypeTag) → type_tag_eq.ghosts.eq left right ≡ true → left ≡ right
exact_type_tag left right h = same_true the_type_tag tt left right h

pub exact_decl_tag : (left right : DeclTag) → decl_tag_eq.ghosts.eq left right ≡ true → left ≡ right
exact_decl_tag left right h = same_true the_decl_tag tt left right h

pub exact_keyword : (left right : Keyword) → keyword_eq.ghosts.eq left right ≡ true → left ≡ right
exact_keyword left right h = same_true the_keyword tt left right h

pub exact_entry_tag : (left right : EntryTag) → entry_tag_eq.ghosts.eq left right ≡ true → left ≡ right
exact_entry_tag left right h = same_true the_entry_tag tt left right h
