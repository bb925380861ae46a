-- What a layout asks of what is written.
use Rattle.std.specs.Prelude.{◌≡◌, [], IsTrue, Some}
use Rattle.std.specs.List.{AllByRecursion}
use Rattle.wire_bytes.specs.Whole.{IsGreatestLength, in_range}
use Rattle.position_codec.specs.Place.{place_of, pos_of}
use Rattle.position_codec.specs.Position.{IsPlace}
use Rattle.type_terms.specs.Shapes.{OriginOf, struct_of, interface_of}
use Rattle.type_terms.specs.Trees.{Text, Tree, Level, level_of}
use Rattle.type_terms.specs.Parts.{Within}
use Rattle.type_terms.specs.Declarations.{Decl, form_types, constant_of}
use Rattle.type_terms.specs.DeclarationRules.{IsProperLevel, IsProperForm}
use Rattle.decl_spelling.specs.Sections.{Basics}
use Rattle.decl_spelling.specs.Constants.{Spelling, flag, offset, number, spelled, kind_of, basic_type}
use Rattle.go_values.specs.declared.constants.Const.{Const}
use Rattle.go_values.specs.declared.constants.Const.TheVariants.{Bool as truth, Int as whole, Str as chars}
use Rattle.file_layout.specs.Items.{Item, a_position, a_whole, level_items}
use Rattle.file_layout.specs.Items.{decl_items}

-- A position has 32 bits and is the one that is read back; and a whole number is one of its type. Nothing is asked of
-- numbers: the file's length bounds the counts, and the rules on declarations bound the lengths of arrays.
abbrev pub ItemFits : Item → Type 0
ItemFits (a_position pos) = (pos ≡ pos_of (place_of pos)) × IsPlace (place_of pos)
ItemFits (a_whole signed max v) = IsGreatestLength max × IsTrue (in_range signed max v)
ItemFits _ = Unit {0}

abbrev pub no_origin : OriginOf Text Text
no_origin = record { text = []; path = [] }

-- Only literals of other packages in shallow files have an origin.
abbrev pub HasNoOrigin : Level → Type 0
HasNoOrigin (struct_of home fields) = AllByRecursion (λ field. field.origin ≡ no_origin) fields
HasNoOrigin (interface_of home embedded methods) = AllByRecursion (λ method. method.origin ≡ no_origin) methods
HasNoOrigin _ = Unit {0}

pub record LevelFits (level : Level) : Type 0 where
  pub proper : IsProperLevel level
  pub no_origin : HasNoOrigin level
  pub items : AllByRecursion ItemFits (level_items level)

-- at every level
abbrev pub TypeFits : Tree → Type 0
TypeFits type = (part : Tree) → Within type part → LevelFits (level_of part)

-- the value is one of those that are spelled so
abbrev pub IsValueFor : Spelling → Const → Type 0
IsValueFor flag (truth x) = Unit {0}
IsValueFor offset (chars x) = Unit {0}
IsValueFor (number signed max) (whole x) = IsTrue (in_range signed max x)
IsValueFor spelling value = ⊥

-- A constant's type comes down to a basic type, and its value is one of that type.
abbrev pub ConstantFits : Basics → Decl → Type 0
ConstantFits basics (constant_of pos type value) =
    (basic : _) × (spelling : Spelling) × (basic_type basics type ≡ Some basic) × (kind_of basic ≡ spelled spelling)
    × IsValueFor spelling value
ConstantFits basics _ = Unit {0}

pub record DeclFits (basics : Basics) (decl : Decl) : Type 0 where
  pub proper : IsProperForm decl
  pub constant : ConstantFits basics decl
  pub items : AllByRecursion ItemFits (decl_items basics decl)
  pub types : AllByRecursion TypeFits (form_types decl)
