-- The definitions, computed on worked bytes. The data section begins at 14 of the file.
use Rattle.std.proofs.Common.{◌≡◌, ℕ, List, [], ◌∷◌, Option, Some, None, Result, Ok, Err, refl}
use Rattle.std.specs.Prelude.{pos}
use Rattle.code_tables.specs.declared.predeclared.Basic.TheVariants as basics
use Rattle.go_values.specs.declared.constants.Const.{Const}
use Rattle.go_values.specs.declared.constants.Const.TheVariants.{Int as whole}
use Rattle.wire_bytes.specs.declared.fault.ByteFault.{ByteFault}
use Rattle.wire_bytes.specs.declared.fault.ByteFault.TheVariants as faults
use Rattle.wire_bytes.specs.Uvarint.{uvarint_in}
use Rattle.wire_bytes.specs.Text.{text_in}
use Rattle.wire_bytes.specs.Whole.{judged}
use Rattle.position_codec.specs.Position.{position_at, moved_at, file_at, line_at}
use Rattle.type_terms.specs.Declarations.{Decl, constant_of, defined_of}
use Rattle.type_terms.specs.Trees.{Tree, pointer, predeclared}
use Rattle.decl_spelling.specs.Sections.{Sections, Basics}
use Rattle.decl_spelling.specs.Reading.{type_at, times, list_at, text_at}
use Rattle.decl_spelling.specs.Descriptors.{flat_at, element_at, map_at}
use Rattle.decl_spelling.specs.Descent.{block_at}
use Rattle.decl_spelling.specs.Constants.{value_at, kind_given_at}
use Rattle.decl_spelling.specs.Declarations.{decl_at, read_at, head_at, defined_at, constant_at}

-- `p.go` at 0 and the empty text at 5
abbrev strings : List ℕ
strings = 4 ∷ 112 ∷ 46 ∷ 103 ∷ 111 ∷ 0 ∷ []

abbrev in_version : ℕ → List ℕ → Sections
in_version version body = record { strings = strings; body = body; body_at = 14; version = version; own = 112 ∷ []; paths = [] ∷ [] }

abbrev no_names : Basics
no_names path name = None

abbrev underlying_in : Result Decl ByteFault → Option Tree
underlying_in (Ok (defined_of at tparams type methods)) = Some type
underlying_in _ = None

abbrev value_in : Result Decl ByteFault → Option Const
value_in (Ok (constant_of at type value)) = Some value
value_in _ = None

-- `type D *int`, at 2
a_pointer : underlying_in (decl_at (in_version 2 (1 ∷ 1 ∷ 84 ∷ 30 ∷ 10 ∷ 0 ∷ 32 ∷ 0 ∷ [])) no_names 2) ≡ Some (pointer (predeclared basics.Int))
unfolding read_at head_at defined_at type_at times list_at text_at block_at flat_at element_at uvarint_in text_in position_at moved_at file_at line_at
a_pointer = refl

-- its element is the pointer itself
its_own_element : decl_at (in_version 2 (1 ∷ 32 ∷ 84 ∷ 30 ∷ 10 ∷ 0 ∷ 32 ∷ 0 ∷ [])) no_names 2 ≡ Err (faults.Range 15 32)
unfolding read_at head_at defined_at type_at times list_at text_at block_at flat_at element_at uvarint_in text_in position_at moved_at file_at line_at
its_own_element = refl

-- the descriptor runs into the declaration
into_its_holder : decl_at (in_version 2 (1 ∷ 128 ∷ 84 ∷ 30 ∷ 10 ∷ 0 ∷ 32 ∷ 0 ∷ [])) no_names 2 ≡ Err (faults.Range 20 32)
unfolding read_at head_at defined_at type_at times list_at text_at block_at flat_at element_at uvarint_in text_in position_at moved_at file_at line_at
into_its_holder = refl

-- a map whose element begins in its key
a_shared_byte : decl_at (in_version 2 (2 ∷ 1 ∷ 1 ∷ 5 ∷ 32 ∷ 33 ∷ 84 ∷ 30 ∷ 10 ∷ 0 ∷ 35 ∷ 0 ∷ [])) no_names 6 ≡ Err (faults.Range 19 33)
unfolding read_at head_at defined_at type_at times list_at text_at block_at flat_at element_at map_at uvarint_in text_in position_at moved_at file_at line_at
a_shared_byte = refl

-- `const A = 1`, in both versions
a_constant : value_in (decl_at (in_version 2 (67 ∷ 30 ∷ 10 ∷ 0 ∷ 21 ∷ 6 ∷ 2 ∷ [])) no_names 0) ≡ Some (whole (pos 1))
unfolding read_at head_at constant_at type_at value_at kind_given_at text_at uvarint_in text_in judged position_at moved_at file_at line_at
a_constant = refl

a_constant_of_version_1 : value_in (decl_at (in_version 1 (67 ∷ 30 ∷ 10 ∷ 0 ∷ 21 ∷ 2 ∷ [])) no_names 0) ≡ Some (whole (pos 1))
unfolding read_at head_at constant_at type_at value_at kind_given_at text_at uvarint_in text_in judged position_at moved_at file_at line_at
a_constant_of_version_1 = refl

-- the kind of a truth value, before a whole number
another_kind : decl_at (in_version 2 (67 ∷ 30 ∷ 10 ∷ 0 ∷ 21 ∷ 2 ∷ 2 ∷ [])) no_names 0 ≡ Err (faults.Tag 19 2)
unfolding read_at head_at constant_at type_at value_at kind_given_at text_at uvarint_in text_in judged position_at moved_at file_at line_at
another_kind = refl

-- generic types aren't known in version 1
no_generic_type : decl_at (in_version 1 (85 ∷ 30 ∷ 10 ∷ 0 ∷ 21 ∷ 2 ∷ [])) no_names 0 ≡ Err (faults.Tag 14 85)
unfolding read_at head_at uvarint_in
no_generic_type = refl
