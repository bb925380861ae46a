-- Variables without a written type: the first name of each such declaration, with a cause that is the same for all.
use Rattle.std.specs.Prelude.{ℕ, suc, List, [], ◌∷◌, ◌++◌, Option, Some, None}
use Rattle.source_places.specs.declared.places.Found.{Found}
use Rattle.source_trees.specs.Trees.{WrittenType}
use Rattle.source_trees.specs.Words.{Word}
use Rattle.source_trees.specs.Files.{WrittenTop, WrittenFile, constants, variables, defined, alias, func}
use Rattle.source_walk.specs.Visits.{Visit, a_file, a_top, a_type, an_expr}

abbrev pub first_name : {C : Type 0} → C → ℕ → List Word → List (Found C)
first_name cause file [] = []
first_name cause file (w ∷ ws) = record { place = record { file = file; at = w.at }; cause = cause } ∷ []

abbrev pub untyped : {C : Type 0} → C → ℕ → List Word → Option WrittenType → List (Found C)
untyped cause file names (Some ty) = []
untyped cause file names None = first_name cause file names

-- in a declaration of the file with this number
abbrev pub untyped_top : {C : Type 0} → C → ℕ → WrittenTop → List (Found C)
untyped_top cause file (constants c) = []
untyped_top cause file (variables v) = untyped cause file v.names v.ty
untyped_top cause file (defined d) = []
untyped_top cause file (alias d) = []
untyped_top cause file (func f) = []

abbrev pub untyped_tops : {C : Type 0} → C → ℕ → List WrittenTop → List (Found C)
untyped_tops cause file [] = []
untyped_tops cause file (t ∷ ts) = untyped_top cause file t ++ untyped_tops cause file ts

-- in files, the first of which has this number
abbrev pub untyped_files : {C : Type 0} → C → ℕ → List WrittenFile → List (Found C)
untyped_files cause n [] = []
untyped_files cause n (f ∷ fs) = untyped_tops cause n f.tops ++ untyped_files cause (suc n) fs

-- all places of the files of a package
abbrev pub no_var_types : {C : Type 0} → C → List WrittenFile → List (Found C)
no_var_types cause files = untyped_files cause 0 files

-- the places at a visit of a walk
abbrev pub no_var_type : {C : Type 0} → C → Visit → List (Found C)
no_var_type cause (a_file n f) = []
no_var_type cause (a_top s top) = untyped_top cause s.file top
no_var_type cause (a_type s w ty) = []
no_var_type cause (an_expr s w e) = []
