-- The predeclared types to which the names of a session come down.
use Rattle.std.specs.Prelude.{ℕ, zero, suc, List, [], ◌∷◌, length, Bool, false, cond, nat_eq, Option, Some, None}
use Rattle.std.specs.Option.{option_and_then}
use Rattle.std.specs.Cmp.Lexicographic.{pointwise}
use Rattle.code_tables.specs.declared.predeclared.Basic.{Basic}
use Rattle.name_index.specs.FullFile.{FullFile, Package, Listed, listed}
use Rattle.decl_spelling.specs.Sections.{Basics}
use Rattle.decl_spelling.specs.Heads.{Lead, to_basic, to_name, IsHead, head_lead}
use Rattle.session_files.specs.FileSections.{sections_in}
use Rattle.session_files.specs.Sessions.{Opened, StandsIn, all_listed}

-- the head of the declaration in the first file that lists the name leads there
pub record LeadsTo (files : List Opened) (path name : List ℕ) (lead : Lead) : Type 0 where
  pub file : ℕ
  pub number : ℕ
  pub opened : Opened
  pub offset : ℕ
  pub stands : StandsIn files path name file number opened offset
  pub head : IsHead (sections_in opened.file) offset lead

-- Its head leads to a predeclared type, or on to a name that comes down to it.
pub data ComesDownTo (files : List Opened) (basic : Basic) : List ℕ → List ℕ → Type 0 where
  at_once : {path name : List ℕ} → LeadsTo files path name (to_basic basic) → ComesDownTo files basic path name
  onward : {path name : List ℕ} (next_path next_name : List ℕ)
      → LeadsTo files path name (to_name next_path next_name)
      → ComesDownTo files basic next_path next_name
      → ComesDownTo files basic path name

-- ---- the same, as a function

-- whether a name of an index is this one
abbrev pub is_named : List ℕ → List ℕ → Listed → Bool
is_named path name l = cond (pointwise nat_eq path l.path) (pointwise nat_eq name l.name) false

-- where the declaration of a name stands
abbrev pub offset_among : List ℕ → List ℕ → List Listed → Option ℕ
offset_among path name [] = None
offset_among path name (l ∷ ls) = cond (is_named path name l) (Some l.offset) (offset_among path name ls)

-- a file, and an offset of its data section
abbrev pub At : Type 0
At = FullFile × ℕ

abbrev pub or_later : FullFile → Option ℕ → Option At → Option At
or_later file (Some offset) later = Some (file, offset)
or_later file None later = later

-- where the declaration stands that the first file has for the name
abbrev pub stands_at : List Opened → List ℕ → List ℕ → Option At
stands_at [] path name = None
stands_at (o ∷ os) path name =
    or_later o.file (offset_among path name (listed o.file.packages)) (stands_at os path name)

abbrev pub lead_at : At → Option Lead
lead_at at = head_lead (sections_in at.0) at.1

abbrev pub lead_of : List Opened → List ℕ → List ℕ → Option Lead
lead_of files path name = option_and_then lead_at (stands_at files path name)

-- a predeclared type, or what the next name comes down to
abbrev pub led_by : Basics → Option Lead → Option Basic
led_by next (Some (to_basic basic)) = Some basic
led_by next (Some (to_name path name)) = next path name
led_by next None = None

-- by at most so many heads
abbrev pub comes_down_within : List Opened → ℕ → Basics
comes_down_within files zero path name = None
comes_down_within files (suc n) path name = led_by (comes_down_within files n) (lead_of files path name)

-- A way through more heads than there are names goes round for ever.
abbrev pub comes_down : List Opened → Basics
comes_down files = comes_down_within files (length (all_listed files))

-- ---- packages

-- the name of the first package with this path
abbrev pub named_among : List ℕ → List Package → Option (List ℕ)
named_among path [] = None
named_among path (p ∷ ps) = cond (pointwise nat_eq path p.path) (Some p.name) (named_among path ps)
