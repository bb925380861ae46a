-- What is read at the place of a name is its entry.
use Rattle.std.proofs.Common.{◌≡◌, ◌⊎◌, inl, inr, ℕ, List, Bool, Option, Some, None, Result, Ok, Err, option_map, refl, sym, ap, ◌∙◌, subst}
use Rattle.go_values.specs.declared.qualified.QName.{QName}
use Rattle.wire_bytes.specs.declared.fault.ByteFault.{ByteFault}
use Rattle.type_terms.specs.Trees.{Tree}
use Rattle.type_terms.specs.Arenas.{Contents}
use Rattle.type_terms.specs.Declarations.{Decl}
use Rattle.environments.specs.Environments.{Entry, damaged, entry_types, Answers}
use Rattle.environments.specs.declared.declaring.EnvError.{EnvError}
use Rattle.environments.specs.declared.declaring.EnvError.TheVariants.{Unknown, Damaged, OutOfMemory}
use Rattle.name_index.specs.FullFile.{FullFile}
use Rattle.decl_spelling.specs.Declarations.{decl_at}
use Rattle.decl_spelling.specs.Leaving.{types_read, types_by}
use Rattle.session_files.specs.FileSections.{sections_in}
use Rattle.session_files.specs.Sessions.{Opened}
use Rattle.session_files.specs.Names.{stands_at, comes_down}
use Rattle.session_env.specs.SessionEntries.{entry_by, entry_at, session_entries}

module _ (files : List Opened) (q : QName) (path name : List ℕ) (is_path : path ≡ q.path) (is_name : name ≡ q.name) (image : FullFile) (offset : ℕ)
    (at : stands_at files path name ≡ Some (image, offset)) where
  pub entry_here : session_entries files q ≡ Some (entry_at (comes_down files) (image, offset))
  entry_here = ap (option_map (entry_at (comes_down files))) (sym (ap (λ p. stands_at files p name) is_path ∙ ap (stands_at files q.path) is_name) ∙ at)

  types_of : (r : Result Decl ByteFault) → entry_types (Some (entry_by (types_by (sections_in image) offset r) r)) ≡ types_by (sections_in image) offset r
  types_of (Ok decl) = refl
  types_of (Err fault) = refl

  pub types_here : entry_types (session_entries files q) ≡ types_read (sections_in image) (comes_down files) offset
  types_here = ap entry_types entry_here ∙ types_of (decl_at (sections_in image) (comes_down files) offset)

  -- by what was read there
  pub outcome_here : (r : Result Decl ByteFault) → decl_at (sections_in image) (comes_down files) offset ≡ r
      → session_entries files q ≡ Some (entry_by (types_read (sections_in image) (comes_down files) offset) r)
  outcome_here r is = entry_here ∙ ap (λ r. Some (entry_by (types_read (sections_in image) (comes_down files) offset) r)) is

pub none_here : (files : List Opened) (q : QName) (path name : List ℕ) → path ≡ q.path → name ≡ q.name → stands_at files path name ≡ None → session_entries files q ≡ None
none_here files q path name is_path is_name none = ap (option_map (entry_at (comes_down files))) (sym (ap (λ p. stands_at files p name) is_path ∙ ap (stands_at files q.path) is_name) ∙ none)

pub unknown_answers : (entry : Option Entry) (q : QName) (arena : Contents) (full : Option Bool) (error : EnvError) → (error ≡ Unknown q) ⊎ (error ≡ OutOfMemory) → entry ≡ None → Answers entry q arena full (Err error)
unknown_answers entry q arena full error (inl unknown) none = subst (λ e. Answers entry q arena full (Err e)) (sym unknown) (none, refl)
unknown_answers entry q arena full error (inr memory) none = subst (λ e. Answers entry q arena full (Err e)) (sym memory) tt

pub damaged_answers : (entry : Option Entry) (q : QName) (arena : Contents) (full : Option Bool) (error : EnvError) (fault : ByteFault) (read : List Tree) → (error ≡ Damaged q fault) ⊎ (error ≡ OutOfMemory)
    → entry ≡ Some (damaged fault read) → Answers entry q arena full (Err error)
damaged_answers entry q arena full error fault read (inl is) there = subst (λ e. Answers entry q arena full (Err e)) (sym is) ((read, there), refl)
damaged_answers entry q arena full error fault read (inr memory) there = subst (λ e. Answers entry q arena full (Err e)) (sym memory) tt
