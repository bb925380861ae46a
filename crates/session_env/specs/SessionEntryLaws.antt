-- What the entries of a session keep.
use Rattle.std.proofs.Common.{◌≡◌, List, Option, Some, None, Result, Ok, Err, option_map, slice_get}
use Rattle.std.proofs.Common.{refl, ap, ◌∙◌, subst}
use Rattle.std.specs.List.{Contains}
use Rattle.std.proofs.lemmas.Option.{slice_get-map, slice_get_within, get_or_from_slice_get}
use Rattle.go_values.specs.declared.qualified.QName.{QName}
use Rattle.wire_bytes.specs.declared.fault.ByteFault.{ByteFault}
use Rattle.type_terms.specs.Trees.{Tree}
use Rattle.type_terms.specs.Declarations.{Decl}
use Rattle.type_terms.specs.DeclarationRules.{IsProperDecl}
use Rattle.environments.specs.Environments.{Entry, declared}
use Rattle.name_index.specs.Lookup.{as_listed}
use Rattle.decl_spelling.specs.Declarations.{decl_at}
use Rattle.decl_spelling.specs.Leaving.{types_read}
use Rattle.decl_reader.proofs.ProperDeclLemmas.{decl_proper}
use Rattle.session_files.specs.FileSections.{sections_in}
use Rattle.session_files.specs.Sessions.{Opened, AreSound, qualified, all_listed, all_names}
use Rattle.session_files.specs.Names.{At, stands_at, comes_down}
use Rattle.session_files.proofs.Standing.{stood, in_all}
use Rattle.session_files.proofs.Outcomes.{outcome_at}
use Rattle.session_env.specs.SessionEntries.{entry_by, entry_at, session_entries}

-- a name behind which something stands is one of the session's
pub session_finite : (files : List Opened) (q : QName) (entry : Entry) → session_entries files q ≡ Some entry
    → Contains (all_names files) q
session_finite files q entry is = go (stands_at files q.path q.name) refl is
  where
    go : (x : Option At) → stands_at files q.path q.name ≡ x → option_map (entry_at (comes_down files)) x ≡ Some entry
        → Contains (all_names files) q
    go None at e = absurd cc
    go (Some x) at e =
        let s = stood files q.path q.name x at in
        let all = in_all files s.file s.opened s.stands.there s.number (as_listed q.path q.name x.1) s.stands.listed in
        let there : slice_get (all_names files) all.0 ≡ Some q
        = slice_get-map qualified (all_listed files) all.0 ∙ ap (option_map qualified) all.1 in
        let names = all_names files in
        (all.0, slice_get_within names all.0 q there, get_or_from_slice_get names all.0 q q there)

-- what is declared keeps the rules of declarations
pub session_proper : (files : List Opened) (q : QName) (decl : Decl) → AreSound files
    → session_entries files q ≡ Some (declared decl) → IsProperDecl decl
session_proper files q decl sound is = go (stands_at files q.path q.name) refl is
  where
    spelled : (x : At) → stands_at files q.path q.name ≡ Some x → (r : Result Decl ByteFault)
        → decl_at (sections_in x.0) (comes_down files) x.1 ≡ r
        → (read : List Tree) → entry_by read r ≡ declared decl → IsProperDecl decl
    spelled x at (Ok found) e read same =
        let has = outcome_at files sound q.path q.name x (Ok found) at e in
        let of = has.2 in
        let proper = decl_proper (sections_in of.opened.file) (comes_down files) of.offset found of.is in
        let decls : found ≡ decl = cc in
        subst IsProperDecl decls proper
    spelled x at (Err fault) e read same = absurd cc

    go : (x : Option At) → stands_at files q.path q.name ≡ x
        → option_map (entry_at (comes_down files)) x ≡ Some (declared decl)
        → IsProperDecl decl
    go None at e = absurd cc
    go (Some x) at e =
        let r = decl_at (sections_in x.0) (comes_down files) x.1 in
        let same : entry_by (types_read (sections_in x.0) (comes_down files) x.1) r ≡ declared decl = cc in
        spelled x at r refl (types_read (sections_in x.0) (comes_down files) x.1) same
