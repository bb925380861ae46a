-- What is exported is read again.
use Rattle.std.proofs.Common.{◌≡◌, List, [], ◌∷◌, Option, Some, None, sym, ap, subst, ◌∙◌, ◌⊎◌, inl, inr}
use Rattle.std.specs.List.{Contains, flat_map}
use Rattle.go_values.specs.declared.qualified.QName.{QName}
use Rattle.type_terms.specs.Trees.{Text}
use Rattle.type_terms.specs.Declarations.{Decl}
use Rattle.environments.specs.Environments.{Entry, declared, damaged}
use Rattle.environments.specs.Packages.{Meant}
use Rattle.environments.specs.References.{Reached, started, followed, entry_names, reference_names}
use Rattle.basic_types.specs.BasicTypes.{Entries}
use Rattle.decl_spelling.specs.Spelling.{SpellsDecl}
use Rattle.name_index.specs.FullFile.{Listed, listed}
use Rattle.name_index.proofs.SortedLemmas.{one_number}
use Rattle.export_order.proofs.QueueLemmas.{needed, listed as all_listed}
use Rattle.written_types.specs.Written.{Target, full, decl_written}
use Rattle.written_types.proofs.NameLemmas.{same_names}
use Rattle.file_layout.specs.Walk.{event_paths}
use Rattle.file_layout.specs.Layout.{Source, events_by, events, other_paths, file_bytes}
use Rattle.file_layout.specs.Law.{paths_told, CanBeWritten, the_file, sections_of, name_of, Serves}
use Rattle.file_layout.proofs.Risen.{map_from, flat_in, flat_from}
use Rattle.file_layout.proofs.SpelledBlocks.{has_its_methods}
use Rattle.file_layout.proofs.WholeFile.{serves}
use Rattle.exported_file.specs.Exported.{entry_written, decl_behind, first_names, written_entries, source, export_bytes}
use Rattle.exported_file.specs.Law.{CanBeExported, IsSpelledAt, IsExport}
use Rattle.exported_file.specs.Small.{IsWritable}
use Rattle.exported_file.proofs.FittingDecls.{decl_fits}
use Rattle.exported_file.proofs.Told.{decl_told}
use Rattle.decl_spelling.specs.Sections.{Basics}
use Rattle.file_layout.specs.Conditions.{DeclFits}

to_written : (target : Target) (entry : Option Entry) (q : QName) → Contains (entry_names entry) q → Contains (entry_names (entry_written target entry)) q
to_written target (Some (declared decl)) q has = (same_names target decl q).1 has
to_written target (Some (damaged fault read)) q has = has
to_written target None q has = has

from_written : (target : Target) (entry : Option Entry) (q : QName) → Contains (entry_names (entry_written target entry)) q → Contains (entry_names entry) q
from_written target (Some (declared decl)) q has = (same_names target decl q).0 has
from_written target (Some (damaged fault read)) q has = has
from_written target None q has = has

fits_of : (target : Target) (basics : Basics) (decl : Decl) → IsWritable basics decl → DeclFits basics (decl_written target decl)
fits_of full = decl_fits

some_is : {X : Type 0} (x y : X) → Some x ≡ Some y → x ≡ y
some_is x y e = cc

module _ (target : Target) (whole : Meant) (entries : Entries) (names : List QName) (packages : Text → Option Text) where
  abbrev starts : List QName
  starts = first_names whole

  abbrev changed : Entries
  changed = written_entries target whole entries names packages

  needed_from : (q : QName) → Reached changed starts q → Reached entries starts q
  needed_from _ (started q has) = started q has
  needed_from _ (followed from to reached has) = followed from to (needed_from from reached) (from_written target (entries from) to has)

  needed_to : (q : QName) → Reached entries starts q → Reached changed starts q
  needed_to _ (started q has) = started q has
  needed_to _ (followed from to reached has) = followed from to (needed_to from reached) (to_written target (entries from) to has)

  module _ (can : CanBeExported target whole entries names packages) where
    abbrev s : Source
    s = source target whole entries names packages

    among : (q : QName) → Reached changed starts q → Contains names q
    among q reached = can.among q (needed_from q reached)

    in_order_is : (q : QName) → Contains s.order q → Reached changed starts q
    in_order_is q has = needed changed starts names q has

    order_has : (q : QName) → Reached changed starts q → Contains s.order q
    order_has q reached = all_listed changed starts names among q reached

    decl_is : (q : QName) (decl : Decl) → entries q ≡ Some (declared decl) → s.decls q ≡ Some (decl_written target decl)
    decl_is q decl e = ap (λ (entry : Option Entry). decl_behind (entry_written target entry)) e

    own_start : (q : QName) → Contains starts q → q.path ≡ whole.path
    own_start q has = let found = map_from _ _ q has in ap (λ (x : QName). x.path) (sym found.2)

    told_of : (from : QName) (path : Text) → Contains s.order from → Contains (flat_map event_paths (events_by s (s.decls from))) path → Contains (paths_told s) path
    told_of from path has told =
        let found = flat_from event_paths (events_by s (s.decls from)) path told in
        flat_in event_paths (events s) found.0 path (flat_in (λ q. events_by s (s.decls q)) s.order from found.0 has found.1) found.2

    followed_told : (from to : QName) → Reached changed starts from → Contains (entry_names (changed from)) to → Contains (paths_told s) to.path
    followed_told from to reached has =
        let found = can.decls from (needed_from from reached) in
        let decl = decl_written target found.0 in
        let refers : Contains (reference_names decl) to = subst (λ (e : Option Entry). Contains (entry_names (entry_written target e)) to) found.1 has in
        let told = decl_told s.basics decl to (has_its_methods decl (fits_of target s.basics found.0 found.2).proper) refers in
        told_of from to.path (order_has from reached) (subst (λ (d : Option Decl). Contains (flat_map event_paths (events_by s d)) to.path) (sym (decl_is from found.0 found.1)) told)

    under : (q : QName) → Reached changed starts q → (q.path ≡ whole.path) ⊎ Contains (paths_told s) q.path
    under _ (started q has) = inl (own_start q has)
    under _ (followed from to reached has) = inr (followed_told from to reached has)

    can_be_written : CanBeWritten s
    can_be_written = record {
      decls = λ q has. let found = can.decls q (needed_from q (in_order_is q has)) in (decl_written target found.0, decl_is q found.0 found.1, fits_of target s.basics found.0 found.2);
      under = λ q has. under q (in_order_is q has);
      paths = can.paths;
      short = can.short;
    }

    served : Serves s (file_bytes s)
    served = serves s can_be_written

    needed_is : (l : Listed) → Contains (listed (the_file s).packages) l → Reached entries starts (name_of l)
    needed_is l has = needed_from (name_of l) (in_order_is (name_of l) (served.needed l has))

    all_are : (q : QName) → Reached entries starts q → (l : Listed) × Contains (listed (the_file s).packages) l × (name_of l ≡ q)
    all_are q reached = served.all q (order_has q (needed_to q reached))

    spelled_is : (l : Listed) → Contains (listed (the_file s).packages) l → (decl : Decl) × (entries (name_of l) ≡ Some (declared decl)) × IsSpelledAt target whole entries names packages l.offset decl
    spelled_is l has =
        let found = can.decls (name_of l) (needed_is l has) in
        let there = served.spelled l has in
        let same : there.0 ≡ decl_written target found.0 = some_is there.0 (decl_written target found.0) (sym there.1 ∙ decl_is (name_of l) found.0 found.1) in
        (found.0, found.1, subst (λ (decl : Decl). SpellsDecl (sections_of whole.path ([] ∷ other_paths s) (the_file s)) s.basics l.offset decl) same there.2)

    pub exported : IsExport target whole entries names packages (export_bytes target whole entries names packages)
    exported = record {
      envelope = served.envelope;
      needed = needed_is;
      all = all_are;
      once = one_number whole.path (file_bytes s) (the_file s) served.envelope;
      spelled = spelled_is;
      closed = λ l decl to has is refers.
          let from : Contains (entry_names (entries (name_of l))) to = subst (λ (e : Option Entry). Contains (entry_names e) to) (sym is) ((same_names target decl to).0 refers) in
          all_are to (followed (name_of l) to (needed_is l has) from);
    }
