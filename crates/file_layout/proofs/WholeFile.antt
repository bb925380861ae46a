-- A file that can be written serves its readers.
use Rattle.std.proofs.Common.{◌≡◌, ℕ, ◌+◌, ◌^◌, ◌<◌, Bool, true, false, cond, List, [], ◌∷◌, ◌++◌, length, map, Option, Some, None, refl, sym, ap, ap₂, subst, ◌∙◌, arith, length-append, ◌⊎◌, inl, inr}
use Rattle.std.specs.Prelude.{not, nat_eq, is_some, unwrap_or}
use Rattle.std.specs.Option.{option_map}
use Rattle.std.specs.List.{Contains, filter, flat_map, AllByRecursion}
use Rattle.std.specs.Cmp.Lexicographic.{pointwise, same_text as same_list}
use Rattle.std.proofs.lemmas.Cmp.{nat_list_eq_equiv}
use Rattle.std.proofs.lemmas.List.Elements.{Contains-append_left, Contains-append_right, Contains-append_cases, Contains-push}
use Rattle.go_values.specs.Exact.{exact_qname}
use Rattle.go_values.specs.declared.qualified.QName.{QName}
use Rattle.go_values.specs.contracts.qualified.QNameEq.TheImpl.Laws as qname_laws
use Rattle.wire_bytes.specs.Order.{Rise}
use Rattle.wire_bytes.specs.Section.{section_of, offset_in, with_text, spelled_text}
use Rattle.file_parts.specs.Paths.{ArePaths, IsPathFor, meant}
use Rattle.type_terms.specs.Trees.{Text}
use Rattle.type_terms.specs.TreeEquality.{same_name}
use Rattle.type_terms.specs.Declarations.{Decl}
use Rattle.decl_spelling.specs.Sections.{Sections}
use Rattle.decl_spelling.specs.Spelling.{SpellsDecl}
use Rattle.decl_spelling.proofs.MapLemmas.{map_twice, map_same, all_map}
use Rattle.name_index.specs.FullFile.{Entry, Package, Listed, listed, listed_in}
use Rattle.file_envelope.specs.FileBytes.{text_number, package_texts, index_texts, header, index_bytes, MayFollow}
use Rattle.file_envelope.proofs.EnvelopeLemmas.{envelope, strings_are, body_is}
use Rattle.file_layout.specs.Bytes.{path_text}
use Rattle.file_layout.specs.Walk.{Event, says, tells, ends, event_texts, event_paths, decl_events}
use Rattle.file_layout.specs.Places.{Line, Written, nothing_written, line_start, decl_bytes, write_decl}
use Rattle.file_layout.specs.Rising.{rising}
use Rattle.file_layout.specs.Layout.{Source, said, events_by, events, is_own, other_paths, names_under, package_at, index, texts, write_named, write_all, layout, file_bytes}
use Rattle.file_layout.specs.Conditions.{TypeFits}
use Rattle.file_layout.specs.Law.{paths_told, CanBeWritten, the_file, sections_of, name_of, Serves}
use Rattle.file_layout.proofs.ItemTypes.{decl_types}
use Rattle.file_layout.proofs.Laying.{EventKnown, Good, decl_laid}
use Rattle.file_layout.proofs.SpelledBlocks.{has_its_methods, line_is}
use Rattle.file_layout.proofs.Risen.{first_in, later_in, member, none_in, map_in, map_from, filter_in, filter_from, flat_in, flat_from, all_from, rising_rises, filter_rises, rise_from_nothing, rising_has, rising_from}

-- ---- texts, each once

known_from : (texts : List Text) (t : Text) → is_some (offset_in texts t) ≡ true → Contains texts t
known_from [] t is = absurd cc
known_from (x ∷ xs) t is = by (pointwise nat_eq t x) refl (offset_in xs t) is (known_from xs t)
  where
    by : (b : Bool) → pointwise nat_eq t x ≡ b → (o : Option ℕ) → is_some (cond b (Some 0) (option_map (λ o. length (spelled_text x) + o) o)) ≡ true → (is_some o ≡ true → Contains xs t) → Contains (x ∷ xs) t
    by true e o is later = subst (Contains (x ∷ xs)) (sym (same_list t x (sym e))) (first_in x xs)
    by false e (Some o) is later = later_in x xs t (later refl)
    by false e None is later = absurd cc

with_keeps : (texts : List Text) (t u : Text) → Contains texts u → Contains (with_text texts t) u
with_keeps texts t u has = by (is_some (offset_in texts t))
  where
    by : (b : Bool) → Contains (cond b texts (texts ++ t ∷ [])) u
    by true = has
    by false = Contains-append_left texts (t ∷ []) u has

with_has : (texts : List Text) (t : Text) → Contains (with_text texts t) t
with_has texts t = by (is_some (offset_in texts t)) refl
  where
    by : (b : Bool) → is_some (offset_in texts t) ≡ b → Contains (cond b texts (texts ++ t ∷ [])) t
    by true e = known_from texts t e
    by false e = Contains-push texts t

said_keeps : (first ts : List Text) (u : Text) → Contains first u → Contains (said first ts) u
said_keeps first [] u has = has
said_keeps first (t ∷ ts) u has = said_keeps (with_text first t) ts u (with_keeps first t u has)

said_has : (first ts : List Text) (u : Text) → Contains ts u → Contains (said first ts) u
said_has first [] u has = absurd (none_in u has)
said_has first (t ∷ ts) u has = by (member t ts u has) (said_has (with_text first t) ts u)
  where
    by : (t ≡ u) ⊎ Contains ts u → (Contains ts u → Contains (said (with_text first t) ts) u) → Contains (said (with_text first t) ts) u
    by (inl is) later = said_keeps (with_text first t) ts u (subst (Contains (with_text first t)) is (with_has first t))
    by (inr has) later = later has

-- ---- lines

same_itself : (q : QName) → same_name q q ≡ true
same_itself q = qname_laws.laws-law.refl q

record FoundLine (lines : List Line) (q : QName) : Type 0 where
  line : Line
  there : Contains lines line
  name : line.name ≡ q
  start : line_start lines q ≡ line.start

found_line : (lines : List Line) (l : Line) → Contains lines l → FoundLine lines l.name
found_line [] l has = absurd (none_in l has)
found_line (x ∷ xs) l has = by (same_name l.name x.name) refl (member x xs l has) (found_line xs l)
  where
    by : (b : Bool) → same_name l.name x.name ≡ b → (x ≡ l) ⊎ Contains xs l → (Contains xs l → FoundLine xs l.name) → FoundLine (x ∷ xs) l.name
    by true e place later = record { line = x; there = first_in x xs; name = sym (exact_qname l.name x.name e); start = ap (λ (b : Bool). cond b x.start (line_start xs l.name)) e }
    by false e (inl is) later = let no : true ≡ false = sym (same_itself l.name) ∙ ap (λ (y : Line). same_name l.name y.name) (sym is) ∙ e in absurd cc
    by false e (inr has) later =
        let rest = later has in
        record { line = rest.line; there = later_in x xs rest.line rest.there; name = rest.name; start = ap (λ (b : Bool). cond b x.start (line_start xs l.name)) e ∙ rest.start }

-- ---- the paths of the index

module _ (s : Source) where
  abbrev spelled_paths : List Text
  spelled_paths = [] ∷ other_paths s

  own_test : (path : Text) → pointwise nat_eq path s.own ≡ true → path ≡ s.own
  own_test path e = same_list path s.own (sym e)

  other_has : (path : Text) → Contains (paths_told s) path → pointwise nat_eq path s.own ≡ false → Contains (other_paths s) path
  other_has path has other = filter_in (λ p. not (is_own s p)) (rising (paths_told s)) path (rising_has (paths_told s) path has) (ap not other)

  other_from : (path : Text) → Contains (other_paths s) path → Contains (paths_told s) path × (path ≡ s.own → ⊥)
  other_from path has =
      let parts = filter_from (λ p. not (is_own s p)) (rising (paths_told s)) path has in
      (rising_from (paths_told s) path parts.0, λ is. let no : true ≡ false = sym parts.1 ∙ ap not (subst (λ (o : Text). pointwise nat_eq path o ≡ true) is (nat_list_eq_equiv.refl path)) in absurd cc)

  module _ (can : CanBeWritten s) where
    other_some : (path : Text) → Contains (other_paths s) path → path ≡ [] → ⊥
    other_some path has none = by (can.paths path (other_from path has).0)
      where
        by : (path ≡ [] → ⊥) ⊎ (path ≡ s.own) → ⊥
        by (inl some) = some none
        by (inr own) = (other_from path has).1 own

    path_is : (path : Text) → Contains (paths_told s) path → IsPathFor s.own spelled_paths (path_text s.own path) path
    path_is path has = by (pointwise nat_eq path s.own) refl
      where
        other : (text : Text) → text ≡ path → Contains (other_paths s) path → (path ≡ [] → ⊥) → IsPathFor s.own spelled_paths text path
        other [] is has some = absurd (some (sym is))
        other (b ∷ bs) is has some =
            let there : Contains (map (meant s.own) spelled_paths) (meant s.own (b ∷ bs)) = map_in (meant s.own) spelled_paths (b ∷ bs) (later_in [] (other_paths s) (b ∷ bs) (subst (Contains (other_paths s)) (sym is) has)) in
            (there, sym is)

        by : (b : Bool) → pointwise nat_eq path s.own ≡ b → IsPathFor s.own spelled_paths (cond b [] path) path
        by true e = (first_in [] (other_paths s), own_test path e)
        by false e = let there = other_has path has e in other path refl there (other_some path there)

    -- ---- what is mentioned is known

    abbrev Known : Event → Type 0
    Known = EventKnown s.own spelled_paths (texts s) s.basics s.decls

    text_of_event : (e : Event) (t : Text) → Contains (events s) e → Contains (event_texts s.own e) t → Contains (texts s) t
    text_of_event e t has has' =
        said_has [] (flat_map (event_texts s.own) (events s) ++ index_texts (index s [])) t
        (Contains-append_left (flat_map (event_texts s.own) (events s)) (index_texts (index s [])) t (flat_in (event_texts s.own) (events s) e t has has'))

    known : (e : Event) → Contains (events s) e → Known e
    known (says text) has = text_of_event (says text) text has (first_in text [])
    known (tells path) has = (text_of_event (tells path) (path_text s.own path) has (first_in (path_text s.own path) []), path_is path (flat_in event_paths (events s) (tells path) path has (first_in path [])))
    known (ends type) has = tt

    abbrev Fine : Written → Type 0
    Fine = Good s.own spelled_paths (texts s) s.basics s.decls

    record AllLaid (w w' : Written) (qs : List QName) : Type 0 where
      good : Fine w'
      there : (q : QName) → Contains qs q → (l : Line) × Contains w'.lines l × (l.name ≡ q)
      kept : (l : Line) → Contains w.lines l → Contains w'.lines l

    all_laid : (qs : List QName) (w : Written) → ((q : QName) → Contains qs q → Contains s.order q) → Fine w → AllLaid w (write_all s w qs) qs
    all_laid [] w among good = record { good = good; there = λ q has. absurd (none_in q has); kept = λ l has. has }
    all_laid (q ∷ qs) w among good =
        let q_in = among q (first_in q qs) in
        let found = can.decls q q_in in
        let decl = found.0 in
        let same : write_decl s.own (text_number (texts s)) s.basics w q decl ≡ write_named s w q (s.decls q) = ap (write_named s w q) (sym found.1) in
        let types = subst (AllByRecursion TypeFits) (sym (decl_types s.basics decl (has_its_methods decl found.2.proper))) found.2.types in
        let told = all_from Known (decl_events s.basics decl) (λ e has. known e (flat_in (λ q. events_by s (s.decls q)) s.order q e q_in (subst (λ d. Contains (events_by s d) e) (sym found.1) has))) in
        let laid = decl_laid s.own spelled_paths (texts s) s.basics s.decls w q decl good found.1 found.2 types told in
        let next = write_decl s.own (text_number (texts s)) s.basics w q decl in
        let rest = all_laid qs next (λ r has. among r (later_in q qs r has)) laid.good in
        let line = new_line q laid.start in
        let mine : Contains next.lines line = subst (λ (ls : List Line). Contains ls line) (sym laid.lines_are) (Contains-push w.lines line) in
        subst (λ (w' : Written). AllLaid w (write_all s w' qs) (q ∷ qs)) same (record {
          good = rest.good;
          there = λ r has. by r line refl mine rest (member q qs r has);
          kept = λ l has. rest.kept l (subst (λ (ls : List Line). Contains ls l) (sym laid.lines_are) (Contains-append_left w.lines (line ∷ []) l has));
        })
      where
        new_line : QName → ℕ → Line
        new_line q start = record { name = q; start = start }

        by : {next : Written} (r : QName) (line : Line) → line.name ≡ q → Contains next.lines line → AllLaid next (write_all s next qs) qs → (q ≡ r) ⊎ Contains qs r → (l : Line) × Contains (write_all s next qs).lines l × (l.name ≡ r)
        by r line named mine rest (inl is) = (line, rest.kept line mine, named ∙ is)
        by r line named mine rest (inr has) = rest.there r has

    nothing_good : Fine nothing_written
    nothing_good = record {
      blocks = λ b has. absurd (none_in b has);
      lines = λ l has. absurd (none_in l has);
      apart = λ a b has has'. absurd (none_in a has);
      within = λ b has. absurd (none_in b has);
    }

    laid : AllLaid nothing_written (layout s) s.order
    unfolding layout
    laid = all_laid s.order nothing_written (λ q has. has) nothing_good

    abbrev w : Written
    w = layout s

    -- the line of a name in the order
    line_of : (q : QName) → Contains s.order q → FoundLine w.lines q
    line_of q has = let there = laid.there q has in subst (FoundLine w.lines) there.2 (found_line w.lines there.0 there.1)

    -- ---- the index

    abbrev entry : Text → Text → Entry
    entry path own = record { name = own; offset = line_start w.lines (record { path = path; name = own }) }

    under_from : (path own : Text) → Contains (names_under s path) own → Contains s.order (record { path = path; name = own })
    under_from path own has =
        let risen = rising_from (map (λ (q : QName). q.name) (filter (λ (q : QName). pointwise nat_eq q.path path) s.order)) own has in
        let found = map_from (λ (q : QName). q.name) (filter (λ (q : QName). pointwise nat_eq q.path path) s.order) own risen in
        let kept = filter_from (λ (q : QName). pointwise nat_eq q.path path) s.order found.0 found.1 in
        let same_path : found.0.path ≡ path = same_list found.0.path path (sym kept.1) in
        let same : found.0 ≡ record { path = path; name = own } = (λ i. record { path = same_path i; name = found.2 i }) in
        subst (Contains s.order) same kept.0

    under_has : (q : QName) → Contains s.order q → Contains (names_under s q.path) q.name
    under_has q has =
        let kept = filter_in (λ (r : QName). pointwise nat_eq r.path q.path) s.order q has (nat_list_eq_equiv.refl q.path) in
        rising_has (map (λ (r : QName). r.name) (filter (λ (r : QName). pointwise nat_eq r.path q.path) s.order)) q.name (map_in (λ (r : QName). r.name) (filter (λ (r : QName). pointwise nat_eq r.path q.path) s.order) q kept)

    abbrev listed_at : Text → Entry → Listed
    listed_at path e = record { path = path; name = e.name; offset = e.offset }

    record IsLine (l : Listed) : Type 0 where
      there : Contains s.order (name_of l)
      offset : l.offset ≡ line_start w.lines (name_of l)

    -- what a package with a path lists
    package_from : (path : Text) (l : Listed) → Contains (map (listed_at path) (map (entry path) (names_under s path))) l → IsLine l
    package_from path l has =
        let found = map_from (listed_at path) (map (entry path) (names_under s path)) l has in
        let under = map_from (entry path) (names_under s path) found.0 found.1 in
        let is : listed_at path (entry path under.0) ≡ l = ap (listed_at path) under.2 ∙ found.2 in
        subst IsLine is (record { there = under_from path under.0 under.1; offset = refl })

    package_has : (q : QName) → Contains s.order q → Contains (map (listed_at q.path) (map (entry q.path) (names_under s q.path))) (listed_at q.path (entry q.path q.name))
    package_has q has = map_in (listed_at q.path) (map (entry q.path) (names_under s q.path)) (entry q.path q.name) (map_in (entry q.path) (names_under s q.path) q.name (under_has q has))

    abbrev other : Text → Package
    other path = package_at s w.lines path path (unwrap_or (s.packages path) [])

    abbrev all_listed : List Listed
    all_listed = listed (the_file s).packages

    abbrev own_listed : List Listed
    own_listed = map (listed_at s.own) (map (entry s.own) (names_under s s.own))

    listed_from : (l : Listed) → Contains all_listed l → IsLine l
    listed_from l has = by (Contains-append_cases own_listed (listed (map other (other_paths s))) l has)
      where
        by : Contains own_listed l ⊎ Contains (listed (map other (other_paths s))) l → IsLine l
        by (inl mine) = package_from s.own l mine
        by (inr has) =
            let found = flat_from listed_in (map other (other_paths s)) l has in
            let chosen = map_from other (other_paths s) found.0 found.1 in
            package_from chosen.0 l (subst (λ (p : Package). Contains (listed_in p) l) (sym chosen.2) found.2)

    listed_has : (q : QName) → Contains s.order q → Contains all_listed (listed_at q.path (entry q.path q.name))
    listed_has q has = by (pointwise nat_eq q.path s.own) refl
      where
        mine : q.path ≡ s.own → Contains all_listed (listed_at q.path (entry q.path q.name))
        mine is =
            Contains-append_left own_listed (listed (map other (other_paths s))) (listed_at q.path (entry q.path q.name))
            (subst (λ (path : Text). Contains (map (listed_at path) (map (entry path) (names_under s path))) (listed_at q.path (entry q.path q.name))) is (package_has q has))

        told : (q.path ≡ s.own) ⊎ Contains (paths_told s) q.path → pointwise nat_eq q.path s.own ≡ false → Contains all_listed (listed_at q.path (entry q.path q.name))
        told (inl is) e = mine is
        told (inr there) e =
            Contains-append_right own_listed (listed (map other (other_paths s))) (listed_at q.path (entry q.path q.name))
            (flat_in listed_in (map other (other_paths s)) (other q.path) (listed_at q.path (entry q.path q.name)) (map_in other (other_paths s) q.path (other_has q.path there e)) (package_has q has))

        by : (b : Bool) → pointwise nat_eq q.path s.own ≡ b → Contains all_listed (listed_at q.path (entry q.path q.name))
        by true e = mine (own_test q.path e)
        by false e = told (can.under q has) e

    -- ---- what the index asks for

    names_are : (path : Text) → map (λ (e : Entry). e.name) (map (entry path) (names_under s path)) ≡ names_under s path
    names_are path = map_twice (entry path) (λ (e : Entry). e.name) (λ (n : Text). n) (λ n. refl) (names_under s path) ∙ map_same (λ (n : Text). n) (λ n. refl) (names_under s path)

    others_are : map (λ (p : Package). p.path) (map other (other_paths s)) ≡ other_paths s
    others_are = map_twice other (λ (p : Package). p.path) (λ (n : Text). n) (λ n. refl) (other_paths s) ∙ map_same (λ (n : Text). n) (λ n. refl) (other_paths s)

    index_paths : ArePaths s.own (map (λ (p : Package). p.path) (index s w.lines))
    index_paths =
        subst (λ (ps : List Text). ArePaths s.own ([] ∷ ps)) (sym others_are) (
          refl,
          rise_from_nothing (other_paths s) (filter_rises (λ p. not (is_own s p)) (rising (paths_told s)) (rising_rises (paths_told s))) (all_from (λ t. t ≡ [] → ⊥) (other_paths s) other_some),
          all_from (λ t. t ≡ s.own → ⊥) (other_paths s) (λ p has. (other_from p has).1),
        )

    abbrev NamesRise : Package → Type 0
    NamesRise p = Rise (map (λ (e : Entry). e.name) p.entries)

    names_rise : (path : Text) → Rise (map (λ (e : Entry). e.name) (map (entry path) (names_under s path)))
    names_rise path = subst Rise (sym (names_are path)) (rising_rises (map (λ (q : QName). q.name) (filter (λ (q : QName). pointwise nat_eq q.path path) s.order)))

    line_inside : (line : Line) → Contains w.lines line → line.start < length w.bytes
    line_inside line has =
        let lies = (laid.good.lines line has).lies in
        let piece = decl_bytes s.own (text_number (texts s)) s.basics lies.before (laid.good.lines line has).decl in
        let size : length w.bytes ≡ length lies.front + (length piece + length lies.rest) = ap length lies.stands ∙ length-append lies.front (piece ++ lies.rest) ∙ ap (λ (n : ℕ). length lies.front + n) (length-append piece lies.rest) in
        omega (arith, size, lies.starts)

    offset_inside : (path : Text) (e : Entry) → Contains (map (entry path) (names_under s path)) e → e.offset < length w.bytes
    offset_inside path e has =
        let under = map_from (entry path) (names_under s path) e has in
        let found = line_of (record { path = path; name = under.0 }) (under_from path under.0 under.1) in
        let inside = line_inside found.line found.there in
        subst (λ (x : Entry). x.offset < length w.bytes) under.2 (subst (λ (n : ℕ). n < length w.bytes) (sym found.start) inside)

    abbrev OffsetsInside : Package → Type 0
    OffsetsInside p = AllByRecursion (λ (e : Entry). e.offset < length w.bytes) p.entries

    offsets_inside : (path : Text) → AllByRecursion (λ (e : Entry). e.offset < length w.bytes) (map (entry path) (names_under s path))
    offsets_inside path = all_from (λ (e : Entry). e.offset < length w.bytes) (map (entry path) (names_under s path)) (offset_inside path)

    -- the texts of the index are the same whatever the offsets
    same_texts : (path spelled name : Text) → package_texts (package_at s [] path spelled name) ≡ package_texts (package_at s w.lines path spelled name)
    same_texts path spelled name =
        ap (λ (names : List Text). spelled ∷ name ∷ names)
        (map_twice (λ (own : Text). record { name = own; offset = line_start [] (record { path = path; name = own }) }) (λ (e : Entry). e.name) (λ (n : Text). n) (λ n. refl) (names_under s path)
        ∙ sym (map_twice (entry path) (λ (e : Entry). e.name) (λ (n : Text). n) (λ n. refl) (names_under s path)))

    same_others : (paths : List Text)
        → index_texts (map (λ path. package_at s [] path path (unwrap_or (s.packages path) [])) paths) ≡ index_texts (map other paths)
    same_others [] = refl
    same_others (p ∷ ps) = ap₂ (λ (a b : List Text). a ++ b) (same_texts p p (unwrap_or (s.packages p) [])) (same_others ps)

    all_texts : index_texts (index s []) ≡ index_texts (index s w.lines)
    all_texts = ap₂ (λ (a b : List Text). a ++ b) (same_texts s.own [] s.name) (same_others (other_paths s))

    index_known : (t : Text) → Contains (index_texts (index s w.lines)) t → Contains (texts s) t
    index_known t has =
        said_has [] (flat_map (event_texts s.own) (events s) ++ index_texts (index s [])) t
        (Contains-append_right (flat_map (event_texts s.own) (events s)) (index_texts (index s [])) t (subst (λ (ts : List Text). Contains ts t) (sym all_texts) has))

    may_follow : MayFollow s.own (texts s) w.bytes (index s w.lines)
    may_follow = record {
      paths = index_paths;
      names = (names_rise s.own, all_map NamesRise other (other_paths s) (all_from (λ path. NamesRise (other path)) (other_paths s) (λ path has. names_rise path)));
      offsets = (offsets_inside s.own, all_map OffsetsInside other (other_paths s) (all_from (λ path. OffsetsInside (other path)) (other_paths s) (λ path has. offsets_inside path)));
      known = all_from (Contains (texts s)) (index_texts (index s w.lines)) index_known;
      short = omega (arith, can.short);
    }

    -- ---- the law

    abbrev src : Sections
    src = sections_of s.own spelled_paths (the_file s)

    sizes : length (file_bytes s) ≡ length (header (texts s) w.bytes) + (length (section_of (texts s)) + (length w.bytes + length (index_bytes (texts s) (index s w.lines))))
    sizes =
        length-append (header (texts s) w.bytes) (section_of (texts s) ++ (w.bytes ++ index_bytes (texts s) (index s w.lines)))
        ∙ ap (λ (n : ℕ). length (header (texts s) w.bytes) + n)
        (length-append (section_of (texts s)) (w.bytes ++ index_bytes (texts s) (index s w.lines)) ∙ ap (λ (n : ℕ). length (section_of (texts s)) + n) (length-append w.bytes (index_bytes (texts s) (index s w.lines))))

    strings_fit : length (section_of (texts s)) < 2 ^ 64
    strings_fit = omega (arith, sizes, can.short)

    body_fits : length w.bytes + 32 < 2 ^ 64
    body_fits = omega (arith, sizes, can.short)

    line_spelled : (line : Line) → Contains w.lines line → (decl : Decl) × (s.decls line.name ≡ Some decl) × SpellsDecl src s.basics line.start decl
    line_spelled =
        line_is s.own spelled_paths (texts s) s.basics s.decls src w laid.good (body_is s.own (texts s) w.bytes (index s w.lines)) (strings_are s.own (texts s) w.bytes (index s w.lines)) refl refl refl strings_fit body_fits

    abbrev IsSpelled : QName → ℕ → Type 0
    IsSpelled q start = (decl : Decl) × (s.decls q ≡ Some decl) × SpellsDecl src s.basics start decl

    name_spelled : (l : Listed) → IsLine l → IsSpelled (name_of l) l.offset
    name_spelled l is =
        let found = line_of (name_of l) is.there in
        let spelled : IsSpelled found.line.name found.line.start = line_spelled found.line found.there in
        subst (IsSpelled (name_of l)) (sym found.start ∙ sym is.offset) (subst (λ (q : QName). IsSpelled q found.line.start) found.name spelled)

    pub serves : Serves s (file_bytes s)
    serves = record {
      envelope = envelope s.own (texts s) w.bytes (index s w.lines) may_follow;
      spelled = λ l has. name_spelled l (listed_from l has);
      needed = λ l has. (listed_from l has).there;
      all = λ q has. (listed_at q.path (entry q.path q.name), listed_has q has, refl);
    }
