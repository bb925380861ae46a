-- Each offset that an index lists lies in the data section.
use Rattle.std.proofs.Common.{◌≡◌, ℕ, ◌<◌, List, [], ◌∷◌, map, Option, Some, None, option_map, slice_get, refl, sym, ap, subst, Bor}
use Rattle.std.specs.Prelude.{IfSome}
use Rattle.std.specs.List.{AllByRecursion}
use Rattle.std.specs.Option.{option_and_then}
use Rattle.wire_bytes.specs.Reading.{InOrder}
use Rattle.name_index.specs.declared.records.Layout.{Layout}
use Rattle.name_index.specs.declared.lookup.ListedRecord.{ListedRecord}
use Rattle.name_index.specs.FullFile.{content, Entry, Package, FullFile, named, listed}
use Rattle.name_index.specs.Envelope.{IsEntry, IsPackage, Envelope}
use Rattle.name_index.specs.Lookup.{as_listed, name_at, IsListed}
use Rattle.name_index.specs.Records.{section_of, package_of, file_of}
use Rattle.name_index.proofs.ListedLemmas.{holder}
use Rattle.name_index.proofs.SortedLemmas.{all_at}

-- below this size
abbrev pub IsBelowSize : ℕ → Package → Type 0
IsBelowSize size p = AllByRecursion (λ e. e.offset < size) p.entries

entries_below : (strings : List ℕ) (size : ℕ) (bytes : List ℕ) (es : List Entry) (rest : List ℕ) → InOrder (IsEntry strings size) bytes es rest → AllByRecursion (λ e. e.offset < size) es
entries_below strings size bytes [] rest stands = tt
entries_below strings size bytes (e ∷ es) rest stands = (stands.1.3, entries_below strings size stands.0 es rest stands.2)

packages_below : (strings : List ℕ) (size : ℕ) (bytes : List ℕ) (ps : List Package) (rest : List ℕ) → InOrder (IsPackage strings size) bytes ps rest → AllByRecursion (λ p. IsBelowSize size p) ps
packages_below strings size bytes [] rest stands = tt
packages_below strings size bytes (p ∷ ps) rest stands = (entries_below strings size stands.1.at_entries p.entries stands.0 stands.1.entries, packages_below strings size stands.0 ps rest stands.2)

named_below : (own : List ℕ) (size : ℕ) (ps : List Package) → AllByRecursion (λ p. IsBelowSize size p) ps → AllByRecursion (λ p. IsBelowSize size p) (named own ps)
named_below own size [] below = tt
named_below own size (p ∷ ps) below = below

unnamed_below : (own : List ℕ) (size : ℕ) (ps : List Package) → AllByRecursion (λ p. IsBelowSize size p) (named own ps) → AllByRecursion (λ p. IsBelowSize size p) ps
unnamed_below own size [] below = tt
unnamed_below own size (p ∷ ps) below = below

all_below : (own bytes : List ℕ) (file : FullFile) → Envelope own bytes file → AllByRecursion (λ p. IsBelowSize file.body.len p) file.packages
all_below own bytes file env =
    subst (λ (ps : List Package). AllByRecursion (λ p. IsBelowSize file.body.len p) ps) (sym env.resolved)
    (named_below own file.body.len env.spelled (packages_below (content bytes file.strings) file.body.len env.at_packages env.spelled [] env.packages))

entry_below : (size : ℕ) (ps : List Package) (k i : ℕ) (p : Package) (e : Entry) → AllByRecursion (λ p. IsBelowSize size p) ps → slice_get ps k ≡ Some p → slice_get p.entries i ≡ Some e → e.offset < size
entry_below size ps k i p e below p_at e_at = all_at (λ (x : Entry). x.offset < size) p.entries i e (all_at (λ (q : Package). IsBelowSize size q) ps k p below p_at) e_at

-- the offset of a name
pub offset_below : (own bytes : List ℕ) (file : FullFile) (k : ℕ) (path name : List ℕ) (offset : ℕ) → Envelope own bytes file → IsListed file.packages k path name offset → offset < file.body.len
offset_below own bytes file k path name offset env there =
    let h = holder file.packages k path name offset there in
    subst (λ (n : ℕ). n < file.body.len) h.offset_is (entry_below file.body.len file.packages h.which h.place h.p h.e (all_below own bytes file env) h.p_at h.e_at)

-- the offset of a name by its place in a package
place_below : (size : ℕ) (ps : List Package) (k i : ℕ) (x : List ℕ × ℕ) → AllByRecursion (λ p. IsBelowSize size p) ps → name_at ps k i ≡ Some x → x.1 < size
place_below size ps k i x below at = by_package (slice_get ps k) refl at
  where
    by_entry : (p : Package) → slice_get ps k ≡ Some p → (o : Option Entry) → slice_get p.entries i ≡ o → option_map (λ e. (e.name, e.offset)) o ≡ Some x → x.1 < size
    by_entry p p_at None e_at at = absurd cc
    by_entry p p_at (Some e) e_at at = subst (λ (n : ℕ). n < size) (second (e.name, e.offset) x at) (entry_below size ps k i p e below p_at e_at)
      where
        second : (a b : List ℕ × ℕ) → Some a ≡ Some b → a.1 ≡ b.1
        second a b e = let same : a ≡ b = cc in ap (λ (z : List ℕ × ℕ). z.1) same

    by_package : (o : Option Package) → slice_get ps k ≡ o → option_and_then (λ p. option_map (λ e. (e.name, e.offset)) (slice_get p.entries i)) o ≡ Some x → x.1 < size
    by_package None p_at at = absurd cc
    by_package (Some p) p_at at = by_entry p p_at (slice_get p.entries i) refl at

-- ---- what the calls answer

module _ (own bytes : List ℕ) (l : Layout) (env : Envelope own bytes (file_of own bytes l)) where
  pub found_below : (path name : List ℕ) (found : Option ListedRecord) → IfSome found (λ x. IsListed (file_of own bytes l).packages x.number path name x.offset) → IfSome found (λ x. x.offset < l.body.len)
  found_below path name (Some x) listed = offset_below own bytes (file_of own bytes l) x.number path name x.offset env listed
  found_below path name None listed = tt

  pub number_below : (k : ℕ) (found : Option (Bor (List ℕ) × Bor (List ℕ) × ℕ)) → option_map (λ x. as_listed x.0.now x.1.now x.2) found ≡ slice_get (listed (file_of own bytes l).packages) k → IfSome found (λ x. x.2 < l.body.len)
  number_below k (Some x) is = offset_below own bytes (file_of own bytes l) k x.0.now x.1.now x.2 env (sym is)
  number_below k None is = tt

  records_below : AllByRecursion (λ p. IsBelowSize l.body.len p) (map (package_of (content bytes (section_of l.strings))) l.packages.items)
  records_below = unnamed_below own l.body.len (map (package_of (content bytes (section_of l.strings))) l.packages.items) (all_below own bytes (file_of own bytes l) env)

  pub name_below : (k i : ℕ) (found : Option (Bor (List ℕ) × ℕ)) → option_map (λ x. (x.0.now, x.1)) found ≡ name_at (map (package_of (content bytes (section_of l.strings))) l.packages.items) k i → IfSome found (λ x. x.1 < l.body.len)
  name_below k i (Some x) is = place_below l.body.len (map (package_of (content bytes (section_of l.strings))) l.packages.items) k i (x.0.now, x.1) records_below (sym is)
  name_below k i None is = tt
