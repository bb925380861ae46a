-- The parts of an open file, as they are lent.
use Rattle.std.proofs.Common.{◌≡◌, ℕ, ◌+◌, ◌-◌, List, [], ◌∷◌, length, map, take, drop, slice_range, ◌⊎◌, refl, sym, ap, subst, ◌∙◌, arith}
use Rattle.std.specs.List.{AllByRecursion}
use Rattle.file_parts.specs.declared.spans.TextSpan.{TextSpan}
use Rattle.file_parts.specs.declared.parts.Parts.{Parts}
use Rattle.file_parts.specs.declared.parts.FileForm.TheVariants.{Full}
use Rattle.wire_bytes.specs.Order.{IsBelow, RiseFrom}
use Rattle.file_parts.specs.FileParts.{strings_of, paths_of, IsOfFile}
use Rattle.file_parts.specs.Paths.{text_of, IsInside, ArePaths, meant}
use Rattle.name_index.specs.declared.records.PackageRecord.{PackageRecord}
use Rattle.name_index.specs.declared.records.Layout.{Layout}
use Rattle.name_index.specs.FullFile.{content, Package, named}
use Rattle.name_index.specs.Envelope.{Envelope}
use Rattle.name_index.specs.Opening.{ArePartsOf}
use Rattle.name_index.specs.Records.{section_of, package_of, file_of, spelled_paths, IsPackageInside, IsOpen}

-- a section, by its ends
pub section_is : (bytes : List ℕ) (at len : ℕ) → slice_range bytes at (at + len) ≡ content bytes (record { at = at; len = len })
section_is bytes at len =
    let width : at + len - at ≡ len = omega arith in
    ap (λ (n : ℕ). take n (drop at bytes)) width

pub paths_inside : (strings : List ℕ) (rs : List PackageRecord) → AllByRecursion (IsPackageInside strings) rs → AllByRecursion (IsInside strings) (map (λ r. r.path) rs)
paths_inside strings [] inside = tt
paths_inside strings (r ∷ rs) inside = (inside.0.0, paths_inside strings rs inside.1)

spelled_again : (strings : List ℕ) (rs : List PackageRecord) → map (text_of strings) (map (λ r. r.path) rs) ≡ map (λ p. p.path) (map (package_of strings) rs)
spelled_again strings [] = refl
spelled_again strings (r ∷ rs) = ap (λ (ts : List (List ℕ)). text_of strings r.path ∷ ts) (spelled_again strings rs)

-- the paths of packages that were read
pub read_paths : (own strings : List ℕ) (rs : List PackageRecord) → ArePaths own (map (λ p. p.path) (map (package_of strings) rs)) → ArePaths own (map (text_of strings) (map (λ r. r.path) rs))
read_paths own strings rs paths = subst (λ (ts : List (List ℕ)). ArePaths own ts) (sym (spelled_again strings rs)) paths

nothing_below : (last : List ℕ) → IsBelow last [] → ⊥
nothing_below [] below = absurd cc
nothing_below (x ∷ last) below = absurd cc

-- each path that is spelled stands for a package's
meant_others : (own last : List ℕ) (ts : List (List ℕ)) → RiseFrom last ts → map (meant own) ts ≡ ts
meant_others own last [] rising = refl
meant_others own last ([] ∷ ts) rising = absurd (nothing_below last rising.0)
meant_others own last ((b ∷ bs) ∷ ts) rising = ap (λ (us : List (List ℕ)). (b ∷ bs) ∷ us) (meant_others own (b ∷ bs) ts rising.1)

meant_paths : (own : List ℕ) (ps : List Package) → ArePaths own (map (λ p. p.path) ps) → map (meant own) (map (λ p. p.path) ps) ≡ map (λ p. p.path) (named own ps)
meant_paths own [] paths = refl
meant_paths own (p ∷ ps) paths =
    rw paths.0 (ap (λ (ts : List (List ℕ)). own ∷ ts) (meant_others own [] (map (λ p. p.path) ps) paths.1))

-- ---- the parts of an open file

-- what is lent of it
pub record Lends (own bytes : List ℕ) (l : Layout) (p : Parts) : Type 0 where
  pub file : p.file.now ≡ bytes
  pub strings_at : p.strings_at ≡ l.strings.at
  pub strings_len : p.strings_len ≡ l.strings.len
  pub body_at : p.body_at ≡ l.body.at
  pub body_len : p.body_len ≡ l.body.len
  pub version : p.version ≡ l.version
  pub form : p.form ≡ Full
  pub own_path : p.own.now ≡ own
  pub spans : p.paths.now ≡ l.paths.items

module _ (own bytes : List ℕ) (l : Layout) (p : Parts) (lends : Lends own bytes l p) where
  lent_strings : strings_of p ≡ content bytes (section_of l.strings)
  lent_strings = (λ i. slice_range (lends.file i) (lends.strings_at i) (lends.strings_at i + lends.strings_len i)) ∙ section_is bytes l.strings.at l.strings.len

  lent_paths : paths_of p ≡ spelled_paths bytes l
  lent_paths = λ i. map (text_of (lent_strings i)) (lends.spans i)

  pub parts_of : IsOpen own bytes l → ArePartsOf (file_of own bytes l) p
  parts_of open_file =
      let strings = content bytes (section_of l.strings) in
      let records = l.packages.items in
      let spelled : paths_of p ≡ map (λ q. q.path) (map (package_of strings) records) = lent_paths ∙ ap (λ (ss : List TextSpan). map (text_of strings) ss) open_file.layout.paths ∙ spelled_again strings records in
      let paths : ArePaths own (map (λ q. q.path) (map (package_of strings) records)) = subst (λ (ts : List (List ℕ)). ArePaths own ts) (sym lent_paths ∙ spelled) open_file.paths in
      record {
        bytes = lends.file;
        strings_at = lends.strings_at;
        strings_len = lends.strings_len;
        body_at = lends.body_at;
        body_len = lends.body_len;
        version = lends.version;
        form = lends.form;
        own = subst (λ (t : List ℕ). Envelope t bytes (file_of own bytes l)) (sym lends.own_path) open_file.envelope;
        paths = (λ i. map (meant (lends.own_path i)) (spelled i)) ∙ meant_paths own (map (package_of strings) records) paths;
      }

  pub of_file : IsOpen own bytes l → IsOfFile p
  of_file open_file =
      let strings = content bytes (section_of l.strings) in
      let inside : AllByRecursion (IsInside strings) l.paths.items = subst (λ (ss : List TextSpan). AllByRecursion (IsInside strings) ss) (sym open_file.layout.paths) (paths_inside strings l.packages.items open_file.layout.texts_inside) in
      record {
        strings_inside = omega (arith, lends.strings_at, lends.strings_len, ap length lends.file, open_file.layout.strings_inside);
        body_inside = omega (arith, lends.body_at, lends.body_len, ap length lends.file, open_file.layout.body_inside);
        known = subst (λ (v : ℕ). (v ≡ 1) ⊎ (v ≡ 2)) (sym lends.version) open_file.envelope.known;
        paths_inside = rw (lent_strings, lends.spans) inside;
        paths = rw (lends.form, lends.own_path, lent_paths) open_file.paths;
      }
