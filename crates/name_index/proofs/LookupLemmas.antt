-- Looking into the records of an index.
use Rattle.std.proofs.Common.{◌≡◌, ℕ, zero, suc, ◌<◌, List, [], ◌∷◌, length, map, Option, Some, option_map, slice_get, get_or, refl, ap, ◌∙◌, arith}
use Rattle.std.proofs.lemmas.Option.{slice_get-map, slice_get_read}
use Rattle.name_index.specs.declared.records.PackageRecord.{PackageRecord}
use Rattle.name_index.specs.FullFile.{Package, named}
use Rattle.name_index.specs.Lookup.{heading_at}
use Rattle.file_parts.specs.Paths.{text_of}
use Rattle.name_index.specs.Records.{package_of, packages_of}

named_first : (own : List ℕ) (ps : List Package) (p : Package) → slice_get ps 0 ≡ Some p → heading_at (named own ps) 0 ≡ Some (own, p.name)
named_first own [] p e = absurd cc
named_first own (q ∷ ps) p e = ap (λ (o : Option Package). option_map (λ x. (own, x.name)) o) e

named_later : (own : List ℕ) (ps : List Package) (k : ℕ) (p : Package) → slice_get ps (suc k) ≡ Some p → heading_at (named own ps) (suc k) ≡ Some (p.path, p.name)
named_later own [] k p e = absurd cc
named_later own (q ∷ ps) k p e = ap (λ (o : Option Package). option_map (λ x. (x.path, x.name)) o) e

record_at : (strings : List ℕ) (rs : List PackageRecord) (k : ℕ) (r : PackageRecord) → k < length rs → r ≡ get_or rs k r → slice_get (map (package_of strings) rs) k ≡ Some (package_of strings r)
record_at strings rs k r lt is = slice_get-map (package_of strings) rs k ∙ ap (λ (o : Option PackageRecord). option_map (package_of strings) o) (slice_get_read rs (length rs) k r refl lt is)

pub first_heading : (own strings : List ℕ) (rs : List PackageRecord) (k : ℕ) (r : PackageRecord) → k ≡ 0 → k < length rs → r ≡ get_or rs k r → heading_at (packages_of own strings rs) k ≡ Some (own, text_of strings r.name)
first_heading own strings rs zero r first lt is = named_first own (map (package_of strings) rs) (package_of strings r) (record_at strings rs 0 r lt is)
first_heading own strings rs (suc k) r first lt is = absurd (omega arith)

pub later_heading : (own strings : List ℕ) (rs : List PackageRecord) (k : ℕ) (r : PackageRecord) → 0 < k → k < length rs → r ≡ get_or rs k r → heading_at (packages_of own strings rs) k ≡ Some (text_of strings r.path, text_of strings r.name)
later_heading own strings rs zero r later lt is = absurd (omega arith)
later_heading own strings rs (suc k) r later lt is = named_later own (map (package_of strings) rs) k (package_of strings r) (record_at strings rs (suc k) r lt is)
