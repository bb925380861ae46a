-- Files in memory.
use Rattle.std.specs.Prelude.{ℕ, List, map, ◌==◌, if◌then◌else◌, refl}
use Rattle.std.specs.List.{list_any}
use Rattle.std.specs.Coded.{Coded, code_by, coded×, coded_ℕ, coded_list}
use Rattle.std.specs.String.{string_bytes}
use Rattle.std.specs.FinMap.{from_entries, code}
use Rattle.std.specs.declared.alloc.Global.{Global}
use Rattle.std.specs.declared.string.String.{String}
use Rattle.std.specs.declared.vec.Vec.{Vec}
use Rattle.outside.specs.Counts.{one_more}
use Rattle.outside.specs.Files.{Held}

-- the files, the calls that fail by their numbers from 0, how many calls there were, and how many faults
pub record Shelf : Type 0 where
  pub files : Held
  pub failing : List ℕ
  pub calls : ℕ
  pub faults : ℕ

-- by its code a proof tells one from another
abbrev pub shelf_code : Coded Shelf
shelf_code =
    code_by (Held × (List ℕ × (ℕ × ℕ)))
    (coded× (code (coded_list coded_ℕ) (coded_list coded_ℕ)) (coded× (coded_list coded_ℕ) (coded× coded_ℕ coded_ℕ)))
    (λ s. (s.files, (s.failing, (s.calls, s.faults))))
    (λ p. record { files = p.0; failing = p.1.0; calls = p.1.1.0; faults = p.1.1.1 })
    (λ _. refl)

-- a name and its body, as their bytes
abbrev pub texts : String Global × Vec ℕ Global → List ℕ × List ℕ
texts file = (string_bytes file.0, file.1.items)

-- the files of a list, in which the first body of a name counts
abbrev pub files_of : List (String Global × Vec ℕ Global) → Held
files_of list = from_entries (map texts list)

-- the count of faults after a call: one more where the call is one of those that fail
abbrev pub faults_after : Shelf → ℕ
faults_after shelf = if list_any (λ n. n == shelf.calls) shelf.failing then one_more shelf.faults else shelf.faults

-- what a call leaves that changes no file
abbrev pub called : Shelf → Shelf
called shelf = record shelf { calls = one_more shelf.calls; faults = faults_after shelf }
