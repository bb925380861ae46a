-- The search for a name among the files of a list.
use Rattle.std.proofs.Common.{◌≡◌, ℕ, ◌+◌, ◌<◌, List, map, length, drop, get_or, Some, cond, ap, ◌∙◌, refl, add-one}
use Rattle.std.proofs.Common.{drop-cons}
use Rattle.std.specs.Ordering.{nat_cmp}
use Rattle.std.specs.Prelude.{nat_eq}
use Rattle.std.specs.Cmp.Lexicographic.{slice_cmp, pointwise, texts_ties, nat_list_cmp_total}
use Rattle.std.specs.FinMap.{get, find, get-from_entries}
use Rattle.std.specs.String.{string_bytes}
use Rattle.std.specs.declared.alloc.Global.{Global}
use Rattle.std.specs.declared.string.String.{String}
use Rattle.std.specs.declared.vec.Vec.{Vec}
use Rattle.outside.specs.MemoryFiles.{files_of, texts}

-- a look-up goes through the list from its start
pub looks_up : (files : List (String Global × Vec ℕ Global)) (name : List ℕ)
    → get (files_of files) name ≡ find (slice_cmp nat_cmp) name (map texts files)
looks_up files name = get-from_entries nat_list_cmp_total (map texts files) name

-- from an index on it finds the file there, if that has the name, and else what it finds from the next one on
pub looks_on : (name : List ℕ) (files : List (String Global × Vec ℕ Global)) (k : ℕ) (file : String Global
    × Vec ℕ Global) → k < length files → file ≡ get_or files k file
    → find (slice_cmp nat_cmp) name (map texts (drop k files)) ≡ cond (pointwise nat_eq name (string_bytes file.0)) (Some file.1.items) (find (slice_cmp nat_cmp) name (map texts (drop (k + 1) files)))
looks_on name files k file h is =
    ap (λ fs. find (slice_cmp nat_cmp) name (map texts fs)) (drop-cons files k file h)
    ∙ rw (← is, texts_ties name (string_bytes file.0), add-one k) refl
