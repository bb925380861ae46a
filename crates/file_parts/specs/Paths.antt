-- The paths of an index, and the texts that stand for them.
use Rattle.std.specs.Prelude.{◌≡◌, ◌≢◌, ℕ, ◌≤◌, List, [], ◌∷◌, length, map, Option, Some, None, Bool, slice_range}
use Rattle.std.specs.Prelude.{nat_eq, if◌then◌else◌}
use Rattle.std.specs.List.{AllByRecursion, Contains, list_any}
use Rattle.std.specs.Option.{option_and_then}
use Rattle.std.specs.Cmp.Lexicographic.{pointwise}
use Rattle.wire_bytes.specs.Text.{Text, text_in}
use Rattle.file_parts.specs.declared.spans.TextSpan.{TextSpan}
use Rattle.file_parts.specs.declared.parts.FileForm.{FileForm}
use Rattle.file_parts.specs.declared.parts.FileForm.TheVariants.{Full, Shallow, Bundle}
use Rattle.file_parts.specs.Order.{RiseFrom, Rise}

-- the text that stands there in the string section
abbrev pub text_of : List ℕ → TextSpan → List ℕ
text_of strings t = slice_range strings t.start t.end

-- the texts that stand at some places
abbrev pub texts_of : List ℕ → List TextSpan → List (List ℕ)
texts_of strings spans = map (text_of strings) spans

-- it stands inside the string section
abbrev pub IsInside : List ℕ → TextSpan → Type 0
IsInside strings t = (t.start ≤ t.end) × (t.end ≤ length strings)

-- ---- the paths of an index, as it spells them

-- The first path is empty and stands for the file's own. The others rise, and none is the file's own.
abbrev pub ArePaths : List ℕ → List (List ℕ) → Type 0
ArePaths own [] = ⊥
ArePaths own (first ∷ others) = (first ≡ []) × RiseFrom [] others × AllByRecursion (λ t. t ≢ own) others

-- In a bundle the paths rise, and none is empty.
abbrev pub ArePathsIn : FileForm → List ℕ → List (List ℕ) → Type 0
ArePathsIn Full own paths = ArePaths own paths
ArePathsIn Shallow own paths = ArePaths own paths
ArePathsIn Bundle own paths = Rise paths × AllByRecursion (λ t. t ≢ []) paths

-- the path that one of them stands for
abbrev pub meant : List ℕ → List ℕ → List ℕ
meant own [] = own
meant own (b ∷ bs) = b ∷ bs

-- ---- the paths of declarations

-- A text stands for a package's path: the empty text for the file's own, where the index has the empty text; any other
-- for itself, where it is a path of the index. So the own path is one both ways.
abbrev pub IsPathFor : List ℕ → List (List ℕ) → List ℕ → List ℕ → Type 0
IsPathFor own paths [] path = Contains paths [] × (path ≡ own)
IsPathFor own paths (b ∷ bs) path = Contains (map (meant own) paths) (b ∷ bs) × (path ≡ b ∷ bs)

-- the text at an offset of the string section stands for this path
abbrev pub IsPathAt : List ℕ → List ℕ → List (List ℕ) → ℕ → List ℕ → Type 0
IsPathAt strings own paths offset path = (text : List ℕ) × Text strings offset text × IsPathFor own paths text path

-- ---- the same, as functions

-- whether a text is one of the texts
abbrev pub is_among : List (List ℕ) → List ℕ → Bool
is_among texts text = list_any (pointwise nat_eq text) texts

-- the path for which a text stands
abbrev pub path_for : List ℕ → List (List ℕ) → List ℕ → Option (List ℕ)
path_for own paths [] = if is_among paths [] then Some own else None
path_for own paths (b ∷ bs) = if is_among (map (meant own) paths) (b ∷ bs) then Some (b ∷ bs) else None

-- the path for which the text at an offset of the string section stands
abbrev pub path_in : List ℕ → List ℕ → List (List ℕ) → ℕ → Option (List ℕ)
path_in strings own paths offset = option_and_then (path_for own paths) (text_in strings offset)
