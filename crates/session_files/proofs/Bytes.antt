-- The sections of a file of bytes are bytes.
use Rattle.std.proofs.Common.{◌≡◌, ℕ, zero, suc, ◌<◌, List, [], ◌∷◌, take, drop, Some, slice_get, subst}
use Rattle.std.specs.List.{AllByRecursion}
use Rattle.name_index.specs.FullFile.{content, Section, FullFile}
use Rattle.decl_spelling.specs.Sections.{HoldsBytes}
use Rattle.session_files.specs.FileSections.{sections_in}
use Rattle.session_files.specs.Sessions.{IsSound}

all_drop : {X : Type 0} (P : X → Type 0) (n : ℕ) (xs : List X) → AllByRecursion P xs → AllByRecursion P (drop n xs)
all_drop P zero xs all = all
all_drop P (suc n) [] all = tt
all_drop P (suc n) (x ∷ xs) all = all_drop P n xs all.1

all_take : {X : Type 0} (P : X → Type 0) (n : ℕ) (xs : List X) → AllByRecursion P xs → AllByRecursion P (take n xs)
all_take P zero xs all = tt
all_take P (suc n) [] all = tt
all_take P (suc n) (x ∷ xs) all = (all.0, all_take P n xs all.1)

pub holds_bytes : (file : FullFile) → IsSound file → HoldsBytes (sections_in file)
holds_bytes file sound = (part file.strings, part file.body)
  where
    part : (s : Section) → AllByRecursion (λ b. b < 256) (content file.bytes s)
    part s = all_take (λ b. b < 256) s.len (drop s.at file.bytes) (all_drop (λ b. b < 256) s.at file.bytes sound.2)

pub one_of : {X : Type 0} (P : X → Type 0) (xs : List X) (i : ℕ) (x : X) → AllByRecursion P xs → slice_get xs i ≡ Some x → P x
one_of P [] i x all at = absurd cc
one_of P (y ∷ ys) zero x all at = let same : y ≡ x = cc in subst P same all.0
one_of P (y ∷ ys) (suc i) x all at = one_of P ys i x all.1 at
