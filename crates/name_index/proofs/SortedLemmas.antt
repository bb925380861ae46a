-- An index in order: what follows from an envelope, and from the order.
use Rattle.std.proofs.Common.{◌≡◌, ◌≢◌, ℕ, zero, suc, List, [], ◌∷◌, map, Some, slice_get, refl, sym, ap, subst, ◌∙◌, arith}
use Rattle.std.specs.List.{AllByRecursion}
use Rattle.wire_bytes.specs.Reading.{InOrder}
use Rattle.name_index.specs.declared.records.Layout.{Layout}
use Rattle.name_index.specs.FullFile.{content, Package, FullFile, Listed, listed, named}
use Rattle.wire_bytes.specs.Order.{RiseFrom, Rise}
use Rattle.file_parts.specs.Paths.{ArePaths}
use Rattle.name_index.specs.Envelope.{IsPackage, Envelope}
use Rattle.name_index.specs.Lookup.{as_listed, IsListed, OwnFirst, IsSorted}
use Rattle.name_index.specs.Records.{section_of, file_of, IsOpen, IsSearchable}
use Rattle.wire_bytes.proofs.RiseLemmas.{rise_once}
use Rattle.name_index.proofs.ListedLemmas.{in_map, before, Holder, holder}

-- ---- from an envelope

rise_of : (last : List ℕ) (ts : List (List ℕ)) → RiseFrom last ts → Rise ts
rise_of last [] rising = tt
rise_of last (t ∷ ts) rising = rising.1

names_of : (strings : List ℕ) (size : ℕ) (bytes : List ℕ) (ps : List Package) (rest : List ℕ) → InOrder (IsPackage strings size) bytes ps rest → AllByRecursion (λ p. Rise (map (λ e. e.name) p.entries)) ps
names_of strings size bytes [] rest stands = tt
names_of strings size bytes (p ∷ ps) rest stands = (stands.1.names_rise, names_of strings size stands.0 ps rest stands.2)

named_sorted : (own : List ℕ) (ps : List Package) → ArePaths own (map (λ p. p.path) ps) → AllByRecursion (λ p. Rise (map (λ e. e.name) p.entries)) ps → IsSorted own (named own ps)
named_sorted own [] paths names = elim paths [ ]
named_sorted own (p ∷ ps) paths names = record { paths = (refl, rise_of [] (map (λ p. p.path) ps) paths.1, paths.2); names = names }

pub is_sorted : (own bytes : List ℕ) (file : FullFile) → Envelope own bytes file → IsSorted own file.packages
is_sorted own bytes file env =
    subst (λ (ps : List Package). IsSorted own ps) (sym env.resolved)
    (named_sorted own env.spelled env.paths (names_of (content bytes file.strings) file.body.len env.at_packages env.spelled [] env.packages))

pub searchable : (own bytes : List ℕ) (l : Layout) → IsOpen own bytes l → IsSearchable own (content bytes (section_of l.strings)) l.packages.items
searchable own bytes l open_file = record {
  inside = open_file.layout.texts_inside;
  numbered = open_file.layout.numbered;
  few = open_file.layout.few;
  few_names = open_file.layout.few_names;
  sorted = is_sorted own bytes (file_of own bytes l) open_file.envelope;
}

-- ---- from the order

pub all_at : {X : Type 0} (P : X → Type 0) (xs : List X) (i : ℕ) (x : X) → AllByRecursion P xs → slice_get xs i ≡ Some x → P x
all_at P [] i x all at = absurd cc
all_at P (y ∷ xs) zero x all at = let same : y ≡ x = cc in subst P same all.0
all_at P (y ∷ xs) (suc i) x all at = all_at P xs i x all.1 at

-- each path is there once
pub path_once : (own : List ℕ) (ts : List (List ℕ)) (i j : ℕ) (t : List ℕ) → OwnFirst own ts → slice_get ts i ≡ Some t → slice_get ts j ≡ Some t → i ≡ j
path_once own [] i j t paths at_i at_j = absurd cc
path_once own (first ∷ ts) zero zero t paths at_i at_j = refl
path_once own (first ∷ ts) zero (suc j) t paths at_i at_j =
    let same : t ≡ own = mine first t at_i paths.0 in
    absurd (all_at (λ (x : List ℕ). x ≢ own) ts j t paths.2 at_j same)
  where
    mine : (first t : List ℕ) → Some first ≡ Some t → first ≡ own → t ≡ own
    mine first t at is = cc
path_once own (first ∷ ts) (suc i) zero t paths at_i at_j =
    let same : t ≡ own = mine first t at_j paths.0 in
    absurd (all_at (λ (x : List ℕ). x ≢ own) ts i t paths.2 at_i same)
  where
    mine : (first t : List ℕ) → Some first ≡ Some t → first ≡ own → t ≡ own
    mine first t at is = cc
path_once own (first ∷ ts) (suc i) (suc j) t paths at_i at_j = ap suc (rise_once ts i j t paths.1 at_i at_j)

path_at : (ps : List Package) (i : ℕ) (p : Package) (path : List ℕ) → slice_get ps i ≡ Some p → p.path ≡ path → slice_get (map (λ p. p.path) ps) i ≡ Some path
path_at ps i p path at is = in_map (λ p. p.path) ps i p at ∙ ap (λ (t : List ℕ). Some t) is

-- the package of a path
pub holder_path : (ps : List Package) (k : ℕ) (path name : List ℕ) (offset : ℕ) (h : Holder ps k path name offset) → slice_get (map (λ p. p.path) ps) h.which ≡ Some path
holder_path ps k path name offset h = path_at ps h.which h.p path h.p_at h.path_is

-- a name's place in its package
pub holder_name : (ps : List Package) (k : ℕ) (path name : List ℕ) (offset : ℕ) (h : Holder ps k path name offset) → slice_get (map (λ e. e.name) h.p.entries) h.place ≡ Some name
holder_name ps k path name offset h = in_map (λ e. e.name) h.p.entries h.place h.e h.e_at ∙ ap (λ (t : List ℕ). Some t) h.name_is

same_package : (ps : List Package) (i j : ℕ) (p q : Package) → i ≡ j → slice_get ps i ≡ Some p → slice_get ps j ≡ Some q → p ≡ q
same_package ps i j p q same at_i at_j = cc

-- each name of each path is listed once
listed_once : (own : List ℕ) (ps : List Package) (i j : ℕ) (path name : List ℕ) (a b : ℕ) → IsSorted own ps → IsListed ps i path name a → IsListed ps j path name b → i ≡ j
listed_once own ps i j path name a b sorted at_i at_j =
    let x = holder ps i path name a at_i in
    let y = holder ps j path name b at_j in
    let which : x.which ≡ y.which = path_once own (map (λ p. p.path) ps) x.which y.which path sorted.paths (holder_path ps i path name a x) (holder_path ps j path name b y) in
    let held : x.p ≡ y.p = same_package ps x.which y.which x.p y.p which x.p_at y.p_at in
    let rising : Rise (map (λ e. e.name) x.p.entries) = all_at (λ (p : Package). Rise (map (λ e. e.name) p.entries)) ps x.which x.p sorted.names x.p_at in
    let there : slice_get (map (λ e. e.name) x.p.entries) y.place ≡ Some name = subst (λ (p : Package). slice_get (map (λ e. e.name) p.entries) y.place ≡ Some name) (sym held) (holder_name ps j path name b y) in
    let place : x.place ≡ y.place = rise_once (map (λ e. e.name) x.p.entries) x.place y.place name rising (holder_name ps i path name a x) there in
    omega (arith, x.number, y.number, ap (before ps) which, place)

pub one_number : (own bytes : List ℕ) (file : FullFile) → Envelope own bytes file → (i j : ℕ) (path name : List ℕ) (a b : ℕ) → IsListed file.packages i path name a → IsListed file.packages j path name b → (i ≡ j) × (a ≡ b)
one_number own bytes file env i j path name a b at_i at_j =
    let number : i ≡ j = listed_once own file.packages i j path name a b (is_sorted own bytes file env) at_i at_j in
    (number, same_offset (listed file.packages) i j path name a b number at_i at_j)
  where
    same_offset : (ls : List Listed) (i j : ℕ) (path name : List ℕ) (a b : ℕ) → i ≡ j → slice_get ls i ≡ Some (as_listed path name a) → slice_get ls j ≡ Some (as_listed path name b) → a ≡ b
    same_offset ls i j path name a b number at_i at_j =
        let same : as_listed path name a ≡ as_listed path name b = cc in
        ap (λ (l : Listed). l.offset) same
