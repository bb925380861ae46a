-- The index of a session's packages: that it is made of keys in order, and what is found in it.
use Rattle.std.proofs.Common.{◌≡◌, ◌⊎◌, ℕ, zero, suc, ◌+◌, ◌<◌, List, [], ◌∷◌, map, length, true, false, Some, None, option_map, slice_get, get_or, refl, sym, ap, ◌∙◌, subst, inl, inr, arith}
use Rattle.std.specs.Prelude.{unwrap_or}
use Rattle.std.specs.Option.{option_and_then}
use Rattle.std.specs.Cmp.Lexicographic.{slice_cmp}
use Rattle.std.specs.List.{AllByRecursion, Contains}
use Rattle.std.specs.List.Sorted.{IsPermutation, IsSortedBy}
use Rattle.std.specs.Ordering.{nat_cmp, ordering_then, is_lt}
use Rattle.std.specs.declared.cmp.Ordering.{Ordering}
use Rattle.std.specs.declared.cmp.Ordering.TheVariants.{Less, Equal, Greater}
use Rattle.std.proofs.lemmas.Cmp.{nat_cmp_total, tied_itself}
use Rattle.std.proofs.lemmas.Option.{slice_get-map, slice_get-get_or}
use Rattle.wire_bytes.specs.Order.{RiseFrom, Rise}
use Rattle.go_values.specs.declared.qualified.QName.{QName}
use Rattle.name_index.specs.FullFile.{Package, Listed}
use Rattle.name_index.specs.Lookup.{heading_at}
use Rattle.session_files.specs.Sessions.{Opened, qualified}
use Rattle.session_files.specs.Answers.{packages}
use Rattle.session_files.specs.OpenSessions.{key_of}
use Rattle.session_files.specs.Index.{as_qname, name_cmp, NamesRise, Spot, Key, spot_of, keys_from, key_cmp, firsts_after}
use Rattle.session_files.specs.PathIndex.{package_at, path_at, package_name_at, NamesPath, IsPathIndex, bare, paths_of}
use Rattle.session_files.specs.declared.index.NameKey.{NameKey}
use Rattle.session_files.proofs.Bytes.{one_of}
use Rattle.session_files.proofs.PackageLemmas.{none_listed, first_package}
use Rattle.session_files.proofs.KeyLemmas.{by_name, all_more, all_map, Has, IsFirstOf, AreFirsts, are_firsts}
use Rattle.session_files.proofs.KeyListLemmas.{key_from, IsListedKey, from_key}
use Rattle.session_files.proofs.IndexLemmas.{contains, has, has_map, Mapped, mapped, flat_cmp, sorted_rise, to_sorted, from_sorted}

-- a package that is listed, as a path with an empty name
pub bare_there : (ps : List Package) (n : ℕ) (path name : List ℕ) → Some (path, name) ≡ heading_at ps n → slice_get (map bare ps) n ≡ Some (record { path = path; name = []; offset = 0 })
bare_there [] n path name is = absurd cc
bare_there (p ∷ ps) zero path name is =
    let pair : (path, name) ≡ (p.path, p.name) = cc in
    let its_path : p.path ≡ path = sym (ap (λ (x : List ℕ × List ℕ). x.0) pair) in
    ap (λ (path : List ℕ). Some (record { path = path; name = []; offset = 0 })) its_path
bare_there (p ∷ ps) (suc n) path name is = bare_there ps n path name is

-- ---- how it is made

-- what the first key of a path says
record IsPathKey (files : List Opened) (k : Key) : Type 0 where
  pub path : path_at files (spot_of k) ≡ k.qname.path
  pub name : List ℕ
  pub there : package_name_at files (spot_of k) ≡ Some name
  pub named : packages files k.qname.path ≡ Some name
  pub is_bare : k.qname.name ≡ []

key_below : (k : Key) (g n : ℕ) → (g < k.file) ⊎ ((g ≡ k.file) × (n < k.number)) → key_cmp (record { qname = k.qname; file = g; number = n }) k ≡ Less
key_below k g n which = ap (λ r. ordering_then r (ordering_then (nat_cmp g k.file) (nat_cmp n k.number))) (tied_itself by_name k.qname) ∙ go which
  where
    below : (a b : ℕ) → a < b → nat_cmp a b ≡ Less
    below a b lt = grind arith

    go : (g < k.file) ⊎ ((g ≡ k.file) × (n < k.number)) → ordering_then (nat_cmp g k.file) (nat_cmp n k.number) ≡ Less
    go (inl lt) = ap (λ r. ordering_then r (nat_cmp n k.number)) (below g k.file lt)
    go (inr both) =
        let tied : nat_cmp g k.file ≡ Equal = ap (λ g. nat_cmp g k.file) both.0 ∙ tied_itself nat_cmp_total k.file in
        ap (λ r. ordering_then r (nat_cmp n k.number)) tied ∙ below n k.number both.1

path_key : (files : List Opened) (keys : List Key) → ((k : Key) → Has keys k → Has (keys_from paths_of 0 files) k) → ((k : Key) → Has (keys_from paths_of 0 files) k → Has keys k) → (k : Key) → IsFirstOf keys k → IsPathKey files k
path_key files keys from to k is = record {
  path = ap (λ x. unwrap_or (option_map (λ (x : List ℕ × List ℕ). x.0) x) []) heading ∙ sym its_path;
  name = its_package.x.name;
  there = ap (option_map (λ (x : List ℕ × List ℕ). x.1)) heading;
  named = ap (packages files) its_path ∙ first_package files k.file k.number listed_key.o its_package.x there its_package.at before first;
  is_bare = ap (λ (q : QName). q.name) listed_key.named ∙ sym (ap (λ (l : Listed). l.name) its_package.is);
}
  where
    listed_key : IsListedKey paths_of 0 files k
    listed_key = from_key paths_of 0 files k (from k is.there)

    there : slice_get files k.file ≡ Some listed_key.o
    there = let file : k.file ≡ listed_key.file = listed_key.its_file ∙ omega arith in ap (slice_get files) file ∙ listed_key.there

    its_package : Mapped bare listed_key.o.file.packages listed_key.l k.number
    its_package = mapped bare listed_key.o.file.packages listed_key.l k.number listed_key.at

    its_path : k.qname.path ≡ its_package.x.path
    its_path = ap (λ (q : QName). q.path) listed_key.named ∙ sym (ap (λ (l : Listed). l.path) its_package.is)

    heading : package_at files (spot_of k) ≡ Some (its_package.x.path, its_package.x.name)
    heading = ap (option_and_then (λ (o : Opened). heading_at o.file.packages k.number)) there ∙ ap (option_map (λ (p : Package). (p.path, p.name))) its_package.at

    none_below : (g n : ℕ) (r : Opened) (q : Package) → slice_get files g ≡ Some r → slice_get r.file.packages n ≡ Some q → q.path ≡ its_package.x.path → (g < k.file) ⊎ ((g ≡ k.file) × (n < k.number)) → ⊥
    none_below g n r q there_g at_n same which =
        let none : 0 + g ≡ g = omega arith in
        let its_name : as_qname q.path [] ≡ k.qname = ap (λ p. as_qname p []) same ∙ ap qualified its_package.is ∙ sym listed_key.named in
        let in_from = key_from paths_of 0 files g r n (bare q) there_g (slice_get-map bare r.file.packages n ∙ ap (option_map bare) at_n) in
        let here : Has (keys_from paths_of 0 files) (record { qname = as_qname q.path []; file = g; number = n }) = subst (λ (m : ℕ). Has (keys_from paths_of 0 files) (record { qname = as_qname q.path []; file = m; number = n })) none in_from in
        let of_name : Has (keys_from paths_of 0 files) (record { qname = k.qname; file = g; number = n }) = subst (λ (q : QName). Has (keys_from paths_of 0 files) (record { qname = q; file = g; number = n })) its_name here in
        let above = is.first (record { qname = k.qname; file = g; number = n }) (to (record { qname = k.qname; file = g; number = n }) of_name) refl in
        let no : true ≡ false = sym (ap is_lt (key_below k g n which)) ∙ above in
        absurd cc

    before : (g m : ℕ) (r : Opened) (q : Package) → g < k.file → slice_get files g ≡ Some r → slice_get r.file.packages m ≡ Some q → q.path ≡ its_package.x.path → ⊥
    before g m r q lt there_g at_m same = none_below g m r q there_g at_m same (inl lt)

    first : (m : ℕ) (q : Package) → m < k.number → slice_get listed_key.o.file.packages m ≡ Some q → q.path ≡ its_package.x.path → ⊥
    first m q lt at_m same = none_below k.file m listed_key.o q there at_m same (inr (refl, lt))

-- names that are all empty leave the order to the paths
path_below : (a b : QName) → a.name ≡ [] → b.name ≡ [] → name_cmp a b ≡ Less → slice_cmp nat_cmp a.path b.path ≡ Less
path_below a b bare_a bare_b lt = go (slice_cmp nat_cmp a.path b.path)
    (sym (ap (λ n. ordering_then (slice_cmp nat_cmp a.path b.path) (slice_cmp nat_cmp n b.name)) bare_a ∙ ap (λ n. ordering_then (slice_cmp nat_cmp a.path b.path) (slice_cmp nat_cmp [] n)) bare_b) ∙ lt)
  where
    go : (c : Ordering) → ordering_then c (slice_cmp nat_cmp [] []) ≡ Less → c ≡ Less
    go Less e = refl
    go Equal e = absurd cc
    go Greater e = absurd cc

rise_from : (files : List Opened) (k : Key) (ks : List Key) → IsPathKey files k → AllByRecursion (IsPathKey files) ks → NamesRise (map (λ k. k.qname) (k ∷ ks)) → RiseFrom k.qname.path (map (λ k. k.qname.path) ks)
rise_from files k [] is each rising = tt
rise_from files k (x ∷ xs) is each rising = (path_below k.qname x.qname is.is_bare each.0.is_bare rising.0.0, rise_from files x xs each.0 each.1 rising.1)

paths_rise : (files : List Opened) (ks : List Key) → AllByRecursion (IsPathKey files) ks → NamesRise (map (λ k. k.qname) ks) → Rise (map (λ k. k.qname.path) ks)
paths_rise files [] each rising = tt
paths_rise files (k ∷ ks) each rising = rise_from files k ks each.0 each.1 rising

paths_are : (files : List Opened) (ks : List Key) → AllByRecursion (IsPathKey files) ks → map (path_at files) (map spot_of ks) ≡ map (λ k. k.qname.path) ks
paths_are files [] each = refl
paths_are files (k ∷ ks) each = ap (λ t. t ∷ map (path_at files) (map spot_of ks)) each.0.path ∙ ap (λ ts. k.qname.path ∷ ts) (paths_are files ks each.1)

pub path_index_made : (files : List Opened) (keys sorted : List NameKey) (paths : List Spot) → map key_of keys ≡ keys_from paths_of 0 files → IsPermutation keys sorted
    → IsSortedBy (λ a b. is_lt (flat_cmp (key_of a) (key_of b))) sorted → paths ≡ map spot_of (firsts_after None (map key_of sorted)) → IsPathIndex files paths
path_index_made files keys sorted paths all moved in_order made = subst (IsPathIndex files) (sym made) (record { rise = rise; named = named; all = every })
  where
    firsts : AreFirsts (map key_of sorted) (firsts_after None (map key_of sorted))
    firsts = are_firsts (map key_of sorted) (sorted_rise sorted in_order)

    to : (k : Key) → Has (keys_from paths_of 0 files) k → Has (map key_of sorted) k
    to = to_sorted keys sorted (keys_from paths_of 0 files) all moved

    each : AllByRecursion (IsPathKey files) (firsts_after None (map key_of sorted))
    each = all_more (IsFirstOf (map key_of sorted)) (IsPathKey files) (firsts_after None (map key_of sorted)) (path_key files (map key_of sorted) (from_sorted keys sorted (keys_from paths_of 0 files) all moved) to) firsts.first

    texts : map (path_at files) (map spot_of (firsts_after None (map key_of sorted))) ≡ map (λ k. k.qname.path) (firsts_after None (map key_of sorted))
    texts = paths_are files (firsts_after None (map key_of sorted)) each

    rise : Rise (map (path_at files) (map spot_of (firsts_after None (map key_of sorted))))
    rise = subst Rise (sym texts) (paths_rise files (firsts_after None (map key_of sorted)) each firsts.rise)

    named : AllByRecursion (NamesPath files) (map spot_of (firsts_after None (map key_of sorted)))
    named = all_map (NamesPath files) spot_of (firsts_after None (map key_of sorted))
        (all_more (IsPathKey files) (λ k. NamesPath files (spot_of k)) (firsts_after None (map key_of sorted)) (λ k is. record { name = is.name; there = is.there; named = ap (packages files) is.path ∙ is.named }) each)

    every : (path : List ℕ) → (Contains (map (path_at files) (map spot_of (firsts_after None (map key_of sorted)))) path → ⊥) → packages files path ≡ None
    every path none = none_listed files path listed_nowhere
      where
        listed_nowhere : (g m : ℕ) (r : Opened) (q : Package) → slice_get files g ≡ Some r → slice_get r.file.packages m ≡ Some q → q.path ≡ path → ⊥
        listed_nowhere g m r q there at same =
            let in_from = key_from paths_of 0 files g r m (bare q) there (slice_get-map bare r.file.packages m ∙ ap (option_map bare) at) in
            let found = firsts.every _ (to _ in_from) in
            let key = mapped (λ (k : Key). k.qname) (firsts_after None (map key_of sorted)) (as_qname q.path []) found.0 found.1 in
            let here = has_map (λ (k : Key). k.qname.path) (firsts_after None (map key_of sorted)) key.x (found.0, key.at) in
            let its_path : key.x.qname.path ≡ path = ap (λ (q : QName). q.path) key.is ∙ same in
            let has_path = subst (λ (t : List ℕ). Has (map (λ k. k.qname.path) (firsts_after None (map key_of sorted))) t) its_path here in
            none (contains (map (path_at files) (map spot_of (firsts_after None (map key_of sorted)))) path (subst (λ (ts : List (List ℕ)). Has ts path) (sym texts) has_path))

-- ---- what is found by halves

pub named_there : (files : List Opened) (paths : List Spot) → IsPathIndex files paths → (path : List ℕ) (i : ℕ) (d : Spot) → i < length paths → slice_get (map (path_at files) paths) i ≡ Some path → package_name_at files (get_or paths i d) ≡ packages files path
named_there files paths is path i d within found =
    let there = slice_get-get_or paths i d within in
    let same : path_at files (get_or paths i d) ≡ path = some_path (sym (slice_get-map (path_at files) paths i ∙ ap (option_map (path_at files)) there) ∙ found) in
    let names = one_of (NamesPath files) paths i (get_or paths i d) is.named there in
    names.there ∙ sym names.named ∙ ap (packages files) same
  where
    some_path : {a b : List ℕ} → Some a ≡ Some b → a ≡ b
    some_path e = cc

pub unnamed : (files : List Opened) (paths : List Spot) → IsPathIndex files paths → (path : List ℕ) → ((i : ℕ) → slice_get (map (path_at files) paths) i ≡ Some path → ⊥) → packages files path ≡ None
unnamed files paths is path none = is.all path (λ there. let at = has (map (path_at files) paths) path there in none at.0 at.1)
