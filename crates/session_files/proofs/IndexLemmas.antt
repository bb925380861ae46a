-- The index of a session: that it is made of keys in order, what is found in it, and that it counts the names.
use Rattle.std.proofs.Common.{◌≡◌, ℕ, zero, suc, ◌+◌, ◌<◌, List, [], ◌∷◌, map, length, true, false, Option, Some, None, option_map, Result, Ok, Err, slice_get, get_or, refl, sym, ap, ◌∙◌, subst, inl, inr, arith}
use Rattle.std.specs.Prelude.{IfOk, unwrap_or}
use Rattle.std.specs.Option.{option_and_then}
use Rattle.std.specs.Cmp.Lexicographic.{slice_cmp}
use Rattle.std.specs.List.{AllByRecursion, Contains}
use Rattle.std.specs.List.Sorted.{IsPermutation, IsSortedBy, IsSearchInRange, IsBinarySearchResult}
use Rattle.std.specs.Ordering.{nat_cmp, ordering_then, ordering_reverse, is_lt}
use Rattle.std.specs.declared.cmp.Ordering.{Ordering}
use Rattle.std.specs.declared.cmp.Ordering.TheVariants.{Less, Equal, Greater}
use Rattle.std.proofs.lemmas.Bool.{cases_lt}
use Rattle.std.proofs.lemmas.Cmp.{tied_itself}
use Rattle.std.proofs.lemmas.List.{length-map}
use Rattle.std.proofs.lemmas.List.Sorted.{IsPermutation-map, IsPermutation-sym, Contains-permutation, ranks_by, sorted_far, searchable_from_sorted}
use Rattle.std.proofs.lemmas.Option.{slice_get-map, slice_get-get_or, slice_get_within, slice_get_read, get_or_from_slice_get}
use Rattle.go_values.specs.declared.qualified.QName.{QName}
use Rattle.name_index.specs.FullFile.{Listed, listed}
use Rattle.name_index.specs.Lookup.{as_listed}
use Rattle.session_files.specs.Sessions.{Opened, IsUnknown, ListsAt, Stands, qualified, all_listed, all_names, IsNameCount}
use Rattle.session_files.specs.OpenSessions.{key_of}
use Rattle.session_files.specs.Index.{as_qname, name_cmp, NamesRise, Spot, qname_at, IsIndex, Key, spot_of, names_of, keys_from, key_cmp, firsts_after}
use Rattle.session_files.specs.declared.index.NameKey.{NameKey}
use Rattle.session_files.proofs.Bytes.{one_of}
use Rattle.session_files.proofs.Standing.{in_all}
use Rattle.session_files.proofs.KeyLemmas.{by_name, by_key, one_name, not_below_itself, all_more, all_map, Has, Rises, rises, IsFirstOf, AreFirsts, are_firsts}
use Rattle.session_files.proofs.KeyListLemmas.{names_from, key_from, IsListedKey, from_key}

-- ---- what stands in a list

pub contains : {X : Type 0} (xs : List X) (x : X) → Has xs x → Contains xs x
contains xs x has = (has.0, slice_get_within xs has.0 x has.1, get_or_from_slice_get xs has.0 x x has.1)

pub has : {X : Type 0} (xs : List X) (x : X) → Contains xs x → Has xs x
has xs x c = (c.0, slice_get_read xs (length xs) c.0 x refl c.1 (sym c.2))

pub has_map : {X Y : Type 0} (f : X → Y) (xs : List X) (x : X) → Has xs x → Has (map f xs) (f x)
has_map f xs x there = (there.0, slice_get-map f xs there.0 ∙ ap (option_map f) there.1)

pub record Mapped {X Y : Type 0} (f : X → Y) (xs : List X) (y : Y) (i : ℕ) : Type 0 where
  pub x : X
  pub at : slice_get xs i ≡ Some x
  pub is : f x ≡ y

pub mapped : {X Y : Type 0} (f : X → Y) (xs : List X) (y : Y) (i : ℕ) → slice_get (map f xs) i ≡ Some y → Mapped f xs y i
mapped f [] y i at = absurd cc
mapped f (x ∷ xs) y zero at = record { x = x; at = refl; is = cc }
mapped f (x ∷ xs) y (suc i) at = let m = mapped f xs y i at in record { x = m.x; at = m.at; is = m.is }

-- ---- how it is made

then_thrice : (a b c : Ordering) → ordering_then (ordering_then a b) c ≡ ordering_then a (ordering_then b c)
then_thrice Less b c = refl
then_thrice Equal b c = refl
then_thrice Greater b c = refl

abbrev pub flat_cmp : Key → Key → Ordering
flat_cmp a b =
    ordering_then (slice_cmp nat_cmp a.qname.path b.qname.path) (ordering_then (slice_cmp nat_cmp a.qname.name b.qname.name) (ordering_then (nat_cmp a.file b.file) (nat_cmp a.number b.number)))

pub sorted_rise : (keys : List NameKey) → IsSortedBy (λ a b. is_lt (flat_cmp (key_of a) (key_of b))) keys → Rises (map key_of keys)
sorted_rise keys sorted = rises (map key_of keys) pairs
  where
    flat : (a b : NameKey) → key_cmp (key_of a) (key_of b) ≡ flat_cmp (key_of a) (key_of b)
    flat a b = then_thrice (slice_cmp nat_cmp a.path.now b.path.now) (slice_cmp nat_cmp a.name.now b.name.now) (ordering_then (nat_cmp a.file b.file) (nat_cmp a.number b.number))

    by : IsSortedBy (λ a b. is_lt (key_cmp (key_of a) (key_of b))) keys
    by k d from next = ap is_lt (flat (get_or keys (k + 1) d) (get_or keys k d)) ∙ sorted k d from next

    pairs : (i j : ℕ) (a b : Key) → i < j → slice_get (map key_of keys) i ≡ Some a → slice_get (map key_of keys) j ≡ Some b → is_lt (key_cmp b a) ≡ false
    pairs i j a b lt at_i at_j =
        let x = mapped key_of keys a i at_i in
        let y = mapped key_of keys b j at_j in
        let far = sorted_far (λ a b. is_lt (key_cmp (key_of a) (key_of b))) (ranks_by by_key key_of) keys by i j x.x (omega arith) (slice_get_within keys j y.x y.at) in
        let first = get_or_from_slice_get keys i x.x x.x x.at in
        let second = get_or_from_slice_get keys j y.x x.x y.at in
        ap (λ (b : Key). is_lt (key_cmp b a)) (sym y.is)
        ∙ ap (λ (a : Key). is_lt (key_cmp (key_of y.x) a)) (sym x.is)
        ∙ ap (λ (b : NameKey). is_lt (key_cmp (key_of b) (key_of x.x))) (sym second)
        ∙ ap (λ (a : NameKey). is_lt (key_cmp (key_of (get_or keys j x.x)) (key_of a))) (sym first)
        ∙ far

-- the keys stand among those in order, and these among them
pub to_sorted : (keys sorted : List NameKey) (ks : List Key) → map key_of keys ≡ ks → IsPermutation keys sorted → (k : Key) → Has ks k → Has (map key_of sorted) k
to_sorted keys sorted ks all moved k there = has (map key_of sorted) k (Contains-permutation (map key_of keys) (map key_of sorted) k (IsPermutation-map key_of keys sorted moved)
    (contains (map key_of keys) k (subst (λ xs. Has xs k) (sym all) there)))

pub from_sorted : (keys sorted : List NameKey) (ks : List Key) → map key_of keys ≡ ks → IsPermutation keys sorted → (k : Key) → Has (map key_of sorted) k → Has ks k
from_sorted keys sorted ks all moved k there = subst (λ xs. Has xs k) all (has (map key_of keys) k (Contains-permutation (map key_of sorted) (map key_of keys) k
    (IsPermutation-sym (map key_of keys) (map key_of sorted) (IsPermutation-map key_of keys sorted moved)) (contains (map key_of sorted) k there)))

-- the first of all keys of a name
first_stands : (files : List Opened) (keys : List Key) → ((k : Key) → Has keys k → Has (keys_from names_of 0 files) k) → ((k : Key) → Has (keys_from names_of 0 files) k → Has keys k) → (k : Key) → IsFirstOf keys k
    → (qname_at files (spot_of k) ≡ k.qname) × Stands files k.qname.path k.qname.name k.file k.number
first_stands files keys from to k is = (named, (listed_key.o, listed_key.l.offset, record { there = there; listed = is_listed; first = first }))
  where
    listed_key : IsListedKey names_of 0 files k
    listed_key = from_key names_of 0 files k (from k is.there)

    there : slice_get files k.file ≡ Some listed_key.o
    there = let file : k.file ≡ listed_key.file = listed_key.its_file ∙ omega arith in ap (slice_get files) file ∙ listed_key.there

    named : qname_at files (spot_of k) ≡ k.qname
    named = ap (λ o. unwrap_or (option_map qualified (option_and_then (λ (o : Opened). slice_get (listed o.file.packages) k.number) o)) (as_qname [] [])) there
        ∙ ap (λ l. unwrap_or (option_map qualified l) (as_qname [] [])) listed_key.at
        ∙ sym listed_key.named

    as_key : listed_key.l ≡ as_listed k.qname.path k.qname.name listed_key.l.offset
    as_key = ap (λ (q : QName). as_listed q.path q.name listed_key.l.offset) (sym listed_key.named)

    is_listed : ListsAt listed_key.o k.qname.path k.qname.name k.number listed_key.l.offset
    is_listed = listed_key.at ∙ ap (λ (l : Listed). Some l) as_key

    first : (earlier n at : ℕ) (other : Opened) → earlier < k.file → slice_get files earlier ≡ Some other → ListsAt other k.qname.path k.qname.name n at → ⊥
    first earlier n at other lt at_earlier is_at =
        let no : 0 + earlier ≡ earlier = omega arith in
        let y : Key = record { qname = k.qname; file = earlier; number = n } in
        let in_from : Has (keys_from names_of 0 files) y = subst (λ (m : ℕ). Has (keys_from names_of 0 files) (record { qname = k.qname; file = m; number = n })) no (key_from names_of 0 files earlier other n (as_listed k.qname.path k.qname.name at) at_earlier is_at) in
        let above = is.first y (to y in_from) refl in
        let files_rise : nat_cmp earlier k.file ≡ Less = below earlier k.file lt in
        let less : key_cmp y k ≡ Less = ap (λ r. ordering_then r (ordering_then (nat_cmp earlier k.file) (nat_cmp n k.number))) (tied_itself by_name k.qname) ∙ ap (λ r. ordering_then r (nat_cmp n k.number)) files_rise in
        let no : true ≡ false = sym (ap is_lt less) ∙ above in
        absurd cc
      where
        below : (a b : ℕ) → a < b → nat_cmp a b ≡ Less
        below a b lt = grind arith

pub index_made : (files : List Opened) (keys sorted : List NameKey) (index : List Spot) → map key_of keys ≡ keys_from names_of 0 files → IsPermutation keys sorted
    → IsSortedBy (λ a b. is_lt (flat_cmp (key_of a) (key_of b))) sorted → index ≡ map spot_of (firsts_after None (map key_of sorted)) → IsIndex files index
index_made files keys sorted index all moved in_order made = subst (IsIndex files) (sym made) (record { first = first; rise = rise; all = every })
  where
    ks : List Key
    ks = map key_of sorted

    fs : List Key
    fs = firsts_after None (map key_of sorted)

    firsts : AreFirsts (map key_of sorted) (firsts_after None (map key_of sorted))
    firsts = are_firsts (map key_of sorted) (sorted_rise sorted in_order)

    stands : AllByRecursion (λ k. (qname_at files (spot_of k) ≡ k.qname) × Stands files k.qname.path k.qname.name k.file k.number) (firsts_after None (map key_of sorted))
    stands = all_more (IsFirstOf (map key_of sorted)) (λ k. (qname_at files (spot_of k) ≡ k.qname) × Stands files k.qname.path k.qname.name k.file k.number) (firsts_after None (map key_of sorted))
        (λ k is. first_stands files (map key_of sorted) (from_sorted keys sorted (keys_from names_of 0 files) all moved) (to_sorted keys sorted (keys_from names_of 0 files) all moved) k is) firsts.first

    names : map (qname_at files) (map spot_of (firsts_after None (map key_of sorted))) ≡ map (λ k. k.qname) (firsts_after None (map key_of sorted))
    names = go (firsts_after None (map key_of sorted)) stands
      where
        go : (ks : List Key) → AllByRecursion (λ k. (qname_at files (spot_of k) ≡ k.qname) × Stands files k.qname.path k.qname.name k.file k.number) ks
            → map (qname_at files) (map spot_of ks) ≡ map (λ k. k.qname) ks
        go [] each = refl
        go (k ∷ ks) each = ap (λ q. q ∷ map (qname_at files) (map spot_of ks)) each.0.0 ∙ ap (λ qs. k.qname ∷ qs) (go ks each.1)

    first : AllByRecursion (λ at. Stands files (qname_at files at).path (qname_at files at).name at.0 at.1) (map spot_of (firsts_after None (map key_of sorted)))
    first = all_map (λ at. Stands files (qname_at files at).path (qname_at files at).name at.0 at.1) spot_of (firsts_after None (map key_of sorted))
        (all_more (λ k. (qname_at files (spot_of k) ≡ k.qname) × Stands files k.qname.path k.qname.name k.file k.number) (λ k. Stands files (qname_at files (spot_of k)).path (qname_at files (spot_of k)).name k.file k.number) (firsts_after None (map key_of sorted))
        (λ k is. subst (λ (q : QName). Stands files q.path q.name k.file k.number) (sym is.0) is.1) stands)

    rise : NamesRise (map (qname_at files) (map spot_of (firsts_after None (map key_of sorted))))
    rise = subst NamesRise (sym names) firsts.rise

    every : (q : QName) → Contains (all_names files) q → Contains (map (qname_at files) (map spot_of (firsts_after None (map key_of sorted)))) q
    every q there =
        let at = has (all_names files) q there in
        let m = mapped (λ (k : Key). k.qname) (keys_from names_of 0 files) q at.0 (ap (λ qs. slice_get qs at.0) (names_from 0 files) ∙ at.1) in
        let found = firsts.every m.x (to_sorted keys sorted (keys_from names_of 0 files) all moved m.x (at.0, m.at)) in
        let here = subst (λ (q : QName). Has (map (λ k. k.qname) (firsts_after None (map key_of sorted))) q) m.is found in
        contains (map (qname_at files) (map spot_of (firsts_after None (map key_of sorted)))) q (subst (λ (qs : List QName). Has qs q) (sym names) here)

pub ok_more : {X E : Type 0} (P Q : X → Type 0) → ((x : X) → P x → Q x) → (result : Result X E) → IfOk result P → IfOk result Q
ok_more P Q more (Ok x) is = more x is
ok_more P Q more (Err e) is = is

-- ---- how many names there are

rise_at : (qs : List QName) (i j : ℕ) (a b : QName) → NamesRise qs → i < j → slice_get qs i ≡ Some a → slice_get qs j ≡ Some b → name_cmp a b ≡ Less
rise_at [] i j a b rising lt at_i at_j = absurd cc
rise_at (q ∷ qs) i zero a b rising lt at_i at_j = absurd (omega arith)
rise_at (q ∷ qs) zero (suc j) a b rising lt at_i at_j =
    let same : q ≡ a = cc in
    subst (λ (q : QName). name_cmp q b ≡ Less) same (one_of (λ r. name_cmp q r ≡ Less) qs j b rising.0 at_j)
rise_at (q ∷ qs) (suc i) (suc j) a b rising lt at_i at_j = rise_at qs i j a b rising.1 (omega arith) at_i at_j

names_once : (qs : List QName) → NamesRise qs → (i j : ℕ) (q : QName) → slice_get qs i ≡ Some q → slice_get qs j ≡ Some q → i ≡ j
names_once qs rising i j q at_i at_j = elim (cases_lt i j) [
  | inl lt ↦ absurd (not_below_itself q q (rise_at qs i j q q rising lt at_i at_j) refl)
  | inr le ↦ elim (cases_lt j i) [
    | inl lt ↦ absurd (not_below_itself q q (rise_at qs j i q q rising lt at_j at_i) refl)
    | inr ge ↦ omega arith
  ]
]

-- a name that is listed is among all names
pub among_all : (files : List Opened) (path name : List ℕ) (file number offset : ℕ) (o : Opened) → slice_get files file ≡ Some o → ListsAt o path name number offset
    → Contains (all_names files) (as_qname path name)
among_all files path name file number offset o there is =
    let at = in_all files file o there number (as_listed path name offset) is in
    contains (all_names files) (as_qname path name) (has_map qualified (all_listed files) (as_listed path name offset) at)

pub counted : (files : List Opened) (index : List Spot) → IsIndex files index → IsNameCount files (length index)
counted files index is = (map (qname_at files) index, record { once = names_once (map (qname_at files) index) is.rise; from = from; all = is.all }, length-map index (qname_at files))
  where
    from : (q : QName) → Contains (map (qname_at files) index) q → Contains (all_names files) q
    from q there =
        let at = has (map (qname_at files) index) q there in
        let m = mapped (qname_at files) index q at.0 at.1 in
        let stands = one_of (λ at. Stands files (qname_at files at).path (qname_at files at).name at.0 at.1) index at.0 m.x is.first m.at in
        subst (Contains (all_names files)) m.is (among_all files (qname_at files m.x).path (qname_at files m.x).name m.x.0 m.x.1 stands.1 stands.0 stands.2.there stands.2.listed)

-- ---- what is found by halves

module _ (files : List Opened) (index : List Spot) (is : IsIndex files index) (path name : List ℕ) where
  abbrev pub beside : Spot → Ordering
  beside at = name_cmp (qname_at files at) (as_qname path name)

  name_there : (i : ℕ) (d : Spot) → i < length index → slice_get (map (qname_at files) index) i ≡ Some (qname_at files (get_or index i d))
  name_there i d lt = slice_get-map (qname_at files) index i ∙ ap (λ (o : Option Spot). option_map (qname_at files) o) (slice_get-get_or index i d lt)

  sorted : IsSortedBy (λ a b. is_lt (name_cmp (qname_at files a) (qname_at files b))) index
  sorted k d from next =
      let here = qname_at files (get_or index k d) in
      let after = qname_at files (get_or index (k + 1) d) in
      let below : name_cmp here after ≡ Less = rise_at (map (qname_at files) index) k (k + 1) here after is.rise (omega arith) (name_there k d (omega arith)) (name_there (k + 1) d next) in
      ap is_lt (by_name.antisymm after here ∙ ap ordering_reverse below)

  pub found_there : (i : ℕ) → IsSearchInRange (Ok i) (length index) → IsBinarySearchResult beside index (Ok i) → slice_get (map (qname_at files) index) i ≡ Some (as_qname path name)
  found_there i bound equal =
      let at = some_thing index i bound in
      name_there i at bound ∙ ap (λ (q : QName). Some q) (one_name (qname_at files (get_or index i at)) (as_qname path name) (equal at))
    where
      some_thing : {X : Type 0} (ys : List X) (i : ℕ) → i < length ys → X
      some_thing [] i lt = absurd (omega arith)
      some_thing (y ∷ ys) i lt = y

  pub found_stands : (i : ℕ) (d : Spot) → i < length index → slice_get (map (qname_at files) index) i ≡ Some (as_qname path name) → Stands files path name (get_or index i d).0 (get_or index i d).1
  found_stands i d within found =
      let at = get_or index i d in
      let there = slice_get-get_or index i d within in
      let same : qname_at files at ≡ as_qname path name = some_name (sym (name_there i d within) ∙ found) in
      subst (λ (q : QName). Stands files q.path q.name at.0 at.1) same (one_of (λ at. Stands files (qname_at files at).path (qname_at files at).name at.0 at.1) index i at is.first there)
    where
      some_name : {a b : QName} → Some a ≡ Some b → a ≡ b
      some_name e = cc

  pub none_stands : (place : ℕ) → IsBinarySearchResult beside index (Err place) → IsUnknown files path name
  none_stands place parted file number offset o there is_listed =
      let at = has (map (qname_at files) index) (as_qname path name) (is.all (as_qname path name) (among_all files path name file number offset o there is_listed)) in
      let m = mapped (qname_at files) index (as_qname path name) at.0 at.1 in
      let i = at.0 in
      let within : i < length index = slice_get_within index i m.x m.at in
      let read = get_or_from_slice_get index i m.x m.x m.at in
      let same : qname_at files (get_or index i m.x) ≡ as_qname path name = ap (qname_at files) read ∙ m.is in
      let tied : beside (get_or index i m.x) ≡ Equal = ap (λ (q : QName). name_cmp q (as_qname path name)) same ∙ tied_itself by_name (as_qname path name) in
      let ordered = parted (searchable_from_sorted by_name (qname_at files) index (as_qname path name) sorted) in
      elim (cases_lt i place) [
        | inl before ↦ let no : Less ≡ Equal = sym (ordered.0 i m.x (omega arith) before) ∙ tied in absurd cc
        | inr after ↦ let no : Greater ≡ Equal = sym (ordered.1 i m.x after within) ∙ tied in absurd cc
      ]
