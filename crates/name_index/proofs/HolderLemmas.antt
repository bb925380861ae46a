-- The records behind the names of an index.
use Rattle.std.proofs.Common.{◌≡◌, ℕ, zero, suc, ◌+◌, ◌-◌, ◌<◌, ◌≤◌, leb, List, [], ◌∷◌, length, map, true, false, Option, Some, None, option_map, unwrap_or, slice_get, get_or, refl, sym, ap, subst, ◌∙◌, arith, inl, inr, add-one, nat_eq}
use Rattle.std.specs.Prelude.{IfNone}
use Rattle.std.specs.List.{AllByRecursion}
use Rattle.std.specs.List.Sorted.{IsNonDecreasingBy, IsPartitionPoint}
use Rattle.std.proofs.lemmas.Bool.{cases_lt, leb-true, leb-false}
use Rattle.std.proofs.lemmas.List.{length-map, length-append}
use Rattle.std.proofs.lemmas.Option.{slice_get_within, get_or_from_slice_get}
use Rattle.name_index.specs.declared.records.EntryRecord.{EntryRecord}
use Rattle.name_index.specs.declared.records.PackageRecord.{PackageRecord}
use Rattle.name_index.specs.FullFile.{Entry, Package, Listed, listed_in, listed}
use Rattle.wire_bytes.specs.Order.{Rise}
use Rattle.name_index.specs.Lookup.{heading_at, names_at, name_at, as_listed, IsListed}
use Rattle.file_parts.specs.Paths.{text_of, IsInside}
use Rattle.name_index.specs.Records.{entry_of, package_of, packages_of, paths_of, name_count, IsNumbered, IsHolder, IsPackageInside, IsSearchable}
use Rattle.std.specs.Cmp.Lexicographic.{pointwise}
use Rattle.name_index.proofs.RiseLemmas.{text_itself}
use Rattle.name_index.proofs.ListedLemmas.{of_map, in_map, before, placed, holder, before_later, before-named}
use Rattle.name_index.proofs.SortedLemmas.{all_at, path_once, holder_path, holder_name}

-- ---- what a record knows

first_from : (strings : List ℕ) (rs : List PackageRecord) (n j : ℕ) (r : PackageRecord) → IsNumbered n rs → slice_get rs j ≡ Some r → r.first ≡ n + before (map (package_of strings) rs) j
first_from strings [] n j r numbered at = absurd cc
first_from strings (q ∷ rs) n zero r numbered at =
    let same : q ≡ r = cc in
    omega (arith, numbered.0, ap (λ (x : PackageRecord). x.first) same)
first_from strings (q ∷ rs) n (suc j) r numbered at =
    omega (arith, first_from strings rs (n + length q.entries.items) j r numbered.1 at, length-map q.entries.items (entry_of strings))

pub first_is : (own strings : List ℕ) (rs : List PackageRecord) (j : ℕ) (r : PackageRecord) → IsNumbered 0 rs → slice_get rs j ≡ Some r → r.first ≡ before (packages_of own strings rs) j
first_is own strings rs j r numbered at =
    omega (arith, first_from strings rs 0 j r numbered at, before-named own (map (package_of strings) rs) j)

room_from : (rs : List PackageRecord) (n j : ℕ) (r : PackageRecord) → IsNumbered n rs → slice_get rs j ≡ Some r → r.first + length r.entries.items ≤ n + name_count rs
room_from [] n j r numbered at = absurd cc
room_from (q ∷ rs) n zero r numbered at =
    let same : q ≡ r = cc in
    omega (arith, numbered.0, ap (λ (x : PackageRecord). x.first) same, ap (λ (x : PackageRecord). length x.entries.items) same)
room_from (q ∷ rs) n (suc j) r numbered at = omega (arith, room_from rs (n + length q.entries.items) j r numbered.1 at)

pub room : (rs : List PackageRecord) (j : ℕ) (r : PackageRecord) → IsNumbered 0 rs → slice_get rs j ≡ Some r → r.first + length r.entries.items ≤ name_count rs
room rs j r numbered at = omega (arith, room_from rs 0 j r numbered at)

pub some_of_all : (rs : List PackageRecord) (j : ℕ) (r : PackageRecord) → slice_get rs j ≡ Some r → length r.entries.items ≤ name_count rs
some_of_all [] j r at = absurd cc
some_of_all (q ∷ rs) zero r at =
    let same : q ≡ r = cc in
    omega (arith, ap (λ (x : PackageRecord). length x.entries.items) same)
some_of_all (q ∷ rs) (suc j) r at = omega (arith, some_of_all rs j r at)

-- the package of a record
pub record Stands (own strings : List ℕ) (rs : List PackageRecord) (j : ℕ) (r : PackageRecord) : Type 0 where
  pub p : Package
  pub p_at : slice_get (packages_of own strings rs) j ≡ Some p
  pub entries_are : p.entries ≡ map (entry_of strings) r.entries.items

pub stands : (own strings : List ℕ) (rs : List PackageRecord) (j : ℕ) (r : PackageRecord) → slice_get rs j ≡ Some r → Stands own strings rs j r
stands own strings [] j r at = absurd cc
stands own strings (q ∷ rs) zero r at =
    let same : q ≡ r = cc in
    record {
      p = record { path = own; name = text_of strings q.name; entries = map (entry_of strings) q.entries.items };
      p_at = refl;
      entries_are = ap (λ (x : PackageRecord). map (entry_of strings) x.entries.items) same;
    }
stands own strings (q ∷ rs) (suc j) r at = record { p = package_of strings r; p_at = in_map (package_of strings) rs j r at; entries_are = refl }

-- the record of a package
pub record_of : (own strings : List ℕ) (rs : List PackageRecord) (j : ℕ) (p : Package) → slice_get (packages_of own strings rs) j ≡ Some p → (r : PackageRecord) × (slice_get rs j ≡ Some r)
record_of own strings [] j p at = absurd cc
record_of own strings (r ∷ rs) zero p at = (r, refl)
record_of own strings (r ∷ rs) (suc j) p at = let x = of_map (package_of strings) rs j p at in (x.0, x.1)

same_package : (ps : List Package) (i j : ℕ) (p q : Package) → i ≡ j → slice_get ps i ≡ Some p → slice_get ps j ≡ Some q → p ≡ q
same_package ps i j p q same at_i at_j = cc

-- ---- the package that lists number k

first_least : (rs : List PackageRecord) (n j : ℕ) (d : PackageRecord) → IsNumbered n rs → j < length rs → n ≤ (get_or rs j d).first
first_least [] n j d numbered lt = absurd (omega arith)
first_least (r ∷ rs) n zero d numbered lt = omega (arith, numbered.0)
first_least (r ∷ rs) n (suc j) d numbered lt = omega (arith, first_least rs (n + length r.entries.items) j d numbered.1 (omega arith))

pub firsts_rise : (n : ℕ) (rs : List PackageRecord) → IsNumbered n rs → IsNonDecreasingBy (λ r. r.first) rs
firsts_rise n [] numbered i j d le lt = absurd (omega arith)
firsts_rise n (r ∷ rs) numbered zero zero d le lt = omega arith
firsts_rise n (r ∷ rs) numbered zero (suc j) d le lt = omega (arith, numbered.0, first_least rs (n + length r.entries.items) j d numbered.1 (omega arith))
firsts_rise n (r ∷ rs) numbered (suc i) zero d le lt = absurd (omega arith)
firsts_rise n (r ∷ rs) numbered (suc i) (suc j) d le lt = firsts_rise (n + length r.entries.items) rs numbered.1 i j d (omega arith) (omega arith)

abbrev pub PartsAt : List PackageRecord → ℕ → ℕ → Type 0
PartsAt rs k after = IsPartitionPoint (λ r. leb r.first k ≡ true) (λ r. leb r.first k ≡ false) rs after

pub is_holder : (rs : List PackageRecord) (k after : ℕ) → 0 < after → after ≤ length rs → PartsAt rs k after → IsHolder rs k (after - 1)
is_holder rs k after some bound parts = record {
  within = omega arith;
  begins = λ r at. leb-true r.first k (subst (λ (x : PackageRecord). leb x.first k ≡ true) (get_or_from_slice_get rs (after - 1) r r at) (parts.0 (after - 1) r (omega arith) (omega arith)));
  last = λ i r lt at.
      let within : i < length rs = slice_get_within rs i r at in
      leb-false r.first k (subst (λ (x : PackageRecord). leb x.first k ≡ false) (get_or_from_slice_get rs i r r at) (parts.1 i r (omega arith) within));
}

pub holds_none : (rs : List PackageRecord) (k after : ℕ) → after ≡ 0 → IsNumbered 0 rs → PartsAt rs k after → length rs ≡ 0
holds_none [] k after none numbered parts = refl
holds_none (r ∷ rs) k after none numbered parts =
    let above : k < r.first = leb-false r.first k (parts.1 0 r (omega arith) (omega arith)) in
    absurd (omega (arith, numbered.0))

-- ---- number k

some_is : {Y : Type 0} (a b : Y) → Some b ≡ Some a → a ≡ b
some_is a b e = cc

mapped : {X Y : Type 0} (f : X → Y) (o : Option X) (y : Y) → Some y ≡ option_map f o → (x : X) × (o ≡ Some x) × (f x ≡ y)
mapped f None y e = absurd cc
mapped f (Some x) y e = (x, refl, some_is (f x) y e)

unmapped : {X Y : Type 0} (f : X → Y) (o : Option X) → None ≡ option_map f o → o ≡ None
unmapped f None e = refl
unmapped f (Some x) e = absurd cc

none_from : {X : Type 0} (o : Option X) → ((x : X) → o ≡ Some x → ⊥) → None ≡ o
none_from None never = refl
none_from (Some x) never = absurd (never x refl)

entry_there : (strings : List ℕ) (rs : List PackageRecord) (j i : ℕ) (r : PackageRecord) → slice_get rs j ≡ Some r → name_at (map (package_of strings) rs) j i ≡ option_map (λ e. (e.name, e.offset)) (slice_get (map (entry_of strings) r.entries.items) i)
entry_there strings rs j i r at = rw (in_map (package_of strings) rs j r at) refl

heading_path : (ps : List Package) (j : ℕ) (p : Package) (x : List ℕ × List ℕ) → slice_get ps j ≡ Some p → Some x ≡ heading_at ps j → p.path ≡ x.0
heading_path ps j p x at is =
    let there : heading_at ps j ≡ Some (p.path, p.name) = ap (λ (o : Option Package). option_map (λ p. (p.path, p.name)) o) at in
    pair_is (p.path, p.name) x (is ∙ there)
  where
    pair_is : (a b : List ℕ × List ℕ) → Some b ≡ Some a → a.0 ≡ b.0
    pair_is a b e = let same : a ≡ b = cc in ap (λ (z : List ℕ × List ℕ). z.0) same

pub entry_found : (own strings : List ℕ) (rs : List PackageRecord) (k j : ℕ) (r : PackageRecord) (heading : List ℕ × List ℕ) (entry : List ℕ × ℕ)
    → IsNumbered 0 rs → IsHolder rs k j → slice_get rs j ≡ Some r
    → Some heading ≡ heading_at (packages_of own strings rs) j → Some entry ≡ name_at (map (package_of strings) rs) j (k - r.first)
    → IsListed (packages_of own strings rs) k heading.0 entry.0 entry.1
entry_found own strings rs k j r heading entry numbered holds at heading_is entry_is =
    let ps = packages_of own strings rs in
    let s = stands own strings rs j r at in
    let e = mapped (λ e. (e.name, e.offset)) (slice_get (map (entry_of strings) r.entries.items) (k - r.first)) entry (entry_is ∙ entry_there strings rs j (k - r.first) r at) in
    let e_at : slice_get s.p.entries (k - r.first) ≡ Some e.0 = subst (λ (es : List Entry). slice_get es (k - r.first) ≡ Some e.0) (sym s.entries_are) e.1 in
    let there : IsListed ps (before ps j + (k - r.first)) s.p.path e.0.name e.0.offset = placed ps j (k - r.first) s.p e.0 s.p_at e_at in
    let number : before ps j + (k - r.first) ≡ k = omega (arith, first_is own strings rs j r numbered at, holds.begins r at) in
    let path : s.p.path ≡ heading.0 = heading_path ps j s.p heading s.p_at heading_is in
    let name : e.0.name ≡ entry.0 = ap (λ (z : List ℕ × ℕ). z.0) e.2 in
    let offset : e.0.offset ≡ entry.1 = ap (λ (z : List ℕ × ℕ). z.1) e.2 in
    settled ps (before ps j + (k - r.first)) k s.p.path heading.0 e.0.name entry.0 e.0.offset entry.1 number path name offset there
  where
    settled : (ps : List Package) (m n : ℕ) (p q a b : List ℕ) (x y : ℕ) → m ≡ n → p ≡ q → a ≡ b → x ≡ y → IsListed ps m p a x → IsListed ps n q b y
    settled ps m n p q a b x y number path name offset there = rw (← number, ← path, ← name, ← offset) there

pub entry_missing : (own strings : List ℕ) (rs : List PackageRecord) (k j : ℕ) (r : PackageRecord)
    → IsNumbered 0 rs → IsHolder rs k j → slice_get rs j ≡ Some r → None ≡ name_at (map (package_of strings) rs) j (k - r.first)
    → None ≡ slice_get (listed (packages_of own strings rs)) k
entry_missing own strings rs k j r numbered holds at missing =
    none_from (slice_get (listed ps) k) (λ x there. never x there)
  where
    ps : List Package
    ps = packages_of own strings rs

    never : (x : Listed) → slice_get (listed (packages_of own strings rs)) k ≡ Some x → ⊥
    never x there =
        let h = holder (packages_of own strings rs) k x.path x.name x.offset there in
        let s = stands own strings rs j r at in
        let begins : r.first ≤ k = holds.begins r at in
        let first : r.first ≡ before (packages_of own strings rs) j = first_is own strings rs j r numbered at in
        elim (cases_lt h.which j) [
          | inl lt ↦ omega (arith, begins, first, h.number, before_later (packages_of own strings rs) h.which j h.p s.p lt h.p_at s.p_at, slice_get_within h.p.entries h.place h.e h.e_at)
          | inr le ↦ elim (cases_lt j h.which) [
            | inl gt ↦
                let other = record_of own strings rs h.which h.p h.p_at in
                omega (arith, holds.last h.which other.0 gt other.1, first_is own strings rs h.which other.0 numbered other.1, h.number)
            | inr ge ↦
                let which : h.which ≡ j = omega arith in
                let held : h.p ≡ s.p = same_package (packages_of own strings rs) h.which j h.p s.p which h.p_at s.p_at in
                let place : h.place ≡ k - r.first = omega (arith, h.number, first, ap (before (packages_of own strings rs)) which) in
                let entries : h.p.entries ≡ map (entry_of strings) r.entries.items = ap (λ (p : Package). p.entries) held ∙ s.entries_are in
                clash (map (entry_of strings) r.entries.items) (k - r.first) h.e
                (subst (λ (n : ℕ). slice_get (map (entry_of strings) r.entries.items) n ≡ Some h.e) place (subst (λ (es : List Entry). slice_get es h.place ≡ Some h.e) entries h.e_at))
                (unmapped (λ e. (e.name, e.offset)) (slice_get (map (entry_of strings) r.entries.items) (k - r.first)) (missing ∙ entry_there strings rs j (k - r.first) r at))
          ]
        ]
      where
        clash : (es : List Entry) (i : ℕ) (e : Entry) → slice_get es i ≡ Some e → slice_get es i ≡ None → ⊥
        clash es i e here none = cc

-- ---- a name of a path

texts_of : (strings : List ℕ) (es : List EntryRecord) → map (λ e. e.name) (map (entry_of strings) es) ≡ map (λ e. text_of strings e.name) es
texts_of strings [] = refl
texts_of strings (e ∷ es) = ap (λ (ts : List (List ℕ)). text_of strings e.name ∷ ts) (texts_of strings es)

pub other_paths : (strings : List ℕ) (rs : List PackageRecord) → map (λ p. p.path) (map (package_of strings) rs) ≡ map (λ r. text_of strings r.path) rs
other_paths strings [] = refl
other_paths strings (r ∷ rs) = ap (λ (ts : List (List ℕ)). text_of strings r.path ∷ ts) (other_paths strings rs)

pub names_inside : (own strings : List ℕ) (rs : List PackageRecord) (j : ℕ) (r : PackageRecord) → IsSearchable own strings rs → slice_get rs j ≡ Some r → AllByRecursion (λ e. IsInside strings e.name) r.entries.items
names_inside own strings rs j r ready at = (all_at (IsPackageInside strings) rs j r ready.inside at).2

pub names_rise : (own strings : List ℕ) (rs : List PackageRecord) (j : ℕ) (r : PackageRecord) → IsSearchable own strings rs → slice_get rs j ≡ Some r → Rise (map (λ e. text_of strings e.name) r.entries.items)
names_rise own strings rs j r ready at =
    let s = stands own strings rs j r at in
    let rising : Rise (map (λ e. e.name) s.p.entries) = all_at (λ (p : Package). Rise (map (λ e. e.name) p.entries)) (packages_of own strings rs) j s.p ready.sorted.names s.p_at in
    subst (λ (ts : List (List ℕ)). Rise ts) (ap (λ (es : List Entry). map (λ e. e.name) es) s.entries_are ∙ texts_of strings r.entries.items) rising

pub others_rise : (own strings : List ℕ) (r : PackageRecord) (rs : List PackageRecord) → IsSearchable own strings (r ∷ rs) → Rise (map (λ r. text_of strings r.path) rs)
others_rise own strings r rs ready = subst (λ (ts : List (List ℕ)). Rise ts) (other_paths strings rs) ready.sorted.paths.1

some_text : (a b : List ℕ) → Some a ≡ Some b → a ≡ b
some_text a b e = cc

-- a path that is neither the file's own nor one of the others
pub no_other : (own strings : List ℕ) (r : PackageRecord) (rs : List PackageRecord) (path : List ℕ) → pointwise nat_eq path own ≡ false
    → ((i : ℕ) → slice_get (map (λ r. text_of strings r.path) rs) i ≡ Some path → ⊥)
    → (j : ℕ) → slice_get (paths_of own strings (r ∷ rs)) j ≡ Some path → ⊥
no_other own strings r rs path differ never zero at =
    let same : path ≡ own = sym (some_text own path at) in
    let itself : pointwise nat_eq path own ≡ true = subst (λ (t : List ℕ). pointwise nat_eq path t ≡ true) same (text_itself path) in
    absurd (let clash : false ≡ true = sym differ ∙ itself in cc)
no_other own strings r rs path differ never (suc j) at =
    never j (subst (λ (ts : List (List ℕ)). slice_get ts j ≡ Some path) (other_paths strings rs) at)

pub other_found : (own strings : List ℕ) (r : PackageRecord) (rs : List PackageRecord) (i : ℕ) (path : List ℕ)
    → slice_get (map (λ r. text_of strings r.path) rs) i ≡ Some path → slice_get (paths_of own strings (r ∷ rs)) (i + 1) ≡ Some path
other_found own strings r rs i path at =
    rw add-one (subst (λ (ts : List (List ℕ)). slice_get ts i ≡ Some path) (sym (other_paths strings rs)) at)

pub name_found : (own strings : List ℕ) (rs : List PackageRecord) (j i : ℕ) (r : PackageRecord) (path name : List ℕ) (d : EntryRecord)
    → IsNumbered 0 rs → slice_get rs j ≡ Some r → slice_get (paths_of own strings rs) j ≡ Some path
    → slice_get (map (λ e. text_of strings e.name) r.entries.items) i ≡ Some name
    → IsListed (packages_of own strings rs) (r.first + i) path name (get_or r.entries.items i d).offset
name_found own strings rs j i r path name d numbered at path_is name_is =
    let ps = packages_of own strings rs in
    let s = stands own strings rs j r at in
    let p = of_map (λ p. p.path) ps j path path_is in
    let held : s.p ≡ p.0 = same_package ps j j s.p p.0 refl s.p_at p.1 in
    let e = of_map (λ e. text_of strings e.name) r.entries.items i name name_is in
    let e_at : slice_get s.p.entries i ≡ Some (entry_of strings e.0) = subst (λ (es : List Entry). slice_get es i ≡ Some (entry_of strings e.0)) (sym s.entries_are) (in_map (entry_of strings) r.entries.items i e.0 e.1) in
    let there : IsListed ps (before ps j + i) s.p.path (text_of strings e.0.name) e.0.offset = placed ps j i s.p (entry_of strings e.0) s.p_at e_at in
    settled ps (before ps j + i) (r.first + i) s.p.path path (text_of strings e.0.name) name e.0.offset (get_or r.entries.items i d).offset
    (omega (arith, first_is own strings rs j r numbered at)) (ap (λ (p : Package). p.path) held ∙ p.2) e.2 (sym (ap (λ (x : EntryRecord). x.offset) (get_or_from_slice_get r.entries.items i e.0 d e.1))) there
  where
    settled : (ps : List Package) (m n : ℕ) (p q a b : List ℕ) (x y : ℕ) → m ≡ n → p ≡ q → a ≡ b → x ≡ y → IsListed ps m p a x → IsListed ps n q b y
    settled ps m n p q a b x y number path name offset there = rw (← number, ← path, ← name, ← offset) there

pub no_path : (own strings : List ℕ) (rs : List PackageRecord) (path name : List ℕ) → ((j : ℕ) → slice_get (paths_of own strings rs) j ≡ Some path → ⊥)
    → (k offset : ℕ) → IsListed (packages_of own strings rs) k path name offset → ⊥
no_path own strings rs path name never k offset at =
    let h = holder (packages_of own strings rs) k path name offset at in
    never h.which (holder_path (packages_of own strings rs) k path name offset h)

pub no_name : (own strings : List ℕ) (rs : List PackageRecord) (j : ℕ) (r : PackageRecord) (path name : List ℕ)
    → IsSearchable own strings rs → slice_get rs j ≡ Some r → slice_get (paths_of own strings rs) j ≡ Some path
    → ((i : ℕ) → slice_get (map (λ e. text_of strings e.name) r.entries.items) i ≡ Some name → ⊥)
    → (k offset : ℕ) → IsListed (packages_of own strings rs) k path name offset → ⊥
no_name own strings rs j r path name ready at path_is never k offset listed_at =
    let ps = packages_of own strings rs in
    let h = holder ps k path name offset listed_at in
    let which : h.which ≡ j = path_once own (paths_of own strings rs) h.which j path ready.sorted.paths (holder_path ps k path name offset h) path_is in
    let s = stands own strings rs j r at in
    let held : h.p ≡ s.p = same_package ps h.which j h.p s.p which h.p_at s.p_at in
    let texts : map (λ e. e.name) h.p.entries ≡ map (λ e. text_of strings e.name) r.entries.items
    = ap (λ (p : Package). map (λ e. e.name) p.entries) held ∙ ap (λ (es : List Entry). map (λ e. e.name) es) s.entries_are ∙ texts_of strings r.entries.items in
    never h.place (subst (λ (ts : List (List ℕ)). slice_get ts h.place ≡ Some name) texts (holder_name ps k path name offset h))

-- a fact of an answer that isn't there
pub if_none : {A : Type 0} (P : Type 0) (o : Option A) → P → IfNone o P
if_none P None fact = fact
if_none P (Some x) fact = tt

-- ---- how many names

abbrev pub entry_count : List PackageRecord → ℕ → ℕ
entry_count rs k = unwrap_or (option_map (λ r. length r.entries.items) (slice_get rs k)) 0

pub count_here : (rs : List PackageRecord) (k n : ℕ) (r : PackageRecord) → Some r ≡ slice_get rs k → n ≡ length r.entries.items → n ≡ entry_count rs k
count_here rs k n r at is = rw (← at) is

pub count_nowhere : (rs : List PackageRecord) (k : ℕ) → None ≡ slice_get rs k → 0 ≡ entry_count rs k
count_nowhere rs k at = rw (← at) refl

pub counts_are : (own strings : List ℕ) (rs : List PackageRecord) (k : ℕ) → entry_count rs k ≡ names_at (packages_of own strings rs) k
counts_are own strings [] k = refl
counts_are own strings (r ∷ rs) zero = sym (length-map r.entries.items (entry_of strings))
counts_are own strings (r ∷ rs) (suc k) = other strings rs k
  where
    other : (strings : List ℕ) (rs : List PackageRecord) (k : ℕ) → entry_count rs k ≡ names_at (map (package_of strings) rs) k
    other strings [] k = refl
    other strings (r ∷ rs) zero = sym (length-map r.entries.items (entry_of strings))
    other strings (r ∷ rs) (suc k) = other strings rs k

-- ---- how many names there are

no_names : (rs : List PackageRecord) → length rs ≡ 0 → name_count rs ≡ 0
no_names [] none = refl
no_names (q ∷ rs) none = absurd (omega (arith, none))

total_from : (rs : List PackageRecord) (n k : ℕ) (r : PackageRecord) → IsNumbered n rs → slice_get rs k ≡ Some r → length rs ≡ k + 1 → r.first + length r.entries.items ≡ n + name_count rs
total_from [] n k r numbered at last = absurd cc
total_from (q ∷ rs) n zero r numbered at last =
    let same : q ≡ r = cc in
    omega (arith, numbered.0, ap (λ (x : PackageRecord). x.first) same, ap (λ (x : PackageRecord). length x.entries.items) same, no_names rs (omega (arith, last)))
total_from (q ∷ rs) n (suc k) r numbered at last = omega (arith, total_from rs (n + length q.entries.items) k r numbered.1 at (omega (arith, last)))

-- the last record knows how many names it and those before it list
pub total : (rs : List PackageRecord) (r : PackageRecord) → IsNumbered 0 rs → slice_get rs (length rs - 1) ≡ Some r → r.first + length r.entries.items ≡ name_count rs
total [] r numbered at = absurd cc
total (q ∷ rs) r numbered at = omega (arith, total_from (q ∷ rs) 0 (length (q ∷ rs) - 1) r numbered at (omega arith))

listed_of : (strings : List ℕ) (rs : List PackageRecord) → length (listed (map (package_of strings) rs)) ≡ name_count rs
listed_of strings [] = refl
listed_of strings (r ∷ rs) =
    omega (
      arith,
      length-append (listed_in (package_of strings r)) (listed (map (package_of strings) rs)),
      listed_of strings rs,
      length-map r.entries.items (entry_of strings),
      length-map (map (entry_of strings) r.entries.items) (λ e. as_listed (text_of strings r.path) e.name e.offset),
    )

-- so many names are listed
pub listed_count : (own strings : List ℕ) (rs : List PackageRecord) → length (listed (packages_of own strings rs)) ≡ name_count rs
listed_count own strings [] = refl
listed_count own strings (r ∷ rs) =
    omega (
      arith,
      length-append (map (λ e. as_listed own e.name e.offset) (map (entry_of strings) r.entries.items)) (listed (map (package_of strings) rs)),
      listed_of strings rs,
      length-map r.entries.items (entry_of strings),
      length-map (map (entry_of strings) r.entries.items) (λ e. as_listed own e.name e.offset),
    )
