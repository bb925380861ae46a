-- The index of a session: where each name is listed first, in the order of the names.
use Rattle.std.specs.Prelude.{◌≡◌, ℕ, suc, List, [], ◌∷◌, ◌++◌, map, Option, Some, None, option_map, unwrap_or}
use Rattle.std.specs.Prelude.{Bool, false, cond, nat_eq, slice_get}
use Rattle.std.specs.Option.{option_and_then}
use Rattle.std.specs.List.{AllByRecursion, Contains}
use Rattle.std.specs.Cmp.Lexicographic.{slice_cmp, pointwise}
use Rattle.std.specs.Ordering.{nat_cmp, ordering_then}
use Rattle.std.specs.declared.cmp.Ordering.{Ordering}
use Rattle.std.specs.declared.cmp.Ordering.TheVariants.{Less}
use Rattle.go_values.specs.declared.qualified.QName.{QName}
use Rattle.name_index.specs.FullFile.{Listed, listed}
use Rattle.session_files.specs.Sessions.{Opened, Stands, qualified, all_names}

abbrev pub as_qname : List ℕ → List ℕ → QName
as_qname path name = record { path = path; name = name }

-- names in order: by their paths, and then by the names themselves
abbrev pub name_cmp : QName → QName → Ordering
name_cmp a b = ordering_then (slice_cmp nat_cmp a.path b.path) (slice_cmp nat_cmp a.name b.name)

abbrev pub NamesRise : List QName → Type 0
NamesRise [] = Unit {0}
NamesRise (q ∷ qs) = AllByRecursion (λ r. name_cmp q r ≡ Less) qs × NamesRise qs

-- the numbers of a file, and of a name in its index
abbrev pub Spot : Type 0
Spot = ℕ × ℕ

abbrev pub listed_at : List Opened → Spot → Option Listed
listed_at files spot = option_and_then (λ o. slice_get (listed o.file.packages) spot.1) (slice_get files spot.0)

-- the name that is listed there, and an empty one where none is
abbrev pub qname_at : List Opened → Spot → QName
qname_at files spot = unwrap_or (option_map qualified (listed_at files spot)) (as_qname [] [])

-- Each name stands in the index once, where it is listed first, and the names rise.
pub record IsIndex (files : List Opened) (index : List Spot) : Type 0 where
  pub first : AllByRecursion
      (λ at. Stands files (qname_at files at).path (qname_at files at).name at.0 at.1) index
  pub rise : NamesRise (map (qname_at files) index)
  pub all : (q : QName) → Contains (all_names files) q → Contains (map (qname_at files) index) q

-- ---- as it is made

-- a name, and a place where it is listed
pub record Key : Type 0 where
  pub qname : QName
  pub file : ℕ
  pub number : ℕ

abbrev pub spot_of : Key → Spot
spot_of key = (key.file, key.number)

-- the names of a file, from a number on
abbrev pub keys_in : ℕ → ℕ → List Listed → List Key
keys_in file number [] = []
keys_in file number (l ∷ ls) =
    record { qname = qualified l; file = file; number = number } ∷ keys_in file (suc number) ls

-- the names that a file lists
abbrev pub names_of : Opened → List Listed
names_of o = listed o.file.packages

-- the keys of all files, by what is asked of each; the first file has this number
abbrev pub keys_from : (Opened → List Listed) → ℕ → List Opened → List Key
keys_from rows file [] = []
keys_from rows file (o ∷ os) = keys_in file 0 (rows o) ++ keys_from rows (suc file) os

-- keys in order: by their names, and then by where they are listed
abbrev pub key_cmp : Key → Key → Ordering
key_cmp a b = ordering_then (name_cmp a.qname b.qname)
    (ordering_then (nat_cmp a.file b.file) (nat_cmp a.number b.number))

abbrev pub is_same : Option QName → QName → Bool
is_same None q = false
is_same (Some p) q = cond (pointwise nat_eq p.path q.path) (pointwise nat_eq p.name q.name) false

-- the first key of each name, where this was the last name before them
abbrev pub firsts_after : Option QName → List Key → List Key
firsts_after last [] = []
firsts_after last (k ∷ ks) =
    cond (is_same last k.qname) (firsts_after (Some k.qname) ks) (k ∷ firsts_after (Some k.qname) ks)
