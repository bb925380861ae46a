-- The keys of all names, as they are listed.
use Rattle.std.proofs.Common.{◌≡◌, ◌⊎◌, ℕ, zero, suc, ◌+◌, List, [], ◌∷◌, ◌++◌, map, drop, Some, slice_get, refl, sym, ap, ◌∙◌, subst, inl, inr, arith}
use Rattle.std.proofs.lemmas.List.{map-append}
use Rattle.go_values.specs.declared.qualified.QName.{QName}
use Rattle.name_index.specs.FullFile.{Listed, listed}
use Rattle.session_files.specs.Sessions.{Opened, qualified, all_listed, all_names}
use Rattle.session_files.specs.OpenSessions.{key_of}
use Rattle.session_files.specs.Index.{Key, keys_in, keys_from, names_of}
use Rattle.session_files.specs.declared.index.NameKey.{NameKey}
use Rattle.session_files.proofs.LoadingLemmas.{map_join}
use Rattle.session_files.proofs.PackageLemmas.{drop_next_one}
use Rattle.session_files.proofs.KeyLemmas.{Has}

join_one : {X : Type 0} (xs : List X) (y : X) (ys : List X) → (xs ++ y ∷ []) ++ ys ≡ xs ++ y ∷ ys
join_one [] y ys = refl
join_one (x ∷ xs) y ys = ap (λ zs. x ∷ zs) (join_one xs y ys)

-- one name of a file more
pub key_put : (file : ℕ) (ls : List Listed) (n : ℕ) (l : Listed) (olds news : List NameKey) (x : NameKey) (all : List Key) → slice_get ls n ≡ Some l → news ≡ olds ++ x ∷ []
    → key_of x ≡ record { qname = qualified l; file = file; number = n } → map key_of olds ++ keys_in file n (drop n ls) ≡ all
    → map key_of news ++ keys_in file (n + 1) (drop (n + 1) ls) ≡ all
key_put file ls n l olds news x all at put is so_far =
    let one : suc n ≡ n + 1 = omega arith in
    let rest = keys_in file (n + 1) (drop (n + 1) ls) in
    ap (λ ks. map key_of ks ++ rest) put
    ∙ ap (λ ks. ks ++ rest) (map_join key_of olds x [])
    ∙ join_one (map key_of olds) (key_of x) rest
    ∙ ap (λ (k : Key). map key_of olds ++ k ∷ rest) is
    ∙ ap (λ (m : ℕ). map key_of olds ++ record { qname = qualified l; file = file; number = n } ∷ keys_in file m (drop (n + 1) ls)) (sym one)
    ∙ ap (λ ds. map key_of olds ++ keys_in file n ds) (sym (drop_next_one ls n l at))
    ∙ so_far

-- ---- what they are

names_in : (file n : ℕ) (ls : List Listed) → map (λ k. k.qname) (keys_in file n ls) ≡ map qualified ls
names_in file n [] = refl
names_in file n (l ∷ ls) = ap (λ qs. qualified l ∷ qs) (names_in file (suc n) ls)

pub names_from : (file : ℕ) (files : List Opened) → map (λ k. k.qname) (keys_from names_of file files) ≡ all_names files
names_from file [] = refl
names_from file (o ∷ os) =
    map-append (λ k. k.qname) (keys_in file 0 (listed o.file.packages)) (keys_from names_of (suc file) os)
    ∙ ap (λ qs. qs ++ map (λ k. k.qname) (keys_from names_of (suc file) os)) (names_in file 0 (listed o.file.packages))
    ∙ ap (λ qs. map qualified (listed o.file.packages) ++ qs) (names_from (suc file) os)
    ∙ sym (map-append qualified (listed o.file.packages) (all_listed os))

either_part : {X : Type 0} (xs ys : List X) (i : ℕ) (x : X) → slice_get (xs ++ ys) i ≡ Some x → (slice_get xs i ≡ Some x) ⊎ Has ys x
either_part [] ys i x at = inr (i, at)
either_part (z ∷ xs) ys zero x at = inl at
either_part (z ∷ xs) ys (suc i) x at = either_part xs ys i x at

left_part : {X : Type 0} (xs ys : List X) (i : ℕ) (x : X) → slice_get xs i ≡ Some x → slice_get (xs ++ ys) i ≡ Some x
left_part [] ys i x at = absurd cc
left_part (z ∷ xs) ys zero x at = at
left_part (z ∷ xs) ys (suc i) x at = left_part xs ys i x at

right_part : {X : Type 0} (xs ys : List X) (x : X) → Has ys x → Has (xs ++ ys) x
right_part [] ys x has = has
right_part (z ∷ xs) ys x has = let r = right_part xs ys x has in (suc r.0, r.1)

abbrev key : QName → ℕ → ℕ → Key
key q file n = record { qname = q; file = file; number = n }

key_in : (file n : ℕ) (ls : List Listed) (i : ℕ) (l : Listed) → slice_get ls i ≡ Some l → Has (keys_in file n ls) (key (qualified l) file (n + i))
key_in file n [] i l at = absurd cc
key_in file n (m ∷ ls) zero l at =
    let same : m ≡ l = cc in
    let none : n ≡ n + 0 = omega arith in
    (0, ap (λ (x : Listed). Some (key (qualified x) file n)) same ∙ ap (λ (n : ℕ). Some (key (qualified l) file n)) none)
key_in file n (m ∷ ls) (suc i) l at =
    let later = key_in file (suc n) ls i l at in
    let moved : suc n + i ≡ n + suc i = omega arith in
    (suc later.0, later.1 ∙ ap (λ (n : ℕ). Some (key (qualified l) file n)) moved)

-- each listed name has a key
pub key_from : (rows : Opened → List Listed) (first : ℕ) (files : List Opened) (file : ℕ) (o : Opened) (n : ℕ) (l : Listed) → slice_get files file ≡ Some o → slice_get (rows o) n ≡ Some l
    → Has (keys_from rows first files) (key (qualified l) (first + file) n)
key_from rows first [] file o n l there at = absurd cc
key_from rows first (f ∷ fs) zero o n l there at =
    let same : f ≡ o = cc in
    let none : first ≡ first + 0 = omega arith in
    let no : 0 + n ≡ n = omega arith in
    let has = key_in first 0 (rows f) n l (ap (λ (x : Opened). slice_get (rows x) n) same ∙ at) in (
      has.0,
      left_part (keys_in first 0 (rows f)) (keys_from rows (suc first) fs) has.0 _ has.1
          ∙ ap (λ (n : ℕ). Some (key (qualified l) first n)) no
          ∙ ap (λ (m : ℕ). Some (key (qualified l) m n)) none,
    )
key_from rows first (f ∷ fs) (suc file) o n l there at =
    let moved : suc first + file ≡ first + suc file = omega arith in
    right_part (keys_in first 0 (rows f)) (keys_from rows (suc first) fs) _ (subst (λ (m : ℕ). Has (keys_from rows (suc first) fs) (key (qualified l) m n)) moved (key_from rows (suc first) fs file o n l there at))

-- what a key says
pub record IsListedKey (rows : Opened → List Listed) (first : ℕ) (files : List Opened) (k : Key) : Type 0 where
  pub file : ℕ
  pub o : Opened
  pub l : Listed
  pub its_file : k.file ≡ first + file
  pub there : slice_get files file ≡ Some o
  pub at : slice_get (rows o) k.number ≡ Some l
  pub named : k.qname ≡ qualified l

record IsKeyIn (file n : ℕ) (ls : List Listed) (k : Key) : Type 0 where
  pub i : ℕ
  pub l : Listed
  pub at : slice_get ls i ≡ Some l
  pub its_file : k.file ≡ file
  pub number : k.number ≡ n + i
  pub named : k.qname ≡ qualified l

in_key : (file n : ℕ) (ls : List Listed) (j : ℕ) (k : Key) → slice_get (keys_in file n ls) j ≡ Some k → IsKeyIn file n ls k
in_key file n [] j k at = absurd cc
in_key file n (l ∷ ls) zero k at =
    let same : key (qualified l) file n ≡ k = cc in
    let none : n ≡ n + 0 = omega arith in
    record { i = 0; l = l; at = refl; its_file = sym (ap (λ (k : Key). k.file) same); number = sym (ap (λ (k : Key). k.number) same) ∙ none; named = sym (ap (λ (k : Key). k.qname) same) }
in_key file n (l ∷ ls) (suc j) k at =
    let later = in_key file (suc n) ls j k at in
    let moved : suc n + later.i ≡ n + suc later.i = omega arith in
    record { i = suc later.i; l = later.l; at = later.at; its_file = later.its_file; number = later.number ∙ moved; named = later.named }

pub from_key : (rows : Opened → List Listed) (first : ℕ) (files : List Opened) (k : Key) → Has (keys_from rows first files) k → IsListedKey rows first files k
from_key rows first [] k has = let at = has.1 in absurd cc
from_key rows first (o ∷ os) k has = elim (either_part (keys_in first 0 (rows o)) (keys_from rows (suc first) os) has.0 k has.1) [
  | inl here ↦
      let is = in_key first 0 (rows o) has.0 k here in
      let none : first ≡ first + 0 = omega arith in
      let number : k.number ≡ is.i = is.number ∙ omega arith in
      record { file = 0; o = o; l = is.l; its_file = is.its_file ∙ none; there = refl; at = ap (slice_get (rows o)) number ∙ is.at; named = is.named }
  | inr later ↦
      let is = from_key rows (suc first) os k later in
      let moved : suc first + is.file ≡ first + suc is.file = omega arith in
      record { file = suc is.file; o = is.o; l = is.l; its_file = is.its_file ∙ moved; there = is.there; at = is.at; named = is.named }
]
