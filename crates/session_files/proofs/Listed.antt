-- Where the declaration of a name stands: as the index lists it, and as it is looked for.
use Rattle.std.proofs.Common.{◌≡◌, ℕ, zero, suc, List, [], ◌∷◌, Bool, true, false, cond, Option, Some, None, slice_get, refl, sym, ap, ◌∙◌, subst}
use Rattle.std.specs.Prelude.{nat_eq}
use Rattle.std.specs.Cmp.Lexicographic.{pointwise, bytes_decides}
use Rattle.name_index.specs.FullFile.{FullFile, Listed, listed}
use Rattle.name_index.specs.Lookup.{as_listed, IsListed}
use Rattle.name_index.proofs.SortedLemmas.{one_number}
use Rattle.session_files.specs.Sessions.{IsSound}
use Rattle.session_files.specs.Names.{is_named, offset_among}

-- where the first of some names stands that is this one
record IsAmong (path name : List ℕ) (ls : List Listed) (offset : ℕ) : Type 0 where
  pub number : ℕ
  pub at : slice_get ls number ≡ Some (as_listed path name offset)

abbrev Tells : List ℕ → List ℕ → List Listed → Option ℕ → Type 0
Tells path name ls (Some offset) = IsAmong path name ls offset
Tells path name ls None = (number offset : ℕ) → slice_get ls number ≡ Some (as_listed path name offset) → ⊥

named_is : (path name : List ℕ) (l : Listed) → is_named path name l ≡ true → l ≡ as_listed path name l.offset
named_is path name l named = go (pointwise nat_eq path l.path) (pointwise nat_eq name l.name) refl refl named
  where
    go : (a b : Bool) → pointwise nat_eq path l.path ≡ a → pointwise nat_eq name l.name ≡ b → cond a b false ≡ true → l ≡ as_listed path name l.offset
    go true true e f h = let p : path ≡ l.path = (bytes_decides path l.path).0 e in let n : name ≡ l.name = (bytes_decides name l.name).0 f in λ i. record { path = sym p i; name = sym n i; offset = l.offset }
    go true false e f h = absurd cc
    go false b e f h = absurd cc

is_named_so : (path name : List ℕ) (offset : ℕ) → is_named path name (as_listed path name offset) ≡ true
is_named_so path name offset =
    let p : pointwise nat_eq path path ≡ true = (bytes_decides path path).1 refl in
    let n : pointwise nat_eq name name ≡ true = (bytes_decides name name).1 refl in
    ap (λ b. cond b (pointwise nat_eq name name) false) p ∙ n

tells : (path name : List ℕ) (ls : List Listed) → Tells path name ls (offset_among path name ls)
tells path name [] = λ number offset at. absurd cc
tells path name (l ∷ ls) = go (is_named path name l) refl (offset_among path name ls) (tells path name ls)
  where
    go : (named : Bool) → is_named path name l ≡ named → (o : Option ℕ) → Tells path name ls o → Tells path name (l ∷ ls) (cond named (Some l.offset) o)
    go true e o t = record { number = 0; at = ap (λ l. Some l) (named_is path name l e) }
    go false e (Some offset) t = record { number = suc t.number; at = t.at }
    go false e None t = other
      where
        other : (number offset : ℕ) → slice_get (l ∷ ls) number ≡ Some (as_listed path name offset) → ⊥
        other zero offset at = let same : l ≡ as_listed path name offset = cc in let named = is_named_so path name offset in let so : is_named path name l ≡ true = ap (is_named path name) same ∙ named in absurd cc
        other (suc number) offset at = t number offset at

-- ---- what is found by halves

pub offset_none : (file : FullFile) (path name : List ℕ) → ((k offset : ℕ) → IsListed file.packages k path name offset → ⊥) → offset_among path name (listed file.packages) ≡ None
offset_none file path name none = go (offset_among path name (listed file.packages)) (tells path name (listed file.packages))
  where
    go : (o : Option ℕ) → Tells path name (listed file.packages) o → o ≡ None
    go (Some offset) t = absurd (none t.number offset t.at)
    go None t = refl

-- a name that is listed stands where it is looked for
pub offset_of_listed : (file : FullFile) → IsSound file → (path name : List ℕ) (k offset : ℕ) → IsListed file.packages k path name offset → offset_among path name (listed file.packages) ≡ Some offset
offset_of_listed file sound path name k offset at = go (offset_among path name (listed file.packages)) (tells path name (listed file.packages))
  where
    go : (o : Option ℕ) → Tells path name (listed file.packages) o → o ≡ Some offset
    go (Some other) t = ap (λ n. Some n) (one_number sound.0 file.bytes file sound.1 t.number k path name other offset t.at at).1
    go None t = absurd (t k offset at)

-- and one that is looked for is listed
pub listed_of_offset : (file : FullFile) (path name : List ℕ) (offset : ℕ) → offset_among path name (listed file.packages) ≡ Some offset → (k : ℕ) × IsListed file.packages k path name offset
listed_of_offset file path name offset e =
    let t = subst (Tells path name (listed file.packages)) e (tells path name (listed file.packages)) in
    (t.number, t.at)

pub unlisted_of_offset : (file : FullFile) (path name : List ℕ) → offset_among path name (listed file.packages) ≡ None → (k offset : ℕ) → IsListed file.packages k path name offset → ⊥
unlisted_of_offset file path name e = subst (Tells path name (listed file.packages)) e (tells path name (listed file.packages))
