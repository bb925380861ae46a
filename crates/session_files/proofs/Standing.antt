-- Where the first declaration of a name stands.
use Rattle.std.proofs.Common.{◌≡◌, ℕ, zero, suc, ◌<◌, List, [], ◌∷◌, ◌++◌, Option, Some, None, slice_get, refl, sym, ap, ◌∙◌, subst, inl, inr, arith}
use Rattle.std.proofs.lemmas.Bool.{cases_lt}
use Rattle.name_index.specs.FullFile.{Listed, listed}
use Rattle.name_index.proofs.SortedLemmas.{one_number}
use Rattle.session_files.specs.Sessions.{Opened, IsSound, AreSound, IsUnknown, ListsAt, StandsIn, all_listed}
use Rattle.session_files.specs.Names.{At, offset_among, or_later, stands_at}
use Rattle.session_files.proofs.Bytes.{one_of}
use Rattle.session_files.proofs.Listed.{offset_none, offset_of_listed, listed_of_offset, unlisted_of_offset}

pub record Stood (files : List Opened) (path name : List ℕ) (at : At) : Type 0 where
  pub file : ℕ
  pub number : ℕ
  pub opened : Opened
  pub stands : StandsIn files path name file number opened at.1
  pub its_file : opened.file ≡ at.0

-- what is found stands there
pub stood : (files : List Opened) (path name : List ℕ) (at : At) → stands_at files path name ≡ Some at → Stood files path name at
stood [] path name at e = absurd cc
stood (o ∷ os) path name at e = go (offset_among path name (listed o.file.packages)) refl (stood os path name at) e
  where
    go : (x : Option ℕ) → offset_among path name (listed o.file.packages) ≡ x → (stands_at os path name ≡ Some at → Stood os path name at)
        → or_later o.file x (stands_at os path name) ≡ Some at → Stood (o ∷ os) path name at
    go (Some offset) is later e =
        let same : (o.file, offset) ≡ at = cc in
        let there = listed_of_offset o.file path name offset is in
        subst (Stood (o ∷ os) path name) same (record {
          file = 0;
          number = there.0;
          opened = o;
          stands = record { there = refl; listed = there.1; first = λ earlier k at other lt. absurd (omega arith) };
          its_file = refl;
        })
    go None is later e =
        let s = later e in
        let first : (earlier k at : ℕ) (other : Opened) → earlier < suc s.file → slice_get (o ∷ os) earlier ≡ Some other → ListsAt other path name k at → ⊥
        = firsts s in
        record { file = suc s.file; number = s.number; opened = s.opened; stands = record { there = s.stands.there; listed = s.stands.listed; first = first }; its_file = s.its_file }
      where
        firsts : (s : Stood os path name at) (earlier k at : ℕ) (other : Opened) → earlier < suc s.file → slice_get (o ∷ os) earlier ≡ Some other → ListsAt other path name k at → ⊥
        firsts s zero k at other lt there is_listed =
            let same : o ≡ other = cc in
            unlisted_of_offset o.file path name is k at (subst (λ (x : Opened). ListsAt x path name k at) (sym same) is_listed)
        firsts s (suc earlier) k at other lt there is_listed = s.stands.first earlier k at other (omega arith) there is_listed

-- where nothing is found no file lists the name
pub unknown : (files : List Opened) (path name : List ℕ) → stands_at files path name ≡ None → IsUnknown files path name
unknown [] path name e file number offset o there is = absurd cc
unknown (f ∷ fs) path name e file number offset o there is = go (offset_among path name (listed f.file.packages)) refl (unknown fs path name) e file there
  where
    go : (x : Option ℕ) → offset_among path name (listed f.file.packages) ≡ x → (stands_at fs path name ≡ None → IsUnknown fs path name)
        → or_later f.file x (stands_at fs path name) ≡ None → (file : ℕ) → slice_get (f ∷ fs) file ≡ Some o → ⊥
    go (Some x) at later e file there = absurd cc
    go None at later e zero there =
        let same : f ≡ o = cc in
        unlisted_of_offset f.file path name at number offset (subst (λ (x : Opened). ListsAt x path name number offset) (sym same) is)
    go None at later e (suc file) there = later e file number offset o there is

pub not_stood : (files : List Opened) (path name : List ℕ) → IsUnknown files path name → stands_at files path name ≡ None
not_stood [] path name none = refl
not_stood (f ∷ fs) path name none =
    ap (λ x. or_later f.file x (stands_at fs path name)) (offset_none f.file path name (λ k offset is. none 0 k offset f refl is))
    ∙ not_stood fs path name (λ file number offset o there is. none (suc file) number offset o there is)

-- what stands there is found
pub stands_again : (files : List Opened) → AreSound files → (path name : List ℕ) (file number : ℕ) (o : Opened) (offset : ℕ) → StandsIn files path name file number o offset
    → stands_at files path name ≡ Some (o.file, offset)
stands_again [] sound path name file number o offset s = let there = s.there in absurd cc
stands_again (f ∷ fs) sound path name zero number o offset s =
    let there = s.there in
    let same : f ≡ o = cc in
    let listed_here = subst (λ (x : Opened). ListsAt x path name number offset) (sym same) s.listed in
    ap (λ x. or_later f.file x (stands_at fs path name)) (offset_of_listed f.file sound.0 path name number offset listed_here)
    ∙ ap (λ (x : Opened). Some (x.file, offset)) same
stands_again (f ∷ fs) sound path name (suc file) number o offset s =
    ap (λ x. or_later f.file x (stands_at fs path name)) (offset_none f.file path name (λ k at is. s.first 0 k at f (omega arith) refl is))
    ∙ stands_again fs sound.1 path name file number o offset (record {
      there = s.there;
      listed = s.listed;
      first = λ earlier k at other lt there is. s.first (suc earlier) k at other (omega arith) there is;
    })

-- a name stands in one place
pub record SamePlace (f g i j : ℕ) (a b : Opened) (m n : ℕ) : Type 0 where
  pub files : f ≡ g
  pub numbers : i ≡ j
  pub opened : a ≡ b
  pub offsets : m ≡ n

pub one_place : (files : List Opened) → AreSound files → (path name : List ℕ) (f g i j : ℕ) (a b : Opened) (m n : ℕ) → StandsIn files path name f i a m → StandsIn files path name g j b n
    → SamePlace f g i j a b m n
one_place files sound path name f g i j a b m n first second = elim (cases_lt f g) [
  | inl lt ↦ absurd (second.first f i m a lt first.there first.listed)
  | inr le ↦ elim (cases_lt g f) [
    | inl lt ↦ absurd (first.first g j n b lt second.there second.listed)
    | inr ge ↦
        let file : f ≡ g = omega arith in
        let there = first.there in
        let also : slice_get files f ≡ Some b = ap (slice_get files) file ∙ second.there in
        let opened : a ≡ b = cc in
        let s = one_of (λ o. IsSound o.file) files g b sound second.there in
        let moved = subst (λ (x : Opened). ListsAt x path name i m) opened first.listed in
        let same = one_number s.0 b.file.bytes b.file s.1 i j path name m n moved second.listed in
        record { files = file; numbers = same.0; opened = opened; offsets = same.1 }
  ]
]

-- ---- all names

get_left : {X : Type 0} (xs ys : List X) (i : ℕ) (x : X) → slice_get xs i ≡ Some x → slice_get (xs ++ ys) i ≡ Some x
get_left [] ys i x e = absurd cc
get_left (z ∷ xs) ys zero x e = e
get_left (z ∷ xs) ys (suc i) x e = get_left xs ys i x e

get_right : {X : Type 0} (xs ys : List X) (i : ℕ) (x : X) → slice_get ys i ≡ Some x → (k : ℕ) × (slice_get (xs ++ ys) k ≡ Some x)
get_right [] ys i x e = (i, e)
get_right (z ∷ xs) ys i x e = let r = get_right xs ys i x e in (suc r.0, r.1)

-- what a file lists stands among all names
pub in_all : (files : List Opened) (file : ℕ) (o : Opened) → slice_get files file ≡ Some o → (number : ℕ) (l : Listed) → slice_get (listed o.file.packages) number ≡ Some l
    → (k : ℕ) × (slice_get (all_listed files) k ≡ Some l)
in_all [] file o there number l is = absurd cc
in_all (f ∷ fs) zero o there number l is =
    let same : f ≡ o = cc in
    (number, get_left (listed f.file.packages) (all_listed fs) number l (ap (λ (x : Opened). slice_get (listed x.file.packages) number) same ∙ is))
in_all (f ∷ fs) (suc file) o there number l is =
    let later = in_all fs file o there number l is in
    get_right (listed f.file.packages) (all_listed fs) later.0 l later.1
