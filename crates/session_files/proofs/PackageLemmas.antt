-- The first package with a path.
use Rattle.std.proofs.Common.{◌≡◌, ℕ, zero, suc, ◌+◌, ◌<◌, List, [], ◌∷◌, ◌++◌, Bool, true, false, cond, drop, Option, Some, None, slice_get, refl, sym, ap, ◌∙◌, arith}
use Rattle.std.specs.Prelude.{nat_eq}
use Rattle.std.specs.Cmp.Lexicographic.{pointwise, bytes_decides}
use Rattle.std.specs.List.{flat_map}
use Rattle.name_index.specs.FullFile.{Package}
use Rattle.session_files.specs.Sessions.{Opened}
use Rattle.session_files.specs.Names.{named_among}
use Rattle.session_files.specs.Answers.{packages}

pub drop_next : {X : Type 0} (xs : List X) (i : ℕ) (x : X) → slice_get xs i ≡ Some x → drop i xs ≡ x ∷ drop (suc i) xs
drop_next [] i x at = absurd cc
drop_next (y ∷ xs) zero x at = let same : y ≡ x = cc in ap (λ y. y ∷ xs) same
drop_next (y ∷ xs) (suc i) x at = drop_next xs i x at

pub drop_next_one : {X : Type 0} (xs : List X) (i : ℕ) (x : X) → slice_get xs i ≡ Some x → drop i xs ≡ x ∷ drop (i + 1) xs
drop_next_one xs i x at = let n : suc i ≡ i + 1 = omega arith in drop_next xs i x at ∙ ap (λ n. x ∷ drop n xs) n

or_else : Option (List ℕ) → Option (List ℕ) → Option (List ℕ)
or_else (Some x) later = Some x
or_else None later = later

named_joined : (path : List ℕ) (ps qs : List Package) (r : Option (List ℕ)) → named_among path ps ≡ r → named_among path (ps ++ qs) ≡ or_else r (named_among path qs)
unfolding or_else
named_joined path [] qs r is = ap (λ r. or_else r (named_among path qs)) is
named_joined path (p ∷ ps) qs r is = go (pointwise nat_eq path p.path) is (λ later. named_joined path ps qs r later)
  where
    go : (b : Bool) → cond b (Some p.name) (named_among path ps) ≡ r → (named_among path ps ≡ r → named_among path (ps ++ qs) ≡ or_else r (named_among path qs))
        → cond b (Some p.name) (named_among path (ps ++ qs)) ≡ or_else r (named_among path qs)
    go true is later = ap (λ r. or_else r (named_among path qs)) is
    go false is later = later is

other : (a b : List ℕ) → (a ≡ b → ⊥) → pointwise nat_eq a b ≡ false
other a b differ = go (pointwise nat_eq a b) refl
  where
    go : (c : Bool) → pointwise nat_eq a b ≡ c → pointwise nat_eq a b ≡ false
    go false e = e
    go true e = absurd (differ ((bytes_decides a b).0 e))

none_among : (path : List ℕ) (ps : List Package) → ((m : ℕ) (q : Package) → slice_get ps m ≡ Some q → q.path ≡ path → ⊥) → named_among path ps ≡ None
none_among path [] none = refl
none_among path (x ∷ ps) none =
    let differs = other path x.path (λ same. none 0 x refl (sym same)) in
    ap (λ b. cond b (Some x.name) (named_among path ps)) differs ∙ none_among path ps (λ m q at same. none (suc m) q at same)

first_among : (ps : List Package) (n : ℕ) (p : Package) → slice_get ps n ≡ Some p → ((m : ℕ) (q : Package) → m < n → slice_get ps m ≡ Some q → q.path ≡ p.path → ⊥) → named_among p.path ps ≡ Some p.name
first_among [] n p at first = absurd cc
first_among (x ∷ ps) zero p at first =
    let same : x ≡ p = cc in
    let is : pointwise nat_eq p.path x.path ≡ true = (bytes_decides p.path x.path).1 (ap (λ (p : Package). p.path) (sym same)) in
    ap (λ b. cond b (Some x.name) (named_among p.path ps)) is ∙ ap (λ (x : Package). Some x.name) same
first_among (x ∷ ps) (suc n) p at first =
    let differs = other p.path x.path (λ same. first 0 x (omega arith) refl (sym same)) in
    ap (λ b. cond b (Some x.name) (named_among p.path ps)) differs ∙ first_among ps n p at (λ m q lt at_m same. first (suc m) q (omega arith) at_m same)

-- no file lists the path
pub none_listed : (files : List Opened) (path : List ℕ) → ((g m : ℕ) (r : Opened) (q : Package) → slice_get files g ≡ Some r → slice_get r.file.packages m ≡ Some q → q.path ≡ path → ⊥) → packages files path ≡ None
unfolding or_else
none_listed [] path none = refl
none_listed (x ∷ xs) path none =
    named_joined path x.file.packages (flat_map (λ o. o.file.packages) xs) None (none_among path x.file.packages (λ m q at same. none 0 m x q refl at same))
    ∙ none_listed xs path (λ g m r q there at same. none (suc g) m r q there at same)

-- a package whose path no earlier file lists, and no earlier package of its file has, gives the path its name
pub first_package : (files : List Opened) (f n : ℕ) (o : Opened) (p : Package) → slice_get files f ≡ Some o → slice_get o.file.packages n ≡ Some p
    → ((g m : ℕ) (r : Opened) (q : Package) → g < f → slice_get files g ≡ Some r → slice_get r.file.packages m ≡ Some q → q.path ≡ p.path → ⊥)
    → ((m : ℕ) (q : Package) → m < n → slice_get o.file.packages m ≡ Some q → q.path ≡ p.path → ⊥) → packages files p.path ≡ Some p.name
unfolding or_else
first_package [] f n o p there at before first = absurd cc
first_package (x ∷ xs) zero n o p there at before first =
    let same : x ≡ o = cc in
    named_joined p.path x.file.packages (flat_map (λ o. o.file.packages) xs) (Some p.name) (ap (λ (o : Opened). named_among p.path o.file.packages) same ∙ first_among o.file.packages n p at first)
first_package (x ∷ xs) (suc f) n o p there at before first =
    named_joined p.path x.file.packages (flat_map (λ o. o.file.packages) xs) None (none_among p.path x.file.packages (λ m q at_m same. before 0 m x q (omega arith) refl at_m same))
    ∙ first_package xs f n o p there at (λ g m r q lt there_g at_m same. before (suc g) m r q (omega arith) there_g at_m same) first
