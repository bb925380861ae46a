-- Keys in order, and the first of each name.
use Rattle.std.proofs.Common.{◌≡◌, ◌⊎◌, ℕ, zero, suc, ◌<◌, List, [], ◌∷◌, map, Bool, true, false, cond, Some, None, slice_get, refl, sym, ap, ◌∙◌, subst, inl, inr, arith}
use Rattle.std.specs.Prelude.{nat_eq}
use Rattle.std.specs.Cmp.{IsTotalOrder}
use Rattle.std.specs.Cmp.Lexicographic.{slice_cmp, pointwise, bytes_decides}
use Rattle.std.specs.List.{AllByRecursion}
use Rattle.std.specs.Ordering.{nat_cmp, ordering_then, ordering_reverse, is_lt}
use Rattle.std.specs.declared.cmp.Ordering.{Ordering}
use Rattle.std.specs.declared.cmp.Ordering.TheVariants.{Less, Equal, Greater}
use Rattle.std.proofs.lemmas.Cmp.{nat_list_cmp_total, nat_cmp_total, then_total, on_total, tied_itself}
use Rattle.std.proofs.lemmas.Map.Lookups.{exact_bytes}
use Rattle.go_values.specs.declared.qualified.QName.{QName}
use Rattle.session_files.specs.Index.{name_cmp, NamesRise, Key, key_cmp, is_same, firsts_after}
use Rattle.session_files.proofs.Bytes.{one_of}

abbrev pub by_name : IsTotalOrder name_cmp
by_name = then_total (on_total (λ (q : QName). q.path) nat_list_cmp_total) (on_total (λ (q : QName). q.name) nat_list_cmp_total)

abbrev pub by_key : IsTotalOrder key_cmp
by_key = then_total (on_total (λ (k : Key). k.qname) by_name) (then_total (on_total (λ (k : Key). k.file) nat_cmp_total) (on_total (λ (k : Key). k.number) nat_cmp_total))

then_equal : (a b : Ordering) → ordering_then a b ≡ Equal → (a ≡ Equal) × (b ≡ Equal)
then_equal Less b e = absurd cc
then_equal Equal b e = (refl, e)
then_equal Greater b e = absurd cc

pub one_name : (a b : QName) → name_cmp a b ≡ Equal → a ≡ b
one_name a b e =
    let both = then_equal (slice_cmp nat_cmp a.path b.path) (slice_cmp nat_cmp a.name b.name) e in
    let path : a.path ≡ b.path = exact_bytes a.path b.path both.0 in
    let name : a.name ≡ b.name = exact_bytes a.name b.name both.1 in
    λ i. record { path = path i; name = name i }

below_other : (a b : QName) → is_lt (name_cmp b a) ≡ false → (a ≡ b → ⊥) → name_cmp a b ≡ Less
below_other a b le differ = go (name_cmp a b) refl
  where
    go : (r : Ordering) → name_cmp a b ≡ r → name_cmp a b ≡ Less
    go Less e = e
    go Equal e = absurd (differ (one_name a b e))
    go Greater e =
        let turned : name_cmp b a ≡ Less = by_name.antisymm b a ∙ ap ordering_reverse e in
        let no : true ≡ false = sym (ap is_lt turned) ∙ le in
        absurd cc

pub not_below_itself : (a b : QName) → name_cmp a b ≡ Less → a ≡ b → ⊥
not_below_itself a b lt same =
    let no : Less ≡ Equal = sym lt ∙ ap (name_cmp a) (sym same) ∙ tied_itself by_name a in
    absurd cc

same_is : (p q : QName) → is_same (Some p) q ≡ true → p ≡ q
same_is p q is = go (pointwise nat_eq p.path q.path) (pointwise nat_eq p.name q.name) refl refl is
  where
    go : (a b : Bool) → pointwise nat_eq p.path q.path ≡ a → pointwise nat_eq p.name q.name ≡ b → cond a b false ≡ true → p ≡ q
    go true true e f h = let path : p.path ≡ q.path = (bytes_decides p.path q.path).0 e in let name : p.name ≡ q.name = (bytes_decides p.name q.name).0 f in λ i. record { path = path i; name = name i }
    go true false e f h = absurd cc
    go false b e f h = absurd cc

differs : (p q : QName) → is_same (Some p) q ≡ false → p ≡ q → ⊥
differs p q is same =
    let path : pointwise nat_eq p.path p.path ≡ true = (bytes_decides p.path p.path).1 refl in
    let name : pointwise nat_eq p.name p.name ≡ true = (bytes_decides p.name p.name).1 refl in
    let itself : is_same (Some p) p ≡ true = ap (λ b. cond b (pointwise nat_eq p.name p.name) false) path ∙ name in
    let no : true ≡ false = sym itself ∙ ap (is_same (Some p)) same ∙ is in
    absurd cc

-- ---- lists

pub all_more : {X : Type 0} (P Q : X → Type 0) (xs : List X) → ((x : X) → P x → Q x) → AllByRecursion P xs → AllByRecursion Q xs
all_more P Q [] more all = tt
all_more P Q (x ∷ xs) more all = (more x all.0, all_more P Q xs more all.1)

all_both : {X : Type 0} (P Q R : X → Type 0) (xs : List X) → ((x : X) → P x → Q x → R x) → AllByRecursion P xs → AllByRecursion Q xs → AllByRecursion R xs
all_both P Q R [] more all too = tt
all_both P Q R (x ∷ xs) more all too = (more x all.0 too.0, all_both P Q R xs more all.1 too.1)

pub all_map : {X Y : Type 0} (P : Y → Type 0) (f : X → Y) (xs : List X) → AllByRecursion (λ x. P (f x)) xs → AllByRecursion P (map f xs)
all_map P f [] all = tt
all_map P f (x ∷ xs) all = (all.0, all_map P f xs all.1)

all_at : {X : Type 0} (P : X → Type 0) (xs : List X) → ((i : ℕ) (x : X) → slice_get xs i ≡ Some x → P x) → AllByRecursion P xs
all_at P [] each = tt
all_at P (x ∷ xs) each = (each 0 x refl, all_at P xs (λ i y at. each (suc i) y at))

abbrev pub Has : {X : Type 0} → List X → X → Type 0
Has xs x = (i : ℕ) × (slice_get xs i ≡ Some x)

-- ---- keys in order

abbrev pub Rises : List Key → Type 0
Rises [] = Unit {0}
Rises (k ∷ ks) = AllByRecursion (λ y. is_lt (key_cmp y k) ≡ false) ks × Rises ks

pub rises : (ks : List Key) → ((i j : ℕ) (a b : Key) → i < j → slice_get ks i ≡ Some a → slice_get ks j ≡ Some b → is_lt (key_cmp b a) ≡ false) → Rises ks
rises [] pairs = tt
rises (k ∷ ks) pairs = (
  all_at (λ y. is_lt (key_cmp y k) ≡ false) ks (λ j b at. pairs 0 (suc j) k b (omega arith) refl at),
  rises ks (λ i j a b lt at_i at_j. pairs (suc i) (suc j) a b (omega arith) at_i at_j),
)

name_first : (a b : Ordering) → is_lt (ordering_then a b) ≡ false → is_lt a ≡ false
name_first Less b is = is
name_first Equal b is = refl
name_first Greater b is = refl

abbrev AreFrom : QName → List Key → Type 0
AreFrom last ks = AllByRecursion (λ y. is_lt (name_cmp y.qname last) ≡ false) ks

are_from : (k : Key) (ks : List Key) → AllByRecursion (λ y. is_lt (key_cmp y k) ≡ false) ks → AreFrom k.qname ks
are_from k ks all = all_more (λ y. is_lt (key_cmp y k) ≡ false) (λ y. is_lt (name_cmp y.qname k.qname) ≡ false) ks
    (λ y is. name_first (name_cmp y.qname k.qname) (ordering_then (nat_cmp y.file k.file) (nat_cmp y.number k.number)) is) all

above : (last : QName) (ks : List Key) → AreFrom last ks → Rises ks → AllByRecursion (λ y. name_cmp last y.qname ≡ Less) (firsts_after (Some last) ks)
above last [] from up = tt
above last (k ∷ ks) from up = go (is_same (Some last) k.qname) refl (above k.qname ks (are_from k ks up.0) up.1)
  where
    go : (b : Bool) → is_same (Some last) k.qname ≡ b → AllByRecursion (λ y. name_cmp k.qname y.qname ≡ Less) (firsts_after (Some k.qname) ks)
        → AllByRecursion (λ y. name_cmp last y.qname ≡ Less) (cond b (firsts_after (Some k.qname) ks) (k ∷ firsts_after (Some k.qname) ks))
    go true e later = subst (λ (q : QName). AllByRecursion (λ y. name_cmp q y.qname ≡ Less) (firsts_after (Some k.qname) ks)) (sym (same_is last k.qname e)) later
    go false e later =
        let lt = below_other last k.qname from.0 (differs last k.qname e) in
        (lt, all_more (λ y. name_cmp k.qname y.qname ≡ Less) (λ y. name_cmp last y.qname ≡ Less) (firsts_after (Some k.qname) ks) (λ y more. by_name.trans last k.qname y.qname lt more) later)

rise_after : (last : QName) (ks : List Key) → Rises ks → NamesRise (map (λ k. k.qname) (firsts_after (Some last) ks))
rise_after last [] up = tt
rise_after last (k ∷ ks) up = go (is_same (Some last) k.qname) (rise_after k.qname ks up.1)
  where
    go : (b : Bool) → NamesRise (map (λ k. k.qname) (firsts_after (Some k.qname) ks)) → NamesRise (map (λ k. k.qname) (cond b (firsts_after (Some k.qname) ks) (k ∷ firsts_after (Some k.qname) ks)))
    go true later = later
    go false later = (all_map (λ q. name_cmp k.qname q ≡ Less) (λ y. y.qname) (firsts_after (Some k.qname) ks) (above k.qname ks (are_from k ks up.0) up.1), later)

-- the key stands there, and none of its name is below it
pub record IsFirstOf (ks : List Key) (k : Key) : Type 0 where
  pub there : Has ks k
  pub first : (y : Key) → Has ks y → y.qname ≡ k.qname → is_lt (key_cmp y k) ≡ false

wider : (k : Key) (ks : List Key) (y : Key) → name_cmp k.qname y.qname ≡ Less → IsFirstOf ks y → IsFirstOf (k ∷ ks) y
wider k ks y lt is = record { there = (suc is.there.0, is.there.1); first = first }
  where
    first : (x : Key) → Has (k ∷ ks) x → x.qname ≡ y.qname → is_lt (key_cmp x y) ≡ false
    first x (zero, at) same = let here : k ≡ x = cc in absurd (not_below_itself k.qname y.qname lt (ap (λ (k : Key). k.qname) here ∙ same))
    first x (suc i, at) same = is.first x (i, at) same

first_here : (k : Key) (ks : List Key) → AllByRecursion (λ y. is_lt (key_cmp y k) ≡ false) ks → IsFirstOf (k ∷ ks) k
first_here k ks all = record { there = (0, refl); first = first }
  where
    first : (x : Key) → Has (k ∷ ks) x → x.qname ≡ k.qname → is_lt (key_cmp x k) ≡ false
    first x (zero, at) same = let here : k ≡ x = cc in ap (λ (x : Key). is_lt (key_cmp x k)) (sym here) ∙ ap is_lt (tied_itself by_key k)
    first x (suc i, at) same = one_of (λ y. is_lt (key_cmp y k) ≡ false) ks i x all at

kept : (last : QName) (ks : List Key) → Rises ks → AllByRecursion (IsFirstOf ks) (firsts_after (Some last) ks)
kept last [] up = tt
kept last (k ∷ ks) up = go (is_same (Some last) k.qname)
    (all_both (λ y. name_cmp k.qname y.qname ≡ Less) (IsFirstOf ks) (IsFirstOf (k ∷ ks)) (firsts_after (Some k.qname) ks) (wider k ks) (above k.qname ks (are_from k ks up.0) up.1) (kept k.qname ks up.1))
  where
    go : (b : Bool) → AllByRecursion (IsFirstOf (k ∷ ks)) (firsts_after (Some k.qname) ks) → AllByRecursion (IsFirstOf (k ∷ ks)) (cond b (firsts_after (Some k.qname) ks) (k ∷ firsts_after (Some k.qname) ks))
    go true later = later
    go false later = (first_here k ks up.0, later)

abbrev Told : QName → List Key → QName → Type 0
Told last fs q = (last ≡ q) ⊎ Has (map (λ k. k.qname) fs) q

told : (last : QName) (ks : List Key) (y : Key) → Has ks y → Told last (firsts_after (Some last) ks) y.qname
told last [] y has = let at = has.1 in absurd cc
told last (k ∷ ks) y (zero, at) = let here : k ≡ y = cc in subst (λ (y : Key). Told last (firsts_after (Some last) (k ∷ ks)) y.qname) here (go (is_same (Some last) k.qname) refl)
  where
    go : (b : Bool) → is_same (Some last) k.qname ≡ b → Told last (cond b (firsts_after (Some k.qname) ks) (k ∷ firsts_after (Some k.qname) ks)) k.qname
    go true e = inl (same_is last k.qname e)
    go false e = inr (0, refl)
told last (k ∷ ks) y (suc i, at) = go (is_same (Some last) k.qname) refl (told k.qname ks y (i, at))
  where
    go : (b : Bool) → is_same (Some last) k.qname ≡ b → Told k.qname (firsts_after (Some k.qname) ks) y.qname → Told last (cond b (firsts_after (Some k.qname) ks) (k ∷ firsts_after (Some k.qname) ks)) y.qname
    go true e (inl same) = inl (same_is last k.qname e ∙ same)
    go true e (inr has) = inr has
    go false e (inl same) = inr (0, ap (λ (q : QName). Some q) same)
    go false e (inr has) = inr (suc has.0, has.1)

-- the first keys of all names
pub record AreFirsts (ks fs : List Key) : Type 0 where
  pub rise : NamesRise (map (λ k. k.qname) fs)
  pub first : AllByRecursion (IsFirstOf ks) fs
  pub every : (y : Key) → Has ks y → Has (map (λ k. k.qname) fs) y.qname

pub are_firsts : (ks : List Key) → Rises ks → AreFirsts ks (firsts_after None ks)
are_firsts [] up = record { rise = tt; first = tt; every = λ y has. let at = has.1 in absurd cc }
are_firsts (k ∷ ks) up =
    let higher = above k.qname ks (are_from k ks up.0) up.1 in
    let fs = firsts_after (Some k.qname) ks in
    record {
      rise = (all_map (λ q. name_cmp k.qname q ≡ Less) (λ y. y.qname) fs higher, rise_after k.qname ks up.1);
      first = (first_here k ks up.0, all_both (λ y. name_cmp k.qname y.qname ≡ Less) (IsFirstOf ks) (IsFirstOf (k ∷ ks)) fs (wider k ks) higher (kept k.qname ks up.1));
      every = every;
    }
  where
    every : (y : Key) → Has (k ∷ ks) y → Has (map (λ k. k.qname) (k ∷ firsts_after (Some k.qname) ks)) y.qname
    every y (zero, at) = let here : k ≡ y = cc in (0, ap (λ (y : Key). Some y.qname) here)
    every y (suc i, at) = elim (told k.qname ks y (i, at)) [
      | inl same ↦ (0, ap (λ (q : QName). Some q) same)
      | inr has ↦ (suc has.0, has.1)
    ]
