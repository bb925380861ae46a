-- Texts joined in steps and in two parts.
use Rattle.std.proofs.Common.{◌≡◌, ℕ, ◌<◌, ◌+◌, ◌-◌, Ok, Err, OnOk, false, ◌||◌, List, [], ◌∷◌, ◌++◌, length, map, take, get_or, refl, ap, sym, ◌∙◌, arith, zero, suc, append_assoc}
use Rattle.std.specs.Prelude.{◌==◌, if◌then◌else◌, Result}
use Rattle.std.specs.List.{flat_map, AllByRecursion}
use Rattle.std.proofs.lemmas.Grind.{flat_map-append}
use Rattle.std.proofs.lemmas.Bool.Decides.{nat_tests}
use Rattle.std.proofs.lemmas.List.{append-nil, map-append, take_more, length-take-le}
use Rattle.std.proofs.Math.Seq.{take-length}
use Rattle.type_terms.specs.Trees.{Text}
use Rattle.type_terms.specs.Replaced.{all_left, all_right, all_append}
use Rattle.decl_text.specs.Joined.{joined, between}

not_zero : (n : ℕ) → (suc n == 0) ≡ false
not_zero n = grind (arith, nat_tests)

-- behind the first text each has the divider before it
joined_rest : (divider first : Text) (texts more : List Text) → joined divider ((first ∷ texts) ++ more) ≡ joined divider (first ∷ texts) ++ flat_map (λ (other : Text). divider ++ other) more
joined_rest divider first texts more =
    ap (λ (rest : Text). first ++ rest) (flat_map-append (λ (other : Text). divider ++ other) texts more)
    ∙ sym (append_assoc first (flat_map (λ (other : Text). divider ++ other) texts) (flat_map (λ (other : Text). divider ++ other) more))

pub joined_append : (divider : Text) (texts more : List Text) → joined divider (texts ++ more) ≡ joined divider texts ++ (between divider (length texts) (length more) ++ joined divider more)
joined_append divider [] more = refl
joined_append divider (first ∷ texts) [] =
    ap (joined divider) (append-nil (first ∷ texts)) ∙ sym (append-nil (joined divider (first ∷ texts)))
    ∙ ap (λ (rest : Text). joined divider (first ∷ texts) ++ rest) (sym (ap (λ b. (if b then [] else divider) ++ []) (ap (λ b. b || (0 == 0)) (not_zero (length texts)))))
joined_append divider (first ∷ texts) (next ∷ more) =
    joined_rest divider first texts (next ∷ more)
    ∙ ap (λ (rest : Text). joined divider (first ∷ texts) ++ rest)
    (append_assoc divider next (flat_map (λ (other : Text). divider ++ other) more)
    ∙ sym (λ i. (if not_zero (length texts) i || not_zero (length more) i then [] else divider) ++ (next ++ flat_map (λ (other : Text). divider ++ other) more)))

pub length_map : {X Y : Type 0} (f : X → Y) (xs : List X) → length (map f xs) ≡ length xs
length_map f [] = refl
length_map f (x ∷ xs) = ap suc (length_map f xs)

-- the next item of a list
pub joined_next : {X : Type 0} (divider : Text) (f : X → Text) (xs : List X) (k : ℕ) (x : X) → k < length xs
    → joined divider (map f (take (k + 1) xs)) ≡ joined divider (map f (take k xs)) ++ (between divider k 1 ++ f (get_or xs k x))
joined_next divider f xs k x h =
    let item = get_or xs k x in
    let front = map f (take k xs) in
    let size : length front ≡ k = length_map f (take k xs) ∙ length-take-le k xs (omega arith) in
    ap (λ ys. joined divider (map f ys)) (take_more xs k x h)
    ∙ ap (joined divider) (map-append f (take k xs) (item ∷ []))
    ∙ joined_append divider front (f item ∷ [])
    ∙ ap (λ n. joined divider front ++ (between divider n 1 ++ (f item ++ []))) size
    ∙ ap (λ (rest : Text). joined divider front ++ (between divider k 1 ++ rest)) (append-nil (f item))

-- the parts of one item of a list are among those of all
pub all_of_one : {X R : Type 0} (P : R → Type 0) (parts : X → List R) (xs : List X) (k : ℕ) (x : X) → k < length xs → AllByRecursion P (flat_map parts xs) → AllByRecursion P (parts (get_or xs k x))
all_of_one P parts [] k x h all = absurd (omega arith)
all_of_one P parts (y ∷ ys) zero x h all = all_left P (parts y) (flat_map parts ys) all
all_of_one P parts (y ∷ ys) (suc k) x h all = all_of_one P parts ys k x (omega arith) (all_right P (parts y) (flat_map parts ys) all)

-- what was put after what
pub put_after : (old front middle gap new text : Text) (current : Text) → current ≡ old ++ front → middle ≡ current ++ gap → new ≡ middle ++ text → new ≡ old ++ (front ++ (gap ++ text))
put_after old front middle gap new text current first second third =
    third ∙ ap (λ (t : Text). t ++ text) (second ∙ ap (λ (t : Text). t ++ gap) first) ∙ append_assoc (old ++ front) gap text ∙ append_assoc old front (gap ++ text)

pub put_two : (old first middle second new : Text) → middle ≡ old ++ first → new ≡ middle ++ second → new ≡ old ++ (first ++ second)
put_two old first middle second new one two = two ∙ ap (λ (t : Text). t ++ second) one ∙ append_assoc old first second

pub all_of_front : {X R : Type 0} (P : R → Type 0) (parts : X → List R) (xs : List X) (k : ℕ) → AllByRecursion P (flat_map parts xs) → AllByRecursion P (flat_map parts (take k xs))
all_of_front P parts xs zero all = tt
all_of_front P parts [] (suc k) all = tt
all_of_front P parts (x ∷ xs) (suc k) all =
    all_append P (parts x) (flat_map parts (take k xs)) (all_left P (parts x) (flat_map parts xs) all) (all_of_front P parts xs k (all_right P (parts x) (flat_map parts xs) all))

pub split_last : {X : Type 0} (xs : List X) (d : X) → 0 < length xs → xs ≡ take (length xs - 1) xs ++ get_or xs (length xs - 1) d ∷ []
split_last xs d some =
    let size : length xs - 1 + 1 ≡ length xs = omega arith in
    sym (take-length xs) ∙ sym (ap (λ n. take n xs) size) ∙ take_more xs (length xs - 1) d (omega arith)

pub on_ok_more : {T E : Type 0} {P Q : Type 0} (result : Result T E) → (P → Q) → OnOk result P → OnOk result Q
on_ok_more (Ok value) f p = f p
on_ok_more (Err error) f p = tt
