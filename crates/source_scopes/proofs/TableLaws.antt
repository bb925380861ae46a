-- One more name in front of those whose numbers are in a map.
use Rattle.std.proofs.Common.{◌≡◌, ◌<◌, ◌≤◌, ◌+◌, ◌-◌, ℕ, suc, Bool, true, false, cond, List, [], ◌∷◌, length, map, drop, get_or, Option, Some, None, option_map, refl, sym, ap, ◌∙◌, arith, bytes_eq, drop-cons}
use Rattle.std.specs.Cmp.Lexicographic.{nat_list_eq_equiv}
use Rattle.std.specs.Borrow.{Bor}
use Rattle.std.proofs.lemmas.Option.{slice_get-map}
use Rattle.source_scopes.specs.declared.objects.ObjectAt.{ObjectAt}
use Rattle.source_scopes.specs.declared.table.Item.{Item}
use Rattle.source_scopes.specs.Imports.{parameter_word}
use Rattle.source_scopes.specs.Objects.{object_at, imported_as}
use Rattle.source_scopes.specs.Scopes.{position}
use Rattle.source_scopes.specs.Tables.{name_of as table_name}

pub from_zero : (p : Option ℕ) → option_map (λ i. 0 + i) p ≡ p
from_zero None = refl
from_zero (Some i) = ap Some (omega arith)

-- counted from one less
from_before : (k : ℕ) (p : Option ℕ) → option_map (λ i. suc k + i) p ≡ option_map (λ i. k + i) (option_map (λ i. suc i) p)
from_before k None = refl
from_before k (Some i) = ap Some (omega arith)

by_test : (k : ℕ) (name text : List ℕ) (p : Option ℕ) (b : Bool) → bytes_eq text name ≡ b
    → cond b (Some k) (option_map (λ i. suc k + i) p) ≡ option_map (λ i. k + i) (cond b (Some 0) (option_map (λ i. suc i) p))
by_test k name text p true e = ap Some (omega arith)
by_test k name text p false e = from_before k p

-- what an insertion leaves
pub one_more : (k : ℕ) (name : List ℕ) (names : List (List ℕ)) (old new : List ℕ → Option ℕ) → ((text : List ℕ) → old text ≡ option_map (λ i. suc k + i) (position text names))
    → ((text : List ℕ) → new text ≡ cond (bytes_eq name text) (Some k) (old text)) → (text : List ℕ) → new text ≡ option_map (λ i. k + i) (position text (name ∷ names))
one_more k name names old new knows noted text =
    noted text ∙ ap (λ b. cond b (Some k) (old text)) (nat_list_eq_equiv.symm name text) ∙ ap (cond (bytes_eq text name) (Some k)) (knows text)
    ∙ by_test k name text (position text names) (bytes_eq text name) refl

at_front : {X : Type 0} (name_of : X → List ℕ) (xs : List X) (k : ℕ) (x d : X) → suc k ≤ length xs → x ≡ get_or xs k d → map name_of (drop k xs) ≡ name_of x ∷ map name_of (drop (suc k) xs)
at_front name_of xs k x d inside item = ap (map name_of) (drop-cons xs k d (omega (arith, inside)) ∙ ap (λ y. y ∷ drop (suc k) xs) (sym item))

one_less : (left : ℕ) → 0 < left → suc (left - 1) ≡ left
one_less left h = omega (arith, h)

pub turn : {X : Type 0} (name_of : X → List ℕ) (xs : List X) (left : ℕ) (x d : X) (old new : List ℕ → Option ℕ) → 0 < left → left ≤ length xs → x ≡ get_or xs (left - 1) d
    → ((text : List ℕ) → old text ≡ option_map (λ i. left + i) (position text (map name_of (drop left xs))))
    → ((text : List ℕ) → new text ≡ cond (bytes_eq (name_of x) text) (Some (left - 1)) (old text))
    → (text : List ℕ) → new text ≡ option_map (λ i. (left - 1) + i) (position text (map name_of (drop (left - 1) xs)))
turn name_of xs left x d old new some inside item knows noted text =
    one_more (left - 1) (name_of x) (map name_of (drop left xs)) old new (λ t. knows t ∙ ap (λ k. option_map (λ i. k + i) (position t (map name_of (drop left xs)))) (sym (one_less left some))) noted text
    ∙ ap (λ names. option_map (λ i. (left - 1) + i) (position text names)) (sym (at_front name_of xs (left - 1) x d (omega (arith, some, inside)) item ∙ ap (λ k. name_of x ∷ map name_of (drop k xs)) (one_less left some)))

-- ---- names of what stands in tables

pub names_of_objects : (xs : List (Item ObjectAt)) → map table_name xs ≡ map (λ o. o.name.text) (map object_at xs)
names_of_objects [] = refl
names_of_objects (x ∷ xs) = ap (λ k. x.name.now ∷ k) (names_of_objects xs)

pub names_of_imports : (xs : List (Item (Bor (List ℕ)))) → map table_name xs ≡ map (λ i. i.name) (map imported_as xs)
names_of_imports [] = refl
names_of_imports (x ∷ xs) = ap (λ k. x.name.now ∷ k) (names_of_imports xs)

pub names_of_parameters : (xs : List (Item ℕ)) → map table_name xs ≡ map (λ w. w.text) (map parameter_word xs)
names_of_parameters [] = refl
names_of_parameters (x ∷ xs) = ap (λ k. x.name.now ∷ k) (names_of_parameters xs)

pub ruleset names = (names_of_objects, names_of_imports, names_of_parameters, slice_get-map)
