-- Which defined types are open, by their names and by what is still to be done.
use Rattle.std.proofs.Common.{◌≡◌, ℕ, Bool, true, false, ◌||◌, List, [], ◌∷◌, ◌++◌, length, length-append, ◌+◌, ◌<◌, Option, Some, None, arith, true≢false, refl, ap, sym, ◌∙◌}
use Rattle.std.specs.Prelude.{IsSome, ◌↔◌}
use Rattle.std.specs.Option.{option_to_list}
use Rattle.std.specs.List.{list_any}
use Rattle.go_values.specs.declared.qualified.QName.{QName}
use Rattle.type_terms.specs.TreeEquality.{same_name}
use Rattle.interface_opening.specs.Opening.{Item, term, joins, ends, closes, closing}
use Rattle.interface_opening.proofs.OpenedLaws.{any_last}
use Rattle.interface_opener.specs.Numbered.{by_number}
use Rattle.interface_opener.specs.Stacked.{open_names}

or_swap : (a b : Bool) → (a || b) ≡ (b || a)
or_swap true true = refl
or_swap true false = refl
or_swap false true = refl
or_swap false false = refl

pub open_told : (q : QName) (due : List (Item ℕ QName)) → list_any (same_name q) (open_names due) ≡ list_any (closing by_number q) due
open_told q [] = refl
open_told q (closes p ∷ due) =
    any_last (same_name q) (open_names due) p ∙ or_swap (list_any (same_name q) (open_names due)) (same_name q p)
    ∙ ap (λ b. same_name q p || b) (open_told q due)
open_told q (term holder several x ∷ due) = open_told q due
open_told q (joins holder several x ∷ due) = open_told q due
open_told q (ends holder ∷ due) = open_told q due

front_same : (xs ys : List QName) (p q : QName) → xs ++ p ∷ [] ≡ ys ++ q ∷ [] → xs ≡ ys
front_same [] [] p q is = refl
front_same [] (y ∷ []) p q is = absurd cc
front_same [] (y ∷ z ∷ ys) p q is = absurd cc
front_same (x ∷ []) [] p q is = absurd cc
front_same (x ∷ z ∷ xs) [] p q is = absurd cc
front_same (x ∷ xs) (y ∷ ys) p q is =
    let first : x ≡ y = cc in
    let rest : xs ++ p ∷ [] ≡ ys ++ q ∷ [] = cc in
    let same = front_same xs ys p q rest in
    λ i. first i ∷ same i

-- the names before and after the last was taken out
pub ended : (now : List QName) (q : QName) (old new : List QName) (last : Option QName) → old ≡ now ++ q ∷ []
    → old ≡ new ++ option_to_list last → (IsSome last ↔ (0 < length old)) → new ≡ now
ended now q old new (Some p) is split found = sym (front_same now new q p (sym is ∙ split))
ended now q old new None is split found =
    let longer : length old ≡ length now + 1 = ap length is ∙ length-append now (q ∷ []) in
    absurd (none (found.1 (omega (arith, longer))))
  where
    none : IsSome {T = QName} None → ⊥
    none e = absurd (true≢false (sym e))
