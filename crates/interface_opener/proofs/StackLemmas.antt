-- A stack of tasks, as the list of what is to be done.
use Rattle.std.proofs.Common.{◌≡◌, ℕ, zero, suc, Bool, true, List, [], ◌∷◌, ◌++◌, length, map, reverse, drop, slice_get, Some, refl, ap, sym, ◌∙◌, arith, append_assoc}
use Rattle.std.specs.Prelude.{nat_lt}
use Rattle.std.proofs.lemmas.List.{reverse-append, map-append}
use Rattle.go_values.specs.declared.qualified.QName.{QName}
use Rattle.type_terms.specs.declared.literals.Term.{Term}
use Rattle.type_terms.specs.declared.descriptors.Node.{Node}
use Rattle.interface_opening.specs.Opening.{Item, term, several_terms, element_items}
use Rattle.interface_opener.specs.declared.tasks.Task.{Task}
use Rattle.interface_opener.specs.Numbered.{by_number}
use Rattle.interface_opener.specs.Stacked.{term_of, item_of, stacked, element_at, elements_left}

-- the task that was pushed last is done first
pub stacked_pushed : (tasks : List Task) (task : Task) → stacked (tasks ++ task ∷ []) ≡ item_of task ∷ stacked tasks
stacked_pushed tasks task = ap reverse (map-append item_of tasks (task ∷ [])) ∙ reverse-append (map item_of tasks) (item_of task ∷ [])

drop_next : (xs : List Term) (k : ℕ) (x : Term) → slice_get xs k ≡ Some x → drop k xs ≡ x ∷ drop (suc k) xs
drop_next [] k x is = absurd cc
drop_next (y ∷ xs) zero x is = let same : y ≡ x = cc in ap (λ z. z ∷ xs) same
drop_next (y ∷ xs) (suc k) x is = drop_next xs k x is

drop_all : (xs : List Term) → drop (length xs) xs ≡ []
drop_all [] = refl
drop_all (x ∷ xs) = drop_all xs

module _ (holder : ℕ) (several : Bool) (terms : List Term) where
  abbrev pub left_from : ℕ → List (Item ℕ QName)
  left_from k = map (term holder several) (map term_of (drop k terms))

  pub none_left : left_from (length terms) ≡ []
  none_left = ap (λ xs. map (term holder several) (map term_of xs)) (drop_all terms)

  pub one_more : (k : ℕ) (x : Term) → slice_get terms k ≡ Some x → left_from k ≡ term holder several (term_of x) ∷ left_from (suc k)
  one_more k x is = ap (λ xs. map (term holder several) (map term_of xs)) (drop_next terms k x is)

pub several_told : (terms : List Term) → nat_lt 1 (length terms) ≡ several_terms by_number (map term_of terms)
several_told [] = refl
several_told (x ∷ []) = refl
several_told (x ∷ y ∷ rest) = by (length rest)
  where
    by : (n : ℕ) → nat_lt 1 (suc (suc n)) ≡ true
    by n = search arith

-- embedded types from a place on
next_id : (xs : List ℕ) (k : ℕ) (x : ℕ) → slice_get xs k ≡ Some x → drop k xs ≡ x ∷ drop (suc k) xs
next_id [] k x is = absurd cc
next_id (y ∷ xs) zero x is = let same : y ≡ x = cc in ap (λ z. z ∷ xs) same
next_id (y ∷ xs) (suc k) x is = next_id xs k x is

no_id : (xs : List ℕ) → drop (length xs) xs ≡ []
no_id [] = refl
no_id (x ∷ xs) = no_id xs

module _ (nodes : List Node) (holder : ℕ) (ids : List ℕ) where
  abbrev pub ids_from : ℕ → List (Item ℕ QName)
  ids_from k = elements_left nodes holder (drop k ids)

  pub no_ids_left : ids_from (length ids) ≡ []
  no_ids_left = ap (elements_left nodes holder) (no_id ids)

  -- one element more is put before those that were
  pub one_put : (k id : ℕ) → slice_get ids k ≡ Some id → (before after old : List (Item ℕ QName)) → before ≡ ids_from (suc k) ++ old
      → after ≡ element_items by_number holder (element_at nodes id) ++ before → after ≡ ids_from k ++ old
  one_put k id there before after old was is =
      is ∙ ap (λ l. element_items by_number holder (element_at nodes id) ++ l) was
      ∙ sym (append_assoc (element_items by_number holder (element_at nodes id)) (ids_from (suc k)) old)
      ∙ ap (λ l. elements_left nodes holder l ++ old) (sym (next_id ids k id there))
