-- Steps of items, one by one.
use Rattle.std.proofs.Common.{◌≡◌, ℕ, ◌+◌, ◌<◌, ◌≤◌, List, [], ◌∷◌, ◌++◌, length, map, drop, get_or, refl, ap, sym, ◌∙◌, append_assoc, append-nil}
use Rattle.std.proofs.lemmas.List.{drop_more, drop_all}
use Rattle.position_codec.specs.Place.{Place, place_of}
use Rattle.type_terms.specs.Trees.{Text, Tree}
use Rattle.file_layout.specs.Items.{Item, a_number, a_flag, a_text, a_path, a_position, a_type, a_whole}
use Rattle.file_layout.specs.Bytes.{place_after}
use Rattle.block_writer.specs.Adding.{meant}
use Rattle.block_writer.specs.declared.items.Item.{Item as Put}
use Rattle.block_walk.specs.declared.steps.Step.{Step as Todo}
use Rattle.block_walk.specs.Steps.{Step, say, tell, meet, file_steps, item_steps, items_steps}
use Rattle.block_walk.specs.StepsMeant.{at_file, meant_step, AddsSteps}

-- steps depend on the file of the place before alone
pub file_only : (before other : Place) (xs : List Item) → before.file ≡ other.file → items_steps before xs ≡ items_steps other xs
file_only before other [] e = refl
file_only before other (a_number n ∷ xs) e = file_only before other xs e
file_only before other (a_flag x ∷ xs) e = file_only before other xs e
file_only before other (a_text text ∷ xs) e = ap (λ ss. say text ∷ ss) (file_only before other xs e)
file_only before other (a_path path ∷ xs) e = ap (λ ss. tell path ∷ ss) (file_only before other xs e)
file_only before other (a_position pos ∷ xs) e = ap (λ file. file_steps file (place_of pos).file ++ items_steps (place_of pos) xs) e
file_only before other (a_type type ∷ xs) e = ap (λ ss. meet type ∷ ss) (file_only before other xs e)
file_only before other (a_whole signed max v ∷ xs) e = file_only before other xs e

-- one more item
pub step_next : (type : ℕ → Tree) (now new : List Todo) (all : List Step) (file next : Text) (items : List Put) (k : ℕ) (x : Put) → k < length items → x ≡ get_or items k x
    → AddsSteps now new (λ type. item_steps (at_file file) (meant type x)) → next ≡ (place_after (at_file file) (meant type x)).file
    → map (meant_step type) now ++ items_steps (at_file file) (map (meant type) (drop k items)) ≡ all
    → map (meant_step type) new ++ items_steps (at_file next) (map (meant type) (drop (k + 1) items)) ≡ all
step_next type now new all file next items k x below is adds moves was =
    let rest = map (meant type) (drop (k + 1) items) in
    let here = item_steps (at_file file) (meant type x) in
    let after = place_after (at_file file) (meant type x) in
    let split : drop k items ≡ x ∷ drop (k + 1) items = drop_more items k x below ∙ ap (λ y. y ∷ drop (k + 1) items) (sym is) in
    ap (λ ss. ss ++ items_steps (at_file next) rest) (adds type)
    ∙ append_assoc (map (meant_step type) now) here (items_steps (at_file next) rest)
    ∙ ap (λ ss. map (meant_step type) now ++ (here ++ ss)) (file_only (at_file next) after rest moves)
    ∙ ap (λ xs. map (meant_step type) now ++ items_steps (at_file file) (map (meant type) xs)) (sym split)
    ∙ was

-- no more
pub steps_done : (type : ℕ → Tree) (now : List Todo) (all : List Step) (file : Text) (items : List Put) (k : ℕ) → length items ≤ k
    → map (meant_step type) now ++ items_steps (at_file file) (map (meant type) (drop k items)) ≡ all → map (meant_step type) now ≡ all
steps_done type now all file items k done was =
    sym (append-nil (map (meant_step type) now))
    ∙ ap (λ xs. map (meant_step type) now ++ items_steps (at_file file) (map (meant type) xs)) (sym (drop_all k items done)) ∙ was
