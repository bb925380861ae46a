-- How many forms stand in a form, itself counted.
use Rattle.std.proofs.Common.{◌≡◌, ℕ, ◌+◌, List, [], ◌∷◌, sum_by, sum, map, fold, refl, ap, ◌∙◌, sym}
use Rattle.cycle_rules.specs.declared.shapes.Form.{Form}
use Rattle.cycle_rules.specs.declared.shapes.Form.TheVariants.{Stop, Held, Apply, Parts, rolls-Apply, rolls-Parts, rolls-Stop, rolls-Held}
use Rattle.cycle_rules.specs.Counting.{count_step, form_count}
use Rattle.cycle_rules.specs.declared.shapes.Form.TheOpen as layer
use Rattle.cycle_rules.specs.declared.shapes.Form.TheFolds.{fold-Form, fold-roll-Form}

fold-map : (f : Form → ℕ) (start : ℕ) (xs : List Form) → fold ◌+◌ start (map f xs) ≡ fold (λ a x. a + f x) start xs
fold-map f start [] = refl
fold-map f start (x ∷ xs) = fold-map f (start + f x) xs

sum-map : (f : Form → ℕ) (xs : List Form) → sum (map f xs) ≡ sum_by f xs
sum-map f xs = fold-map f 0 xs

pub form_count-Apply : (t : ℕ) (arguments : List Form) → form_count (Apply t arguments) ≡ 1 + sum_by form_count arguments
unfolding form_count count_step
form_count-Apply t arguments = ap form_count (sym (rolls-Apply t arguments)) ∙ fold-roll-Form ℕ count_step (layer.Apply t arguments) ∙ ap (λ n. 1 + n) (sum-map (fold-Form ℕ count_step) arguments)

pub form_count-Parts : (all : List Form) → form_count (Parts all) ≡ 1 + sum_by form_count all
unfolding form_count count_step
form_count-Parts all = ap form_count (sym (rolls-Parts all)) ∙ fold-roll-Form ℕ count_step (layer.Parts all) ∙ ap (λ n. 1 + n) (sum-map (fold-Form ℕ count_step) all)

pub form_count-Held : (i : ℕ) → form_count (Held i) ≡ 1
unfolding form_count count_step
form_count-Held i = ap form_count (sym (rolls-Held i)) ∙ fold-roll-Form ℕ count_step (layer.Held i)

pub form_count-Stop : form_count Stop ≡ 1
unfolding form_count count_step
form_count-Stop = ap form_count (sym rolls-Stop) ∙ fold-roll-Form ℕ count_step layer.Stop
