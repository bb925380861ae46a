-- Codes of predeclared types are set one by one.
use Rattle.std.proofs.Common.{ℕ, List, [], ◌∷◌, ◌++◌, refl, ◌∙◌}
use Rattle.std.specs.List.{AllByRecursion}
use Rattle.type_terms.specs.declared.descriptors.Node.{Node}
use Rattle.type_terms.specs.Replaced.{all_append}
use Rattle.block_walk.specs.Labels.{Labels, IsLabelled}

pub no_labels : (nodes : List Node) (numbers : List ℕ) → Labels nodes numbers numbers
no_labels nodes numbers = record { same = refl; kept = λ id made. refl; stays = λ id is. is }

pub labels_again : (nodes : List Node) (a b c : List ℕ) → Labels nodes a b → Labels nodes b c → Labels nodes a c
labels_again nodes a b c first second = record {
  same = second.same ∙ first.same;
  kept = λ id made. second.kept id made ∙ first.kept id made;
  stays = λ id is. second.stays id (first.stays id is);
}

all_stay : (nodes : List Node) (old new ids : List ℕ) → Labels nodes old new → AllByRecursion (IsLabelled nodes old) ids → AllByRecursion (IsLabelled nodes new) ids
all_stay nodes old new [] labels all = tt
all_stay nodes old new (id ∷ ids) labels all = (labels.stays id all.0, all_stay nodes old new ids labels all.1)

pub one_more : (nodes : List Node) (old new ids : List ℕ) (id : ℕ) → Labels nodes old new → AllByRecursion (IsLabelled nodes old) ids → IsLabelled nodes new id → AllByRecursion (IsLabelled nodes new) (ids ++ id ∷ [])
one_more nodes old new ids id labels all own = all_append (IsLabelled nodes new) ids (id ∷ []) (all_stay nodes old new ids labels all) (own, tt)
