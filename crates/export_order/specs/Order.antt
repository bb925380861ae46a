-- Which declarations a file lists, in the order in which they are written: each is queued at the first mention of its
-- name, and the first that was queued is written first.
use Rattle.std.specs.Prelude.{ℕ, zero, suc, List, [], ◌∷◌, ◌++◌, Bool, cond, length, Option}
use Rattle.std.specs.List.{list_any}
use Rattle.go_values.specs.declared.qualified.QName.{QName}
use Rattle.type_terms.specs.TreeEquality.{same_name}
use Rattle.environments.specs.Environments.{Entry}
use Rattle.environments.specs.References.{entry_names}

abbrev pub is_among : List QName → QName → Bool
is_among names q = list_any (same_name q) names

-- the names of the second list that aren't in the first, each once
abbrev pub unseen : List QName → List QName → List QName
unseen seen [] = []
unseen seen (q ∷ qs) = cond (is_among seen q) (unseen seen qs) (q ∷ unseen (seen ++ q ∷ []) qs)

module _ (entries : QName → Option Entry) where
  -- the names that are done and those that are taken from the queue, at most so many
  unfoldable pub queue : ℕ → List QName → List QName → List QName
  queue zero done waiting = done
  queue (suc n) done [] = done
  queue (suc n) done (q ∷ waiting) =
      queue n (done ++ q ∷ []) (waiting ++ unseen (done ++ q ∷ waiting) (entry_names (entries q)))

  -- from some names on, where no others have declarations than these
  abbrev pub in_order : List QName → List QName → List QName
  in_order names starts = queue (length names) [] (unseen [] starts)
