-- The numbers of names in a row, in a map by their texts.
use Rattle.std.specs.Prelude.{◌≡◌, ◌+◌, ℕ, List, Option, option_map}
use Rattle.std.specs.Borrow.{Bor}
use Rattle.std.specs.HashMap.{HashMap, get_by}
use Rattle.std.specs.Str.{bytes_eq}
use Rattle.source_scopes.specs.declared.table.Item.{Item}
use Rattle.source_scopes.specs.Scopes.{position}

abbrev pub name_of : {X : Type 0} → Item X → List ℕ
name_of item = item.name.now

abbrev pub number_in : {S : Type 0} → HashMap (Bor (List ℕ)) ℕ S → List ℕ → Option ℕ
number_in m text = get_by (λ k. bytes_eq text k.now) m

-- The map has the number of the first of each name, where they are counted from this one on, and no other name.
abbrev pub Finds : {S : Type 0} → HashMap (Bor (List ℕ)) ℕ S → ℕ → List (List ℕ) → Type 0
Finds m start names = (text : List ℕ) → number_in m text ≡ option_map (λ i. start + i) (position text names)
