-- Texts with a divider between them.
use Rattle.std.specs.Prelude.{ℕ, ◌==◌, ◌||◌, if◌then◌else◌, List, [], ◌∷◌, ◌++◌}
use Rattle.std.specs.List.{flat_map}
use Rattle.type_terms.specs.Trees.{Text}

abbrev pub joined : Text → List Text → Text
joined divider [] = []
joined divider (text ∷ texts) = text ++ flat_map (λ other. divider ++ other) texts

-- what stands between some texts and some more: the divider, where both are there
abbrev pub between : Text → ℕ → ℕ → Text
between divider first second = if first == 0 || second == 0 then [] else divider
