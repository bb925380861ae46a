-- Methods in the order of their names.
use Rattle.std.specs.Prelude.{List, [], ◌∷◌, Bool, cond}
use Rattle.std.specs.Cmp.Lexicographic.{slice_cmp}
use Rattle.std.specs.Ordering.{nat_cmp, is_lt}
use Rattle.go_values.specs.declared.positions.Pos.{Pos}
use Rattle.type_terms.specs.Shapes.{MethodOf}
use Rattle.type_terms.specs.Trees.{Text, Tree}

-- a method of an interface
abbrev pub Method : Type 0
Method = MethodOf Pos Text Text Tree

-- bytewise
abbrev pub is_before : Method → Method → Bool
is_before x y = is_lt (slice_cmp nat_cmp x.name y.name)

-- in front of the first that isn't before it
abbrev pub with_method : Method → List Method → List Method
with_method x [] = x ∷ []
with_method x (y ∷ ys) = cond (is_before y x) (y ∷ with_method x ys) (x ∷ y ∷ ys)

-- those of one name as they stood
abbrev pub by_name : List Method → List Method
by_name [] = []
by_name (x ∷ xs) = with_method x (by_name xs)
