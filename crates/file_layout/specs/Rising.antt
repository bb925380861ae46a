-- Things in bytewise order of their texts, one for each text.
use Rattle.std.specs.Prelude.{List, [], ◌∷◌}
use Rattle.std.specs.Cmp.Lexicographic.{slice_cmp}
use Rattle.std.specs.Ordering.{nat_cmp}
use Rattle.std.specs.declared.cmp.Ordering.{Ordering}
use Rattle.std.specs.declared.cmp.Ordering.TheVariants.{Less, Equal, Greater}
use Rattle.type_terms.specs.Trees.{Text}

abbrev pub put_by : Ordering → Text → Text → List Text → List Text → List Text
put_by Less x y ys rest = x ∷ y ∷ ys
put_by Equal x y ys rest = y ∷ ys
put_by Greater x y ys rest = y ∷ rest

-- in front of the first that is above it, unless it is there
abbrev pub put : Text → List Text → List Text
put x [] = x ∷ []
put x (y ∷ ys) = put_by (slice_cmp nat_cmp x y) x y ys (put x ys)

abbrev pub rising : List Text → List Text
rising [] = []
rising (x ∷ xs) = put x (rising xs)
