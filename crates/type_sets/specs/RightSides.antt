-- What is answered of an alias that has arguments: what its right side answers, in which a type parameter answers what
-- the argument in its place did. R is what is answered.
use Rattle.std.specs.Prelude.{List, [], ◌∷◌, ◌==◌, cond, length, Result, Ok, Err}
use Rattle.go_values.specs.declared.qualified.QName.{QName}
use Rattle.type_terms.specs.Trees.{Tree}
use Rattle.type_terms.specs.TreeEquality.{same_name}
use Rattle.type_terms.specs.Declarations.{Decl, renamed_of}
use Rattle.replacement.specs.declared.faults.SetFault.{SetFault}
use Rattle.replacement.specs.declared.faults.SetFault.TheVariants.{Arity, Kind}
use Rattle.replacement.specs.Expansion.{parameter_names, capped}

module _ {R : Type 0} (fails : SetFault → R) (itself : QName → R) where
  -- what was answered of the argument for the first parameter of this name; one for which there is none is itself
  abbrev pub passed_on : List QName → List R → QName → R
  passed_on (p ∷ ps) (answer ∷ answers) q = cond (same_name q p) answer (passed_on ps answers q)
  passed_on _ _ q = itself q

  -- There are as many arguments as parameters, and none where there are none.
  abbrev pub by_declared : (Tree → (QName → R) → R) → QName → List R → Decl → R
  by_declared inside q [] (renamed_of pos [] right) = inside right itself
  by_declared inside q (answer ∷ answers) (renamed_of pos [] right) = fails (Kind q)
  by_declared inside q answers (renamed_of pos (p ∷ ps) right) =
      cond (length answers == length (p ∷ ps)) (inside right (passed_on (parameter_names (p ∷ ps)) answers))
      (fails (Arity q (capped (length (p ∷ ps))) (capped (length answers))))
  by_declared inside q answers _ = fails (Kind q)

  abbrev pub by_right : (Tree → (QName → R) → R) → QName → List R → Result Decl SetFault → R
  by_right inside q answers (Ok decl) = by_declared inside q answers decl
  by_right inside q answers (Err fault) = fails fault
