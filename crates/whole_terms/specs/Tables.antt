-- What is told of aliases: which of its type parameters the right side of each comes to, and a breach behind them.
use Rattle.std.specs.Prelude.{ℕ, zero, suc, List, [], ◌∷◌, ◌==◌, cond, length, map, Option, Some, None, Result, Ok, Err, option_map}
use Rattle.std.specs.Map.{lookup}
use Rattle.go_values.specs.declared.qualified.QName.{QName}
use Rattle.type_terms.specs.TreeEquality.{same_name}
use Rattle.replacement.specs.declared.faults.SetFault.{SetFault}
use Rattle.replacement.specs.declared.faults.SetFault.TheVariants.{Arity, Kind, TermInterface}
use Rattle.replacement.specs.Expansion.{capped}
use Rattle.type_sets.specs.RightSides.{passed_on}
use Rattle.type_sets.specs.TermTests.{Tested, fine, both, all_fine}
use Rattle.whole_terms.specs.declared.breaches.Breach.{Breach}
use Rattle.whole_terms.specs.declared.breaches.Breach.TheVariants.{Interface, WrongKind, WrongNumber}
use Rattle.whole_terms.specs.declared.summaries.Summary.{Summary}

abbrev pub fault_of : Breach → SetFault
fault_of Interface = TermInterface
fault_of (WrongKind q) = Kind q
fault_of (WrongNumber q want have) = Arity q want have

-- the type parameters, those that are come to, in order, and the breach, if there is one
pub record Told : Type 0 where
  pub names : List QName
  pub looks : List QName
  pub breach : Option Breach

abbrev pub ended : Option Breach → Tested
ended None = fine
ended (Some breach) = Err (fault_of breach)

-- what comes of these type parameters, and of the breach behind them, where the parameters answer so
abbrev pub looked : (QName → Tested) → List QName → Option Breach → Tested
looked given looks breach = both (all_fine (map given looks)) (ended breach)

-- as many arguments as parameters are wanted, and none where there are none
abbrev pub wrong_use : QName → ℕ → ℕ → Breach
wrong_use q zero have = WrongKind q
wrong_use q (suc want) have = WrongNumber q (capped (suc want)) (capped have)

-- what an alias answers whose arguments answered; one of which nothing is told is fine
abbrev pub used : QName → Option Told → List Tested → Tested
used q None answers = fine
used q (Some told) answers = cond (length answers == length told.names)
    (looked (passed_on Err (λ p. fine) told.names answers) told.looks told.breach)
    (Err (fault_of (wrong_use q (length told.names) (length answers))))

abbrev pub Table : Type 0
Table = QName → Option Told

abbrev pub by_table : Table → QName → List Tested → Tested
by_table table q answers = used q (table q) answers

-- what a summary tells
abbrev pub told : Summary → Told
told summary = record { names = summary.tparams.items; looks = summary.looks.keys; breach = summary.breach }

abbrev pub table_of : List (QName × Summary) → Table
table_of entries q = option_map told (lookup (same_name q) entries)
