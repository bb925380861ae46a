-- What the calls answer that compare terms.
use Rattle.std.specs.Prelude.{◌≡◌, ◌<◌, ℕ, List, Bool, Option, Result, Ok, Err, option_map, Vec}
use Rattle.std.specs.List.{AllByRecursion}
use Rattle.type_terms.specs.declared.literals.Term.{Term as Code}
use Rattle.type_terms.specs.Arenas.{Contents}
use Rattle.type_terms.specs.Trees.{Tree}
use Rattle.interface_opening.specs.Elements.{Term}
use Rattle.replacement.specs.declared.faults.SetFault.{SetFault}
use Rattle.replacement.specs.Calls.{Stops}
use Rattle.common_terms.specs.Comparing.{term_meant, terms_meant}

-- the types of terms stand below n
abbrev pub AllWithin : ℕ → List Code → Type 0
AllWithin n = AllByRecursion (λ x. x.ty < n)

-- what two terms have in common, with nodes of the arena at entry; or the fault that is wanted, or the call stopped
abbrev pub GivesCommon : (Tree → Type 0) → Contents → Option Bool → Result (Option Code) SetFault
    → Result (Option (Term Tree)) SetFault → Type 0
GivesCommon opens before full (Ok z) want = want ≡ Ok (option_map (term_meant before.nodes) z)
GivesCommon opens before full (Err fault) want = Stops opens before full fault (want ≡ Err fault)

-- the same of the terms that were found
abbrev pub GivesFound : (Tree → Type 0) → Contents → Option Bool → Result (Unit {0}) SetFault → List Code
    → Result (List (Term Tree)) SetFault → Type 0
GivesFound opens before full (Ok u) found want = want ≡ Ok (terms_meant before.nodes found)
GivesFound opens before full (Err fault) found want = Stops opens before full fault (want ≡ Err fault)

-- the same of the terms that are answered
abbrev pub GivesTerms : {A : Type 0} → (Tree → Type 0) → Contents → Option Bool → Result (Vec Code A) SetFault
    → Result (List (Term Tree)) SetFault → Type 0
GivesTerms opens before full (Ok terms) want = want ≡ Ok (terms_meant before.nodes terms.items)
GivesTerms opens before full (Err fault) want = Stops opens before full fault (want ≡ Err fault)
