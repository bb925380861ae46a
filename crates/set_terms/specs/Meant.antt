-- What numbers of nodes mean, and what the calls answer that fold the terms.
use Rattle.std.specs.Prelude.{◌≡◌, ℕ, List, Bool, false, map, nat_eq, Option, option_map, Result, Ok, Err, Vec}
use Rattle.type_terms.specs.declared.descriptors.Node.{Node}
use Rattle.type_terms.specs.declared.literals.Term.{Term as Code}
use Rattle.type_terms.specs.Arenas.{Contents}
use Rattle.type_terms.specs.Denotation.{tree}
use Rattle.type_terms.specs.Trees.{Tree}
use Rattle.interface_opener.specs.declared.found.Event.{Event as Noted}
use Rattle.interface_opener.specs.declared.found.Event.TheVariants.{Term as TermNoted, Interface, Ends}
use Rattle.interface_opener.specs.Numbered.{event_of}
use Rattle.interface_opening.specs.Elements.{Term, Event}
use Rattle.interface_opening.specs.Mapped.{term_mapped, event_mapped}
use Rattle.interface_opening.specs.Terms.{Choice, Sum}
use Rattle.replacement.specs.declared.faults.SetFault.{SetFault}
use Rattle.replacement.specs.Calls.{Stops}
use Rattle.common_terms.specs.Comparing.{terms_meant}
use Rattle.set_terms.specs.Shares.{Codes, listed}
use Rattle.set_terms.specs.Known.{Known}

-- the interface to whose element something comes
abbrev pub holder_of : Noted → ℕ
holder_of (TermNoted holder x) = holder
holder_of (Interface holder of) = holder
holder_of (Ends holder) = holder

-- the terms that are meant, where an arena has these nodes
module _ (nodes : List Node) where
  abbrev pub choice_meant : Codes → Choice Tree
  choice_meant c = option_map (terms_meant nodes) c

  abbrev pub sum_at : Known → ℕ → Sum Tree
  sum_at known id = record
      { of = tree nodes id; whole = choice_meant (known.wholes id); union = choice_meant (known.unions id) }

  abbrev pub term_kept : Term ℕ → Term Tree
  term_kept x = term_mapped (tree nodes) x

  abbrev pub events_meant : List Noted → List (Event Tree)
  events_meant events = map (event_mapped (tree nodes)) (map event_of events)

-- the terms that are wanted, with nodes of the arena at entry; or the fault that is, or the call stopped
abbrev pub GivesChoice : {A : Type 0} → (Tree → Type 0) → Contents → Option Bool
    → Result (Option (Vec Code A)) SetFault → Result (Choice Tree) SetFault → Type 0
GivesChoice opens before full (Ok c) want = want ≡ Ok (choice_meant before.nodes (listed c))
GivesChoice opens before full (Err fault) want = Stops opens before full fault (want ≡ Err fault)

-- the holder has what is wanted, and other interfaces have what they had
pub record HasSum (nodes : List Node) (holder : ℕ) (old new : Known) (want : Result (Sum Tree) SetFault) : Type 0 where
  pub here : want ≡ Ok (sum_at nodes new holder)
  pub wholes : (id : ℕ) → nat_eq holder id ≡ false → new.wholes id ≡ old.wholes id
  pub unions : (id : ℕ) → nat_eq holder id ≡ false → new.unions id ≡ old.unions id

abbrev pub GivesSum : (Tree → Type 0) → Contents → Option Bool → Result (Unit {0}) SetFault → ℕ → Known → Known
    → Result (Sum Tree) SetFault → Type 0
GivesSum opens before full (Ok u) holder old new want = HasSum before.nodes holder old new want
GivesSum opens before full (Err fault) holder old new want = Stops opens before full fault (want ≡ Err fault)
