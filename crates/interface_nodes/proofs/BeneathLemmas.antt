-- What both steps to the interface beneath a type give and keep.
use Rattle.std.proofs.Common.{◌≡◌, Bool, Option, Ok, Err, ap, sym, subst, ◌∙◌, inl, inr, length}
use Rattle.std.specs.Prelude.{IsOkAnd, IfSome, option_map}
use Rattle.std.specs.List.{Contains}
use Rattle.go_values.specs.declared.qualified.QName.{QName}
use Rattle.type_terms.specs.Additions.{AddsOnly, Outgrows}
use Rattle.type_terms.specs.Arenas.{Contents, AllBelow, Extends}
use Rattle.type_terms.specs.Trees.{Tree}
use Rattle.replacement.specs.declared.faults.SetFault.{SetFault}
use Rattle.replacement.specs.declared.faults.SetFault.TheVariants.{Nodes}
use Rattle.replacement.specs.Expansion.{Entries, then, defined_use, beneath}
use Rattle.environments.specs.OpenedTypes.{AddsAmong}
use Rattle.environments.specs.Kept.{World, Kept}
use Rattle.replacement.specs.Calls.{Gives, OpensDefined}
use Rattle.environments.specs.KeptLaws.{adds_wider, listed_outgrow, kept_more, kept_grown}
use Rattle.replacement.proofs.KeptLemmas.{stops_more, stops_later}
use Rattle.type_sets.specs.Interfaces.{interface_of}
use Rattle.interface_nodes.specs.declared.held.Held.{Held}
use Rattle.interface_nodes.specs.HeldNodes.{meant, held_nodes, made_for}
use Rattle.interface_nodes.specs.Beneath.{interface_beneath, OpensInterface, GivesHeld}

module _ (entries : Entries) (type : Tree) where
  opens_first : (opened : Tree) → OpensDefined entries type opened → OpensInterface entries type opened
  opens_first opened held = inl held

  -- the right side wasn't found
  pub beneath_stops : (name : Option QName) (before after : Contents) (full : Option Bool) (fault : SetFault)
      → Gives (OpensDefined entries type) before after full (Err fault) (beneath entries type (defined_use type))
      → GivesHeld name (OpensInterface entries type) before after full (Err fault) (interface_beneath entries name type)
  beneath_stops name before after full fault stops =
      stops_more (OpensDefined entries type) (OpensInterface entries type) before opens_first full fault _ _
      (λ is. ap (λ r. then r (λ under. Ok (interface_of name under))) is) stops

  pub beneath_first : (may : QName → Type 0) (old new : World) (before after : Contents) → Kept may (OpensDefined entries type) old new before after
      → Kept may (OpensInterface entries type) old new before after
  beneath_first may old new before after kept = kept_more may may (OpensDefined entries type) (OpensInterface entries type) old new before after (λ q is. is) opens_first kept

  module _ (under : Tree) (is : beneath entries type (defined_use type) ≡ Ok under) where
    opens_second : (opened : Tree) → Contains (made_for under) opened → OpensInterface entries type opened
    opens_second opened held = inr (subst (λ r. IsOkAnd r (λ u. Contains (made_for u) opened)) (sym is) held)

    pub beneath_held : (name : Option QName) (before after : Contents) (full : Option Bool) (held : Option Held)
        → option_map (meant after.nodes name) held ≡ interface_of name under → IfSome held (λ x. AllBelow (length after.nodes) (held_nodes x))
        → GivesHeld name (OpensInterface entries type) before after full (Ok held) (interface_beneath entries name type)
    beneath_held name before after full held exact within =
        (ap (λ r. then r (λ u. Ok (interface_of name u))) is ∙ ap Ok (sym exact), within)

    pub beneath_full : (before middle : Contents) → Extends before middle → AddsAmong (OpensDefined entries type) before middle → (full : Option Bool) (cause : Type 0)
        → Outgrows middle (made_for under) → Rattle.replacement.specs.Calls.Stops (OpensInterface entries type) before full Nodes cause
    beneath_full before middle grown adds full cause outgrown =
        stops_later (Contains (made_for under)) (OpensInterface entries type) before middle opens_second grown
        (adds_wider (OpensDefined entries type) (OpensInterface entries type) before middle opens_first adds) full Nodes cause cause (λ c. c)
        (listed_outgrow (made_for under) (Contains (made_for under)) middle (λ t held. held) outgrown)

    pub beneath_kept : (may : QName → Type 0) (old middle : World) (before between after : Contents) → Kept may (OpensDefined entries type) old middle before between
        → (new : World) → new.entries ≡ middle.entries → new.names ≡ middle.names → new.packages ≡ middle.packages → new.asked ≡ middle.asked → Extends between after
        → AddsOnly (made_for under) between after → Kept may (OpensInterface entries type) old new before after
    beneath_kept may old middle before between after first new entries_are names packages asked grown adds =
        kept_grown may (OpensInterface entries type) old middle before between after (beneath_first may old middle before between first)
        new entries_are names packages asked grown (adds_wider (Contains (made_for under)) (OpensInterface entries type) between after opens_second adds)
