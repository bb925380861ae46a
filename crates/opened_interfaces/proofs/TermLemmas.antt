-- What is asked for and opened for a term, by each call that looks at it.
use Rattle.std.proofs.Common.{◌≡◌, ℕ, Bool, true, false, List, Option, None, Some, Ok, Err, refl, ap, sym, subst, ◌∙◌, inl, inr}
use Rattle.std.specs.Prelude.{Result, option_map}
use Rattle.go_values.specs.declared.qualified.QName.{QName}
use Rattle.type_terms.specs.Trees.{Tree}
use Rattle.interface_opening.specs.Elements.{Interface}
use Rattle.replacement.specs.declared.faults.SetFault.{SetFault}
use Rattle.replacement.specs.Expansion.{Entries, then, expanded}
use Rattle.replacement.specs.Calls.{Gives, AsksExpanding, OpensExpanding}
use Rattle.replacement.proofs.KeptLemmas.{stops_later, stops_more}
use Rattle.environments.specs.OpenedTypes.{AddsAmong}
use Rattle.environments.specs.KeptLaws.{adds_nothing, adds_wider}
use Rattle.interface_nodes.specs.declared.held.Held.{Held}
use Rattle.interface_nodes.specs.HeldNodes.{meant}
use Rattle.interface_nodes.specs.Beneath.{interface_beneath, OpensInterface, GivesHeld}
use Rattle.type_terms.specs.Arenas.{Contents, Extends}
use Rattle.type_terms.specs.Extensions.{extends_itself}
use Rattle.term_tests.specs.Mentions.{IsMentioned, OpensMentioned, Tells}
use Rattle.type_sets.specs.Interfaces.{SetMethod as Method}
use Rattle.type_sets.specs.TypeSets.{looks, name_of}
use Rattle.opened_interfaces.specs.Calls.{settled_for, unless_shown, seen}
use Rattle.opened_interfaces.specs.Ways.{asks, opened_for, AtShown, AtTerm, first, way}
use Rattle.opened_interfaces.proofs.GivesLemmas.{same_world, gives_later}

module _ (later entries : Entries) (more names : List QName) (type first_type : Tree) (e : later ≡ entries) (n : more ≡ names) (t : type ≡ first_type) where
  pub way_asked : (must : Bool) (q : QName) → AsksExpanding later type q → AtTerm entries names (asks entries) must first_type q
  way_asked must q held = way (same_world (λ e n t. AsksExpanding e t q) later entries more names type first_type e n t held)

  pub way_opened : (must : Bool) (u : Tree) → OpensExpanding later type u → AtTerm entries names (opened_for entries) must first_type u
  way_opened must u held = way (same_world (λ e n t. OpensExpanding e t u) later entries more names type first_type e n t held)

  pub mention_asked : (q : QName) → IsMentioned later type q → IsMentioned entries first_type q
  mention_asked q held = same_world (λ e n t. IsMentioned e t q) later entries more names type first_type e n t held

  pub mention_opened : (u : Tree) → OpensMentioned later type u → OpensMentioned entries first_type u
  mention_opened u held = same_world (λ e n t. OpensMentioned e t u) later entries more names type first_type e n t held

  pub same_expanded : expanded later more type ≡ expanded entries names first_type
  same_expanded = λ i. expanded (e i) (n i) (t i)

  pub same_whole : (looks later more).whole type ≡ (looks entries names).whole first_type
  same_whole = λ i. (looks (e i) (n i)).whole (t i)

-- a term that has to be tested
module _ (entries : Entries) (names : List QName) (type : Tree) where
  pub settled_after : (looks entries names).no_cycle type ≡ Ok tt → settled_for entries names true type ≡ expanded entries names type
  settled_after fine = ap (λ r. then r (λ u. expanded entries names type)) fine

  pub settled_fault : (f : SetFault) → (looks entries names).no_cycle type ≡ Err f → settled_for entries names true type ≡ Err f
  settled_fault f is = ap (λ r. then r (λ u. expanded entries names type)) is

-- what is seen of a type
module _ (entries : Entries) (names : List QName) (x type : Tree) where
  pub seen_by : (r : Result (Option (Interface Tree QName Method)) SetFault) → (looks entries names).beneath x ≡ r
      → seen entries names x type ≡ then r (unless_shown entries names ((looks entries names).whole type))
  seen_by r is = ap (λ r. then r (unless_shown entries names ((looks entries names).whole type))) is

  pub whole_by : (looks entries names).beneath x ≡ Ok None → (w : Result (Unit {0}) SetFault) → (looks entries names).whole type ≡ w
      → seen entries names x type ≡ then w (λ u. Ok None)
  whole_by none w is = seen_by (Ok None) none ∙ ap (λ w. then {Y = Option (Interface Tree QName Method)} w (λ u. Ok None)) is

-- Settling a type.
module _ (entries : Entries) (names : List QName) (type : Tree) where
  pub first_stops : (before after : Contents) (full : Option Bool) (f : SetFault) → Tells {X = Unit {0}} (OpensMentioned entries type) before full (Err f) ((looks entries names).no_cycle type)
      → Gives (AtTerm entries names (opened_for entries) true type) before after full (Err f) (settled_for entries names true type)
  first_stops before after full f stopped =
      stops_more (OpensMentioned entries type) (AtTerm entries names (opened_for entries) true type) before (λ t held. first refl held) full f _ _ (settled_fault entries names type f) stopped

  pub plain_goes : (must : Bool) → must ≡ false → (before after : Contents) (full : Option Bool) (r : Result ℕ SetFault) → Gives (OpensExpanding entries type) before after full r (expanded entries names type)
      → Gives (AtTerm entries names (opened_for entries) must type) before after full r (settled_for entries names must type)
  plain_goes must plain before after full r gives =
      subst (λ b. Gives (AtTerm entries names (opened_for entries) b type) before after full r (settled_for entries names b type)) (sym plain)
      (gives_later (OpensExpanding entries type) (AtTerm entries names (opened_for entries) false type) before before after (λ t held. way held) (extends_itself before)
      (adds_nothing (AtTerm entries names (opened_for entries) false type) before) full r (expanded entries names type) (settled_for entries names false type) refl gives)

module _ (later entries : Entries) (more names : List QName) (type first_type : Tree) (e : later ≡ entries) (n : more ≡ names) (t : type ≡ first_type) where
  pub first_goes : (before middle after : Contents) → Extends before middle → AddsAmong (OpensMentioned entries first_type) before middle → (full : Option Bool) (r : Result ℕ SetFault)
      → (looks entries names).no_cycle first_type ≡ Ok tt → Gives (OpensExpanding later type) middle after full r (expanded later more type)
      → Gives (AtTerm entries names (opened_for entries) true first_type) before after full r (settled_for entries names true first_type)
  first_goes before middle after grown adds full r fine gives =
      gives_later (OpensExpanding later type) (AtTerm entries names (opened_for entries) true first_type) before middle after (way_opened later entries more names type first_type e n t true) grown
      (adds_wider (OpensMentioned entries first_type) (AtTerm entries names (opened_for entries) true first_type) before middle (λ u held. first refl held) adds) full r
      (expanded later more type) (settled_for entries names true first_type) (settled_after entries names first_type fine ∙ sym (same_expanded later entries more names type first_type e n t)) gives

  -- a type that is no interface
  module _ (x : Tree) (none : (looks entries names).beneath x ≡ Ok None) where
    mentioned_opened : (u : Tree) → OpensMentioned later type u → AtShown entries names (opened_for entries) x first_type u
    mentioned_opened u held = inr (none, mention_opened later entries more names type first_type e n t u held)

    pub none_stops : (before middle after : Contents) → Extends before middle → AddsAmong (OpensInterface entries x) before middle → (full : Option Bool) (f : SetFault)
        → Tells {X = Unit {0}} (OpensMentioned later type) middle full (Err f) ((looks later more).whole type)
        → GivesHeld (name_of entries names x) (AtShown entries names (opened_for entries) x first_type) before after full (Err f) (seen entries names x first_type)
    none_stops before middle after grown adds full f stopped =
        stops_later (OpensMentioned later type) (AtShown entries names (opened_for entries) x first_type) before middle mentioned_opened grown
        (adds_wider (OpensInterface entries x) (AtShown entries names (opened_for entries) x first_type) before middle (λ u held. inl held) adds) full f _ _
        (λ is. whole_by entries names x first_type none (Err f) (sym (same_whole later entries more names type first_type e n t) ∙ is)) stopped

    pub none_goes : (looks later more).whole type ≡ Ok tt → seen entries names x first_type ≡ Ok None
    none_goes is = whole_by entries names x first_type none (Ok tt) (sym (same_whole later entries more names type first_type e n t) ∙ is)

-- The interface beneath a type.
module _ (entries : Entries) (names : List QName) (x : Tree) where
  pub held_none : (middle : Contents) (o : Option Held) → o ≡ None → (looks entries names).beneath x ≡ Ok (option_map (meant middle.nodes (name_of entries names x)) o) → (looks entries names).beneath x ≡ Ok None
  held_none middle o none is = is ∙ ap (λ o. Ok (option_map (meant middle.nodes (name_of entries names x)) o)) none

  module _ (type : Tree) where
    pub held_stops : (before after : Contents) (full : Option Bool) (f : SetFault)
        → GivesHeld (name_of entries names x) (OpensInterface entries x) before after full (Err f) (interface_beneath entries (name_of entries names x) x)
        → GivesHeld (name_of entries names x) (AtShown entries names (opened_for entries) x type) before after full (Err f) (seen entries names x type)
    held_stops before after full f stopped =
        stops_more (OpensInterface entries x) (AtShown entries names (opened_for entries) x type) before (λ t held. inl held) full f _ _ (seen_by entries names x type (Err f)) stopped

    pub held_found : (middle : Contents) (o : Option Held) (held : Held) → o ≡ Some held → (looks entries names).beneath x ≡ Ok (option_map (meant middle.nodes (name_of entries names x)) o)
        → seen entries names x type ≡ Ok (Some (meant middle.nodes (name_of entries names x) held))
    held_found middle o held some is =
        seen_by entries names x type (Ok (Some (meant middle.nodes (name_of entries names x) held))) (is ∙ ap (λ o. Ok (option_map (meant middle.nodes (name_of entries names x)) o)) some)
