-- What a term leads to, where its type was settled.
use Rattle.std.proofs.Common.{◌≡◌, ℕ, ◌<◌, Bool, true, false, ◌||◌, List, ◌∷◌, length, Option, Some, None, Ok, Err, ap, sym, subst, ◌∙◌}
use Rattle.std.specs.Prelude.{Result, IfSome, nat_eq}
use Rattle.std.specs.List.{list_any}
use Rattle.go_values.specs.declared.qualified.QName.{QName}
use Rattle.type_terms.specs.Arenas.{Contents, IsArena, Extends}
use Rattle.type_terms.specs.Denotation.{tree}
use Rattle.type_terms.specs.Extensions.{extends_tree, extends_longer}
use Rattle.type_terms.specs.Trees.{Tree}
use Rattle.type_terms.specs.TreeEquality.{same_name}
use Rattle.interface_opening.specs.Elements.{has_term, Opened, Looks}
use Rattle.interface_opening.specs.Opening.{Item, joins, Step, goes, stops, opens, noting, closing, is_open, unless_open, new_or_known, joined, shown, step, tested}
use Rattle.replacement.specs.declared.faults.SetFault.{SetFault}
use Rattle.replacement.specs.declared.faults.SetFault.TheVariants.{EmbedCycle}
use Rattle.replacement.specs.Expansion.{Entries, then, expanded}
use Rattle.replacement.specs.Calls.{Stops, Gives}
use Rattle.replacement.proofs.KeptLemmas.{stops_more}
use Rattle.environments.specs.OpenedTypes.{AddsAmong}
use Rattle.interface_nodes.specs.Beneath.{GivesHeld}
use Rattle.type_sets.specs.Interfaces.{SetMethod as Method}
use Rattle.type_sets.specs.TypeSets.{looks, name_of}
use Rattle.interface_nodes.specs.declared.methods.SetMethod.{SetMethod}
use Rattle.interface_nodes.specs.declared.held.Held.{Held}
use Rattle.interface_nodes.specs.HeldNodes.{meant}
use Rattle.interface_opener.specs.Numbered.{by_number}
use Rattle.interface_opener.proofs.OpenLemmas.{open_told}
use Rattle.opened_interfaces.specs.declared.run.Part.{Part}
use Rattle.opened_interfaces.specs.Calls.{settled_for, seen, part_item, IsRun, IsClosed, GivesStep}
use Rattle.opened_interfaces.specs.declared.run.Run.{Run}
use Rattle.opened_interfaces.specs.declared.run.Met.{Met}
use Rattle.opened_interfaces.specs.Ways.{asks, opened_for, AtShown, AtTerm, AtItem, shown as shown_at}
use Rattle.opened_interfaces.proofs.GivesLemmas.{same_world, step_later}
use Rattle.opened_interfaces.specs.Meant.{item_mapped, known_meant, due_meant, IsWithin}
use Rattle.opened_interfaces.proofs.StayLemmas.{known_stays, within_more, due_more}
use Rattle.opened_interfaces.proofs.TieLemmas.{closing_tied, noting_tied, has_tied}
use Rattle.opened_interfaces.proofs.WithinLemmas.{noting_within}
use Rattle.opened_interfaces.proofs.StepLemmas.{term_settled, term_stops, closed_goes, open_stops, known_joins, new_shows, shown_goes, shown_opens, shown_stops}

module _ (entries : Entries) (names : List QName) (before middle : Contents) (grown : Extends before middle) (arena : IsArena middle.nodes) (part : Part)
    (due : List (Item ℕ QName)) (s : Opened ℕ SetMethod) (entered : List QName) (runs : IsRun (length before.nodes) s (part_item part ∷ due) entered)
    (x : ℕ) (there : x < length middle.nodes)
    (settled : settled_for entries names (part.several || part.term.tilde) (tree before.nodes part.term.ty) ≡ Ok (tree middle.nodes x)) where
  abbrev pub look : Looks Tree QName Method SetFault
  look = looks entries names

  abbrev pub step_now : Step Tree QName Method SetFault
  step_now = step look (item_mapped (tree before.nodes) (part_item part)) (due_meant before.nodes due) (known_meant before.nodes s)

  abbrev pub choice : Step Tree QName Method SetFault
  choice = new_or_known look (tree middle.nodes part.holder) part.several part.term.tilde (tree middle.nodes part.term.ty) (tree middle.nodes x) (known_meant middle.nodes s)

  step_is : step_now ≡ unless_open look (is_open look (due_meant before.nodes due) (name_of entries names (tree middle.nodes x))) choice
  step_is =
      let holder = sym (extends_tree before middle grown part.holder runs.due.0.0) in
      let type = sym (extends_tree before middle grown part.term.ty runs.due.0.1) in
      let known = sym (known_stays before middle grown s runs.known) in
      term_settled entries names (tree before.nodes part.holder) part.several (record { tilde = part.term.tilde; type = tree before.nodes part.term.ty })
      (due_meant before.nodes due) (known_meant before.nodes s) (tree middle.nodes x) settled
      ∙ (λ i. unless_open look (is_open look (due_meant before.nodes due) (name_of entries names (tree middle.nodes x)))
      (new_or_known look (holder i) part.several part.term.tilde (type i) (tree middle.nodes x) (known i)))

  open_here : (q : QName) → list_any (same_name q) entered ≡ list_any (closing look q) (due_meant before.nodes due)
  open_here q = ap (list_any (same_name q)) runs.open_is ∙ open_told q due ∙ sym (closing_tied before.nodes entries names q due)

  pub when_open : (name : Option QName) → name_of entries names (tree middle.nodes x) ≡ name → (q : QName) → name ≡ Some q → list_any (same_name q) entered ≡ true
      → step_now ≡ stops (EmbedCycle q)
  when_open name is q same held =
      step_is ∙ ap (λ o. unless_open look (is_open look (due_meant before.nodes due) o) choice) (is ∙ same)
      ∙ open_stops entries names (due_meant before.nodes due) choice q (sym (open_here q) ∙ held)

  module _ (name : Option QName) (is : name_of entries names (tree middle.nodes x) ≡ name) (closed : IfSome name (λ q. list_any (same_name q) entered ≡ false)) where
    closed_here : (o : Option QName) → IfSome o (λ q. list_any (same_name q) entered ≡ false) → IfSome o (λ q. list_any (closing look q) (due_meant before.nodes due) ≡ false)
    closed_here None held = held
    closed_here (Some q) held = sym (open_here q) ∙ held

    chosen : step_now ≡ choice
    chosen = step_is ∙ ap (λ o. unless_open look (is_open look (due_meant before.nodes due) o) choice) is
        ∙ closed_goes entries names (due_meant before.nodes due) choice name (closed_here name closed)

    within : IsWithin (length middle.nodes) s
    within = within_more (length before.nodes) (length middle.nodes) (extends_longer before middle grown) s runs.known

    pub when_known : list_any (nat_eq x) s.types ≡ true
        → step_now ≡ joined look (tree middle.nodes part.holder) part.several (tree middle.nodes x) (known_meant middle.nodes s)
    when_known held = chosen ∙ known_joins entries names (tree middle.nodes part.holder) part.several part.term.tilde (tree middle.nodes part.term.ty) (tree middle.nodes x) (known_meant middle.nodes s)
        (has_tied middle.nodes arena entries names s.types x within.types there ∙ held)

    pub when_new : list_any (nat_eq x) s.types ≡ false
        → step_now ≡ shown look (tree middle.nodes part.holder) part.term.tilde (tree middle.nodes part.term.ty) (tree middle.nodes x) (known_meant middle.nodes s) (look.beneath (tree middle.nodes x))
    when_new held = chosen ∙ new_shows entries names (tree middle.nodes part.holder) part.several part.term.tilde (tree middle.nodes part.term.ty) (tree middle.nodes x) (known_meant middle.nodes s)
        (has_tied middle.nodes arena entries names s.types x within.types there ∙ held)

  -- the type was tested and expanded
  expanded_is : expanded entries names (tree before.nodes part.term.ty) ≡ Ok (tree middle.nodes x)
  expanded_is = by (tested look (part.several || part.term.tilde) (tree before.nodes part.term.ty)) (expanded entries names (tree before.nodes part.term.ty)) settled
    where
      by : (r : Result (Unit {0}) SetFault) (e : Result Tree SetFault) → then r (λ u. e) ≡ Ok (tree middle.nodes x) → e ≡ Ok (tree middle.nodes x)
      by (Ok u) e is = is
      by (Err f) e is = absurd cc

  pub look_open : (opening : Tree → Type 0) (full : Option Bool) (name : Option QName) → name_of entries names (tree middle.nodes x) ≡ name → (f : SetFault) → IsClosed entered name (Err f)
      → Stops opening before full f (step_now ≡ stops f)
  look_open opening full name name_is f is =
      subst (λ f. Stops opening before full f (step_now ≡ stops f)) (sym is.3) (when_open name name_is is.0 is.1 is.2)

  abbrev pub item_now : Item Tree QName
  item_now = item_mapped (tree before.nodes) (part_item part)

  module _ (later : Entries) (more : List QName) (e : later ≡ entries) (n : more ≡ names) where
    type_stays : tree middle.nodes part.term.ty ≡ tree before.nodes part.term.ty
    type_stays = extends_tree before middle grown part.term.ty runs.due.0.1

    pub shown_asked : (q : QName) → AtShown later more (asks later) (tree middle.nodes x) (tree middle.nodes part.term.ty) q → AtItem entries names (asks entries) item_now q
    shown_asked q held = shown_at (tree middle.nodes x) expanded_is
        (same_world (λ e n t. AtShown e n (asks e) (tree middle.nodes x) t q) later entries more names (tree middle.nodes part.term.ty) (tree before.nodes part.term.ty) e n type_stays held)

    pub shown_opened : (u : Tree) → AtShown later more (opened_for later) (tree middle.nodes x) (tree middle.nodes part.term.ty) u → AtItem entries names (opened_for entries) item_now u
    shown_opened u held = shown_at (tree middle.nodes x) expanded_is
        (same_world (λ e n t. AtShown e n (opened_for e) (tree middle.nodes x) t u) later entries more names (tree middle.nodes part.term.ty) (tree before.nodes part.term.ty) e n type_stays held)

    pub look_gives : (name : Option QName) → name_of entries names (tree middle.nodes x) ≡ name → IfSome name (λ q. list_any (same_name q) entered ≡ false) → list_any (nat_eq x) s.types ≡ false
        → (after : Contents) → AddsAmong (AtItem entries names (opened_for entries) item_now) before middle → (full : Option Bool) (r : Result (Option Met) SetFault) (run : Run)
        → GivesStep (AtShown later more (opened_for later) (tree middle.nodes x) (tree middle.nodes part.term.ty)) middle after full r run
        (shown (looks later more) (tree middle.nodes part.holder) part.term.tilde (tree middle.nodes part.term.ty) (tree middle.nodes x) (known_meant middle.nodes s) ((looks later more).beneath (tree middle.nodes x)))
        → GivesStep (AtItem entries names (opened_for entries) item_now) before after full r run step_now
    look_gives name is closed new after adds full r run gives =
        let back = sym e in
        let back_names = sym n in
        step_later (AtShown later more (opened_for later) (tree middle.nodes x) (tree middle.nodes part.term.ty)) (AtItem entries names (opened_for entries) item_now) before middle after shown_opened grown adds full r run
        (shown (looks later more) (tree middle.nodes part.holder) part.term.tilde (tree middle.nodes part.term.ty) (tree middle.nodes x) (known_meant middle.nodes s) ((looks later more).beneath (tree middle.nodes x))) step_now
        (when_new name is closed new
        ∙ (λ i. shown (looks (back i) (back_names i)) (tree middle.nodes part.holder) part.term.tilde (tree middle.nodes part.term.ty) (tree middle.nodes x) (known_meant middle.nodes s) ((looks (back i) (back_names i)).beneath (tree middle.nodes x)))) gives

-- the type wasn't settled
pub look_stops : (entries : Entries) (names : List QName) (before after : Contents) (part : Part) (due : List (Item ℕ QName)) (s : Opened ℕ SetMethod) (full : Option Bool) (f : SetFault)
    → Gives (AtTerm entries names (opened_for entries) (part.several || part.term.tilde) (tree before.nodes part.term.ty)) before after full (Err f)
    (settled_for entries names (part.several || part.term.tilde) (tree before.nodes part.term.ty))
    → Stops (AtItem entries names (opened_for entries) (item_mapped (tree before.nodes) (part_item part))) before full f
    (step (looks entries names) (item_mapped (tree before.nodes) (part_item part)) (due_meant before.nodes due) (known_meant before.nodes s) ≡ stops f)
look_stops entries names before after part due s full f stopped =
    stops_more (AtTerm entries names (opened_for entries) (part.several || part.term.tilde) (tree before.nodes part.term.ty))
    (AtItem entries names (opened_for entries) (item_mapped (tree before.nodes) (part_item part))) before (λ t held. held) full f _ _
    (term_stops entries names (tree before.nodes part.holder) part.several (record { tilde = part.term.tilde; type = tree before.nodes part.term.ty }) (due_meant before.nodes due) (known_meant before.nodes s) f) stopped

-- nothing is told of what is beneath it
pub meet_stops : (entries : Entries) (names : List QName) (holder : Tree) (tilde : Bool) (type x : Tree) (s : Opened Tree Method) (name : Option QName) (opening : Tree → Type 0) (before after : Contents) (full : Option Bool) (f : SetFault)
    → GivesHeld name opening before after full (Err f) (seen entries names x type)
    → Stops opening before full f (shown (looks entries names) holder tilde type x s ((looks entries names).beneath x) ≡ stops f)
meet_stops entries names holder tilde type x s name opening before after full f stopped =
    stops_more opening opening before (λ t held. held) full f _ _ (shown_stops entries names holder tilde type x s f) stopped

-- What is known and still to be done stays so in a longer arena.
module _ (old new : Contents) (grown : Extends old new) (s : Opened ℕ SetMethod) (items : List (Item ℕ QName)) (entered : List QName) where
  pub run_more : IsRun (length old.nodes) s items entered → IsRun (length new.nodes) s items entered
  run_more runs = record {
    known = within_more (length old.nodes) (length new.nodes) (extends_longer old new grown) s runs.known;
    due = due_more (length old.nodes) (length new.nodes) (extends_longer old new grown) items runs.due;
    open_is = runs.open_is;
  }

pub part_left : (n : ℕ) (part : Part) (due : List (Item ℕ QName)) (s : Opened ℕ SetMethod) (entered : List QName) → IsRun n s (part_item part ∷ due) entered → IsRun n s due entered
part_left n part due s entered runs = record { known = runs.known; due = runs.due.1; open_is = runs.open_is }

-- A term whose type isn't known.
module _ (entries : Entries) (names : List QName) (before after : Contents) (grown : Extends before after) (part : Part)
    (due : List (Item ℕ QName)) (s : Opened ℕ SetMethod) (entered : List QName) (runs : IsRun (length before.nodes) s (part_item part ∷ due) entered)
    (x : ℕ) (there : x < length before.nodes) where
  abbrev pub world_look : Looks Tree QName Method SetFault
  world_look = looks entries names

  abbrev pub shown_now : Step Tree QName Method SetFault
  shown_now = shown world_look (tree before.nodes part.holder) part.term.tilde (tree before.nodes part.term.ty) (tree before.nodes x) (known_meant before.nodes s) (world_look.beneath (tree before.nodes x))

  abbrev pub noted : Opened ℕ SetMethod
  noted = noting by_number (has_term part.holder (record { tilde = part.term.tilde; type = x })) s

  noted_within : IsWithin (length before.nodes) noted
  noted_within = noting_within (length before.nodes) (has_term part.holder (record { tilde = part.term.tilde; type = x })) s (runs.due.0.0, there) runs.known

  pub term_goes : seen entries names (tree before.nodes x) (tree before.nodes part.term.ty) ≡ Ok None → shown_now ≡ goes (known_meant after.nodes noted)
  term_goes is =
      shown_goes entries names (tree before.nodes part.holder) part.term.tilde (tree before.nodes part.term.ty) (tree before.nodes x) (known_meant before.nodes s) is
      ∙ ap goes (noting_tied before.nodes entries names (has_term part.holder (record { tilde = part.term.tilde; type = x })) s)
      ∙ ap goes (sym (known_stays before after grown noted noted_within))

  pub term_runs : IsRun (length after.nodes) noted due entered
  term_runs = run_more before after grown noted due entered (record { known = noted_within; due = runs.due.1; open_is = runs.open_is })

  pub interface_opens : (name : Option QName) → name_of entries names (tree before.nodes x) ≡ name → (held : Held)
      → seen entries names (tree before.nodes x) (tree before.nodes part.term.ty) ≡ Ok (Some (meant after.nodes (name_of entries names (tree before.nodes x)) held))
      → shown_now ≡ opens (tree after.nodes x) (meant after.nodes name held) (known_meant after.nodes s)
  interface_opens name same held is =
      let type = sym (extends_tree before after grown x there) in
      let known = sym (known_stays before after grown s runs.known) in
      shown_opens entries names (tree before.nodes part.holder) part.term.tilde (tree before.nodes part.term.ty) (tree before.nodes x) (known_meant before.nodes s)
      (meant after.nodes (name_of entries names (tree before.nodes x)) held) is
      ∙ (λ i. opens (type i) (meant after.nodes (same i) held) (known i))

  pub interface_runs : IsRun (length after.nodes) s (joins part.holder part.several x ∷ due) entered
  interface_runs = run_more before after grown s (joins part.holder part.several x ∷ due) entered
      (record { known = runs.known; due = ((runs.due.0.0, there), runs.due.1); open_is = runs.open_is })
