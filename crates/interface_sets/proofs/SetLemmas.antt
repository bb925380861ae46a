-- What comes of the steps of a type set: the expansion of the head, the opening, and the terms.
use Rattle.std.proofs.Common.{◌≡◌, ◌<◌, Bool, List, [], ◌∷◌, length, map, Option, Some, None, Ok, Err, refl, ap, sym, subst, ◌∙◌, inl, inr}
use Rattle.std.specs.Prelude.{Result, IsOkAnd, IfSome}
use Rattle.std.specs.List.{AllByRecursion}
use Rattle.go_values.specs.declared.qualified.QName.{QName}
use Rattle.go_values.specs.declared.positions.Pos.{Pos}
use Rattle.type_terms.specs.Arenas.{Contents, Extends, AllBelow}
use Rattle.type_terms.specs.Denotation.{tree}
use Rattle.type_terms.specs.Denoted.{all_weaker}
use Rattle.type_terms.specs.NodeShapes.{sig_shape}
use Rattle.type_terms.specs.ShapeLaws.{Agree, sig_agrees}
use Rattle.type_terms.specs.Extensions.{extends_tree, extends_below}
use Rattle.type_terms.specs.Trees.{Text, Tree}
use Rattle.type_terms.specs.TreeEquality.{same_tree}
use Rattle.environments.specs.OpenedTypes.{AddsAmong}
use Rattle.environments.specs.Kept.{World, Kept}
use Rattle.environments.specs.KeptLaws.{adds_wider, kept_again, kept_more}
use Rattle.interface_opening.specs.Elements.{Opened}
use Rattle.interface_opening.specs.Terms.{Choice, terms_of}
use Rattle.replacement.specs.declared.faults.SetFault.{SetFault}
use Rattle.replacement.specs.Expansion.{Entries, then, expanded}
use Rattle.replacement.specs.Calls.{Gives, Stops, AsksExpanding, OpensExpanding}
use Rattle.replacement.proofs.KeptLemmas.{stops_more, stops_later}
use Rattle.type_sets.specs.Interfaces.{SetMethod as Method}
use Rattle.type_sets.specs.TypeSets.{TypeSet as Set, same_term, with_methods, opened}
use Rattle.interface_nodes.specs.declared.methods.SetMethod.{SetMethod as NodeMethod}
use Rattle.interface_nodes.specs.HeldNodes.{method_meant, method_nodes}
use Rattle.interface_opener.specs.declared.found.Found.{Found}
use Rattle.interface_opener.specs.Numbered.{state}
use Rattle.opened_interfaces.specs.Calls.{GivesFound}
use Rattle.opened_interfaces.specs.Meant.{known_meant, IsWithin}
use Rattle.opened_interfaces.specs.Ways.{AsksOpening, OpensOpening}
use Rattle.common_terms.specs.Calls.{AllWithin}
use Rattle.common_terms.proofs.FoundLemmas.{terms_stay, within_grown}
use Rattle.set_terms.specs.Needed.{AtEvents}
use Rattle.set_terms.specs.Shares.{Codes, listed}
use Rattle.set_terms.specs.Meant.{choice_meant, events_meant}
use Rattle.interface_sets.specs.declared.sets.TypeSet.{TypeSet}
use Rattle.interface_sets.specs.Sets.{Told, Needed, AsksSettled, OpensSettled, AsksSet, OpensSet, set_for, settled_set, set_by}
use Rattle.interface_sets.specs.Calls.{GivesSet}

same_worlds : (P : Entries → List QName → Type 0) (later entries : Entries) (more names : List QName)
    → later ≡ entries → more ≡ names → P later more → P entries names
same_worlds P later entries more names e n p = subst (λ a. P a names) e (subst (λ b. P later b) n p)

module _ (entries : Entries) (names : List QName) (told : Told) (Op : Needed Tree) (As : Needed QName) (type : Tree) where
  -- ---- the opening and the terms

  -- the opening stopped
  pub opening_stops : (before after : Contents) (full : Option Bool) (fault : SetFault)
      → GivesFound (OpensOpening entries names type) before after full (Err fault) (opened entries names type)
      → GivesSet (OpensSettled entries names told Op type) before after full (Err fault) (settled_set entries names told type)
  opening_stops before after full fault stops =
      stops_more (OpensOpening entries names type) (OpensSettled entries names told Op type) before (λ t held. inl held) full fault _ _
      (λ is. ap (λ r. then r (set_for entries names told type)) is) stops

  pub opening_kept : (old new : World) (before after : Contents)
      → Kept (AsksOpening entries names type) (OpensOpening entries names type) old new before after
      → Kept (AsksSettled entries names told As type) (OpensSettled entries names told Op type) old new before after
  opening_kept old new before after kept =
      kept_more (AsksOpening entries names type) (AsksSettled entries names told As type) (OpensOpening entries names type)
      (OpensSettled entries names told Op type) old new before after (λ q held. inl held) (λ t held. inl held) kept

  -- it came to this, by what an environment has later, which is the same
  module _ (s : Opened Tree Method) (is : opened entries names type ≡ Ok s) (later : Entries) (more : List QName)
      (e : later ≡ entries) (n : more ≡ names) where
    abbrev Opens' : Tree → Type 0
    Opens' = AtEvents same_term (told later more) (Op later more) same_tree s.events []

    abbrev Asks' : QName → Type 0
    Asks' = AtEvents same_term (told later more) (As later more) same_tree s.events []

    terms_open : (t : Tree) → Opens' t → OpensSettled entries names told Op type t
    terms_open t held =
        inr (subst (λ r. IsOkAnd r (λ (u : Opened Tree Method). AtEvents same_term (told entries names) (Op entries names) same_tree u.events [] t)) (sym is)
        (same_worlds (λ a b. AtEvents same_term (told a b) (Op a b) same_tree s.events [] t) later entries more names e n held))

    terms_ask : (q : QName) → Asks' q → AsksSettled entries names told As type q
    terms_ask q held =
        inr (subst (λ r. IsOkAnd r (λ (u : Opened Tree Method). AtEvents same_term (told entries names) (As entries names) same_tree u.events [] q)) (sym is)
        (same_worlds (λ a b. AtEvents same_term (told a b) (As a b) same_tree s.events [] q) later entries more names e n held))

    -- the set by the terms
    abbrev with_terms : Result (Choice Tree) SetFault → Result Set SetFault
    with_terms r = then r (λ terms. Ok (record { methods = with_methods s.methods []; flag = s.flag; terms = terms }))

    set_with : (top : Tree) → top ≡ type → settled_set entries names told type ≡ with_terms (terms_of same_tree same_term (told later more) s.events top)
    set_with top same =
        ap (λ r. then r (set_for entries names told type)) is
        ∙ (λ i. with_terms (terms_of same_tree same_term (told (sym e i) (sym n i)) s.events (sym same i)))

    pub terms_stop : (before between after : Contents) → Extends before between → AddsAmong (OpensOpening entries names type) before between
        → (top : Tree) → top ≡ type → (full : Option Bool) (fault : SetFault)
        → Stops Opens' between full fault (terms_of same_tree same_term (told later more) s.events top ≡ Err fault)
        → GivesSet (OpensSettled entries names told Op type) before after full (Err fault) (settled_set entries names told type)
    terms_stop before between after grown adds top same full fault stops =
        stops_later Opens' (OpensSettled entries names told Op type) before between terms_open grown
        (adds_wider (OpensOpening entries names type) (OpensSettled entries names told Op type) before between (λ t held. inl held) adds)
        full fault _ _ (λ fails. set_with top same ∙ ap with_terms fails) stops

    pub terms_kept : (old middle new : World) (before between after : Contents)
        → Kept (AsksOpening entries names type) (OpensOpening entries names type) old middle before between
        → Kept Asks' Opens' middle new between after
        → Kept (AsksSettled entries names told As type) (OpensSettled entries names told Op type) old new before after
    terms_kept old middle new before between after first second =
        kept_again (AsksSettled entries names told As type) (OpensSettled entries names told Op type) old middle new before between after
        (opening_kept old middle before between first)
        (kept_more Asks' (AsksSettled entries names told As type) Opens' (OpensSettled entries names told Op type) middle new between after terms_ask terms_open second)

  -- ---- the expansion and the rest

  pub expansion_stops : (before after : Contents) (full : Option Bool) (fault : SetFault)
      → Gives (OpensExpanding entries type) before after full (Err fault) (expanded entries names type)
      → GivesSet (OpensSet entries names told Op type) before after full (Err fault) (set_by entries names told type)
  expansion_stops before after full fault stops =
      stops_more (OpensExpanding entries type) (OpensSet entries names told Op type) before (λ t held. inl held) full fault _ _
      (λ is. ap (λ r. then r (settled_set entries names told)) is) stops

  pub expansion_kept : (old new : World) (before after : Contents)
      → Kept (AsksExpanding entries type) (OpensExpanding entries type) old new before after
      → Kept (AsksSet entries names told As type) (OpensSet entries names told Op type) old new before after
  expansion_kept old new before after kept =
      kept_more (AsksExpanding entries type) (AsksSet entries names told As type) (OpensExpanding entries type)
      (OpensSet entries names told Op type) old new before after (λ q held. inl held) (λ t held. inl held) kept

  module _ (found : Tree) (is : expanded entries names type ≡ Ok found) (later : Entries) (more : List QName)
      (e : later ≡ entries) (n : more ≡ names) where
    rest_opens : (t : Tree) → OpensSettled later more told Op found t → OpensSet entries names told Op type t
    rest_opens t held =
        inr (subst (λ r. IsOkAnd r (λ f. OpensSettled entries names told Op f t)) (sym is)
        (same_worlds (λ a b. OpensSettled a b told Op found t) later entries more names e n held))

    rest_asks : (q : QName) → AsksSettled later more told As found q → AsksSet entries names told As type q
    rest_asks q held =
        inr (subst (λ r. IsOkAnd r (λ f. AsksSettled entries names told As f q)) (sym is)
        (same_worlds (λ a b. AsksSettled a b told As found q) later entries more names e n held))

    same_rest : settled_set later more told found ≡ set_by entries names told type
    same_rest = (λ i. settled_set (e i) (n i) told found) ∙ sym (ap (λ r. then r (settled_set entries names told)) is)

    pub rest_gives : (before between after : Contents) → Extends before between
        → AddsAmong (OpensExpanding entries type) before between → (full : Option Bool) (result : Result TypeSet SetFault)
        → GivesSet (OpensSettled later more told Op found) between after full result (settled_set later more told found)
        → GivesSet (OpensSet entries names told Op type) before after full result (set_by entries names told type)
    rest_gives before between after grown adds full (Ok x) gives = (sym same_rest ∙ gives.0, gives.1)
    rest_gives before between after grown adds full (Err fault) stops =
        stops_later (OpensSettled later more told Op found) (OpensSet entries names told Op type) before between rest_opens grown
        (adds_wider (OpensExpanding entries type) (OpensSet entries names told Op type) before between (λ t held. inl held) adds)
        full fault _ _ (λ u. sym same_rest ∙ u) stops

    pub rest_kept : (old middle new : World) (before between after : Contents)
        → Kept (AsksExpanding entries type) (OpensExpanding entries type) old middle before between
        → Kept (AsksSettled later more told As found) (OpensSettled later more told Op found) middle new between after
        → Kept (AsksSet entries names told As type) (OpensSet entries names told Op type) old new before after
    rest_kept old middle new before between after first second =
        kept_again (AsksSet entries names told As type) (OpensSet entries names told Op type) old middle new before between after
        (expansion_kept old middle before between first)
        (kept_more (AsksSettled later more told As found) (AsksSet entries names told As type) (OpensSettled later more told Op found)
        (OpensSet entries names told Op type) middle new between after rest_asks rest_opens second)

-- methods stay as an arena grows
module _ (old new : Contents) (grown : Extends old new) where
  method_stays : (x : NodeMethod) → AllBelow (length old.nodes) (method_nodes x) → method_meant new.nodes x ≡ method_meant old.nodes x
  method_stays x below =
      let agrees = all_weaker (λ n. n < length old.nodes) (Agree (tree new.nodes) (tree old.nodes)) (λ n h. extends_tree old new grown n h) (method_nodes x) below in
      let sig = sig_agrees (tree new.nodes) (tree old.nodes) Pos Text Text (sig_shape x.sig) agrees in
      λ i. record { name = x.name; home = x.home; sig = sig i }

  methods_stay : (xs : List NodeMethod) → AllByRecursion (λ x. AllBelow (length old.nodes) (method_nodes x)) xs → map (method_meant new.nodes) xs ≡ map (method_meant old.nodes) xs
  methods_stay [] all = refl
  methods_stay (x ∷ xs) all = λ i. method_stays x all.0 i ∷ methods_stay xs all.1 i

  methods_grown : (xs : List NodeMethod) → AllByRecursion (λ x. AllBelow (length old.nodes) (method_nodes x)) xs → AllByRecursion (λ x. AllBelow (length new.nodes) (method_nodes x)) xs
  methods_grown [] all = tt
  methods_grown (x ∷ xs) all = (extends_below old new grown (method_nodes x) all.0, methods_grown xs all.1)

-- a set that was made of what was opened, and of terms that stand in an arena that grew since
module _ (entries : Entries) (names : List QName) (told : Told) (type : Tree) (later : Entries) (more : List QName) (e : later ≡ entries) (n : more ≡ names)
    (between after : Contents) (grown : Extends between after) (x : Found) (within : IsWithin (length between.nodes) (state x)) where
  choice_stays : (c : Codes) → IfSome c (AllWithin (length between.nodes)) → choice_meant after.nodes c ≡ choice_meant between.nodes c
  choice_stays (Some xs) all = ap Some (terms_stay between after grown xs all)
  choice_stays None all = refl

  choice_grown : (c : Codes) → IfSome c (AllWithin (length between.nodes)) → IfSome c (AllWithin (length after.nodes))
  choice_grown (Some xs) all = within_grown between after grown xs all
  choice_grown None all = tt

  pub set_gives : (opening : Tree → Type 0) (before : Contents) (full : Option Bool) → opened entries names type ≡ Ok (known_meant between.nodes (state x))
      → (top : Tree) → top ≡ type → (terms : Codes) → terms_of same_tree same_term (told later more) (events_meant between.nodes x.events.items) top ≡ Ok (choice_meant between.nodes terms)
      → IfSome terms (AllWithin (length between.nodes)) → (set : TypeSet)
      → map (method_meant after.nodes) set.methods.items ≡ with_methods (map (method_meant after.nodes) x.methods.items) [] → set.comparable ≡ x.comparable → listed set.terms ≡ terms
      → (AllByRecursion (λ m. AllBelow (length after.nodes) (method_nodes m)) x.methods.items → AllByRecursion (λ m. AllBelow (length after.nodes) (method_nodes m)) set.methods.items)
      → GivesSet opening before after full (Ok set) (settled_set entries names told type)
  set_gives opening before full is top same terms told_is below set methods flag listed_is inside = (
    ap (λ r. then r (set_for entries names told type)) is
        ∙ (λ i. with_terms (terms_of same_tree same_term (told (sym e i) (sym n i)) (events_meant between.nodes x.events.items) (sym same i)))
        ∙ ap with_terms told_is
        ∙ (λ i. Ok (record { methods = with_methods (kept_methods i) []; flag = sym flag i; terms = kept_terms i }))
        ∙ (λ i. Ok (record { methods = sym methods i; flag = set.comparable; terms = choice_meant after.nodes (listed set.terms) })),
    record {
      methods = inside (methods_grown between after grown x.methods.items within.methods);
      terms = subst (λ c. IfSome c (AllWithin (length after.nodes))) (sym listed_is) (choice_grown terms below);
    },
  )
    where
      with_terms : Result (Choice Tree) SetFault → Result Set SetFault
      with_terms r = then r (λ c. Ok (record { methods = with_methods (map (method_meant between.nodes) x.methods.items) []; flag = x.comparable; terms = c }))

      kept_methods : map (method_meant between.nodes) x.methods.items ≡ map (method_meant after.nodes) x.methods.items
      kept_methods = sym (methods_stay between after grown x.methods.items within.methods)

      kept_terms : choice_meant between.nodes terms ≡ choice_meant after.nodes (listed set.terms)
      kept_terms = sym (choice_stays terms below) ∙ ap (choice_meant after.nodes) (sym listed_is)
