-- What numbers of nodes mean stays as an arena is extended, and numbers of one arena are told apart as what they mean.
use Rattle.std.proofs.Common.{◌≡◌, ℕ, ◌<◌, ◌≤◌, Bool, true, false, List, [], ◌∷◌, length, map, refl, ap, sym, subst, ◌∙◌, arith, true≢false}
use Rattle.std.specs.Prelude.{nat_eq}
use Rattle.std.specs.List.{AllByRecursion}
use Rattle.std.proofs.lemmas.Bool.{eqb-true}
use Rattle.std.proofs.lemmas.Cmp.{nat_eq_equiv}
use Rattle.go_values.specs.declared.qualified.QName.{QName}
use Rattle.go_values.specs.declared.positions.Pos.{Pos}
use Rattle.type_terms.specs.declared.descriptors.Node.{Node}
use Rattle.type_terms.specs.Arenas.{Contents, AllBelow, IsArena, Extends}
use Rattle.type_terms.specs.Denotation.{tree}
use Rattle.type_terms.specs.Denoted.{tree_told, all_weaker}
use Rattle.type_terms.specs.Extensions.{extends_tree}
use Rattle.type_terms.specs.NodeShapes.{sig_shape}
use Rattle.type_terms.specs.ShapeLaws.{Agree, sig_agrees}
use Rattle.type_terms.specs.Trees.{Text}
use Rattle.type_terms.specs.TreeEquality.{same_tree, same_told, same_itself}
use Rattle.interface_opening.specs.Elements.{Event, has_term, has_interface, ends_element, Opened}
use Rattle.interface_opening.specs.Mapped.{event_mapped, AgreeOn}
use Rattle.interface_opening.specs.Opening.{Item, term, joins, ends, closes}
use Rattle.replacement.specs.Expansion.{Entries}
use Rattle.type_sets.specs.TypeSets.{looks}
use Rattle.interface_nodes.specs.declared.methods.SetMethod.{SetMethod}
use Rattle.interface_nodes.specs.HeldNodes.{method_meant, method_nodes}
use Rattle.interface_opener.specs.Numbered.{by_number}
use Rattle.opened_interfaces.specs.Meant.{item_mapped, known_meant, due_meant, EventWithin, MethodWithin, ItemWithin, IsWithin, AreDue}

module _ (nodes : List Node) (arena : IsArena nodes) where
  same_nodes : (m n : ℕ) → m < length nodes → n < length nodes → same_tree (tree nodes m) (tree nodes n) ≡ nat_eq m n
  same_nodes m n here there = by (nat_eq m n) refl (same_tree (tree nodes m) (tree nodes n)) refl
    where
      by : (b : Bool) → nat_eq m n ≡ b → (c : Bool) → same_tree (tree nodes m) (tree nodes n) ≡ c → same_tree (tree nodes m) (tree nodes n) ≡ nat_eq m n
      by true e true f = f ∙ sym e
      by false e false f = f ∙ sym e
      by true e false f =
          let one : tree nodes m ≡ tree nodes n = ap (tree nodes) (eqb-true m n e) in
          let same : same_tree (tree nodes m) (tree nodes n) ≡ true = subst (λ t. same_tree (tree nodes m) t ≡ true) one (same_itself (tree nodes m)) in
          absurd (true≢false (sym same ∙ f))
      by false e true f =
          let one : m ≡ n = tree_told nodes arena m n here there (same_told (tree nodes m) (tree nodes n) f) in
          let same : nat_eq m n ≡ true = subst (λ k. nat_eq m k ≡ true) one (nat_eq_equiv.refl m) in
          absurd (true≢false (sym same ∙ e))

  pub agree : (entries : Entries) (names : List QName) → AgreeOn (λ n. n < length nodes) (tree nodes) by_number (looks entries names)
  agree entries names m n here there = same_nodes m n here there

module _ (old new : Contents) (grown : Extends old new) where
  stays : (n : ℕ) → n < length old.nodes → tree new.nodes n ≡ tree old.nodes n
  stays n below = extends_tree old new grown n below

  all_stay : (ids : List ℕ) → AllBelow (length old.nodes) ids → map (tree new.nodes) ids ≡ map (tree old.nodes) ids
  all_stay [] all = refl
  all_stay (n ∷ ids) all = let head = stays n all.0 in let tail = all_stay ids all.1 in λ i. head i ∷ tail i

  event_stays : (e : Event ℕ) → EventWithin (length old.nodes) e → event_mapped (tree new.nodes) e ≡ event_mapped (tree old.nodes) e
  event_stays (has_term holder x) within =
      let a = stays holder within.0 in let b = stays x.type within.1 in λ i. has_term (a i) (record { tilde = x.tilde; type = b i })
  event_stays (has_interface holder of) within =
      let a = stays holder within.0 in let b = stays of within.1 in λ i. has_interface (a i) (b i)
  event_stays (ends_element holder) within = ap ends_element (stays holder within)

  events_stay : (es : List (Event ℕ)) → AllByRecursion (EventWithin (length old.nodes)) es → map (event_mapped (tree new.nodes)) es ≡ map (event_mapped (tree old.nodes)) es
  events_stay [] all = refl
  events_stay (e ∷ es) all = let head = event_stays e all.0 in let tail = events_stay es all.1 in λ i. head i ∷ tail i

  method_stays : (m : SetMethod) → MethodWithin (length old.nodes) m → method_meant new.nodes m ≡ method_meant old.nodes m
  method_stays m within =
      let agrees = all_weaker (λ n. n < length old.nodes) (Agree (tree new.nodes) (tree old.nodes)) (λ n below. stays n below) (method_nodes m) within in
      let sig = sig_agrees (tree new.nodes) (tree old.nodes) Pos Text Text (sig_shape m.sig) agrees in
      λ i. record { name = m.name; home = m.home; sig = sig i }

  methods_stay : (ms : List SetMethod) → AllByRecursion (MethodWithin (length old.nodes)) ms → map (method_meant new.nodes) ms ≡ map (method_meant old.nodes) ms
  methods_stay [] all = refl
  methods_stay (m ∷ ms) all = let head = method_stays m all.0 in let tail = methods_stay ms all.1 in λ i. head i ∷ tail i

  pub known_stays : (s : Opened ℕ SetMethod) → IsWithin (length old.nodes) s → known_meant new.nodes s ≡ known_meant old.nodes s
  known_stays s within =
      let types = all_stay s.types within.types in
      let methods = methods_stay s.methods within.methods in
      let marked = all_stay s.marked within.marked in
      let events = events_stay s.events within.events in
      λ i. record { types = types i; methods = methods i; flag = s.flag; marked = marked i; events = events i }

  pub item_stays : (item : Item ℕ QName) → ItemWithin (length old.nodes) item → item_mapped (tree new.nodes) item ≡ item_mapped (tree old.nodes) item
  item_stays (term holder several x) within =
      let a = stays holder within.0 in let b = stays x.type within.1 in λ i. term (a i) several (record { tilde = x.tilde; type = b i })
  item_stays (joins holder several of) within =
      let a = stays holder within.0 in let b = stays of within.1 in λ i. joins (a i) several (b i)
  item_stays (ends holder) within = ap ends (stays holder within)
  item_stays (closes q) within = refl

  pub due_stays : (items : List (Item ℕ QName)) → AreDue (length old.nodes) items → due_meant new.nodes items ≡ due_meant old.nodes items
  due_stays [] all = refl
  due_stays (item ∷ items) all = let head = item_stays item all.0 in let tail = due_stays items all.1 in λ i. head i ∷ tail i

-- what stands below a number stands below a greater one
module _ (n m : ℕ) (longer : n ≤ m) where
  below_more : (ids : List ℕ) → AllBelow n ids → AllBelow m ids
  below_more ids all = all_weaker (λ k. k < n) (λ k. k < m) (λ k h. omega (arith, h, longer)) ids all

  event_more : (e : Event ℕ) → EventWithin n e → EventWithin m e
  event_more (has_term holder x) w = (omega (arith, w.0, longer), omega (arith, w.1, longer))
  event_more (has_interface holder of) w = (omega (arith, w.0, longer), omega (arith, w.1, longer))
  event_more (ends_element holder) w = omega (arith, w, longer)

  events_more : (es : List (Event ℕ)) → AllByRecursion (EventWithin n) es → AllByRecursion (EventWithin m) es
  events_more [] all = tt
  events_more (e ∷ es) all = (event_more e all.0, events_more es all.1)

  methods_more : (ms : List SetMethod) → AllByRecursion (MethodWithin n) ms → AllByRecursion (MethodWithin m) ms
  methods_more [] all = tt
  methods_more (x ∷ ms) all = (below_more (method_nodes x) all.0, methods_more ms all.1)

  pub within_more : (s : Opened ℕ SetMethod) → IsWithin n s → IsWithin m s
  within_more s w = record {
    types = below_more s.types w.types;
    methods = methods_more s.methods w.methods;
    marked = below_more s.marked w.marked;
    events = events_more s.events w.events;
  }

  item_more : (item : Item ℕ QName) → ItemWithin n item → ItemWithin m item
  item_more (term holder several x) w = (omega (arith, w.0, longer), omega (arith, w.1, longer))
  item_more (joins holder several of) w = (omega (arith, w.0, longer), omega (arith, w.1, longer))
  item_more (ends holder) w = omega (arith, w, longer)
  item_more (closes q) w = tt

  pub due_more : (items : List (Item ℕ QName)) → AreDue n items → AreDue m items
  due_more [] all = tt
  due_more (item ∷ items) all = (item_more item all.0, due_more items all.1)
