-- What is known and still to be done keeps nodes of the arena, and the names that are open.
use Rattle.std.proofs.Common.{◌≡◌, ℕ, zero, suc, ◌<◌, Bool, true, false, cond, List, [], ◌∷◌, ◌++◌, length, map, Option, Some, None, refl, ap, sym, subst, ◌∙◌, arith, append_assoc}
use Rattle.std.specs.List.{flat_map, AllByRecursion}
use Rattle.go_values.specs.declared.qualified.QName.{QName}
use Rattle.type_terms.specs.declared.descriptors.Node.{Node}
use Rattle.type_terms.specs.declared.descriptors.Node.TheVariants.{Union}
use Rattle.type_terms.specs.declared.literals.Term.{Term}
use Rattle.type_terms.specs.Arenas.{IsNode, AllBelow, IsArena}
use Rattle.type_terms.specs.NodeShapes.{children}
use Rattle.type_terms.specs.Replaced.{all_left, all_right, all_append}
use Rattle.interface_opening.specs.Elements.{Term as OpenTerm, Event, has_interface, Opened}
use Rattle.interface_opening.specs.Opening.{Item, term, ends, Step, goes, stops, noting, marking, joined, opened_with, marked_by, element_items, close_items, with_mark, has, several_terms}
use Rattle.replacement.specs.declared.faults.SetFault.TheVariants.{UnionMethods}
use Rattle.replacement.specs.declared.faults.SetFault.{SetFault}
use Rattle.interface_nodes.specs.declared.methods.SetMethod.{SetMethod}
use Rattle.interface_nodes.specs.declared.held.Held.{Held}
use Rattle.interface_nodes.specs.HeldNodes.{method_nodes, held_nodes}
use Rattle.interface_opener.specs.Numbered.{by_number, shown}
use Rattle.interface_opener.specs.Stacked.{term_of, element_of, element_at, elements_left, open_names}
use Rattle.opened_interfaces.specs.Meant.{EventWithin, MethodWithin, ItemWithin, IsWithin, AreDue}

module _ (n : ℕ) where
  pub noting_within : (event : Event ℕ) (s : Opened ℕ SetMethod) → EventWithin n event → IsWithin n s → IsWithin n (noting by_number event s)
  noting_within event s there w = record {
    types = w.types;
    methods = w.methods;
    marked = w.marked;
    events = all_append (EventWithin n) s.events (event ∷ []) w.events (there, tt);
  }

  mark_below : (xs : List ℕ) (x : ℕ) → x < n → AllBelow n xs → AllBelow n (with_mark by_number xs x)
  mark_below xs x there all = by (has by_number xs x)
    where
      by : (b : Bool) → AllBelow n (cond b xs (xs ++ x ∷ []))
      by true = all
      by false = all_append (λ k. k < n) xs (x ∷ []) all (there, tt)

  marking_within : (x : ℕ) (s : Opened ℕ SetMethod) → x < n → IsWithin n s → IsWithin n (marking by_number x s)
  marking_within x s there w = record {
    types = w.types;
    methods = w.methods;
    marked = mark_below s.marked x there w.marked;
    events = w.events;
  }

  pub joined_within : (holder : ℕ) (several : Bool) (of : ℕ) (s t : Opened ℕ SetMethod) → holder < n → of < n → IsWithin n s
      → joined by_number holder several of s ≡ goes t → IsWithin n t
  joined_within holder several of s t holder_there there w is = by (has by_number s.marked of) several is
    where
      noted : IsWithin n (noting by_number (has_interface holder of) s)
      noted = noting_within (has_interface holder of) s (holder_there, there) w

      by : (b c : Bool) → cond {A = Step ℕ QName SetMethod SetFault} b (cond c (stops UnionMethods) (goes (marking by_number holder (noting by_number (has_interface holder of) s)))) (goes (noting by_number (has_interface holder of) s)) ≡ goes t
          → IsWithin n t
      by true true is = absurd cc
      by true false is =
          let same : marking by_number holder (noting by_number (has_interface holder of) s) ≡ t = cc in
          subst (IsWithin n) same (marking_within holder (noting by_number (has_interface holder of) s) holder_there noted)
      by false c is = let same : noting by_number (has_interface holder of) s ≡ t = cc in subst (IsWithin n) same noted

  methods_within : (own : List SetMethod) → AllBelow n (flat_map method_nodes own) → AllByRecursion (MethodWithin n) own
  methods_within [] all = tt
  methods_within (m ∷ own) all =
      (all_left (λ k. k < n) (method_nodes m) (flat_map method_nodes own) all, methods_within own (all_right (λ k. k < n) (method_nodes m) (flat_map method_nodes own) all))

  pub held_embedded : (held : Held) → AllBelow n (held_nodes held) → AllBelow n held.embedded.items
  held_embedded held all = all_left (λ k. k < n) held.embedded.items (flat_map method_nodes held.own.items) all

  marked_within : (own : List SetMethod) (flag : Bool) (xs : List ℕ) (x : ℕ) → x < n → AllBelow n xs → AllBelow n (marked_by by_number own flag xs x)
  marked_within [] false xs x there all = all
  marked_within [] true xs x there all = mark_below xs x there all
  marked_within (m ∷ own) flag xs x there all = mark_below xs x there all

  pub opened_within : (x : ℕ) (held : Held) (s : Opened ℕ SetMethod) → x < n → AllBelow n (held_nodes held) → IsWithin n s → IsWithin n (opened_with by_number x (shown held) s)
  opened_within x held s there all w = record {
    types = all_append (λ k. k < n) s.types (x ∷ []) w.types (there, tt);
    methods = all_append (MethodWithin n) s.methods held.own.items w.methods
        (methods_within held.own.items (all_right (λ k. k < n) held.embedded.items (flat_map method_nodes held.own.items) all));
    marked = marked_within held.own.items held.comparable s.marked x there w.marked;
    events = w.events;
  }

  -- terms of an element
  abbrev pub TermWithin : OpenTerm ℕ → Type 0
  TermWithin x = x.type < n

  pub terms_due : (holder : ℕ) (several : Bool) (els : List (OpenTerm ℕ)) → holder < n → AllByRecursion TermWithin els → AreDue n (map (term holder several) els)
  terms_due holder several [] there all = tt
  terms_due holder several (x ∷ els) there all = ((there, all.0), terms_due holder several els there all.1)

  items_due : (holder : ℕ) (els : List (OpenTerm ℕ)) → holder < n → AllByRecursion TermWithin els → AreDue n (element_items by_number holder els)
  items_due holder els there all = all_append (ItemWithin n) (map (term holder (several_terms by_number els)) els) (ends holder ∷ [])
      (terms_due holder (several_terms by_number els) els there all) (there, tt)

  close_due : (name : Option QName) → AreDue n (close_items by_number name)
  close_due None = tt
  close_due (Some q) = (tt, tt)

module _ (nodes : List Node) (arena : IsArena nodes) where
  terms_there : (id : ℕ) → id < length nodes → (inner : List Term) → AllBelow id (children (Union inner)) → AllByRecursion (TermWithin (length nodes)) (map term_of inner)
  terms_there id below [] all = tt
  terms_there id below (x ∷ inner) all = (omega (arith, all.0, below), terms_there id below inner all.1)

  node_there : (id : ℕ) → id < length nodes → (node : Node) → AllBelow id (children node) → AllByRecursion (TermWithin (length nodes)) (element_of (Some node) id)
  node_there id below (Union inner) falls = terms_there id below inner falls
  node_there id below _ falls = (below, tt)

  node_at : (n : ℕ) (all : List Node) → n < length all → (node : Node) × IsNode all n node
  node_at n [] h = absurd (omega arith)
  node_at zero (x ∷ xs) h = (x, refl)
  node_at (suc n) (x ∷ xs) h = node_at n xs (omega arith)

  pub element_there : (id : ℕ) → id < length nodes → AllByRecursion (TermWithin (length nodes)) (element_at nodes id)
  element_there id below =
      let found = node_at id nodes below in
      subst (λ o. AllByRecursion (TermWithin (length nodes)) (element_of o id)) (sym found.1) (node_there id below found.0 (arena.falls id found.0 found.1))

  elements_due : (holder : ℕ) (ids : List ℕ) → holder < length nodes → AllBelow (length nodes) ids → AreDue (length nodes) (elements_left nodes holder ids)
  elements_due holder [] there all = tt
  elements_due holder (id ∷ ids) there all =
      all_append (ItemWithin (length nodes)) (element_items by_number holder (element_at nodes id)) (elements_left nodes holder ids)
      (items_due (length nodes) holder (element_at nodes id) there (element_there id all.0)) (elements_due holder ids there all.1)

  pub inside_due : (holder : ℕ) (name : Option QName) (ids : List ℕ) (rest : List (Item ℕ QName)) → holder < length nodes → AllBelow (length nodes) ids → AreDue (length nodes) rest
      → AreDue (length nodes) (elements_left nodes holder ids ++ (close_items by_number name ++ rest))
  inside_due holder name ids rest there all due =
      all_append (ItemWithin (length nodes)) (elements_left nodes holder ids) (close_items by_number name ++ rest) (elements_due holder ids there all)
      (all_append (ItemWithin (length nodes)) (close_items by_number name) rest (close_due (length nodes) name) due)

-- elements open no names
terms_open : (holder : ℕ) (several : Bool) (els : List (OpenTerm ℕ)) (rest : List (Item ℕ QName)) → open_names (map (term holder several) els ++ rest) ≡ open_names rest
terms_open holder several [] rest = refl
terms_open holder several (x ∷ els) rest = terms_open holder several els rest

pub top_open : (holder : ℕ) (several : Bool) (els : List (OpenTerm ℕ)) → open_names (map (term holder several) els) ≡ []
top_open holder several [] = refl
top_open holder several (x ∷ els) = top_open holder several els

items_open : (holder : ℕ) (several : Bool) (els : List (OpenTerm ℕ)) (rest : List (Item ℕ QName)) → open_names ((map (term holder several) els ++ ends holder ∷ []) ++ rest) ≡ open_names rest
items_open holder several [] rest = refl
items_open holder several (x ∷ els) rest = items_open holder several els rest

pub elements_open : (nodes : List Node) (holder : ℕ) (ids : List ℕ) (rest : List (Item ℕ QName)) → open_names (elements_left nodes holder ids ++ rest) ≡ open_names rest
elements_open nodes holder [] rest = refl
elements_open nodes holder (id ∷ ids) rest =
    ap open_names (append_assoc (element_items by_number holder (element_at nodes id)) (elements_left nodes holder ids) rest)
    ∙ items_open holder (several_terms by_number (element_at nodes id)) (element_at nodes id) (elements_left nodes holder ids ++ rest)
    ∙ elements_open nodes holder ids rest
