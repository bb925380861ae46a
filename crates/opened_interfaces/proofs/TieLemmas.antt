-- What single steps over numbers of nodes do to what these mean.
use Rattle.std.proofs.Common.{◌≡◌, ℕ, zero, suc, ◌<◌, Bool, true, false, ◌||◌, cond, List, [], ◌∷◌, ◌++◌, length, map, Option, Some, None, Ok, Err, refl, ap, sym, ◌∙◌, arith, append_assoc}
use Rattle.std.specs.Prelude.{Result, nat_eq}
use Rattle.std.specs.List.{list_any, flat_map}
use Rattle.std.proofs.lemmas.List.{map-append}
use Rattle.go_values.specs.declared.qualified.QName.{QName}
use Rattle.type_terms.specs.declared.descriptors.Node.{Node}
use Rattle.type_terms.specs.declared.descriptors.Node.TheVariants.{Union}
use Rattle.type_terms.specs.declared.literals.Term.{Term}
use Rattle.type_terms.specs.Arenas.{IsNode, AllBelow, IsArena}
use Rattle.type_terms.specs.Denotation.{tree}
use Rattle.type_terms.specs.Denoted.{tree_unfolds}
use Rattle.type_terms.specs.NodeShapes.{node_shape, term_shape}
use Rattle.type_terms.specs.Shapes.{TermOf, term_map, retype}
use Rattle.type_terms.specs.Shapes as level
use Rattle.type_terms.specs.Trees.{Tree, Level, union, terms_of, tree_of, term_list}
use Rattle.type_terms.specs.TreeLevels.{level_of-tree_of}
use Rattle.type_terms.specs.TreeEquality.{same_name}
use Rattle.interface_opening.specs.Elements.{Term as OpenTerm, Event, has_interface, Opened, Looks}
use Rattle.interface_opening.specs.Mapped.{term_mapped, event_mapped, AgreeOn}
use Rattle.interface_opening.specs.Opening.{Item, term, joins, ends, closes, Step, goes, stops, noting, marking, closing, joined, opened_with, marked_by, element_items, close_items, inside, several_terms, has}
use Rattle.interface_opening.proofs.MappedLemmas.{noting_mapped, has_mapped, marking_mapped}
use Rattle.replacement.specs.declared.faults.SetFault.{SetFault}
use Rattle.replacement.specs.declared.faults.SetFault.TheVariants.{Env, AliasCycle, EmbedCycle, Arity, Kind, TermInterface, UnionMethods, TooMany, Nodes, OutOfMemory}
use Rattle.replacement.specs.Expansion.{Entries}
use Rattle.type_sets.specs.Interfaces.{SetMethod as Method, element}
use Rattle.type_sets.specs.TypeSets.{looks, top_items}
use Rattle.interface_nodes.specs.declared.methods.SetMethod.{SetMethod}
use Rattle.interface_nodes.specs.declared.held.Held.{Held}
use Rattle.interface_nodes.specs.HeldNodes.{meant, method_meant}
use Rattle.interface_opener.specs.Numbered.{by_number, shown, state, Joins}
use Rattle.interface_opener.specs.declared.found.Found.{Found}
use Rattle.interface_opener.specs.Stacked.{term_of, element_of, element_at, elements_left}
use Rattle.opened_interfaces.specs.Meant.{item_mapped, known_meant, due_meant, IsWithin}
use Rattle.opened_interfaces.specs.Calls.{GivesJoined}
use Rattle.opened_interfaces.proofs.WithinLemmas.{joined_within}
use Rattle.opened_interfaces.proofs.StayLemmas.{agree}

-- which defined types are open
pub closing_tied : (nodes : List Node) (entries : Entries) (names : List QName) (q : QName) (items : List (Item ℕ QName))
    → list_any (closing (looks entries names) q) (due_meant nodes items) ≡ list_any (closing by_number q) items
closing_tied nodes entries names q [] = refl
closing_tied nodes entries names q (closes p ∷ items) = ap (λ b. same_name q p || b) (closing_tied nodes entries names q items)
closing_tied nodes entries names q (term holder several x ∷ items) = closing_tied nodes entries names q items
closing_tied nodes entries names q (joins holder several of ∷ items) = closing_tied nodes entries names q items
closing_tied nodes entries names q (ends holder ∷ items) = closing_tied nodes entries names q items

-- what comes to an element
pub noting_tied : (nodes : List Node) (entries : Entries) (names : List QName) (event : Event ℕ) (s : Opened ℕ SetMethod)
    → noting (looks entries names) (event_mapped (tree nodes) event) (known_meant nodes s) ≡ known_meant nodes (noting by_number event s)
noting_tied nodes entries names event s = noting_mapped by_number (looks entries names) (tree nodes) (method_meant nodes) event s

module _ (nodes : List Node) (arena : IsArena nodes) (entries : Entries) (names : List QName) where
  abbrev pub look : Looks Tree QName Method SetFault
  look = looks entries names

  abbrev Known : ℕ → Type 0
  Known n = n < length nodes

  agrees : AgreeOn Known (tree nodes) by_number look
  agrees = agree nodes arena entries names

  -- what is known has the same, where numbers are those of nodes
  pub has_tied : (xs : List ℕ) (x : ℕ) → AllBelow (length nodes) xs → x < length nodes
      → has look (map (tree nodes) xs) (tree nodes x) ≡ list_any (nat_eq x) xs
  has_tied xs x all there = has_mapped by_number look (tree nodes) (method_meant nodes) Known agrees xs x all there

  pub marking_tied : (x : ℕ) (s : Opened ℕ SetMethod) → AllBelow (length nodes) s.marked → x < length nodes
      → marking look (tree nodes x) (known_meant nodes s) ≡ known_meant nodes (marking by_number x s)
  marking_tied x s all there = marking_mapped by_number look (tree nodes) (method_meant nodes) Known agrees x s all there

  -- an interface comes to its holder
  module _ (holder : ℕ) (several : Bool) (of : ℕ) (s : Opened ℕ SetMethod)
      (all : AllBelow (length nodes) s.marked) (holder_there : holder < length nodes) (there : of < length nodes) where
    abbrev next : Opened ℕ SetMethod
    next = noting by_number (has_interface holder of) s

    abbrev joined_by : Bool → Bool → Opened Tree Method → Opened Tree Method → Step Tree QName Method SetFault
    joined_by marked several both one = cond marked (cond several (stops UnionMethods) (goes both)) (goes one)

    abbrev numbered_by : Bool → Bool → Step ℕ QName SetMethod SetFault
    numbered_by marked several = cond marked (cond several (stops UnionMethods) (goes (marking by_number holder next))) (goes next)

    joined_is : joined look (tree nodes holder) several (tree nodes of) (known_meant nodes s)
        ≡ joined_by (has by_number s.marked of) several (known_meant nodes (marking by_number holder next)) (known_meant nodes next)
    joined_is =
        let one = noting_tied nodes entries names (has_interface holder of) s in
        let mark : marking look (tree nodes holder) (noting look (has_interface (tree nodes holder) (tree nodes of)) (known_meant nodes s)) ≡ known_meant nodes (marking by_number holder next) =
        ap (marking look (tree nodes holder)) one ∙ marking_tied holder next all holder_there in
        let known = has_tied s.marked of all there in
        λ i. joined_by (known i) several (mark i) (one i)

    pub joined_goes : (t : Opened ℕ SetMethod) → joined by_number holder several of s ≡ goes t
        → joined look (tree nodes holder) several (tree nodes of) (known_meant nodes s) ≡ goes (known_meant nodes t)
    joined_goes t is = joined_is ∙ by (has by_number s.marked of) several is
      where
        by : (b c : Bool) → numbered_by b c ≡ goes t → joined_by b c (known_meant nodes (marking by_number holder next)) (known_meant nodes next) ≡ goes (known_meant nodes t)
        by true true is = absurd cc
        by true false is = let same : marking by_number holder next ≡ t = cc in ap (λ o. goes (known_meant nodes o)) same
        by false c is = let same : next ≡ t = cc in ap (λ o. goes (known_meant nodes o)) same

    pub joined_stops : (f : SetFault) → joined by_number holder several of s ≡ stops f
        → (joined look (tree nodes holder) several (tree nodes of) (known_meant nodes s) ≡ stops f) × (f ≡ UnionMethods)
    joined_stops f is = (joined_is ∙ (by (has by_number s.marked of) several is).0, (by (has by_number s.marked of) several is).1)
      where
        by : (b c : Bool) → numbered_by b c ≡ stops f → (joined_by b c (known_meant nodes (marking by_number holder next)) (known_meant nodes next) ≡ stops f) × (f ≡ UnionMethods)
        by true true is = let same : UnionMethods ≡ f = cc in (ap stops same, sym same)
        by true false is = absurd cc
        by false c is = absurd cc

  -- an interface is opened
  marks_tied : (own : List SetMethod) (flag : Bool) (s : Opened ℕ SetMethod) (x : ℕ) → AllBelow (length nodes) s.marked → x < length nodes
      → marked_by look (map (method_meant nodes) own) flag (map (tree nodes) s.marked) (tree nodes x) ≡ map (tree nodes) (marked_by by_number own flag s.marked x)
  marks_tied [] false s x all there = refl
  marks_tied [] true s x all there = ap (λ (o : Opened Tree Method). o.marked) (marking_tied x s all there)
  marks_tied (m ∷ own) flag s x all there = ap (λ (o : Opened Tree Method). o.marked) (marking_tied x s all there)

  pub opened_tied : (x : ℕ) (name : Option QName) (held : Held) (s : Opened ℕ SetMethod) → AllBelow (length nodes) s.marked → x < length nodes
      → opened_with look (tree nodes x) (meant nodes name held) (known_meant nodes s) ≡ known_meant nodes (opened_with by_number x (shown held) s)
  opened_tied x name held s all there =
      let types = sym (map-append (tree nodes) s.types (x ∷ [])) in
      let methods = sym (map-append (method_meant nodes) s.methods held.own.items) in
      let marked = marks_tied held.own.items held.comparable s x all there in
      λ i. record { types = types i; methods = methods i; flag = s.flag || held.comparable; marked = marked i; events = map (event_mapped (tree nodes)) s.events }

  -- an element, by its node
  abbrev level_terms : Level → List (TermOf Tree)
  level_terms (level.union_of inner) = inner
  level_terms _ = []

  terms_back : (xs : List (TermOf Tree)) → term_list (terms_of xs) ≡ xs
  terms_back xs = ap level_terms (level_of-tree_of (level.union_of xs))

  abbrev denoted : TermOf ℕ → TermOf Tree
  denoted x = record { tilde = x.tilde; type = tree nodes x.type }

  abbrev as_term : TermOf Tree → OpenTerm Tree
  as_term x = record { tilde = x.tilde; type = x.type }

  terms_meant : (inner : List Term) → map as_term (map denoted (map term_shape inner))
      ≡ map (term_mapped (tree nodes)) (map term_of inner)
  terms_meant [] = refl
  terms_meant (x ∷ inner) = ap (λ rest. term_mapped (tree nodes) (term_of x) ∷ rest) (terms_meant inner)

  element_of_node : (id : ℕ) (node : Node) → tree nodes id ≡ tree_of (retype (tree nodes) (node_shape node))
      → element (tree nodes id) ≡ map (term_mapped (tree nodes)) (element_of (Some node) id)
  element_of_node id (Union inner) is =
      ap element is ∙ ap (map as_term) (terms_back (map denoted (map term_shape inner)))
      ∙ terms_meant inner
  element_of_node id _ is = ap element is ∙ (λ i. record { tilde = false; type = sym is i } ∷ [])

  node_at : (n : ℕ) (all : List Node) → n < length all → (node : Node) × IsNode all n node
  node_at n [] h = absurd (omega arith)
  node_at zero (x ∷ xs) h = (x, refl)
  node_at (suc n) (x ∷ xs) h = node_at n xs (omega arith)

  pub element_tied : (id : ℕ) → id < length nodes → element (tree nodes id) ≡ map (term_mapped (tree nodes)) (element_at nodes id)
  element_tied id there =
      let found = node_at id nodes there in
      let is = tree_unfolds nodes id found.0 found.1 (arena.falls id found.0 found.1) in
      element_of_node id found.0 is ∙ ap (λ o. map (term_mapped (tree nodes)) (element_of o id)) (sym found.1)

  several_tied : (els : List (OpenTerm ℕ)) → several_terms look (map (term_mapped (tree nodes)) els) ≡ several_terms by_number els
  several_tied [] = refl
  several_tied (x ∷ []) = refl
  several_tied (x ∷ y ∷ rest) = refl

  terms_tied : (holder : ℕ) (several : Bool) (els : List (OpenTerm ℕ)) → due_meant nodes (map (term holder several) els) ≡ map (term (tree nodes holder) several) (map (term_mapped (tree nodes)) els)
  terms_tied holder several [] = refl
  terms_tied holder several (x ∷ els) = ap (λ rest. term (tree nodes holder) several (term_mapped (tree nodes) x) ∷ rest) (terms_tied holder several els)

  pub items_tied : (holder : ℕ) (els : List (OpenTerm ℕ)) → due_meant nodes (element_items by_number holder els) ≡ element_items look (tree nodes holder) (map (term_mapped (tree nodes)) els)
  items_tied holder els =
      map-append (item_mapped (tree nodes)) (map (term holder (several_terms by_number els)) els) (ends holder ∷ [])
      ∙ ap (λ front. front ++ ends (tree nodes holder) ∷ []) (terms_tied holder (several_terms by_number els) els)
      ∙ ap (λ b. map (term (tree nodes holder) b) (map (term_mapped (tree nodes)) els) ++ ends (tree nodes holder) ∷ []) (sym (several_tied els))

  elements_tied : (holder : ℕ) (ids : List ℕ) → AllBelow (length nodes) ids
      → due_meant nodes (elements_left nodes holder ids) ≡ flat_map (element_items look (tree nodes holder)) (map (λ id. element (tree nodes id)) ids)
  elements_tied holder [] all = refl
  elements_tied holder (id ∷ ids) all =
      let rest = elements_tied holder ids all.1 in
      let first = items_tied holder (element_at nodes id) ∙ ap (element_items look (tree nodes holder)) (sym (element_tied id all.0)) in
      map-append (item_mapped (tree nodes)) (element_items by_number holder (element_at nodes id)) (elements_left nodes holder ids)
      ∙ (λ i. first i ++ rest i)

  close_tied : (name : Option QName) → due_meant nodes (close_items by_number name) ≡ close_items look name
  close_tied None = refl
  close_tied (Some q) = refl

  -- what an interface leaves to be done, before what was
  pub inside_tied : (x : ℕ) (name : Option QName) (held : Held) (rest : List (Item ℕ QName)) → AllBelow (length nodes) held.embedded.items
      → due_meant nodes (elements_left nodes x held.embedded.items ++ (close_items by_number name ++ rest)) ≡ inside look (tree nodes x) (meant nodes name held) ++ due_meant nodes rest
  inside_tied x name held rest all =
      let front = elements_left nodes x held.embedded.items in
      let first = elements_tied x held.embedded.items all in
      let second = close_tied name in
      map-append (item_mapped (tree nodes)) front (close_items by_number name ++ rest)
      ∙ ap (λ more. due_meant nodes front ++ more) (map-append (item_mapped (tree nodes)) (close_items by_number name) rest)
      ∙ sym (append_assoc (due_meant nodes front) (due_meant nodes (close_items by_number name)) (due_meant nodes rest))
      ∙ (λ i. (first i ++ second i) ++ due_meant nodes rest)

  top_told : (type : Tree) → top_items entries names type ≡ map (term type (several_terms look (element type))) (element type)
  top_told (union inner) = refl
  top_told _ = refl

  -- a type as a term of itself
  pub top_tied : (id : ℕ) → id < length nodes
      → due_meant nodes (map (term id (several_terms by_number (element_at nodes id))) (element_at nodes id)) ≡ top_items entries names (tree nodes id)
  top_tied id there =
      let same = element_tied id there in
      terms_tied id (several_terms by_number (element_at nodes id)) (element_at nodes id)
      ∙ ap (λ b. map (term (tree nodes id) b) (map (term_mapped (tree nodes)) (element_at nodes id))) (sym (several_tied (element_at nodes id)))
      ∙ ap (λ els. map (term (tree nodes id) (several_terms look els)) els) (sym same)
      ∙ sym (top_told (tree nodes id))

  -- what the code answers as an interface comes to its holder
  pub joined_gives : (holder : ℕ) (several : Bool) (of : ℕ) (old new : Found) → IsWithin (length nodes) (state old) → holder < length nodes → of < length nodes
      → (r : Result (Unit {0}) SetFault) → Joins r (joined by_number holder several of (state old)) (state new)
      → GivesJoined nodes r new (joined look (tree nodes holder) several (tree nodes of) (known_meant nodes (state old)))
  joined_gives holder several of old new within here there (Ok u) is =
      (joined_goes holder several of (state old) within.marked here there (state new) is, joined_within (length nodes) holder several of (state old) (state new) here there within is)
  joined_gives holder several of old new within here there (Err OutOfMemory) is = tt
  joined_gives holder several of old new within here there (Err (Env e)) is = joined_stops holder several of (state old) within.marked here there (Env e) is
  joined_gives holder several of old new within here there (Err (AliasCycle q)) is = joined_stops holder several of (state old) within.marked here there (AliasCycle q) is
  joined_gives holder several of old new within here there (Err (EmbedCycle q)) is = joined_stops holder several of (state old) within.marked here there (EmbedCycle q) is
  joined_gives holder several of old new within here there (Err (Arity q want have)) is = joined_stops holder several of (state old) within.marked here there (Arity q want have) is
  joined_gives holder several of old new within here there (Err (Kind q)) is = joined_stops holder several of (state old) within.marked here there (Kind q) is
  joined_gives holder several of old new within here there (Err TermInterface) is = joined_stops holder several of (state old) within.marked here there TermInterface is
  joined_gives holder several of old new within here there (Err UnionMethods) is = joined_stops holder several of (state old) within.marked here there UnionMethods is
  joined_gives holder several of old new within here there (Err TooMany) is = joined_stops holder several of (state old) within.marked here there TooMany is
  joined_gives holder several of old new within here there (Err Nodes) is = joined_stops holder several of (state old) within.marked here there Nodes is
