-- What a walk in tasks keeps, and why it ends.
use Rattle.std.proofs.Common.{◌≡◌, ℕ, ◌<◌, ◌+◌, ◌*◌, true, List, [], ◌∷◌, ◌++◌, length, map, refl, ap, sym, subst, ◌∙◌, arith, append_assoc, ◌⊎◌, inl, inr, length-append}
use Rattle.std.specs.List.{flat_map, AllByRecursion}
use Rattle.std.proofs.lemmas.List.{append-nil}
use Rattle.type_terms.specs.declared.descriptors.Node.{Node}
use Rattle.go_values.specs.declared.positions.Pos.{Pos}
use Rattle.type_terms.specs.Shapes.{retype, shape_types}
use Rattle.type_terms.specs.ShapeLaws.{shape_types_map}
use Rattle.type_terms.specs.NodeShapes.{node_shape, children}
use Rattle.type_terms.specs.TreeLevels.{level_of-tree_of}
use Rattle.type_terms.specs.Denoted.{all_weaker}
use Rattle.type_terms.specs.Trees.{Text, Tree, tree_of}
use Rattle.type_terms.specs.Parts.{parts}
use Rattle.type_terms.specs.Replaced.{all_left, all_right, all_append}
use Rattle.type_terms.specs.Arenas.{AllBelow}
use Rattle.type_terms.specs.Denotation.{tree}
use Rattle.decl_text.specs.declared.tasks.Task.{Task}
use Rattle.decl_text.specs.declared.tasks.Task.TheVariants.{Enter, Finish}
use Rattle.decl_text.specs.Walks.{walk}
use Rattle.decl_text.specs.Numbers.{Numbers, no_numbers, is_settled, finish, finish_all}
use Rattle.decl_text.specs.Tasks.{task_node, entering, IsEntered, Steps}
use Rattle.decl_text.proofs.WalkLevelLemmas.{walk_of_level}
use Rattle.decl_text.proofs.FinishLemmas.{IsClosed, no_numbers_closed, finish_closes, finish_all_append}
use Rattle.decl_text.proofs.WalkOrderLemmas.{PartsFirst, parts_first_later, walks_are_ordered, settled_adds_nothing}

-- the types that are finished by the tasks, in order
abbrev pub task_walk : List Node → Task → List Tree
task_walk nodes (Enter id) = walk (tree nodes id)
task_walk nodes (Finish id) = tree nodes id ∷ []

abbrev pub tasks_walk : List Node → List Task → List Tree
tasks_walk nodes [] = []
tasks_walk nodes (task ∷ tasks) = tasks_walk nodes tasks ++ task_walk nodes task

-- how much is left to do: entering a type takes more than entering its parts and finishing it
abbrev pub task_weight : List Node → Task → ℕ
task_weight nodes (Enter id) = 2 * length (walk (tree nodes id))
task_weight nodes (Finish id) = 1

abbrev pub tasks_weight : List Node → List Task → ℕ
tasks_weight nodes [] = 0
tasks_weight nodes (task ∷ tasks) = tasks_weight nodes tasks + task_weight nodes task

abbrev pub AreInside : List Node → List Task → Type 0
AreInside nodes tasks = AllByRecursion (λ task. task_node task < length nodes) tasks

-- the tasks that are left do what remains of finishing all these types
pub record IsWalking (nodes : List Node) (all : List Tree) (tasks : List Task) (numbers : Numbers) : Type 0 where
  pub inside : AreInside nodes tasks
  pub closed : IsClosed numbers.types
  pub ordered : PartsFirst numbers (tasks_walk nodes tasks)
  pub ends : finish_all numbers (tasks_walk nodes tasks) ≡ finish_all no_numbers all

-- entering the last of some types first
pub entering_last : (tasks : List Task) (ids : List ℕ) (last : ℕ) → tasks ++ entering (ids ++ last ∷ []) ≡ (tasks ++ Enter last ∷ []) ++ entering ids
entering_last tasks ids last = ap (λ (more : List Task). tasks ++ more) (front ids) ∙ sym (append_assoc tasks (Enter last ∷ []) (entering ids))
  where
    front : (xs : List ℕ) → entering (xs ++ last ∷ []) ≡ Enter last ∷ entering xs
    front [] = refl
    front (x ∷ xs) = ap (λ (more : List Task). more ++ Enter x ∷ []) (front xs)

module _ (nodes : List Node) where
  walk_append : (xs ys : List Task) → tasks_walk nodes (xs ++ ys) ≡ tasks_walk nodes ys ++ tasks_walk nodes xs
  walk_append [] ys = sym (append-nil (tasks_walk nodes ys))
  walk_append (x ∷ xs) ys = ap (λ (w : List Tree). w ++ task_walk nodes x) (walk_append xs ys) ∙ append_assoc (tasks_walk nodes ys) (tasks_walk nodes xs) (task_walk nodes x)

  weight_append : (xs ys : List Task) → tasks_weight nodes (xs ++ ys) ≡ tasks_weight nodes xs + tasks_weight nodes ys
  weight_append [] ys = omega arith
  weight_append (x ∷ xs) ys = omega (arith, weight_append xs ys)

  entering_walk : (ids : List ℕ) → tasks_walk nodes (entering ids) ≡ flat_map walk (map (tree nodes) ids)
  entering_walk [] = refl
  entering_walk (id ∷ ids) = walk_append (entering ids) (Enter id ∷ []) ∙ ap (λ (w : List Tree). walk (tree nodes id) ++ w) (entering_walk ids)

  entering_weight : (ids : List ℕ) → tasks_weight nodes (entering ids) ≡ 2 * length (flat_map walk (map (tree nodes) ids))
  entering_weight [] = refl
  entering_weight (id ∷ ids) =
      omega (arith, weight_append (entering ids) (Enter id ∷ []), entering_weight ids, length-append (walk (tree nodes id)) (flat_map walk (map (tree nodes) ids)))

  entering_inside : (ids : List ℕ) → AllBelow (length nodes) ids → AreInside nodes (entering ids)
  entering_inside [] all = tt
  entering_inside (id ∷ ids) all = all_append (λ task. task_node task < length nodes) (entering ids) (Enter id ∷ []) (entering_inside ids all.1) (all.0, tt)

  -- after a type was entered the same types are finished
  entered_walk : (id : ℕ) (tasks after : List Task) → IsEntered nodes id tasks after → tasks_walk nodes after ≡ walk (tree nodes id) ++ tasks_walk nodes tasks
  entered_walk id tasks after entered =
      let inner = flat_map walk (parts (tree nodes id)) in
      ap (tasks_walk nodes) entered.tasks
      ∙ walk_append (tasks ++ Finish id ∷ []) (entering entered.types)
      ∙ ap (λ (w : List Tree). w ++ tasks_walk nodes (tasks ++ Finish id ∷ [])) (entering_walk entered.types ∙ ap (flat_map walk) entered.denote)
      ∙ ap (λ (w : List Tree). inner ++ w) (walk_append tasks (Finish id ∷ []))
      ∙ sym (append_assoc inner (tree nodes id ∷ []) (tasks_walk nodes tasks))
      ∙ ap (λ (w : List Tree). w ++ tasks_walk nodes tasks) (sym (walk_of_level (tree nodes id)))

  walk_length : (id : ℕ) → length (walk (tree nodes id)) ≡ length (flat_map walk (parts (tree nodes id))) + 1
  walk_length id = omega (arith, ap length (walk_of_level (tree nodes id)), length-append (flat_map walk (parts (tree nodes id))) (tree nodes id ∷ []))

  entered_weight : (id : ℕ) (tasks after : List Task) → IsEntered nodes id tasks after → tasks_weight nodes after < tasks_weight nodes (tasks ++ Enter id ∷ [])
  entered_weight id tasks after entered =
      let inner : tasks_weight nodes (entering entered.types) ≡ 2 * length (flat_map walk (parts (tree nodes id))) =
      entering_weight entered.types ∙ ap (λ types. 2 * length (flat_map walk types)) entered.denote
      in
      omega (arith, ap (tasks_weight nodes) entered.tasks, weight_append (tasks ++ Finish id ∷ []) (entering entered.types), weight_append tasks (Finish id ∷ []), weight_append tasks (Enter id ∷ []), inner, walk_length id)

  pub step_falls : (task : Task) (tasks after : List Task) (numbers new : Numbers) → Steps nodes task tasks numbers after new → tasks_weight nodes after < tasks_weight nodes (tasks ++ task ∷ [])
  step_falls (Enter id) tasks after numbers new step = by step.1
    where
      by : ((is_settled numbers.types (tree nodes id) ≡ true) × (after ≡ tasks)) ⊎ IsEntered nodes id tasks after → tasks_weight nodes after < tasks_weight nodes (tasks ++ Enter id ∷ [])
      by (inl settled) = omega (arith, ap (tasks_weight nodes) settled.1, weight_append tasks (Enter id ∷ []), walk_length id)
      by (inr entered) = entered_weight id tasks after entered
  step_falls (Finish id) tasks after numbers new step = omega (arith, ap (tasks_weight nodes) step.1, weight_append tasks (Finish id ∷ []))

  module _ (all : List Tree) where
    -- what a task leaves, where it finishes the same types in all
    walking : (tasks after : List Task) (numbers : Numbers) → AreInside nodes after → IsClosed numbers.types → (left : List Tree) → tasks_walk nodes after ≡ left → PartsFirst numbers left → finish_all numbers left ≡ finish_all no_numbers all → IsWalking nodes all after numbers
    walking tasks after numbers inside closed left same ordered ends = record {
      inside = inside;
      closed = closed;
      ordered = subst (PartsFirst numbers) (sym same) ordered;
      ends = ap (finish_all numbers) same ∙ ends;
    }

    pub step_walks : (task : Task) (tasks after : List Task) (numbers new : Numbers) → IsWalking nodes all (tasks ++ task ∷ []) numbers → Steps nodes task tasks numbers after new → IsWalking nodes all after new
    step_walks (Enter id) tasks after numbers new before step = subst (IsWalking nodes all after) (sym step.0) (by step.1)
      where
        type : Tree
        type = tree nodes id

        rest : List Tree
        rest = tasks_walk nodes tasks

        whole : tasks_walk nodes (tasks ++ Enter id ∷ []) ≡ walk (tree nodes id) ++ tasks_walk nodes tasks
        whole = walk_append tasks (Enter id ∷ [])

        ordered : PartsFirst numbers (walk (tree nodes id) ++ tasks_walk nodes tasks)
        ordered = subst (PartsFirst numbers) whole before.ordered

        ends : finish_all numbers (walk (tree nodes id) ++ tasks_walk nodes tasks) ≡ finish_all no_numbers all
        ends = sym (ap (finish_all numbers) whole) ∙ before.ends

        inner : AreInside nodes tasks
        inner = all_left (λ task. task_node task < length nodes) tasks (Enter id ∷ []) before.inside

        here : id < length nodes
        here = (all_right (λ task. task_node task < length nodes) tasks (Enter id ∷ []) before.inside).0

        by : ((is_settled numbers.types (tree nodes id) ≡ true) × (after ≡ tasks)) ⊎ IsEntered nodes id tasks after → IsWalking nodes all after numbers
        by (inl settled) =
            let nothing : finish_all numbers (walk (tree nodes id)) ≡ numbers = settled_adds_nothing numbers before.closed (tree nodes id) settled.0 in
            let later : PartsFirst numbers (tasks_walk nodes tasks) = subst (λ n. PartsFirst n (tasks_walk nodes tasks)) nothing (parts_first_later numbers (walk (tree nodes id)) (tasks_walk nodes tasks) ordered) in
            let last : finish_all numbers (tasks_walk nodes tasks) ≡ finish_all no_numbers all =
            sym (finish_all_append numbers (walk (tree nodes id)) (tasks_walk nodes tasks) ∙ ap (λ n. finish_all n (tasks_walk nodes tasks)) nothing) ∙ ends
            in
            walking tasks after numbers (subst (AreInside nodes) (sym settled.1) inner) before.closed (tasks_walk nodes tasks) (ap (tasks_walk nodes) settled.1) later last
        by (inr entered) =
            let inside : AreInside nodes after =
            subst (AreInside nodes) (sym entered.tasks)
            (all_append (λ task. task_node task < length nodes) (tasks ++ Finish id ∷ []) (entering entered.types)
            (all_append (λ task. task_node task < length nodes) tasks (Finish id ∷ []) inner (here, tt))
            (entering_inside entered.types entered.there))
            in
            walking tasks after numbers inside before.closed (walk (tree nodes id) ++ tasks_walk nodes tasks) (entered_walk id tasks after entered) ordered ends
    step_walks (Finish id) tasks after numbers new before step = subst (IsWalking nodes all after) (sym step.0) next
      where
        whole : tasks_walk nodes (tasks ++ Finish id ∷ []) ≡ tree nodes id ∷ tasks_walk nodes tasks
        whole = walk_append tasks (Finish id ∷ [])

        ordered : PartsFirst numbers (tree nodes id ∷ tasks_walk nodes tasks)
        ordered = subst (PartsFirst numbers) whole before.ordered

        next : IsWalking nodes all after (finish numbers (tree nodes id))
        next =
            walking tasks after (finish numbers (tree nodes id))
            (subst (AreInside nodes) (sym step.1) (all_left (λ task. task_node task < length nodes) tasks (Finish id ∷ []) before.inside))
            (finish_closes numbers (tree nodes id) before.closed ordered.0)
            (tasks_walk nodes tasks) (ap (tasks_walk nodes) step.1) ordered.1 (sym (ap (finish_all numbers) whole) ∙ before.ends)

  -- the tasks to begin with
  pub walk_begins : (ids : List ℕ) (tasks : List Task) (numbers : Numbers) → AllBelow (length nodes) ids → tasks ≡ entering ids → numbers ≡ no_numbers → IsWalking nodes (flat_map walk (map (tree nodes) ids)) tasks numbers
  walk_begins ids tasks numbers there is none =
      let all = flat_map walk (map (tree nodes) ids) in
      let first : IsWalking nodes all (entering ids) no_numbers =
      walking all (entering ids) (entering ids) no_numbers (entering_inside ids there) no_numbers_closed all (entering_walk ids) (walks_are_ordered no_numbers (map (tree nodes) ids)) refl
      in
      subst (λ t. IsWalking nodes all t numbers) (sym is) (subst (IsWalking nodes all (entering ids)) (sym none) first)

  -- a type whose parts were added to the tasks was entered
  pub entered_at : (id : ℕ) (node : Node) → tree nodes id ≡ tree_of (retype (tree nodes) (node_shape node)) → AllBelow id (children node) → id < length nodes
      → (before middle after : List Task) (ids : List ℕ) → ids ≡ children node → middle ≡ before ++ Finish id ∷ [] → after ≡ middle ++ entering ids → IsEntered nodes id before after
  entered_at id node denotes falls here before middle after ids are finishing entered =
      let below : AllBelow (length nodes) (children node) = all_weaker (λ c. c < id) (λ c. c < length nodes) (λ c less. omega arith) (children node) falls in
      let types : parts (tree nodes id) ≡ map (tree nodes) (children node) =
      ap parts denotes
      ∙ ap shape_types (level_of-tree_of (retype (tree nodes) (node_shape node)))
      ∙ shape_types_map (λ (p : Pos). p) (λ (s : Text). s) (λ (q : Text). q) (tree nodes) (node_shape node)
      in
      record {
        types = ids;
        there = subst (AllBelow (length nodes)) (sym are) below;
        denote = ap (map (tree nodes)) are ∙ sym types;
        tasks = entered ∙ ap (λ (front : List Task). front ++ entering ids) finishing;
      }
