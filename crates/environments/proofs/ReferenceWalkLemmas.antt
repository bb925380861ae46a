-- What a walk in tasks keeps, and why it ends.
use Rattle.std.proofs.Common.{◌≡◌, ◌⊎◌, inl, inr, ℕ, ◌<◌, ◌+◌, ◌*◌, List, [], ◌∷◌, ◌++◌, length, map, refl, ap, sym, ◌∙◌, subst, arith, append_assoc}
use Rattle.std.specs.List.{flat_map, AllByRecursion, Contains, sum_by}
use Rattle.std.proofs.lemmas.List.{append-nil, map-append, length-map}
use Rattle.std.proofs.lemmas.List.Elements.{Contains-append_right, Contains-append_cases}
use Rattle.std.proofs.lemmas.List.Sums.{sum_by-append, sum_by-cons}
use Rattle.go_values.specs.declared.positions.Pos.{Pos}
use Rattle.type_terms.specs.declared.descriptors.Node.{Node}
use Rattle.type_terms.specs.declared.descriptors.Node.TheVariants.{Predeclared, Named, Param, AliasName, Pointer, Slice, Array, Chan, MapOf, FuncOf, StructOf, Iface, Instance, Union}
use Rattle.type_terms.specs.Shapes.{retype, shape_types}
use Rattle.type_terms.specs.ShapeLaws.{shape_types_map}
use Rattle.type_terms.specs.Trees.{Text, Tree, instance, tree_of, type_list, types_of}
use Rattle.type_terms.specs.TreeLevels.{level_of-tree_of, types_back}
use Rattle.type_terms.specs.Parts.{parts, tree_size}
use Rattle.type_terms.specs.TreeSizes.{size_of_parts}
use Rattle.type_terms.specs.NodeShapes.{node_shape, children}
use Rattle.type_terms.specs.Replaced.{all_left, all_right, all_append}
use Rattle.type_terms.specs.Arenas.{AllBelow}
use Rattle.type_terms.specs.Denotation.{tree}
use Rattle.environments.specs.declared.mentions.Reference.{Reference}
use Rattle.environments.specs.declared.reference_walk.Task.{Task}
use Rattle.environments.specs.declared.reference_walk.Task.TheVariants.{Visit, Base, Finish}
use Rattle.environments.specs.References.{tree_references, base_references, IsByParts, IsFirstMentions, all_seen}
use Rattle.environments.specs.ReferenceLaws.{references_of_parts, references_of_instance}
use Rattle.environments.specs.ReferenceTasks.{View, task_node, visiting, IsNoted, IsBaseNoted, IsName, IsOpen, Visits, IsAt, Steps}
use Rattle.environments.proofs.MentionLemmas.{first_mentions_append, seen_adds_nothing, first_mentions_have, noted_mentions}

-- visiting the last of some types first
pub visiting_last : (tasks : List Task) (ids : List ℕ) (last : ℕ)
    → tasks ++ visiting (ids ++ last ∷ []) ≡ (tasks ++ Visit last ∷ []) ++ visiting ids
visiting_last tasks ids last = ap (λ (more : List Task). tasks ++ more) (front ids)
    ∙ sym (append_assoc tasks (Visit last ∷ []) (visiting ids))
  where
    front : (xs : List ℕ) → visiting (xs ++ last ∷ []) ≡ Visit last ∷ visiting xs
    front [] = refl
    front (x ∷ xs) = ap (λ (more : List Task). more ++ Visit x ∷ []) (front xs)

module _ (nodes : List Node) where
  -- what a task lists
  abbrev pub task_references : Task → List Reference
  task_references (Visit id) = tree_references (tree nodes id)
  task_references (Base id count) = base_references (tree nodes id) count
  task_references (Finish id) = []

  abbrev pub tasks_references : List Task → List Reference
  tasks_references [] = []
  tasks_references (task ∷ tasks) = tasks_references tasks ++ task_references task

  -- how much is left to do: visiting a type takes more than visiting its parts and finishing it
  abbrev pub task_weight : Task → ℕ
  task_weight (Visit id) = 3 * tree_size (tree nodes id)
  task_weight (Base id count) = 1
  task_weight (Finish id) = 1

  abbrev pub tasks_weight : List Task → ℕ
  tasks_weight [] = 0
  tasks_weight (task ∷ tasks) = tasks_weight tasks + task_weight task

  abbrev pub AreInside : List Task → Type 0
  AreInside = AllByRecursion (λ task. task_node task < length nodes)

  -- what a type refers to that is still to be finished is found, or is listed by the tasks before
  abbrev pub Pending : List Reference → List Task → Type 0
  Pending found [] = Unit {0}
  Pending found (Visit id ∷ above) = Pending found above
  Pending found (Base id count ∷ above) = Pending found above
  Pending found (Finish id ∷ above) = ((r : Reference) → Contains (tree_references (tree nodes id)) r
      → Contains found r ⊎ Contains (tasks_references above) r) × Pending found above

  references_append : (xs ys : List Task)
      → tasks_references (xs ++ ys) ≡ tasks_references ys ++ tasks_references xs
  references_append [] ys = sym (append-nil (tasks_references ys))
  references_append (x ∷ xs) ys = ap (λ (w : List Reference). w ++ task_references x) (references_append xs ys)
      ∙ append_assoc (tasks_references ys) (tasks_references xs) (task_references x)

  weight_append : (xs ys : List Task) → tasks_weight (xs ++ ys) ≡ tasks_weight xs + tasks_weight ys
  weight_append [] ys = omega arith
  weight_append (x ∷ xs) ys = omega (arith, weight_append xs ys)

  visiting_references : (ids : List ℕ)
      → tasks_references (visiting ids) ≡ flat_map tree_references (map (tree nodes) ids)
  visiting_references [] = refl
  visiting_references (id ∷ ids) = references_append (visiting ids) (Visit id ∷ [])
      ∙ ap (λ (w : List Reference). tree_references (tree nodes id) ++ w) (visiting_references ids)

  visiting_weight : (ids : List ℕ) → tasks_weight (visiting ids) ≡ 3 * sum_by tree_size (map (tree nodes) ids)
  visiting_weight [] = omega arith
  visiting_weight (id ∷ ids) = omega (
    arith,
    weight_append (visiting ids) (Visit id ∷ []),
    visiting_weight ids,
    sum_by-cons tree_size (tree nodes id) (map (tree nodes) ids),
  )

  visiting_inside : (ids : List ℕ) → AllBelow (length nodes) ids → AreInside (visiting ids)
  visiting_inside [] all = tt
  visiting_inside (id ∷ ids) all = all_append (λ task. task_node task < length nodes) (visiting ids) (Visit id ∷ [])
      (visiting_inside ids all.1) (all.0, tt)

  visiting_pending : (found : List Reference) (ids : List ℕ) → Pending found (visiting ids)
  visiting_pending found [] = tt
  visiting_pending found (id ∷ ids) = behind (visiting ids) (visiting_pending found ids)
    where
      behind : (tasks : List Task) → Pending found tasks → Pending found (tasks ++ Visit id ∷ [])
      behind [] p = tt
      behind (Visit other ∷ rest) p = behind rest p
      behind (Base other count ∷ rest) p = behind rest p
      behind (Finish other ∷ rest) p = (λ r held. later r (p.0 r held), behind rest p.1)
        where
          later : (r : Reference) → Contains found r ⊎ Contains (tasks_references rest) r
              → Contains found r ⊎ Contains (tasks_references (rest ++ Visit id ∷ [])) r
          later r (inl there) = inl there
          later r (inr there) = inr (subst (λ w. Contains w r) (sym (references_append rest (Visit id ∷ [])))
              (Contains-append_right (tree_references (tree nodes id)) (tasks_references rest) r there))

  -- the last task is done, and what it lists is found
  pending_less : (old new : List Reference) (task : Task) → ((r : Reference) → Contains old r → Contains new r)
      → ((r : Reference) → Contains (task_references task) r → Contains new r) → (tasks : List Task)
      → Pending old (tasks ++ task ∷ []) → Pending new tasks
  pending_less old new task grows lists [] p = tt
  pending_less old new task grows lists (Visit id ∷ rest) p = pending_less old new task grows lists rest p
  pending_less old new task grows lists (Base id count ∷ rest) p = pending_less old new task grows lists rest p
  pending_less old new task grows lists (Finish id ∷ rest) p =
      (λ r held. later r (p.0 r held), pending_less old new task grows lists rest p.1)
    where
      split : (r : Reference) → Contains (task_references task) r ⊎ Contains (tasks_references rest) r
          → Contains new r ⊎ Contains (tasks_references rest) r
      split r (inl here) = inl (lists r here)
      split r (inr below) = inr below

      later : (r : Reference) → Contains old r ⊎ Contains (tasks_references (rest ++ task ∷ [])) r
          → Contains new r ⊎ Contains (tasks_references rest) r
      later r (inl there) = inl (grows r there)
      later r (inr there) = split r (Contains-append_cases (task_references task) (tasks_references rest) r
          (subst (λ w. Contains w r) (references_append rest (task ∷ [])) there))

  -- the last task is replaced by tasks that list what it lists
  pending_more : (found : List Reference) (task : Task) (news : List Task)
      → tasks_references news ≡ task_references task → Pending found news → (tasks : List Task)
      → Pending found (tasks ++ task ∷ []) → Pending found (tasks ++ news)
  pending_more found task news same first [] p = first
  pending_more found task news same first (Visit id ∷ rest) p = pending_more found task news same first rest p
  pending_more found task news same first (Base id count ∷ rest) p = pending_more found task news same first rest p
  pending_more found task news same first (Finish id ∷ rest) p =
      (λ r held. later r (p.0 r held), pending_more found task news same first rest p.1)
    where
      whole : tasks_references (rest ++ task ∷ []) ≡ tasks_references (rest ++ news)
      whole = references_append rest (task ∷ []) ∙ ap (λ (w : List Reference). w ++ tasks_references rest) (sym same)
          ∙ sym (references_append rest news)

      later : (r : Reference) → Contains found r ⊎ Contains (tasks_references (rest ++ task ∷ [])) r
          → Contains found r ⊎ Contains (tasks_references (rest ++ news)) r
      later r (inl there) = inl there
      later r (inr there) = inr (subst (λ w. Contains w r) whole there)

  -- a type that is finished next is found whole
  pending_last : (found : List Reference) (id : ℕ) (tasks : List Task) → Pending found (tasks ++ Finish id ∷ [])
      → (r : Reference) → Contains (tree_references (tree nodes id)) r → Contains found r
  pending_last found id [] p r held = by (p.0 r held)
    where
      by : Contains found r ⊎ Contains (tasks_references []) r → Contains found r
      by (inl there) = there
      by (inr none) = absurd (omega (arith, none.1))
  pending_last found id (Visit other ∷ rest) p r held = pending_last found id rest p r held
  pending_last found id (Base other count ∷ rest) p r held = pending_last found id rest p r held
  pending_last found id (Finish other ∷ rest) p r held = pending_last found id rest p.1 r held

  -- The tasks that are left list what remains of all.
  pub record IsWalking (all : List Reference) (now : View) : Type 0 where
    pub inside : AreInside now.tasks
    pub known : (id : ℕ) → Contains now.finished id → (r : Reference) → Contains (tree_references (tree nodes id)) r
        → Contains now.found r
    pub pending : Pending now.found now.tasks
    pub ends : (result : List Reference) → IsFirstMentions now.found (tasks_references now.tasks) result
        → IsFirstMentions [] all result

  -- a task that is next is inside
  pub next_inside : (all : List Reference) (task : Task) (tasks : List Task) (old : View)
      → old.tasks ≡ tasks ++ task ∷ [] → IsWalking all old → task_node task < length nodes
  next_inside all task tasks old is before =
      (all_right (λ t. task_node t < length nodes) tasks (task ∷ []) (subst AreInside is before.inside)).0

  -- what opens a type
  pub record Opens (id : ℕ) (more : List Task) : Type 0 where
    pub inside : AreInside more
    pub pending : (found : List Reference) → Pending found more
    pub lists : tasks_references more ≡ tree_references (tree nodes id)
    pub falls : tasks_weight more < task_weight (Visit id)

  -- a type that is no name and no instance
  module _ (id : ℕ) (node : Node) (at : IsAt nodes id node) (here : id < length nodes) where
    types_are : parts (tree nodes id) ≡ map (tree nodes) (children node)
    types_are = ap parts at.denotes ∙ ap shape_types (level_of-tree_of (retype (tree nodes) (node_shape node)))
        ∙ shape_types_map (λ (p : Pos). p) (λ (s : Text). s) (λ (q : Text). q) (tree nodes) (node_shape node)

    size_is : tree_size (tree nodes id) ≡ 1 + sum_by tree_size (map (tree nodes) (children node))
    size_is = size_of_parts (tree nodes id) ∙ ap (λ types. 1 + sum_by tree_size types) types_are

    pub opens_parts : IsByParts (tree_of (retype (tree nodes) (node_shape node)))
        → Opens id (Finish id ∷ visiting (children node))
    opens_parts by_parts =
        let plain : IsByParts (tree nodes id) = subst IsByParts (sym at.denotes) by_parts in
        let refs : tasks_references (visiting (children node)) ≡ tree_references (tree nodes id) =
        visiting_references (children node) ∙ ap (flat_map tree_references) (sym types_are)
        ∙ sym (references_of_parts (tree nodes id) plain) in
        record {
          inside = (here, visiting_inside (children node) at.below);
          pending = λ found. (λ r held. inr (subst (λ w. Contains w r) (sym refs) held), visiting_pending found (children node));
          lists = append-nil (tasks_references (visiting (children node))) ∙ refs;
          falls = omega (arith, visiting_weight (children node), size_is);
        }

  pub opens_instance : (id base : ℕ) (args : List ℕ) → IsAt nodes id (Instance base args) → id < length nodes
      → Opens id (Finish id ∷ Base base (length args) ∷ visiting args)
  opens_instance id base args at here =
      let is : tree nodes id ≡ instance (tree nodes base) (types_of (map (tree nodes) args)) = at.denotes in
      let counts : length (type_list (types_of (map (tree nodes) args))) ≡ length args =
      ap length (types_back (map (tree nodes) args)) ∙ length-map args (tree nodes) in
      let refs : tasks_references (visiting args) ++ base_references (tree nodes base) (length args)
      ≡ tree_references (tree nodes id) =
      (λ i. visiting_references args i ++ base_references (tree nodes base) (length args))
      ∙ (λ i. flat_map tree_references (sym (types_back (map (tree nodes) args)) i)
      ++ base_references (tree nodes base) (sym counts i))
      ∙ sym (references_of_instance (tree nodes base) (types_of (map (tree nodes) args)))
      ∙ ap tree_references (sym is) in
      record {
        inside = (here, (all_last args at.below, visiting_inside args (all_left (λ n. n < length nodes) args (base ∷ []) at.below)));
        pending = λ found. (λ r held. inr (subst (λ w. Contains w r) (sym refs) held), visiting_pending found args);
        lists = append-nil (tasks_references (visiting args) ++ base_references (tree nodes base) (length args)) ∙ refs;
        falls = omega (arith, visiting_weight args, size_is id (Instance base args) at here, sum_of args);
      }
    where
      all_last : (ids : List ℕ) → AllBelow (length nodes) (ids ++ base ∷ []) → base < length nodes
      all_last ids below = (all_right (λ n. n < length nodes) ids (base ∷ []) below).0

      sum_of : (ids : List ℕ) → sum_by tree_size (map (tree nodes) (ids ++ base ∷ []))
          ≡ sum_by tree_size (map (tree nodes) ids) + sum_by tree_size (tree nodes base ∷ [])
      sum_of ids = ap (sum_by tree_size) (map-append (tree nodes) ids (base ∷ []))
          ∙ sum_by-append tree_size (map (tree nodes) ids) (tree nodes base ∷ [])

  module _ (all : List Reference) where
    -- a task that lists what it lists, and is done
    turned : (task : Task) (tasks : List Task) (old new : View) → old.tasks ≡ tasks ++ task ∷ []
        → IsWalking all old → IsFirstMentions old.found (task_references task) new.found → new.tasks ≡ tasks
        → ((id : ℕ) → Contains new.finished id → (r : Reference) → Contains (tree_references (tree nodes id)) r
        → Contains new.found r) → IsWalking all new
    turned task tasks old new is before lists left known = record {
      inside = subst AreInside (sym left)
          (all_left (λ t. task_node t < length nodes) tasks (task ∷ []) (subst AreInside is before.inside));
      known = known;
      pending = subst (Pending new.found) (sym left)
          (pending_less old.found new.found task (λ r held. first_mentions_have _ _ _ lists r (inl held))
          (λ r held. first_mentions_have _ _ _ lists r (inr held)) tasks (subst (Pending old.found) is before.pending));
      ends = λ result rest.
          let whole : tasks_references old.tasks ≡ task_references task ++ tasks_references tasks =
          ap tasks_references is ∙ references_append tasks (task ∷ []) in
          before.ends result (subst (λ w. IsFirstMentions old.found w result) (sym whole)
          (first_mentions_append old.found new.found result (task_references task) (tasks_references tasks) lists
          (subst (λ ts. IsFirstMentions new.found (tasks_references ts) result) left rest)));
    }

    -- a type that is opened
    opened : (id : ℕ) (tasks more : List Task) (old new : View) → old.tasks ≡ tasks ++ Visit id ∷ []
        → IsWalking all old → Opens id more → new.tasks ≡ tasks ++ more → new.found ≡ old.found
        → new.finished ≡ old.finished → IsWalking all new
    opened id tasks more old new is before opens left found finished = record {
      inside = subst AreInside (sym left) (all_append (λ t. task_node t < length nodes) tasks more
          (all_left (λ t. task_node t < length nodes) tasks (Visit id ∷ []) (subst AreInside is before.inside))
          opens.inside);
      known = λ other held r there. subst (λ f. Contains f r) (sym found)
          (before.known other (subst (λ f. Contains f other) finished held) r there);
      pending = subst (λ f. Pending f new.tasks) (sym found) (subst (Pending old.found) (sym left)
          (pending_more old.found (Visit id) more opens.lists (opens.pending old.found) tasks
          (subst (Pending old.found) is before.pending)));
      ends = λ result rest.
          let whole : tasks_references old.tasks ≡ tasks_references new.tasks =
          ap tasks_references is ∙ references_append tasks (Visit id ∷ [])
          ∙ ap (λ (w : List Reference). w ++ tasks_references tasks) (sym opens.lists)
          ∙ sym (references_append tasks more) ∙ ap tasks_references (sym left) in
          before.ends result (subst (λ w. IsFirstMentions old.found w result) (sym whole)
          (subst (λ f. IsFirstMentions f (tasks_references new.tasks) result) found rest));
    }

    -- what a node's base notes is what the base of an instance mentions
    base_mentions : (id count : ℕ) (node : Node) → IsAt nodes id node → (seen found : List Reference)
        → IsBaseNoted node count seen found → IsFirstMentions seen (base_references (tree nodes id) count) found
    base_mentions id count node at seen found noted =
        subst (λ t. IsFirstMentions seen (base_references t count) found) (sym at.denotes) (by node noted)
      where
        none : found ≡ seen → IsFirstMentions seen [] found
        none same = subst (IsFirstMentions seen []) (sym same) (all_seen seen)

        by : (n : Node) → IsBaseNoted n count seen found
            → IsFirstMentions seen (base_references (tree_of (retype (tree nodes) (node_shape n))) count) found
        by (Named q) is = noted_mentions seen found _ is
        by (AliasName q) is = noted_mentions seen found _ is
        by (Predeclared basic) same = none same
        by (Param q) same = none same
        by (Pointer type) same = none same
        by (Slice type) same = none same
        by (Array size type) same = none same
        by (Chan dir type) same = none same
        by (MapOf key type) same = none same
        by (FuncOf home sig) same = none same
        by (StructOf home inner) same = none same
        by (Iface home embedded inner) same = none same
        by (Instance base args) same = none same
        by (Union inner) same = none same

    -- a name that was visited
    named : (id : ℕ) (tasks : List Task) (old new : View) (reference : Reference)
        → tree_references (tree nodes id) ≡ reference ∷ [] → old.tasks ≡ tasks ++ Visit id ∷ [] → IsWalking all old
        → IsNoted old.found reference new.found → new.tasks ≡ tasks → new.finished ≡ old.finished → IsWalking all new
    named id tasks old new reference refs is before noted left finished =
        let lists : IsFirstMentions old.found (tree_references (tree nodes id)) new.found =
        subst (λ w. IsFirstMentions old.found w new.found) (sym refs) (noted_mentions old.found new.found reference noted) in
        turned (Visit id) tasks old new is before lists left
        (λ other held r there. first_mentions_have _ _ _ lists r
        (inl (before.known other (subst (λ f. Contains f other) finished held) r there)))

    visited : (id : ℕ) (node : Node) → IsAt nodes id node → id < length nodes → (tasks : List Task) (old popped new : View)
        → old.tasks ≡ tasks ++ Visit id ∷ [] → popped.tasks ≡ tasks → popped.found ≡ old.found
        → popped.finished ≡ old.finished → IsWalking all old → Visits id node popped new → IsWalking all new
    visited id node at here tasks old popped new is front found finished before = by node at
      where
        name : (n : Node) (reference : Reference) → IsAt nodes id n
            → tree_references (tree_of (retype (tree nodes) (node_shape n))) ≡ reference ∷ []
            → IsName reference popped new → IsWalking all new
        name n reference is_at refs noted =
            named id tasks old new reference (ap tree_references is_at.denotes ∙ refs) is before
            (subst (λ f. IsNoted f reference new.found) found noted.0) (noted.1 ∙ front) (noted.2 ∙ finished)

        enters : (more : List Task) → Opens id more → IsOpen more popped new → IsWalking all new
        enters more opens done = opened id tasks more old new is before opens
            (done.0 ∙ ap (λ (ts : List Task). ts ++ more) front) (done.1 ∙ found) (done.2 ∙ finished)

        plain : (n : Node) → IsAt nodes id n → IsByParts (tree_of (retype (tree nodes) (node_shape n)))
            → IsOpen (Finish id ∷ visiting (children n)) popped new → IsWalking all new
        plain n is_at by_parts done = enters (Finish id ∷ visiting (children n)) (opens_parts id n is_at here by_parts) done

        by : (n : Node) → IsAt nodes id n → Visits id n popped new → IsWalking all new
        by (Named q) is_at done = name (Named q) _ is_at refl done
        by (Param q) is_at done = name (Param q) _ is_at refl done
        by (AliasName q) is_at done = name (AliasName q) _ is_at refl done
        by (Instance base args) is_at done =
            enters (Finish id ∷ Base base (length args) ∷ visiting args) (opens_instance id base args is_at here) done
        by (Predeclared basic) is_at done = plain (Predeclared basic) is_at tt done
        by (Pointer type) is_at done = plain (Pointer type) is_at tt done
        by (Slice type) is_at done = plain (Slice type) is_at tt done
        by (Array size type) is_at done = plain (Array size type) is_at tt done
        by (Chan dir type) is_at done = plain (Chan dir type) is_at tt done
        by (MapOf key type) is_at done = plain (MapOf key type) is_at tt done
        by (FuncOf home sig) is_at done = plain (FuncOf home sig) is_at tt done
        by (StructOf home inner) is_at done = plain (StructOf home inner) is_at tt done
        by (Iface home embedded inner) is_at done = plain (Iface home embedded inner) is_at tt done
        by (Union inner) is_at done = plain (Union inner) is_at tt done

    -- a task is taken from the last place, and done
    pub step_walks : (task : Task) (old popped new : View) → old.tasks ≡ popped.tasks ++ task ∷ []
        → popped.found ≡ old.found → popped.finished ≡ old.finished → IsWalking all old
        → Steps nodes task popped new → IsWalking all new
    step_walks (Visit id) old popped new is found finished before (inl skipped) =
        let same : new ≡ popped = skipped.1 in
        let there : Contains old.finished id = subst (λ f. Contains f id) finished skipped.0 in
        let lists : IsFirstMentions old.found (tree_references (tree nodes id)) new.found =
        subst (λ f. IsFirstMentions old.found (tree_references (tree nodes id)) f) (sym (ap (λ (v : View). v.found) same ∙ found))
        (seen_adds_nothing old.found (tree_references (tree nodes id)) (before.known id there)) in
        turned (Visit id) popped.tasks old new is before lists (ap (λ (v : View). v.tasks) same)
        (λ other held r inner. first_mentions_have _ _ _ lists r
        (inl (before.known other (subst (λ f. Contains f other) (ap (λ (v : View). v.finished) same ∙ finished) held) r inner)))
    step_walks (Visit id) old popped new is found finished before (inr (node, at, done)) =
        visited id node at (next_inside all (Visit id) popped.tasks old is before) popped.tasks old popped new is refl found finished before done
    step_walks (Base id count) old popped new is found finished before ((node, at, noted), left, same) =
        let lists : IsFirstMentions old.found (base_references (tree nodes id) count) new.found =
        base_mentions id count node at old.found new.found (subst (λ f. IsBaseNoted node count f new.found) found noted) in
        turned (Base id count) popped.tasks old new is before lists left
        (λ other held r inner. first_mentions_have _ _ _ lists r
        (inl (before.known other (subst (λ f. Contains f other) (same ∙ finished) held) r inner)))
    step_walks (Finish id) old popped new is found finished before (left, same, once) =
        let lists : IsFirstMentions old.found [] new.found =
        subst (IsFirstMentions old.found []) (sym (same ∙ found)) (all_seen old.found) in
        turned (Finish id) popped.tasks old new is before lists left (λ other held. known other (once other held))
      where
        known : (other : ℕ) → Contains popped.finished other ⊎ (other ≡ id) → (r : Reference)
            → Contains (tree_references (tree nodes other)) r → Contains new.found r
        known other (inl there) r inner = subst (λ f. Contains f r) (sym (same ∙ found))
            (before.known other (subst (λ f. Contains f other) finished there) r inner)
        known other (inr here) r inner = subst (λ f. Contains f r) (sym (same ∙ found))
            (pending_last old.found id popped.tasks (subst (Pending old.found) is before.pending) r
            (subst (λ n. Contains (tree_references (tree nodes n)) r) here inner))

  size_positive : (t : Tree) → 0 < tree_size t
  size_positive t = omega (arith, size_of_parts t)

  pub step_falls : (task : Task) (popped new : View) → task_node task < length nodes → Steps nodes task popped new
      → tasks_weight new.tasks < tasks_weight (popped.tasks ++ task ∷ [])
  step_falls (Visit id) popped new here (inl skipped) =
      omega (
        arith,
        ap (λ (v : View). tasks_weight v.tasks) skipped.1,
        weight_append popped.tasks (Visit id ∷ []),
        size_positive (tree nodes id),
      )
  step_falls (Visit id) popped new here (inr (node, at, done)) = by node at done
    where
      less : new.tasks ≡ popped.tasks → tasks_weight new.tasks < tasks_weight (popped.tasks ++ Visit id ∷ [])
      less left = omega (
        arith,
        ap tasks_weight left,
        weight_append popped.tasks (Visit id ∷ []),
        size_positive (tree nodes id),
      )

      enters : (more : List Task) → Opens id more → new.tasks ≡ popped.tasks ++ more
          → tasks_weight new.tasks < tasks_weight (popped.tasks ++ Visit id ∷ [])
      enters more opens left = omega (
        arith,
        ap tasks_weight left,
        weight_append popped.tasks more,
        weight_append popped.tasks (Visit id ∷ []),
        opens.falls,
      )

      plain : (n : Node) → IsAt nodes id n → IsByParts (tree_of (retype (tree nodes) (node_shape n)))
          → IsOpen (Finish id ∷ visiting (children n)) popped new
          → tasks_weight new.tasks < tasks_weight (popped.tasks ++ Visit id ∷ [])
      plain n is_at by_parts step = enters (Finish id ∷ visiting (children n)) (opens_parts id n is_at here by_parts) step.0

      by : (n : Node) → IsAt nodes id n → Visits id n popped new
          → tasks_weight new.tasks < tasks_weight (popped.tasks ++ Visit id ∷ [])
      by (Named q) is_at step = less step.1
      by (Param q) is_at step = less step.1
      by (AliasName q) is_at step = less step.1
      by (Instance base args) is_at step =
          enters (Finish id ∷ Base base (length args) ∷ visiting args) (opens_instance id base args is_at here) step.0
      by (Predeclared basic) is_at step = plain (Predeclared basic) is_at tt step
      by (Pointer type) is_at step = plain (Pointer type) is_at tt step
      by (Slice type) is_at step = plain (Slice type) is_at tt step
      by (Array size type) is_at step = plain (Array size type) is_at tt step
      by (Chan dir type) is_at step = plain (Chan dir type) is_at tt step
      by (MapOf key type) is_at step = plain (MapOf key type) is_at tt step
      by (FuncOf home sig) is_at step = plain (FuncOf home sig) is_at tt step
      by (StructOf home inner) is_at step = plain (StructOf home inner) is_at tt step
      by (Iface home embedded inner) is_at step = plain (Iface home embedded inner) is_at tt step
      by (Union inner) is_at step = plain (Union inner) is_at tt step
  step_falls (Base id count) popped new here step =
      omega (arith, ap tasks_weight step.1, weight_append popped.tasks (Base id count ∷ []))
  step_falls (Finish id) popped new here step =
      omega (arith, ap tasks_weight step.0, weight_append popped.tasks (Finish id ∷ []))

  -- the walk to begin with
  pub walk_begins : (ids : List ℕ) (now : View) → AllBelow (length nodes) ids → now.tasks ≡ visiting ids
      → now.found ≡ [] → now.finished ≡ [] → IsWalking (flat_map tree_references (map (tree nodes) ids)) now
  walk_begins ids now there tasks found finished = record {
    inside = subst AreInside (sym tasks) (visiting_inside ids there);
    known = λ id held r inner. absurd (omega (arith, (subst (λ f. Contains f id) finished held).1));
    pending = subst (Pending now.found) (sym tasks) (visiting_pending now.found ids);
    ends = λ result rest. subst (λ w. IsFirstMentions [] w result) (ap tasks_references tasks ∙ visiting_references ids)
        (subst (λ f. IsFirstMentions f (tasks_references now.tasks) result) found rest);
  }

  -- nothing is left to do
  pub walk_ended : (all : List Reference) (now : View) → IsWalking all now → now.tasks ≡ []
      → IsFirstMentions [] all now.found
  walk_ended all now walking none =
      walking.ends now.found (subst (λ ts. IsFirstMentions now.found (tasks_references ts) now.found) (sym none) (all_seen now.found))
