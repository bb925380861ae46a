-- A walk through types in tasks, of which the last is the next one, that lists what the types refer to.
use Rattle.std.specs.Prelude.{◌≡◌, ◌⊎◌, ℕ, List, [], ◌∷◌, ◌++◌, length}
use Rattle.std.specs.List.{Contains}
use Rattle.type_terms.specs.declared.descriptors.Node.{Node}
use Rattle.type_terms.specs.declared.descriptors.Node.TheVariants.{Named, Param, AliasName}
use Rattle.type_terms.specs.declared.descriptors.Node.TheVariants.{Instance}
use Rattle.type_terms.specs.Shapes.{retype}
use Rattle.type_terms.specs.Trees.{tree_of}
use Rattle.type_terms.specs.NodeShapes.{node_shape, children}
use Rattle.type_terms.specs.Denotation.{tree}
use Rattle.type_terms.specs.Arenas.{AllBelow}
use Rattle.environments.specs.declared.mentions.Role.TheVariants.{Defined, Parameter, Alias, DefinedBase, AliasBase}
use Rattle.environments.specs.declared.mentions.Reference.{Reference}
use Rattle.environments.specs.declared.reference_walk.Task.{Task}
use Rattle.environments.specs.declared.reference_walk.Task.TheVariants.{Visit, Base, Finish}
use Rattle.environments.specs.declared.reference_walk.Walk.{Walk}

-- the tasks, what was found, and the nodes that are finished
pub record View : Type 0 where
  pub tasks : List Task
  pub found : List Reference
  pub finished : List ℕ

abbrev pub view : Walk → View
view walk = record { tasks = walk.tasks.items; found = walk.found.keys; finished = walk.finished.keys }

abbrev pub task_node : Task → ℕ
task_node (Visit id) = id
task_node (Base id count) = id
task_node (Finish id) = id

-- the tasks to visit some types, of which the first is next
abbrev pub visiting : List ℕ → List Task
visiting [] = []
visiting (id ∷ ids) = visiting ids ++ Visit id ∷ []

-- A reference was listed behind those that were found, unless it was one of them.
abbrev pub IsNoted : List Reference → Reference → List Reference → Type 0
IsNoted seen reference found = (Contains seen reference × (found ≡ seen))
    ⊎ ((Contains seen reference → ⊥) × (found ≡ seen ++ reference ∷ []))

-- what the base of an instance adds
abbrev pub IsBaseNoted : Node → ℕ → List Reference → List Reference → Type 0
IsBaseNoted (Named q) count seen found = IsNoted seen (record { name = q; role = DefinedBase count }) found
IsBaseNoted (AliasName q) count seen found = IsNoted seen (record { name = q; role = AliasBase count }) found
IsBaseNoted _ count seen found = found ≡ seen

abbrev pub IsName : Reference → View → View → Type 0
IsName reference old new = IsNoted old.found reference new.found × (new.tasks ≡ old.tasks)
    × (new.finished ≡ old.finished)

abbrev pub IsOpen : List Task → View → View → Type 0
IsOpen more old new = (new.tasks ≡ old.tasks ++ more) × (new.found ≡ old.found) × (new.finished ≡ old.finished)

-- What a visit of a node does: a name is noted, and every other node is opened.
abbrev pub Visits : ℕ → Node → View → View → Type 0
Visits id (Named q) old new = IsName (record { name = q; role = Defined }) old new
Visits id (Param q) old new = IsName (record { name = q; role = Parameter }) old new
Visits id (AliasName q) old new = IsName (record { name = q; role = Alias }) old new
Visits id (Instance base args) old new = IsOpen (Finish id ∷ Base base (length args) ∷ visiting args) old new
Visits id node old new = IsOpen (Finish id ∷ visiting (children node)) old new

-- a node of the arena with its number
pub record IsAt (nodes : List Node) (id : ℕ) (node : Node) : Type 0 where
  pub denotes : tree nodes id ≡ tree_of (retype (tree nodes) (node_shape node))
  pub below : AllBelow (length nodes) (children node)

-- what a task does
abbrev pub Steps : List Node → Task → View → View → Type 0
Steps nodes (Visit id) old new = (Contains old.finished id × (new ≡ old))
    ⊎ ((node : Node) × IsAt nodes id node × Visits id node old new)
Steps nodes (Base id count) old new = ((node : Node) × IsAt nodes id node
    × IsBaseNoted node count old.found new.found) × (new.tasks ≡ old.tasks) × (new.finished ≡ old.finished)
Steps nodes (Finish id) old new = (new.tasks ≡ old.tasks) × (new.found ≡ old.found)
    × ((number : ℕ) → Contains new.finished number → Contains old.finished number ⊎ (number ≡ id))
