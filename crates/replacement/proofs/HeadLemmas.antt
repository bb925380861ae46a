-- The alias or the defined type at the head of a type, by its node.
use Rattle.std.proofs.Common.{◌≡◌, ℕ, ◌<◌, List, [], ◌∷◌, map, Option, Some, None, Ok, Err, refl, ap, sym, subst, ◌∙◌, arith}
use Rattle.std.specs.Prelude.{Result, option_map, IfOk, IfSome}
use Rattle.type_terms.specs.declared.descriptors.Node.{Node}
use Rattle.type_terms.specs.declared.descriptors.Node.TheVariants.{Instance}
use Rattle.type_terms.specs.Arenas.{AllBelow}
use Rattle.type_terms.specs.Denotation.{tree}
use Rattle.type_terms.specs.Denoted.{all_weaker}
use Rattle.type_terms.specs.NodeShapes.{node_shape, children}
use Rattle.type_terms.specs.Replaced.{all_left}
use Rattle.type_terms.specs.Shapes.{retype}
use Rattle.type_terms.specs.TreeLevels.{types_back}
use Rattle.type_terms.specs.Trees.{Tree, named, alias, instance, types_of, tree_of}
use Rattle.replacement.specs.Expansion.{alias_use, defined_use}
use Rattle.replacement.specs.Calls.{applied}
use Rattle.type_terms.specs.Names.{alias_name, defined_name}

pub ok_weaker : {X E : Type 0} (P Q : X → Type 0) (r : Result X E) → ((x : X) → P x → Q x) → IfOk r P → IfOk r Q
ok_weaker P Q (Ok x) step holds = step x holds
ok_weaker P Q (Err e) step holds = tt

pub some_weaker : {X : Type 0} (P Q : X → Type 0) (o : Option X) → ((x : X) → P x → Q x) → IfSome o P → IfSome o Q
some_weaker P Q (Some x) step holds = step x holds
some_weaker P Q None step holds = tt

pub maps_join : {A B C : Type 0} (f : A → B) (g : B → C) (o : Option A) → option_map g (option_map f o) ≡ option_map (λ x. g (f x)) o
maps_join f g (Some x) = refl
maps_join f g None = refl

pub maps_itself : {A : Type 0} (o : Option A) → option_map (λ (x : A). x) o ≡ o
maps_itself (Some x) = refl
maps_itself None = refl

-- the alias or the defined type at the head of an instance, and of what is no instance
alias_of_instance : (base : Tree) (args : List Tree)
    → alias_use (instance base (types_of args)) ≡ option_map (λ q. record { name = q; args = args }) (alias_name base)
alias_of_instance (alias q) args = ap (λ (trees : List Tree). Some (record { name = q; args = trees })) (types_back args)
alias_of_instance _ args = refl

defined_of_instance : (base : Tree) (args : List Tree)
    → defined_use (instance base (types_of args)) ≡ option_map (λ q. record { name = q; args = args }) (defined_name base)
defined_of_instance (named q) args = ap (λ (trees : List Tree). Some (record { name = q; args = trees })) (types_back args)
defined_of_instance _ args = refl

abbrev IsNoInstance : Node → Type 0
IsNoInstance node = (base : ℕ) (args : List ℕ) → node ≡ Instance base args → ⊥

alias_of_node : (nodes : List Node) (node : Node) → IsNoInstance node
    → alias_use (tree_of (retype (tree nodes) (node_shape node)))
    ≡ option_map (λ q. applied nodes q []) (alias_name (tree_of (retype (tree nodes) (node_shape node))))
alias_of_node nodes (Instance base args) other = absurd (other base args refl)
alias_of_node nodes _ other = refl

defined_of_node : (nodes : List Node) (node : Node) → IsNoInstance node
    → defined_use (tree_of (retype (tree nodes) (node_shape node)))
    ≡ option_map (λ q. applied nodes q []) (defined_name (tree_of (retype (tree nodes) (node_shape node))))
defined_of_node nodes (Instance base args) other = absurd (other base args refl)
defined_of_node nodes _ other = refl

module _ (nodes : List Node) (id : ℕ) (node : Node) (denotes : tree nodes id ≡ tree_of (retype (tree nodes) (node_shape node))) where
  module _ (base : ℕ) (args : List ℕ) (is : node ≡ Instance base args) where
    denoted : tree nodes id ≡ instance (tree nodes base) (types_of (map (tree nodes) args))
    denoted = denotes ∙ ap (λ n. tree_of (retype (tree nodes) (node_shape n))) is

    pub instance_alias : alias_use (tree nodes id) ≡ option_map (λ q. applied nodes q args) (alias_name (tree nodes base))
    instance_alias = ap alias_use denoted ∙ alias_of_instance (tree nodes base) (map (tree nodes) args)

    pub instance_defined : defined_use (tree nodes id) ≡ option_map (λ q. applied nodes q args) (defined_name (tree nodes base))
    instance_defined = ap defined_use denoted ∙ defined_of_instance (tree nodes base) (map (tree nodes) args)

  module _ (other : IsNoInstance node) where
    pub other_alias : alias_use (tree nodes id) ≡ option_map (λ q. applied nodes q []) (alias_name (tree nodes id))
    other_alias = subst (λ t. alias_use t ≡ option_map (λ q. applied nodes q []) (alias_name t)) (sym denotes) (alias_of_node nodes node other)

    pub other_defined : defined_use (tree nodes id) ≡ option_map (λ q. applied nodes q []) (defined_name (tree nodes id))
    other_defined = subst (λ t. defined_use t ≡ option_map (λ q. applied nodes q []) (defined_name t)) (sym denotes) (defined_of_node nodes node other)

-- the arguments stand in the arena
pub args_below : (id base bound : ℕ) (args : List ℕ) (node : Node) → node ≡ Instance base args → AllBelow id (children node) → id < bound
    → AllBelow bound args
args_below id base bound args node is falls within =
    let below = subst (λ n. AllBelow id (children n)) is falls in
    all_weaker (λ n. n < id) (λ n. n < bound) (λ n h. omega (arith, h, within)) args (all_left (λ n. n < id) args (base ∷ []) below)
