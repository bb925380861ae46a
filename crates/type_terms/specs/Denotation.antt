-- What the nodes of an arena denote: each node a tree, made of the trees of its children, which stand before it.
use Rattle.std.specs.Prelude.{ℕ, List, [], ◌∷◌, ◌++◌, slice_index_or}
use Rattle.code_tables.specs.declared.predeclared.Basic.TheVariants.{Bool as bool_type}
use Rattle.type_terms.specs.declared.descriptors.Node.{Node}
use Rattle.type_terms.specs.Shapes.{retype}
use Rattle.type_terms.specs.Trees.{Tree, predeclared, tree_of}
use Rattle.type_terms.specs.NodeShapes.{node_shape}

-- the tree with a number; a number that is none of the list's gives some tree
abbrev pub tree_at : List Tree → ℕ → Tree
tree_at trees number = slice_index_or trees number (predeclared bool_type)

abbrev pub node_tree : List Tree → Node → Tree
node_tree below node = tree_of (retype (tree_at below) (node_shape node))

-- the trees of the nodes, behind those of the nodes before them
abbrev pub trees_after : List Tree → List Node → List Tree
trees_after below [] = below
trees_after below (node ∷ nodes) = trees_after (below ++ node_tree below node ∷ []) nodes

-- the tree that a node denotes
unfoldable pub tree : List Node → ℕ → Tree
tree nodes number = tree_at (trees_after [] nodes) number
