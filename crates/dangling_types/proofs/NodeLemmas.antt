-- What is found in the type of one node.
use Rattle.std.proofs.Common.{◌≡◌, ℕ, ◌<◌, List, [], ◌∷◌, ◌++◌, length, map, cond, true, false, Option, Some, None, sym, ap, ◌∙◌, subst}
use Rattle.std.specs.List.{flat_map, AllByRecursion}
use Rattle.std.specs.Option.{option_and_then}
use Rattle.std.proofs.lemmas.List.{length-map}
use Rattle.go_values.specs.declared.positions.Pos.{Pos}
use Rattle.type_terms.specs.declared.descriptors.Node.{Node}
use Rattle.type_terms.specs.Shapes.{retype, shape_types}
use Rattle.type_terms.specs.ShapeLaws.{shape_types_map}
use Rattle.type_terms.specs.Trees.{Text, instance, tree_of, type_list, types_of}
use Rattle.type_terms.specs.TreeLevels.{level_of-tree_of, types_back}
use Rattle.type_terms.specs.Parts.{parts}
use Rattle.type_terms.specs.NodeShapes.{node_shape, children}
use Rattle.type_terms.specs.Arenas.{IsNode, AllBelow}
use Rattle.type_terms.specs.Denotation.{tree}
use Rattle.environments.specs.declared.mentions.Reference.{Reference}
use Rattle.type_terms.specs.declared.declarations.DeclNode.{DeclNode}
use Rattle.type_terms.specs.Declarations.{decl_form, decl_nodes, decl_of}
use Rattle.type_terms.specs.DeclarationLaws.{form_types_map}
use Rattle.environments.specs.References.{references, tree_references, base_references, IsByParts}
use Rattle.environments.specs.ReferenceLaws.{references_of_parts, references_of_instance}
use Rattle.dangling_references.specs.Dangling.{Entries}
use Rattle.dangling_types.specs.declared.finding.Finding.{Finding}
use Rattle.dangling_types.specs.declared.finding.Finding.TheVariants.{Sound, Dangles}
use Rattle.dangling_types.specs.FirstDangling.{fits, first_dangling}
use Rattle.dangling_types.specs.NodeReferences.{own_reference, reference_at, Finds}
use Rattle.dangling_types.specs.Findings.{IsRight}

-- ---- one reference

pub fits_finds : (entries : Entries) (nodes : List Node) (r : Reference) → fits entries r ≡ true → Finds nodes Sound (first_dangling entries (r ∷ []))
fits_finds entries nodes r e = ap (λ b. cond b None (Some r)) e

pub dangles_finds : (entries : Entries) (nodes : List Node) (r : Reference) (id : ℕ) → fits entries r ≡ false → reference_at nodes id ≡ Some r → Finds nodes (Dangles id) (first_dangling entries (r ∷ []))
dangles_finds entries nodes r id e at = (r, at, ap (λ b. cond b None (Some r)) e)

-- ---- one node

module _ (entries : Entries) (nodes : List Node) (id : ℕ) where
  pub its_reference : (node : Node) → IsNode nodes id node → (own : Option Reference) → own_reference nodes node ≡ own → reference_at nodes id ≡ own
  its_reference node stands own is = ap (option_and_then (own_reference nodes)) stands ∙ is

  pub name_right : (r : Reference) (finding : Finding) → tree_references (tree nodes id) ≡ r ∷ []
      → Finds nodes finding (first_dangling entries (r ∷ [])) → IsRight entries nodes id finding
  name_right r finding refs finds = subst (λ rs. Finds nodes finding (first_dangling entries rs)) (sym refs) finds

  pub parts_right : (node : Node) → tree nodes id ≡ tree_of (retype (tree nodes) (node_shape node)) → IsByParts (tree_of (retype (tree nodes) (node_shape node)))
      → (finding : Finding) → Finds nodes finding (first_dangling entries (flat_map tree_references (map (tree nodes) (children node)))) → IsRight entries nodes id finding
  parts_right node denotes by_parts finding finds =
      let types_are : parts (tree nodes id) ≡ map (tree nodes) (children node) =
      ap parts denotes ∙ ap shape_types (level_of-tree_of (retype (tree nodes) (node_shape node)))
      ∙ shape_types_map (λ (p : Pos). p) (λ (s : Text). s) (λ (q : Text). q) (tree nodes) (node_shape node) in
      let refs = references_of_parts (tree nodes id) (subst IsByParts (sym denotes) by_parts) ∙ ap (flat_map tree_references) types_are in
      subst (λ rs. Finds nodes finding (first_dangling entries rs)) (sym refs) finds

  pub instance_right : (base : ℕ) (args : List ℕ) → tree nodes id ≡ instance (tree nodes base) (types_of (map (tree nodes) args)) → (finding : Finding)
      → Finds nodes finding (first_dangling entries (flat_map tree_references (map (tree nodes) args) ++ base_references (tree nodes base) (length args)))
      → IsRight entries nodes id finding
  instance_right base args denotes finding finds =
      let counts : length (type_list (types_of (map (tree nodes) args))) ≡ length args =
      ap length (types_back (map (tree nodes) args)) ∙ length-map args (tree nodes) in
      let refs : tree_references (tree nodes id) ≡ flat_map tree_references (map (tree nodes) args) ++ base_references (tree nodes base) (length args) =
      ap tree_references denotes ∙ references_of_instance (tree nodes base) (types_of (map (tree nodes) args))
      ∙ (λ i. flat_map tree_references (types_back (map (tree nodes) args) i) ++ base_references (tree nodes base) (counts i)) in
      subst (λ rs. Finds nodes finding (first_dangling entries rs)) (sym refs) finds

-- the base and the arguments of an instance stand below
pub base_below : (n : ℕ) (args : List ℕ) (base : ℕ) → AllBelow n (args ++ base ∷ []) → base < n
base_below n [] base below = below.0
base_below n (x ∷ xs) base below = base_below n xs base below.1

pub front_of : (P : ℕ → Type 0) (args more : List ℕ) → AllByRecursion P (args ++ more) → AllByRecursion P args
front_of P [] more all = tt
front_of P (x ∷ xs) more all = (all.0, front_of P xs more all.1)

-- the references of a declaration are those of its types
pub decl_references : (nodes : List Node) (decl : DeclNode) (types : List ℕ) → types ≡ decl_nodes decl
    → flat_map tree_references (map (tree nodes) types) ≡ references (decl_of nodes decl)
decl_references nodes decl types are =
    ap (λ ids. flat_map tree_references (map (tree nodes) ids)) are
    ∙ ap (flat_map tree_references) (sym (form_types_map (tree nodes) Pos Text (decl_form decl)))
