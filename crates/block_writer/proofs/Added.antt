-- Items that were added, whatever types the numbers stand for.
use Rattle.std.proofs.Common.{◌≡◌, ℕ, List, ◌++◌, map, Result, sym, ap, subst, ◌∙◌, append_assoc}
use Rattle.std.specs.Prelude.{OnOk}
use Rattle.type_terms.specs.declared.descriptors.Node.{Node}
use Rattle.type_terms.specs.NodeShapes.{node_shape}
use Rattle.type_terms.specs.Shapes.{retype}
use Rattle.type_terms.specs.Trees.{Tree}
use Rattle.file_writer.proofs.PutLemmas.{on_ok}
use Rattle.file_layout.specs.Items.{Item, level_items}
use Rattle.block_writer.specs.declared.items.Item.{Item as Put}
use Rattle.block_writer.specs.Adding.{meant, Adds}

pub adds_both : (a b c : List Put) (f g : (ℕ → Tree) → List Item) → Adds a b f → Adds b c g → Adds a c (λ type. f type ++ g type)
adds_both a b c f g first second type =
    second type ∙ ap (λ (items : List Item). items ++ g type) (first type) ∙ append_assoc (map (meant type) a) (f type) (g type)

module _ {X E : Type 0} (result : Result X E) (old new : List Put) where
  pub adds_as : (f g : (ℕ → Tree) → List Item) → ((type : ℕ → Tree) → f type ≡ g type) → OnOk result (Adds old new f) → OnOk result (Adds old new g)
  adds_as f g same = on_ok result _ _ (λ adds type. adds type ∙ ap (λ (items : List Item). map (meant type) old ++ items) (same type))

  -- what follows other items
  pub adds_behind : (first : List Put) (f g : (ℕ → Tree) → List Item) → Adds first old f → OnOk result (Adds old new g) → OnOk result (Adds first new (λ type. f type ++ g type))
  adds_behind first f g front = on_ok result _ _ (λ adds. adds_both first old new f g front adds)

  -- what a node holds that is of this kind
  pub adds_at : (node kind : Node) → node ≡ kind → OnOk result (Adds old new (λ type. level_items (retype type (node_shape kind)))) → OnOk result (Adds old new (λ type. level_items (retype type (node_shape node))))
  adds_at node kind is = subst (λ (n : Node). OnOk result (Adds old new (λ type. level_items (retype type (node_shape n))))) (sym is)
