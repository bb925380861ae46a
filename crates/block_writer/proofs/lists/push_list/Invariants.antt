use Rattle.std.proofs.Common.{◌≡◌, ℕ, ◌∷◌, ◌++◌, length, map, take}
use Rattle.std.specs.List.{flat_map}
use Rattle.type_terms.specs.Trees.{Tree}
use Rattle.file_layout.specs.Items.{a_number}
use Rattle.block_writer.specs.Adding.{meant}
use Rattle.block_writer.proofs.lists.push_list.Given as goal

abbrev pub invariant-loop-thing : goal.invariant-loop-thing
invariant-loop-thing g l = (type : ℕ → Tree)
    → map (meant type) l.into.items ≡ map (meant type) l.fn.into.items ++ a_number (length l.things) ∷ flat_map (g.T.Listed.items type) (take l.thing-index l.things)
