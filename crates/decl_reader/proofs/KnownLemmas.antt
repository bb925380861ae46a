-- What is known of a descriptor: that it is remembered, or that it was read.
use Rattle.std.proofs.Common.{◌≡◌, ℕ, ◌<◌, List, Option, Some, None, sym, ap, subst, ◌∙◌}
use Rattle.std.specs.Option.{option_or}
use Rattle.type_terms.specs.declared.descriptors.Node.{Node}
use Rattle.type_terms.specs.Trees.{Tree}
use Rattle.decl_spelling.specs.Tables.{Finished as Placed, Table, at}
use Rattle.decl_reader.specs.declared.places.Place.{Place}
use Rattle.decl_reader.specs.declared.reading.Known.{Known}
use Rattle.decl_reader.specs.declared.reading.Known.TheVariants.{Remembered, Read}
use Rattle.decl_reader.specs.declared.table.Finished.{Finished}
use Rattle.decl_reader.specs.Blocks.{finished_of, known_as, IsThere}
use Rattle.decl_reader.specs.Places.{placed_as}

-- ---- by its constructor

module _ (nodes : List Node) (types : ℕ → Tree) (known : Known) (r : Option Placed) (found : Some (known_as nodes types known) ≡ r) where
  pub read_found : (place : Place) → known ≡ Read place → Some (placed_as types place) ≡ r
  read_found place is = ap (λ (x : Known). Some (known_as nodes types x)) (sym is) ∙ found

  pub remembered_found : (finished : Finished) → known ≡ Remembered finished → Some (finished_of nodes finished) ≡ r
  remembered_found finished is = ap (λ (x : Known). Some (known_as nodes types x)) (sym is) ∙ found

module _ (size count : ℕ) (known : Known) (there : IsThere size count known) where
  pub read_there : (place : Place) → known ≡ Read place → place.index < count
  read_there place is = subst (IsThere size count) is there

  pub remembered_there : (finished : Finished) → known ≡ Remembered finished → finished.node < size
  remembered_there finished is = subst (IsThere size count) is there

-- ---- by the two tables

module _ (memory own all : Table) (offset : ℕ) (both : at all offset ≡ option_or (at memory offset) (at own offset)) where
  pub in_memory : (f : Placed) → Some f ≡ at memory offset → Some f ≡ at all offset
  in_memory f found = sym (both ∙ ap (λ (a : Option Placed). option_or a (at own offset)) (sym found))

  pub in_own : (a : Option Placed) → None ≡ at memory offset → a ≡ at own offset → a ≡ at all offset
  in_own a none found = found ∙ sym (both ∙ ap (λ (b : Option Placed). option_or b (at own offset)) (sym none))
