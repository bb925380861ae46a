-- The table of what has nodes, by places and the nodes of their indices.
use Rattle.std.proofs.Common.{◌≡◌, ℕ, ◌+◌, ◌<◌, List, [], ◌∷◌, ◌++◌, length, refl, sym, ap, subst, ◌∙◌, arith, length-append}
use Rattle.std.specs.Prelude.{slice_index_or}
use Rattle.std.specs.List.{AllByRecursion}
use Rattle.std.proofs.Math.ListN.{get_or-append}
use Rattle.std.proofs.Math.Seq.{get_or-append_seam}
use Rattle.type_terms.specs.declared.descriptors.Node.{Node}
use Rattle.type_terms.specs.Denotation.{tree}
use Rattle.decl_reader.specs.declared.places.Place.{Place}
use Rattle.decl_reader.specs.Blocks.{Entry, made, made_of, table_of, with_entry, AllInside}
use Rattle.decl_reader.specs.Places.{PlaceEntry, placed_of, with_place, AllPlaced}
use Rattle.decl_reader.proofs.EntryLemmas.{added_below, added_table, below_more}

-- seen as types, they are those of the places
pub table_made : (nodes : List Node) (ids : List ℕ) (es : List PlaceEntry) → table_of nodes (made_of ids es) ≡ placed_of (λ index. tree nodes (slice_index_or ids index 0)) es
table_made nodes ids [] = refl
table_made nodes ids (e ∷ es) = let rest = table_made nodes ids es in λ i. (e.0, record { end = e.1.end; tree = tree nodes (slice_index_or ids e.1.index 0) }) ∷ rest i

-- the nodes of their indices
pub nodes_inside : (size : ℕ) (ids : List ℕ) (es : List PlaceEntry) → AllInside size (made_of ids es) → AllByRecursion (λ e. slice_index_or ids e.1.index 0 < size) es
nodes_inside size ids [] inside = tt
nodes_inside size ids (e ∷ es) inside = (inside.0, nodes_inside size ids es inside.1)

module _ (ids : List ℕ) (node : ℕ) where
  -- one more node
  made_stays : (es : List PlaceEntry) → AllPlaced (length ids) es → made_of (ids ++ node ∷ []) es ≡ made_of ids es
  made_stays [] inside = refl
  made_stays (e ∷ es) inside =
      let head = get_or-append ids (node ∷ []) 0 e.1.index inside.0 in
      let rest = made_stays es inside.1 in
      λ i. (e.0, record { end = e.1.end; node = head i }) ∷ rest i

  made_added : (es : List PlaceEntry) (offset end : ℕ) → AllPlaced (length ids) es
      → made_of (ids ++ node ∷ []) (with_place es offset (record { end = end; index = length ids })) ≡ with_entry (made_of ids es) offset (record { end = end; node = node })
  made_added es offset end inside =
      let seam = get_or-append_seam ids node [] 0 in
      added_table (made (ids ++ node ∷ [])) es offset (record { end = end; index = length ids })
      ∙ ap (λ (entries : List Entry). with_entry entries offset (made (ids ++ node ∷ []) (record { end = end; index = length ids }))) (made_stays es inside)
      ∙ (λ i. with_entry (made_of ids es) offset (record { end = end; node = seam i }))

  longer : length (ids ++ node ∷ []) ≡ length ids + 1
  longer = length-append ids (node ∷ [])

  module _ (es : List PlaceEntry) (inside : AllPlaced (length ids) es) (items : List ℕ) (pushed : items ≡ ids ++ node ∷ []) where
    pub inside_more : (after : List PlaceEntry) → after ≡ es → AllPlaced (length items) after
    inside_more after same =
        subst (AllPlaced (length items)) (sym same) (below_more (λ (p : Place). p.index) (length ids) (length items) es (omega (arith, ap length pushed, longer)) inside)

    pub inside_added : (offset end index : ℕ) (after : List PlaceEntry) → index ≡ length ids → after ≡ with_place es offset (record { end = end; index = index }) → AllPlaced (length items) after
    inside_added offset end index after at added =
        subst (AllPlaced (length items)) (sym added)
        (added_below (λ (p : Place). p.index) (length items) es offset (record { end = end; index = index }) (inside_more es refl) (omega (arith, ap length pushed, longer, at)))

    pub made_after : (offset end index : ℕ) (after : List PlaceEntry) → index ≡ length ids → after ≡ with_place es offset (record { end = end; index = index })
        → made_of items after ≡ with_entry (made_of ids es) offset (record { end = end; node = node })
    made_after offset end index after at added =
        (λ i. made_of (pushed i) (added i)) ∙ ap (λ (n : ℕ). made_of (ids ++ node ∷ []) (with_place es offset (record { end = end; index = n }))) at ∙ made_added es offset end inside
