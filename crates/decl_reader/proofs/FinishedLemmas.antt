-- The list of the descriptors that were read whole, and the table that it makes.
use Rattle.std.proofs.Common.{◌≡◌, ℕ, zero, suc, ◌<◌, List, [], ◌∷◌, ◌++◌, length, Option, Some, None, refl, sym, ap, subst, ◌∙◌, arith}
use Rattle.std.specs.Prelude.{slice_index_or}
use Rattle.std.specs.List.{AllByRecursion}
use Rattle.type_terms.specs.Trees.{Tree, tree_of}
use Rattle.type_terms.specs.Shapes.{retype}
use Rattle.decl_spelling.specs.Tables.{Finished, Table, at, type_named}
use Rattle.decl_spelling.specs.KnownTypes.{Kept}
use Rattle.decl_spelling.proofs.TableLaws.{found_new}
use Rattle.decl_reader.specs.declared.finished.Descriptor.{Descriptor}
use Rattle.decl_reader.specs.Shapes.{flat_shape}
use Rattle.decl_reader.specs.Finished.{type_of, joined, known_after, types_after, nth, type_at, MayJoin, AreInTurn}
use Rattle.decl_reader.specs.Places.{PlaceEntry, placed_of, AllPlaced}
use Rattle.decl_reader.proofs.MeantLemmas.{tree_is}
use Rattle.decl_reader.proofs.ClosedLemmas.{kept_new}

-- ---- one more

module _ (version : ℕ) where
  pub known_last : (done : Table) (ds : List Descriptor) (d : Descriptor) → known_after version done (ds ++ d ∷ []) ≡ joined version (known_after version done ds) d
  known_last done [] d = refl
  known_last done (x ∷ ds) d = known_last (joined version done x) ds d

  types_last : (done : Table) (ds : List Descriptor) (d : Descriptor) → types_after version done (ds ++ d ∷ []) ≡ types_after version done ds ++ type_of version (known_after version done ds) d ∷ []
  types_last done [] d = refl
  types_last done (x ∷ ds) d = ap (λ (ts : List Tree). type_of version done x ∷ ts) (types_last (joined version done x) ds d)

  many_types : (done : Table) (ds : List Descriptor) → length (types_after version done ds) ≡ length ds
  many_types done [] = refl
  many_types done (d ∷ ds) = ap (λ (n : ℕ). suc n) (many_types (joined version done d) ds)

  pub turn_last : (done : Table) (ds : List Descriptor) (d : Descriptor) → AreInTurn version done ds → MayJoin version (known_after version done ds) d → AreInTurn version done (ds ++ d ∷ [])
  turn_last done [] d turn may = (may, tt)
  turn_last done (x ∷ ds) d turn may = (turn.0, turn_last (joined version done x) ds d turn.1 may)

nth_left : (ts : List Tree) (t : Tree) (index : ℕ) → index < length ts → nth (ts ++ t ∷ []) index ≡ nth ts index
nth_left [] t index less = absurd (omega (arith, less))
nth_left (x ∷ ts) t zero less = refl
nth_left (x ∷ ts) t (suc index) less = nth_left ts t index (omega (arith, less))

nth_last : (ts : List Tree) (t : Tree) → nth (ts ++ t ∷ []) (length ts) ≡ t
nth_last [] t = refl
nth_last (x ∷ ts) t = nth_last ts t

module _ (version : ℕ) (memory : Table) (ds : List Descriptor) (d : Descriptor) where
  abbrev more : List Descriptor
  more = ds ++ d ∷ []

  pub type_stays : (index : ℕ) → index < length ds → type_at version memory more index ≡ type_at version memory ds index
  type_stays index less =
      ap (λ (ts : List Tree). nth ts index) (types_last version memory ds d) ∙ nth_left (types_after version memory ds) (type_of version (known_after version memory ds) d) index (omega (arith, less, many_types version memory ds))

  pub type_of_last : type_at version memory more (length ds) ≡ type_of version (known_after version memory ds) d
  type_of_last =
      ap (λ (ts : List Tree). nth ts (length ds)) (types_last version memory ds d)
      ∙ ap (λ (n : ℕ). nth (types_after version memory ds ++ type_of version (known_after version memory ds) d ∷ []) n) (sym (many_types version memory ds))
      ∙ nth_last (types_after version memory ds) (type_of version (known_after version memory ds) d)

  pub places_stay : (es : List PlaceEntry) → AllPlaced (length ds) es → placed_of (type_at version memory more) es ≡ placed_of (type_at version memory ds) es
  places_stay [] inside = refl
  places_stay (e ∷ es) inside =
      let head = type_stays e.1.index inside.0 in
      let rest = places_stay es inside.1 in
      λ i. (e.0, record { end = e.1.end; tree = head i }) ∷ rest i

-- ---- what stands at an index

-- the table of those before it, which stays
pub record IsAt (version : ℕ) (known : Table) (flat_one : Descriptor) (type : Tree) : Type 0 where
  pub before : Table
  pub type_is : type ≡ type_of version before flat_one
  pub may : MayJoin version before flat_one
  pub kept : Kept before known

module _ (version : ℕ) where
  pub kept_after : (done : Table) (ds : List Descriptor) → AreInTurn version done ds → Kept done (known_after version done ds)
  kept_after done [] turn o f found = found
  kept_after done (d ∷ ds) turn o f found =
      kept_after (joined version done d) ds turn.1 o f (kept_new done d.start (record { end = d.end; tree = type_of version done d }) turn.0.new o f found)

  at_index : (done : Table) (ds : List Descriptor) (index : ℕ) (x : Descriptor) → AreInTurn version done ds → index < length ds → IsAt version (known_after version done ds) (slice_index_or ds index x) (nth (types_after version done ds) index)
  at_index done [] index x turn less = absurd (omega (arith, less))
  at_index done (d ∷ ds) zero x turn less = record { before = done; type_is = refl; may = turn.0; kept = kept_after done (d ∷ ds) turn }
  at_index done (d ∷ ds) (suc index) x turn less = at_index (joined version done d) ds index x turn.1 (omega (arith, less))

  pub is_at : (memory : Table) (ds : List Descriptor) (index : ℕ) (d : Descriptor) → d ≡ slice_index_or ds index d → AreInTurn version memory ds → index < length ds → IsAt version (known_after version memory ds) d (type_at version memory ds index)
  is_at memory ds index d is turn less = subst (λ (x : Descriptor). IsAt version (known_after version memory ds) x (type_at version memory ds index)) (sym is) (at_index memory ds index d turn less)

  -- the type is that of its parts, with some types in them
  pub spelled_at : (memory : Table) (ds : List Descriptor) (index : ℕ) (d : Descriptor) → d ≡ slice_index_or ds index d → AreInTurn version memory ds → index < length ds
      → (types : ℕ → Tree) × (type_at version memory ds index ≡ tree_of (retype types (flat_shape d.flat)))
  spelled_at memory ds index d is turn less =
      let there = is_at memory ds index d is turn less in
      (type_named version there.before, there.type_is ∙ tree_is version there.before d.flat)

-- ---- each type stands in the table, and where nothing was remembered

unfoldable pub Stands : Table → Table → Tree → Type 0
Stands memory done t = (o : ℕ) × (f : Finished) × (at done o ≡ Some f) × (f.tree ≡ t) × (at memory o ≡ None)

module _ (version : ℕ) (memory : Table) where
  -- where nothing is found later, nothing was found before
  none_before : (done : Table) (o : ℕ) → Kept memory done → at done o ≡ None → at memory o ≡ None
  none_before done o kept none = by (at memory o) refl
    where
      by : (a : Option Finished) → at memory o ≡ a → at memory o ≡ None
      by (Some f) is = let no = kept o f is in absurd cc
      by None is = is

  pub each_stands : (done : Table) (ds : List Descriptor) → Kept memory done → AreInTurn version done ds → AllByRecursion (Stands memory (known_after version done ds)) (types_after version done ds)
  unfolding Stands
  each_stands done [] kept turn = tt
  each_stands done (d ∷ ds) kept turn =
      let f : Finished = record { end = d.end; tree = type_of version done d } in
      let later : Kept memory (joined version done d) = λ o g found. kept_new done d.start f turn.0.new o g (kept o g found) in
      ((d.start, f, kept_after version (joined version done d) ds turn.1 d.start f (found_new done d.start f), refl, none_before done d.start kept turn.0.new), each_stands (joined version done d) ds later turn.1)
