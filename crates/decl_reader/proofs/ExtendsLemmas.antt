-- What stays of the table and of what was kept, as an arena is extended.
use Rattle.std.proofs.Common.{◌≡◌, ℕ, ◌<◌, List, [], ◌∷◌, ◌++◌, map, length, refl, sym, ap, ◌∙◌, append_assoc, arith}
use Rattle.std.specs.List.{AllByRecursion, flat_map}
use Rattle.std.proofs.lemmas.List.{map-append, append-nil}
use Rattle.type_terms.specs.Arenas.{Contents, AllBelow, Extends}
use Rattle.type_terms.specs.Denotation.{tree}
use Rattle.type_terms.specs.Denoted.{all_weaker}
use Rattle.type_terms.specs.Extensions.{extends_longer, extends_tree, extends_below}
use Rattle.type_terms.specs.Replaced.{all_left, all_right, all_append}
use Rattle.type_terms.specs.ShapeLaws.{Agree}
use Rattle.decl_spelling.specs.Tables.{type_named}
use Rattle.block_reader.specs.declared.spelled.Embedded.{Embedded}
use Rattle.decl_reader.specs.Shapes.{element_type}
use Rattle.decl_reader.specs.Blocks.{Entry, table_of, AllInside}
use Rattle.decl_reader.specs.Meant.{Named, named_by}

module _ (old new : Contents) (grown : Extends old new) where
  pub table_stays : (entries : List Entry) → AllInside (length old.nodes) entries → table_of new.nodes entries ≡ table_of old.nodes entries
  table_stays [] inside = refl
  table_stays (e ∷ es) inside =
      let head = extends_tree old new grown e.1.node inside.0 in
      let rest = table_stays es inside.1 in
      λ i. (e.0, record { end = e.1.end; tree = head i }) ∷ rest i

  pub inside_stays : (entries : List Entry) → AllInside (length old.nodes) entries → AllInside (length new.nodes) entries
  inside_stays [] inside = tt
  inside_stays (e ∷ es) inside = (omega (arith, extends_longer old new grown, inside.0), inside_stays es inside.1)

  pub named_stays : (version : ℕ) (entries : List Entry) → AllInside (length old.nodes) entries → named_by version new.nodes entries ≡ named_by version old.nodes entries
  named_stays version entries inside = ap (type_named version) (table_stays entries inside)

-- what is kept, which the types that stand in it decide
module _ {S M : Type 0} (types : S → List ℕ) (meant : Named → S → M) (agrees : (f g : Named) (x : S) → AllByRecursion (Agree f g) (types x) → meant f x ≡ meant g x) (old new : Contents) (grown : Extends old new) where
  pub meaning_stays : (x : S) → AllBelow (length old.nodes) (types x) → meant (tree new.nodes) x ≡ meant (tree old.nodes) x
  meaning_stays x below =
      agrees (tree new.nodes) (tree old.nodes) x (all_weaker (λ n. n < length old.nodes) (Agree (tree new.nodes) (tree old.nodes)) (λ n h. extends_tree old new grown n h) (types x) below)

  pub meanings_stay : (xs : List S) → AllBelow (length old.nodes) (flat_map types xs) → map (meant (tree new.nodes)) xs ≡ map (meant (tree old.nodes)) xs
  meanings_stay [] below = refl
  meanings_stay (x ∷ xs) below =
      let head = meaning_stays x (all_left (λ n. n < length old.nodes) (types x) (flat_map types xs) below) in
      let rest = meanings_stay xs (all_right (λ n. n < length old.nodes) (types x) (flat_map types xs) below) in
      λ i. head i ∷ rest i

  -- One more is kept: what is kept and what the rest means are what all mean.
  pub one_more : (version : ℕ) (entries : List Entry) (first : Contents) → Extends first old → AllInside (length first.nodes) entries → (kept : List S) (item own : S) (rest : List S) (all : List M)
      → AllBelow (length old.nodes) (flat_map types kept)
      → meant (tree new.nodes) item ≡ meant (named_by version old.nodes entries) own
      → map (meant (tree old.nodes)) kept ++ map (meant (named_by version first.nodes entries)) (own ∷ rest) ≡ all
      → map (meant (tree new.nodes)) (kept ++ item ∷ []) ++ map (meant (named_by version first.nodes entries)) rest ≡ all
  one_more version entries first before inside kept item own rest all below same so_far =
      let named : Named = named_by version first.nodes entries in
      let one : meant (tree new.nodes) item ≡ meant named own = same ∙ ap (λ (n : Named). meant n own) (named_stays first old before version entries inside) in
      let stay = meanings_stay kept below in
      let front : map (meant (tree new.nodes)) (kept ++ item ∷ []) ≡ map (meant (tree old.nodes)) kept ++ meant named own ∷ []
      = map-append (meant (tree new.nodes)) kept (item ∷ []) ∙ (λ i. stay i ++ one i ∷ []) in
      ap (λ (xs : List M). xs ++ map (meant named) rest) front ∙ append_assoc (map (meant (tree old.nodes)) kept) (meant named own ∷ []) (map (meant named) rest) ∙ so_far

  pub one_more_below : (kept : List S) (item : S) → AllBelow (length old.nodes) (flat_map types kept) → AllBelow (length new.nodes) (types item) → AllBelow (length new.nodes) (flat_map types (kept ++ item ∷ []))
  one_more_below [] item below one = all_append (λ n. n < length new.nodes) (types item) [] one tt
  one_more_below (x ∷ xs) item below one =
      all_append (λ n. n < length new.nodes) (types x) (flat_map types (xs ++ item ∷ []))
      (extends_below old new grown (types x) (all_left (λ n. n < length old.nodes) (types x) (flat_map types xs) below))
      (one_more_below xs item (all_right (λ n. n < length old.nodes) (types x) (flat_map types xs) below) one)

-- All are kept.
pub all_kept : {X : Type 0} (kept rest all : List X) → rest ≡ [] → kept ++ rest ≡ all → kept ≡ all
all_kept kept rest all none so_far = sym (append-nil kept) ∙ ap (λ xs. kept ++ xs) (sym none) ∙ so_far

pub none_left : {X : Type 0} (xs : List X) → length xs ≡ 0 → xs ≡ []
none_left [] h = refl
none_left (x ∷ xs) h = absurd (omega arith)

-- Each number stands for one type.
pub numbers_below : (size : ℕ) (ids : List ℕ) → AllBelow size (flat_map (λ (id : ℕ). id ∷ []) (map (λ (id : ℕ). id) ids)) → AllBelow size ids
numbers_below size [] below = tt
numbers_below size (id ∷ ids) below = (below.0, numbers_below size ids below.1)

pub numbers_of_elements : (elements : List Embedded) → flat_map (λ (number : ℕ). number ∷ []) (map element_type elements) ≡ map element_type elements
numbers_of_elements [] = refl
numbers_of_elements (e ∷ es) = ap (λ (rest : List ℕ). e.ty ∷ rest) (numbers_of_elements es)

pub numbers_are : (numbers : List ℕ) → flat_map (λ (number : ℕ). number ∷ []) (map (λ (number : ℕ). number) numbers) ≡ numbers
numbers_are [] = refl
numbers_are (number ∷ numbers) = ap (λ (rest : List ℕ). number ∷ rest) (numbers_are numbers)
