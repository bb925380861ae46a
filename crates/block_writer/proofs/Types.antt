-- The numbers of types among items that are put are those of the types that are meant.
use Rattle.std.proofs.Common.{◌≡◌, ℕ, List, [], ◌∷◌, map, refl, sym, ap, subst, ◌∙◌}
use Rattle.std.specs.Prelude.{slice_index_or}
use Rattle.std.specs.List.{AllByRecursion, flat_map}
use Rattle.code_tables.specs.declared.predeclared.Basic.TheVariants.{Bool as bool_type}
use Rattle.type_terms.specs.Trees.{Tree, predeclared, array}
use Rattle.file_layout.proofs.ItemTypes.{items_types}
use Rattle.block_writer.specs.declared.items.Item.{Item as Put}
use Rattle.block_writer.specs.declared.items.Item.TheVariants as put
use Rattle.block_writer.specs.Adding.{meant}
use Rattle.block_writer.specs.Putting.{IsNumbered}

abbrev pub ids_of : Put → List ℕ
ids_of (put.Type id) = id ∷ []
ids_of _ = []

abbrev pub ids : List Put → List ℕ
ids xs = flat_map ids_of xs

pub meant_types : (type : ℕ → Tree) (xs : List Put) → items_types (map (meant type) xs) ≡ map type (ids xs)
meant_types type [] = refl
meant_types type (put.Number n ∷ xs) = meant_types type xs
meant_types type (put.Flag x ∷ xs) = meant_types type xs
meant_types type (put.Text text ∷ xs) = meant_types type xs
meant_types type (put.Path path ∷ xs) = meant_types type xs
meant_types type (put.Position pos ∷ xs) = meant_types type xs
meant_types type (put.NoPosition ∷ xs) = meant_types type xs
meant_types type (put.Type id ∷ xs) = ap (λ (rest : List Tree). type id ∷ rest) (meant_types type xs)

-- ---- a type for each number, from which the number is got back

abbrev pub sized : ℕ → Tree
sized n = array n (predeclared bool_type)

abbrev size_of : Tree → ℕ
size_of (array n type) = n
size_of _ = 0

sizes : (xs : List ℕ) → map size_of (map sized xs) ≡ xs
sizes [] = refl
sizes (x ∷ xs) = ap (λ (rest : List ℕ). x ∷ rest) (sizes xs)

pub ids_are : (xs : List Put) (numbers : List ℕ) → ((type : ℕ → Tree) → items_types (map (meant type) xs) ≡ map type numbers) → ids xs ≡ numbers
ids_are xs numbers types =
    sym (sizes (ids xs)) ∙ ap (map size_of) (sym (meant_types sized xs) ∙ types sized) ∙ sizes numbers

-- ---- what holds of all numbers

all_numbered : (numbers : List ℕ) (type : ℕ → Tree) (number : Tree → ℕ) (xs : List Put) → AllByRecursion (λ id. number (type id) ≡ slice_index_or numbers id 0) (ids xs) → AllByRecursion (IsNumbered numbers type number) xs
all_numbered numbers type number [] all = tt
all_numbered numbers type number (put.Number m ∷ xs) all = (tt, all_numbered numbers type number xs all)
all_numbered numbers type number (put.Flag x ∷ xs) all = (tt, all_numbered numbers type number xs all)
all_numbered numbers type number (put.Text text ∷ xs) all = (tt, all_numbered numbers type number xs all)
all_numbered numbers type number (put.Path path ∷ xs) all = (tt, all_numbered numbers type number xs all)
all_numbered numbers type number (put.Position pos ∷ xs) all = (tt, all_numbered numbers type number xs all)
all_numbered numbers type number (put.NoPosition ∷ xs) all = (tt, all_numbered numbers type number xs all)
all_numbered numbers type number (put.Type id ∷ xs) all = (all.0, all_numbered numbers type number xs all.1)

pub numbered : (known : List ℕ) (type : ℕ → Tree) (number : Tree → ℕ) (xs : List Put) (numbers : List ℕ) → ids xs ≡ numbers → AllByRecursion (λ id. number (type id) ≡ slice_index_or known id 0) numbers → AllByRecursion (IsNumbered known type number) xs
numbered known type number xs numbers is all = all_numbered known type number xs (subst (AllByRecursion (λ id. number (type id) ≡ slice_index_or known id 0)) (sym is) all)
