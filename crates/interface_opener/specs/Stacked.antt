-- What is still to be done as interfaces are opened, as tasks of which the last is done first.
use Rattle.std.specs.Prelude.{ℕ, List, [], ◌∷◌, ◌++◌, false, map, reverse, slice_get, Option, Some}
use Rattle.std.specs.List.{flat_map}
use Rattle.go_values.specs.declared.qualified.QName.{QName}
use Rattle.type_terms.specs.declared.literals.Term.{Term}
use Rattle.type_terms.specs.declared.descriptors.Node.{Node}
use Rattle.type_terms.specs.declared.descriptors.Node.TheVariants.{Union}
use Rattle.interface_opening.specs.Elements.{Term as TermOf}
use Rattle.interface_opening.specs.Opening.{Item, term, joins, ends, closes, element_items}
use Rattle.interface_opener.specs.Numbered.{by_number}
use Rattle.interface_opener.specs.declared.tasks.Task.{Task}
use Rattle.interface_opener.specs.declared.tasks.Task.TheVariants.{Term as TermTask, Joins as JoinsTask}
use Rattle.interface_opener.specs.declared.tasks.Task.TheVariants.{Ends as EndsTask, Closes}

abbrev pub term_of : Term → TermOf ℕ
term_of x = record { tilde = x.tilde; type = x.ty }

abbrev pub item_of : Task → Item ℕ QName
item_of (TermTask holder several x) = term holder several (term_of x)
item_of (JoinsTask holder several of) = joins holder several of
item_of (EndsTask holder) = ends holder
item_of (Closes q) = closes q

abbrev pub stacked : List Task → List (Item ℕ QName)
stacked tasks = reverse (map item_of tasks)

-- the element that a type is, by its node: the terms of a union, or the type as one term
abbrev pub element_of : Option Node → ℕ → List (TermOf ℕ)
element_of (Some (Union inner)) id = map term_of inner
element_of _ id = record { tilde = false; type = id } ∷ []

abbrev pub element_at : List Node → ℕ → List (TermOf ℕ)
element_at nodes id = element_of (slice_get nodes id) id

-- what the elements of a holder leave to be done
abbrev pub elements_left : List Node → ℕ → List ℕ → List (Item ℕ QName)
elements_left nodes holder ids = flat_map (λ id. element_items by_number holder (element_at nodes id)) ids

-- the names of the defined types whose end is still to come, those that were opened first before others
abbrev pub open_names : {T : Type 0} → List (Item T QName) → List QName
open_names [] = []
open_names (closes q ∷ rest) = open_names rest ++ q ∷ []
open_names (_ ∷ rest) = open_names rest
