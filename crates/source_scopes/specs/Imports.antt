-- What is kept of the packages that a file imports, and of type parameters.
use Rattle.std.specs.Prelude.{ℕ, List, [], Option, Some, None, map}
use Rattle.std.specs.Borrow.{Bor}
use Rattle.source_trees.specs.Words.{Word}
use Rattle.source_scopes.specs.declared.table.Item.{Item}
use Rattle.source_scopes.specs.Objects.{Imported, imported_as}

abbrev pub text_if_any : Option (Bor (List ℕ)) → Option (List ℕ)
text_if_any (Some text) = Some text.now
text_if_any None = None

-- the name that an import has in its file
abbrev pub name_or_package : Option Word → Option (List ℕ) → Option (List ℕ)
name_or_package (Some w) found = Some w.text
name_or_package None found = found

abbrev pub imported_table : List (Item (Bor (List ℕ))) → List Imported
imported_table table = map imported_as table

abbrev pub parameter_word : Item ℕ → Word
parameter_word p = record { text = p.name.now; at = p.what }

abbrev pub parameter_table : List (Item ℕ) → List Word
parameter_table table = map parameter_word table

abbrev pub words_if_any : Option (Bor (List (Item ℕ))) → List Word
words_if_any (Some table) = map parameter_word table.now
words_if_any None = []

abbrev pub imports_if_any : Option (Bor (List (Item (Bor (List ℕ))))) → List Imported
imports_if_any (Some table) = map imported_as table.now
imports_if_any None = []
