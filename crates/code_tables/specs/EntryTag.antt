-- Tags of table entries: their codes in the words, and their places in the table.
use Rattle.std.specs.Prelude.{ℕ, List, [], ◌∷◌}
use Rattle.code_tables.specs.declared.entries.EntryTag.{EntryTag}
use Rattle.code_tables.specs.declared.entries.EntryTag.TheVariants.{Str, Num, Wide, Neg, Nil, Cons, Name, Ask, Object}
use Rattle.code_tables.specs.declared.entries.EntryTag.TheVariants.{Predecl, TypeOf, DeclOf}

-- the code
abbrev pub entry_tag_code : EntryTag → ℕ
entry_tag_code Str = 1
entry_tag_code Num = 2
entry_tag_code Wide = 3
entry_tag_code Neg = 4
entry_tag_code Nil = 5
entry_tag_code Cons = 6
entry_tag_code Name = 7
entry_tag_code Ask = 8
entry_tag_code Object = 9
entry_tag_code Predecl = 10
entry_tag_code TypeOf = 11
entry_tag_code DeclOf = 12

-- the place in the table, from 0
abbrev pub entry_tag_number : EntryTag → ℕ
entry_tag_number Str = 0
entry_tag_number Num = 1
entry_tag_number Wide = 2
entry_tag_number Neg = 3
entry_tag_number Nil = 4
entry_tag_number Cons = 5
entry_tag_number Name = 6
entry_tag_number Ask = 7
entry_tag_number Object = 8
entry_tag_number Predecl = 9
entry_tag_number TypeOf = 10
entry_tag_number DeclOf = 11

-- the values by their places
abbrev pub entry_tag_values : List EntryTag
entry_tag_values = Str ∷ Num ∷ Wide ∷ Neg ∷ Nil ∷ Cons ∷ Name ∷ Ask ∷ Object ∷ Predecl ∷ TypeOf ∷ DeclOf ∷ []
