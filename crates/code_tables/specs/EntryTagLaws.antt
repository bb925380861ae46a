-- Each place in the table is that of one value.
use Rattle.std.specs.Prelude.{◌≡◌, ◌<◌, Some, slice_get, refl}
use Rattle.code_tables.specs.declared.entries.EntryTag.{EntryTag}
use Rattle.code_tables.specs.declared.entries.EntryTag.TheVariants.{Str, Num, Wide, Neg, Nil, Cons, Name, Ask, Object}
use Rattle.code_tables.specs.declared.entries.EntryTag.TheVariants.{Predecl, TypeOf, DeclOf}
use Rattle.code_tables.specs.EntryTag.{entry_tag_number, entry_tag_values}
use Rattle.code_tables.specs.Numbering.{exact_numbers, below_count}

pub entry_tag_at : (tag : EntryTag) → slice_get entry_tag_values (entry_tag_number tag) ≡ Some tag
entry_tag_at Str = refl
entry_tag_at Num = refl
entry_tag_at Wide = refl
entry_tag_at Neg = refl
entry_tag_at Nil = refl
entry_tag_at Cons = refl
entry_tag_at Name = refl
entry_tag_at Ask = refl
entry_tag_at Object = refl
entry_tag_at Predecl = refl
entry_tag_at TypeOf = refl
entry_tag_at DeclOf = refl

pub entry_tag_below : (tag : EntryTag) → entry_tag_number tag < 12
entry_tag_below = below_count entry_tag_values entry_tag_number entry_tag_at

pub entry_tag_exact : (left right : EntryTag) → entry_tag_number left ≡ entry_tag_number right → left ≡ right
entry_tag_exact = exact_numbers entry_tag_values entry_tag_number entry_tag_at
