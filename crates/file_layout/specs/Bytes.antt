-- The bytes of what a block holds.
use Rattle.std.specs.Prelude.{ℕ, zero, suc, ◌/◌, ◌%◌, ℤ, unsigned_abs, List, [], ◌∷◌, ◌++◌, Bool, true, false}
use Rattle.std.specs.Prelude.{length, cond, nat_eq, nat_lt, ◌==◌}
use Rattle.std.specs.Cmp.Lexicographic.{pointwise}
use Rattle.wire_bytes.specs.Section.{spelling_of}
use Rattle.wire_bytes.specs.Varint.{number_of}
use Rattle.wire_bytes.specs.Whole.{code_of, small_limit, prefix_of}
use Rattle.position_codec.specs.Place.{Place, place_of, delta}
use Rattle.type_terms.specs.Trees.{Text, Tree}
use Rattle.file_layout.specs.Items.{Item, a_number, a_flag, a_text, a_path, a_position, a_type, a_whole}

abbrev pub signed_bytes : ℤ → List ℕ
signed_bytes x = spelling_of (number_of x)

abbrev pub flag_bytes : Bool → List ℕ
flag_bytes false = spelling_of 0
flag_bytes true = spelling_of 1

-- ---- whole numbers

-- the bytes of a size, the highest first and not 0, at most so many
abbrev pub size_bytes : ℕ → ℕ → List ℕ
size_bytes zero n = []
size_bytes (suc k) n = cond (n == 0) [] (size_bytes k (n / 256) ++ (n % 256) ∷ [])

abbrev pub behind_prefix : Bool → ℤ → List ℕ → List ℕ
behind_prefix signed v size = prefix_of signed v (length size) ∷ size

-- the byte of its code, or its size behind a prefix
abbrev pub whole_bytes : Bool → ℕ → ℤ → List ℕ
whole_bytes signed max v =
    cond (nat_lt (code_of signed v) (small_limit signed max)) (code_of signed v ∷ [])
    (behind_prefix signed v (size_bytes max (unsigned_abs v)))

-- ---- positions

abbrev pub same_file : Place → Place → Bool
same_file before now = pointwise nat_eq before.file now.file

abbrev pub column_bytes : Place → Place → Bool → List ℕ
column_bytes before now more = signed_bytes (delta before.column now.column more)

abbrev pub line_bytes : Place → Place → Bool → List ℕ
line_bytes before now more = signed_bytes (delta before.line now.line more)

-- a place after the one before it: the column, the line where it is another one, and so the file by its offset
abbrev pub place_bytes : (Text → ℕ) → Place → Place → List ℕ
place_bytes offset before now =
    cond (same_file before now)
    (cond (now.line == before.line) (column_bytes before now false)
    (column_bytes before now true ++ line_bytes before now false))
    (column_bytes before now true ++ (line_bytes before now true ++ spelling_of (offset now.file)))

-- the place before what follows
abbrev pub place_after : Place → Item → Place
place_after before (a_position pos) = place_of pos
place_after before _ = before

-- ---- items

-- the text that stands for a package's path: the empty one for the file's own
abbrev pub path_text : Text → Text → Text
path_text own path = cond (pointwise nat_eq path own) [] path

-- The own path, the offsets of texts and the numbers of types.
module _ (own : Text) (offset : Text → ℕ) (type_number : Tree → ℕ) where
  abbrev pub item_bytes : Place → Item → List ℕ
  item_bytes before (a_number n) = spelling_of n
  item_bytes before (a_flag flag) = flag_bytes flag
  item_bytes before (a_text text) = spelling_of (offset text)
  item_bytes before (a_path path) = spelling_of (offset (path_text own path))
  item_bytes before (a_position pos) = place_bytes offset before (place_of pos)
  item_bytes before (a_type type) = spelling_of (type_number type)
  item_bytes before (a_whole signed max v) = whole_bytes signed max v

  abbrev pub items_bytes : Place → List Item → List ℕ
  items_bytes before [] = []
  items_bytes before (x ∷ xs) = item_bytes before x ++ items_bytes (place_after before x) xs
