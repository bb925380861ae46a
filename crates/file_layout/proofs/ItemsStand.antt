-- Items whose bytes are put somewhere stand there, one after the other.
use Rattle.std.proofs.Common.{◌≡◌, ℕ, Option, Some, ◌^◌, ◌<◌, false, List, [], ◌∷◌, ◌++◌, length, refl, sym, ap, subst, ◌∙◌, append_assoc}
use Rattle.std.specs.Prelude.{IsTrue}
use Rattle.std.specs.List.{Contains}
use Rattle.go_values.specs.declared.positions.Pos.{Pos}
use Rattle.wire_bytes.specs.Begins.{Begins}
use Rattle.wire_bytes.specs.Whole.{Whole, IsGreatestLength, in_range}
use Rattle.wire_bytes.specs.Text.{Text as TextAt}
use Rattle.position_codec.specs.Position.{Position}
use Rattle.wire_bytes.specs.Section.{section_of, spelling_of}
use Rattle.position_codec.specs.Place.{Place, Named, moved_on, place_of, pos_of}
use Rattle.position_codec.specs.Position.{IsPlace}
use Rattle.file_parts.specs.Paths.{IsPathFor}
use Rattle.type_terms.specs.Trees.{Text, Tree}
use Rattle.decl_spelling.specs.Sections.{Sections}
use Rattle.decl_spelling.specs.Spelled.{SpelledText, SpelledPath, SpelledPos}
use Rattle.decl_spelling.specs.Reading.{pos_after}
use Rattle.decl_spelling.specs.Grammar.{Here, IsNumber, IsTruth, IsText, IsPath, IsPos, InTurn}
use Rattle.file_envelope.specs.FileBytes.{text_number}
use Rattle.file_envelope.proofs.Known.{Stands, known_stands, number_front}
use Rattle.file_layout.specs.Items.{Item, a_number, a_flag, a_text, a_path, a_position, a_type, a_whole}
use Rattle.file_layout.specs.Bytes.{flag_bytes, whole_bytes, same_file, place_bytes, place_after, path_text, item_bytes, items_bytes}
use Rattle.file_layout.proofs.ItemsHere.{flag_is, Placed, place_is}
use Rattle.file_layout.proofs.WholeHere.{whole_is}
use Rattle.file_layout.proofs.Numbers.{NumberFits, NumbersFit}

-- what is there, by a number for each type
abbrev pub IsItem : Sections → (Tree → ℕ) → Here → Item → Here → Type 0
IsItem src number a (a_number n) b = IsNumber a n b
IsItem src number a (a_flag x) b = IsTruth a x b
IsItem src number a (a_text text) b = (x : SpelledText) × (x.text ≡ text) × IsText src a x b
IsItem src number a (a_path path) b = (x : SpelledPath) × (x.path ≡ path) × IsPath src a x b
IsItem src number a (a_position pos) b = (x : SpelledPos) × (x.pos ≡ pos) × IsPos src a x b
IsItem src number a (a_type type) b = IsNumber a (number type) b
IsItem src number a (a_whole signed max v) b = Begins (Whole signed max) a.left v b.left × (b.before ≡ a.before)

-- what lets an item stand behind a place, beside that a number has 64 bits (`NumberFits`)
abbrev pub MayStand : Text → List Text → List Text → (Tree → ℕ) → Place → Item → Type 0
MayStand own paths texts number before (a_number n) = Unit {0}
MayStand own paths texts number before (a_flag x) = Unit {0}
MayStand own paths texts number before (a_text text) = Contains texts text
MayStand own paths texts number before (a_path path) = Contains texts (path_text own path) × IsPathFor own paths (path_text own path) path
MayStand own paths texts number before (a_position pos) = (pos ≡ pos_of (place_of pos)) × IsPlace (place_of pos) × (same_file before (place_of pos) ≡ false → Contains texts (place_of pos).file)
MayStand own paths texts number before (a_type type) = number type < 2 ^ 64
MayStand own paths texts number before (a_whole signed max v) = IsGreatestLength max × IsTrue (in_range signed max v)

abbrev pub AllMayStand : Text → List Text → List Text → (Tree → ℕ) → Place → List Item → Type 0
AllMayStand own paths texts number before [] = Unit {0}
AllMayStand own paths texts number before (x ∷ xs) = MayStand own paths texts number before x × AllMayStand own paths texts number (place_after before x) xs

-- the place behind some items
abbrev pub last_place : Place → List Item → Place
last_place before [] = before
last_place before (x ∷ xs) = last_place (place_after before x) xs

-- with the name under which the last file was spelled
abbrev pub here_with : List ℕ → Place → Option ℕ → Here
here_with bytes before name = record { left = bytes; before = record { place = before; name = name } }

module _ (src : Sections) (texts : List Text) (number : Tree → ℕ) (strings_are : src.strings ≡ section_of texts) (fits : length (section_of texts) < 2 ^ 64) where
  abbrev bytes_of : Place → Item → List ℕ
  bytes_of = item_bytes src.own (text_number texts) number

  abbrev all_bytes_of : Place → List Item → List ℕ
  all_bytes_of = items_bytes src.own (text_number texts) number

  abbrev text_spelled : List ℕ → SpelledText
  text_spelled text = record { offset = Some (text_number texts text); text = text }

  text_here : (text rest : List ℕ) (before : Place) (name : Option ℕ) → Contains texts text → IsText src (here_with (spelling_of (text_number texts text) ++ rest) before name) (text_spelled text) (here_with rest before name)
  text_here text rest before name known =
      let there : Stands texts text = known_stands texts text fits known in
      (text_number texts text, refl, (number_front (text_number texts text) rest there.small, refl), subst (λ (strings : List ℕ). TextAt strings (text_number texts text) text) (sym strings_are) there.there)

  abbrev path_spelled : List ℕ → SpelledPath
  path_spelled path = record { offset = Some (text_number texts (path_text src.own path)); path = path }

  path_here : (path rest : List ℕ) (before : Place) (name : Option ℕ) → Contains texts (path_text src.own path) → IsPathFor src.own src.paths (path_text src.own path) path
      → IsPath src (here_with (spelling_of (text_number texts (path_text src.own path)) ++ rest) before name) (path_spelled path) (here_with rest before name)
  path_here path rest before name known stands =
      let text = text_here (path_text src.own path) rest before name known in
      (text.0, text.1, text.2, (path_text src.own path, text.3, stands))

  position_here : (pos : Pos) (rest : List ℕ) (before : Place) (name : Option ℕ) → IsPlace before → (pos ≡ pos_of (place_of pos)) → IsPlace (place_of pos) → (same_file before (place_of pos) ≡ false → Contains texts (place_of pos).file)
      → (after : Option ℕ) × (x : SpelledPos) × (x.pos ≡ pos) × IsPos src (here_with (place_bytes (text_number texts) before (place_of pos) ++ rest) before name) x (here_with rest (place_of pos) after)
  position_here pos rest before name from again to known =
      let placed : Placed texts fits before (place_of pos) = place_is texts fits before (place_of pos) from to known in
      let old : Named = record { place = before; name = name } in (
        (moved_on old placed.named).name,
        pos_after old placed.named,
        ap pos_of placed.its_place ∙ sym again,
        (
          placed.named,
          (place_bytes (text_number texts) before (place_of pos), subst (λ (strings : List ℕ). Position strings before (place_bytes (text_number texts) before (place_of pos)) placed.named) (sym strings_are) placed.spelled, refl),
          (λ i. record { place = sym placed.its_place i; name = (moved_on old placed.named).name }),
          refl,
        ),
      )

  pub item_here : (before : Place) (name : Option ℕ) (x : Item) (rest : List ℕ) → IsPlace before → NumberFits x → MayStand src.own src.paths texts number before x
      → (after : Option ℕ) × IsItem src number (here_with (bytes_of before x ++ rest) before name) x (here_with rest (place_after before x) after)
  item_here before name (a_number n) rest from small may = (name, (number_front n rest small, refl))
  item_here before name (a_flag x) rest from small may = (name, ((flag_bytes x, flag_is x, refl), refl))
  item_here before name (a_text text) rest from small may = (name, (text_spelled text, refl, text_here text rest before name may))
  item_here before name (a_path path) rest from small may = (name, (path_spelled path, refl, path_here path rest before name may.0 may.1))
  item_here before name (a_position pos) rest from small may = let x = position_here pos rest before name from may.0 may.1 may.2 in (x.0, (x.1, x.2, x.3))
  item_here before name (a_type type) rest from small may = (name, (number_front (number type) rest may, refl))
  item_here before name (a_whole signed max v) rest from small may = (name, ((whole_bytes signed max v, whole_is signed max v may.0 may.1, refl), refl))

  stays_place : (before : Place) (x : Item) → IsPlace before → MayStand src.own src.paths texts number before x → IsPlace (place_after before x)
  stays_place before (a_position pos) from may = may.1
  stays_place before (a_number n) from may = from
  stays_place before (a_flag x) from may = from
  stays_place before (a_text text) from may = from
  stays_place before (a_path path) from may = from
  stays_place before (a_type type) from may = from
  stays_place before (a_whole signed max v) from may = from

  pub items_here : (before : Place) (name : Option ℕ) (xs : List Item) (rest : List ℕ) → IsPlace before → NumbersFit xs → AllMayStand src.own src.paths texts number before xs
      → (after : Option ℕ) × InTurn (IsItem src number) (here_with (all_bytes_of before xs ++ rest) before name) xs (here_with rest (last_place before xs) after)
  items_here before name [] rest from small may = (name, refl)
  items_here before name (x ∷ xs) rest from small may =
      let first = item_here before name x (all_bytes_of (place_after before x) xs ++ rest) from small.0 may.0 in
      let others = items_here (place_after before x) first.0 xs rest (stays_place before x from may.0) small.1 may.1 in
      let next = here_with (all_bytes_of (place_after before x) xs ++ rest) (place_after before x) first.0 in (
        others.0,
        (
          next,
          subst (λ (bs : List ℕ). IsItem src number (here_with bs before name) x next) (sym (append_assoc (bytes_of before x) (all_bytes_of (place_after before x) xs) rest))
              first.1,
          others.1,
        ),
      )
