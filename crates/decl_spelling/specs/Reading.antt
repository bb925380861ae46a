-- Reading a block from left to right. A block is a declaration or the descriptor of a type. Its own bytes name the
-- types that stand in it by their typeOffs, so they are read by themselves first; where they are at fault, the types
-- that were named before are known.
use Rattle.std.specs.Prelude.{ℕ, zero, suc, List, [], ◌∷◌, ◌++◌, Bool, true, false, Result, Ok, Err, Option, Some, None}
use Rattle.std.specs.Prelude.{nat_lt}
use Rattle.wire_bytes.specs.declared.fault.ByteFault.{ByteFault}
use Rattle.wire_bytes.specs.declared.fault.ByteFault.TheVariants as faults
use Rattle.wire_bytes.specs.Reading.{Spot, place, ◌>>=◌}
use Rattle.wire_bytes.specs.Uvarint.{uvarint_at}
use Rattle.wire_bytes.specs.Varint.{flag_at}
use Rattle.wire_bytes.specs.Text.{text_in}
use Rattle.position_codec.specs.Place.{Named, no_place, pos_of, moved_on}
use Rattle.position_codec.specs.Position.{position_at}
use Rattle.file_parts.specs.Paths.{path_in}
use Rattle.decl_spelling.specs.declared.mention.Mention.{Mention}
use Rattle.decl_spelling.specs.declared.mention.Demand.{Demand}
use Rattle.decl_spelling.specs.Sections.{Sections}
use Rattle.decl_spelling.specs.Spelled.{SpelledText, SpelledPath, SpelledPos, SpelledType, without_pos}

-- what is left of a block, the place before its next position, and the types that it has named so far
pub record Ahead : Type 0 where
  pub spot : Spot
  pub before : Named
  pub mentions : List Mention

-- a fault in a block's own bytes, and the types that were named before it
pub record Stopped : Type 0 where
  pub fault : ByteFault
  pub mentions : List Mention

abbrev pub Reader : Type 0 → Type 0
Reader X = Ahead → Result (X × Ahead) Stopped

-- the start of a block
abbrev pub start : Spot → Ahead
start s = record { spot = s; before = record { place = no_place; name = None }; mentions = [] }

-- the fault stands here
abbrev pub stop : {X : Type 0} → Ahead → ByteFault → Result X Stopped
stop a f = Err (record { fault = f; mentions = a.mentions })

-- a fault, unless the test holds
abbrev pub ask : Ahead → Bool → ByteFault → Result (Unit {0}) Stopped
ask a true f = Ok tt
ask a false f = stop a f

-- the value that is there, or else a fault
abbrev pub or_stop : {X : Type 0} → Ahead → ByteFault → Option X → Result X Stopped
or_stop a f (Some x) = Ok x
or_stop a f None = stop a f

abbrev pub onto : Ahead → Spot → Ahead
onto a s = record { spot = s; before = a.before; mentions = a.mentions }

-- what is read of the bytes alone
abbrev pub plain : {X : Type 0} → Ahead → Result (X × Spot) ByteFault → Result (X × Ahead) Stopped
plain a (Ok x) = Ok (x.0, onto a x.1)
plain a (Err f) = stop a f

abbrev pub number_at : Reader ℕ
number_at a = plain a (uvarint_at a.spot)

abbrev pub truth_at : Reader Bool
truth_at a = plain a (flag_at a.spot)

-- a text of the string section, by its offset
unfoldable pub text_at : Sections → Reader SpelledText
text_at src a = do
  offset ← number_at a
  text ← or_stop a (faults.Range (place a.spot) offset.0) (text_in src.strings offset.0)
  Ok (record { offset = Some offset.0; text = text }, offset.1)

-- the path of a package, which is the file's own or one that its index lists
unfoldable pub path_at : Sections → Reader SpelledPath
path_at src a = do
  offset ← number_at a
  path ← or_stop a (faults.Range (place a.spot) offset.0) (path_in src.strings src.own src.paths offset.0)
  Ok (record { offset = Some offset.0; path = path }, offset.1)

-- a place that follows the one before it, with the name that its file then has
abbrev pub pos_after : Named → Named → SpelledPos
pos_after before now = record { pos = pos_of now.place; file = (moved_on before now).name }

abbrev pub placed : Ahead → Result (Named × Spot) ByteFault → Result (SpelledPos × Ahead) Stopped
placed a (Ok x) =
    Ok (pos_after a.before x.0, record { spot = x.1; before = moved_on a.before x.0; mentions = a.mentions })
placed a (Err f) = stop a f

-- a position, spelled after the one before it in the block
abbrev pub pos_at : Sections → Reader SpelledPos
pos_at src a = placed a (position_at src.strings a.before.place a.spot)

-- what is ahead of a typeOff that was read, which is noted with what is asked of its type
abbrev pub mentioned : Demand → Ahead → ℕ × Ahead → Ahead
mentioned asked a number =
    record {
      spot = (number.1).spot;
      before = a.before;
      mentions = a.mentions ++ record { at = place a.spot; value = number.0; asked = asked } ∷ [];
    }

-- a typeOff; what it names, and whether that is what its holder asks for, comes later
unfoldable pub type_at : Demand → Reader SpelledType
type_at asked a = do
  number ← number_at a
  Ok (without_pos number.0, mentioned asked a number)

-- so many things, one after the other
unfoldable pub times : {X : Type 0} → Reader X → ℕ → Reader (List X)
times one zero a = Ok ([], a)
times one (suc n) a = do
  first ← one a
  others ← times one n first.1
  Ok (first.0 ∷ others.0, others.1)

-- a count, and that many things
unfoldable pub list_at : {X : Type 0} → Reader X → Reader (List X)
list_at one a = do
  count ← number_at a
  times one count.0 count.1

-- the same, where there is at least one
unfoldable pub some_at : {X : Type 0} → Reader X → Reader (List X)
some_at one a = do
  count ← number_at a
  some ← ask a (nat_lt 0 count.0) (faults.Range (place a.spot) count.0)
  times one count.0 count.1
