-- Descriptors that are open, as the code keeps them, and what its calls answer.
use Rattle.std.specs.Prelude.{◌≡◌, ℕ, ◌+◌, ◌<◌, ◌≤◌, List, [], ◌∷◌, length, take, drop, map, Result, Ok, Err, Option}
use Rattle.std.specs.Prelude.{Some, None, nat_le}
use Rattle.std.specs.List.{AllByRecursion}
use Rattle.wire_bytes.specs.declared.fault.ByteFault.{ByteFault}
use Rattle.wire_bytes.specs.declared.fault.ByteFault.TheVariants as faults
use Rattle.wire_bytes.specs.declared.fault.ReadFault.{ReadFault}
use Rattle.wire_bytes.specs.declared.fault.ReadFault.TheVariants as reading
use Rattle.wire_bytes.specs.Reading.{◌>>=◌, demand}
use Rattle.code_tables.specs.declared.predeclared.Basic.{Basic}
use Rattle.type_terms.specs.Trees.{Tree, predeclared}
use Rattle.type_terms.specs.Shapes.{instance_of}
use Rattle.decl_spelling.specs.declared.mention.Mention.{Mention}
use Rattle.decl_spelling.specs.Sections.{Sections}
use Rattle.decl_spelling.specs.Descriptors.{Flat as Shape}
use Rattle.decl_spelling.specs.Tables.{Table, Finished}
use Rattle.decl_spelling.specs.Descent.{ReadsBlock, block_at, resolve, resolve_all, meets, unmet}
use Rattle.decl_spelling.specs.KnownTypes.{Kept, IsAnswered}
use Rattle.decl_spelling.specs.Asks.{ask_of, shape_asks}
use Rattle.block_reader.specs.declared.descriptors.Flat.{Flat}
use Rattle.decl_reader.specs.declared.descent.Open.{Open}
use Rattle.block_reader.specs.Parts.{flat_spelled}
use Rattle.decl_reader.specs.Places.{HasRoom}
use Rattle.decl_reader.specs.Frames.{Frame, closed_by, resume}

-- each descriptor of the data section may be read
abbrev pub reads : Sections → ReadsBlock
reads src = block_at src (length src.body)

abbrev pub resolve_type : Sections → ℕ → Mention → Table → Result Table ByteFault
resolve_type src holder m done = resolve src (reads src) holder m done

abbrev pub resolve_types : Sections → ℕ → List Mention → Table → Result Table ByteFault
resolve_types src holder ms done = resolve_all src (reads src) holder ms done

-- the table that a call left is what reading gives; want of memory says nothing
abbrev pub Resolves : Result (Unit {0}) ReadFault → Table → Result Table ByteFault → Type 0
Resolves (Ok u) known read = read ≡ Ok known
Resolves (Err (reading.Bytes f)) known read = read ≡ Err f
Resolves (Err reading.OutOfMemory) known read = Unit {0}

abbrev pub own_shape : Result (Flat × ℕ) ByteFault → Result (Shape × ℕ) ByteFault
own_shape (Ok x) = Ok (flat_spelled x.0, x.1)
own_shape (Err f) = Err f

-- an open descriptor whose mentions from one on are still to be known
abbrev pub frame_from : ℕ → Open → Frame
frame_from k open_one =
    record {
      start = open_one.start;
      left = drop k open_one.mentions.items;
      own = own_shape open_one.own;
      named = open_one.named;
    }

abbrev pub frame_of : Open → Frame
frame_of o = frame_from o.known o

-- one of whose mentions is being read
abbrev pub holder_of : Open → Frame
holder_of o = frame_from (o.known + 1) o

-- an instance has an argument
abbrev pub HasArgument : Shape → Type 0
HasArgument (instance_of base args) = 0 < length args
HasArgument _ = Unit {0}

-- What was read whole is what its mentions say, and no finished descriptor has a byte of it.
abbrev pub IsOwn : Table → ℕ → List Mention → Result (Flat × ℕ) ByteFault → Type 0
IsOwn done start mentions (Ok x) =
    (map ask_of mentions ≡ shape_asks (flat_spelled x.0)) × HasArgument (flat_spelled x.0) × (start < x.1)
    × HasRoom start x.1 done
IsOwn done start mentions (Err f) = Unit {0}

-- it ends at an offset or before it, if it has an end
abbrev pub EndsBefore : Result (Flat × ℕ) ByteFault → ℕ → Type 0
EndsBefore (Ok x) offset = x.1 ≤ offset
EndsBefore (Err f) offset = Unit {0}

-- some of its mentions are known
pub record IsOpen (src : Sections) (done : Table) (o : Open) : Type 0 where
  pub its_start : o.named.value ≡ 32 + o.start
  pub inside : o.start < length src.body
  pub ends : EndsBefore o.own (length src.body)
  pub few : length o.mentions.items ≤ length src.body
  pub some : o.known ≤ length o.mentions.items
  pub answered : AllByRecursion (IsAnswered src done o.start) (take o.known o.mentions.items)
  pub own : IsOwn done o.start o.mentions.items o.own

-- it starts and ends before an offset
abbrev pub IsBelow : Open → ℕ → Type 0
IsBelow o offset = (o.start < offset) × EndsBefore o.own offset

-- what the types of a descriptor that was opened come to for the mention that named it
abbrev pub opened : Sections → Mention → Open → Table → Result Table ByteFault
opened src named o done =
    resolve_all src (reads src) o.start o.mentions.items done >>= closed_by src.version o.start named (own_shape o.own)

-- a descriptor that was just opened for a holder, and what reading its types comes to for the mention that named it
pub record IsBegun (src : Sections) (done : Table) (holder : ℕ) (named : Mention) (o : Open) : Type 0 where
  pub fresh : o.known ≡ 0
  pub its_mention : o.named ≡ named
  pub is_open : IsOpen src done o
  pub below : IsBelow o holder
  pub turn : resolve src (reads src) holder named done ≡ opened src named o done

-- what a mention needs: nothing more, or a descriptor that was opened
abbrev pub Begins : Sections → Table → ℕ → Mention → Result (Option Open) ReadFault → Type 0
Begins src done holder named (Ok None) =
    (resolve src (reads src) holder named done ≡ Ok done) × IsAnswered src done holder named
Begins src done holder named (Ok (Some o)) = IsBegun src done holder named o
Begins src done holder named (Err (reading.Bytes f)) = resolve src (reads src) holder named done ≡ Err f
Begins src done holder named (Err reading.OutOfMemory) = Unit {0}

-- A descriptor was closed: it is among the finished ones, which stay, and where it ends at or before an offset it
-- leaves the room from there on.
pub record IsClosed (src : Sections) (old new : Table) (o : Open) : Type 0 where
  pub kept : Kept old new
  pub answered : (holder : ℕ) → IsBelow o holder → IsAnswered src new holder o.named
  pub room : (from to : ℕ) → IsBelow o from → HasRoom from to old → HasRoom from to new

-- the open descriptors that hold one, the innermost first: each is reading the mention that named the one before it
abbrev pub AreHolders : Sections → Table → Open → List Open → Type 0
AreHolders src done inner [] = Unit {0}
AreHolders src done inner (o ∷ os) =
    IsOpen src done o × (o.known < length o.mentions.items)
    × (drop o.known o.mentions.items ≡ inner.named ∷ drop (o.known + 1) o.mentions.items) × IsBelow inner o.start
    × AreHolders src done o os

abbrev pub resumed : Sections → Open → List Open → Table → Result Table ByteFault
resumed src first holders done = resume src (reads src) (frame_of first ∷ map holder_of holders) done

-- ---- whether a type that is known is what its holder asks for

abbrev pub checked_type : Mention → Tree → Result (Unit {0}) ByteFault
checked_type m tree = demand (meets m.asked tree) (unmet m m.asked)

abbrev pub checked_basic : Mention → Option Basic → Result (Unit {0}) ByteFault
checked_basic m (Some basic) = checked_type m (predeclared basic)
checked_basic m None = Err (faults.Range m.at m.value)

abbrev pub checked_finished : ℕ → Mention → Finished → Result (Unit {0}) ByteFault
checked_finished holder m finished =
    demand (nat_le finished.end holder) (faults.Range m.at m.value) >>= λ u. checked_type m finished.tree

-- the same of a descriptor that ends at an offset
pub record IsFinished (src : Sections) (old new : Table) (named : Mention) (end : ℕ) : Type 0 where
  pub kept : Kept old new
  pub answered : (holder : ℕ) → end ≤ holder → IsAnswered src new holder named
  pub room : (from to : ℕ) → end ≤ from → HasRoom from to old → HasRoom from to new
