-- Reading the types that a block names. Each descriptor stands wholly before the block that names it, so offsets fall.
-- It is read once, and shares no byte with another one that was read before.
use Rattle.std.specs.Prelude.{ℕ, zero, suc, ◌-◌, List, [], ◌∷◌, Bool, true, false, not, ◌||◌, ◌==◌, Result, Ok, Err}
use Rattle.std.specs.Prelude.{Option, Some, None, cond, nat_lt, nat_le, is_some}
use Rattle.code_tables.specs.declared.predeclared.Basic.{Basic}
use Rattle.code_tables.specs.Basic.{basic_code}
use Rattle.wire_bytes.specs.declared.fault.ByteFault.{ByteFault}
use Rattle.wire_bytes.specs.declared.fault.ByteFault.TheVariants as faults
use Rattle.wire_bytes.specs.Reading.{place, ◌>>=◌, demand}
use Rattle.type_terms.specs.Trees.{Tree, predeclared, named, parameter, alias, instance, union, interface}
use Rattle.decl_spelling.specs.declared.mention.TheConstants.{FIRST_DESCRIPTOR}
use Rattle.decl_spelling.specs.declared.mention.Mention.{Mention}
use Rattle.decl_spelling.specs.declared.mention.Demand.{Demand}
use Rattle.decl_spelling.specs.declared.mention.Demand.TheVariants.{Any, Parameter, Underlying, Base, NoParameter}
use Rattle.decl_spelling.specs.declared.mention.Demand.TheVariants.{Interface}
use Rattle.decl_spelling.specs.Sections.{Sections, window}
use Rattle.decl_spelling.specs.Codes.{basic_of}
use Rattle.decl_spelling.specs.Reading.{Ahead, Stopped, start}
use Rattle.decl_spelling.specs.Descriptors.{Flat, flat_at}
use Rattle.decl_spelling.specs.Tables.{Finished, Table, at, with_block, free_to, type_named, tree_spelled}

-- ---- what a holder asks of a type

abbrev pub is_parameter : Tree → Bool
is_parameter (parameter q) = true
is_parameter _ = false

abbrev pub is_interface : Tree → Bool
is_interface (interface home embedded own) = true
is_interface _ = false

abbrev pub is_generic : Tree → Bool
is_generic (named q) = true
is_generic (alias q) = true
is_generic _ = false

-- up to string with the byte and rune types, unsafe.Pointer, or any
abbrev pub may_underlie : Basic → Bool
may_underlie basic = nat_le (basic_code basic) 18 || ((basic_code basic == 27) || (basic_code basic == 31))

abbrev pub is_underlying : Tree → Bool
is_underlying (predeclared basic) = may_underlie basic
is_underlying (named q) = false
is_underlying (parameter q) = false
is_underlying (alias q) = false
is_underlying (instance base args) = false
is_underlying (union parts) = false
is_underlying _ = true

abbrev pub meets : Demand → Tree → Bool
meets Any tree = true
meets Parameter tree = is_parameter tree
meets Underlying tree = is_underlying tree
meets Base tree = is_generic tree
meets NoParameter tree = not (is_parameter tree)
meets (Interface flag) tree = is_interface tree

-- The fault stands at the typeOff, or for a constraint that was to be an interface at the flag that says so.
abbrev pub unmet : Mention → Demand → ByteFault
unmet m (Interface flag) = faults.Tag flag 1
unmet m _ = faults.Range m.at m.value

-- ---- the types of a block, one after the other

-- reads the descriptor at an offset for a block that starts at another one
abbrev pub ReadsBlock : Type 0
ReadsBlock = ℕ → ℕ → Table → Result Table ByteFault

-- A descriptor that runs into what isn't its own is out of range where it is named.
abbrev pub named_at : Mention → Result Table ByteFault → Result Table ByteFault
named_at m (Ok done) = Ok done
named_at m (Err (faults.Ended e)) = Err (faults.Range m.at m.value)
named_at m (Err f) = Err f

-- a descriptor that was read before ends before its holder; another one is read now
abbrev pub found_or_read : ReadsBlock → ℕ → Mention → Table → Option Finished → Result Table ByteFault
found_or_read read holder m done (Some finished) =
    demand (nat_le finished.end holder) (faults.Range m.at m.value) >>= λ _. Ok done
found_or_read read holder m done None = named_at m (read (m.value - FIRST_DESCRIPTOR) holder done)

abbrev pub with_descriptor : ReadsBlock → ℕ → Mention → Table → Result Table ByteFault
with_descriptor read holder m done = do
  before ← demand (nat_lt (m.value - FIRST_DESCRIPTOR) holder) (faults.Range m.at m.value)
  found_or_read read holder m done (at done (m.value - FIRST_DESCRIPTOR))

abbrev pub with_basic : ℕ → Mention → Table → Result Table ByteFault
with_basic version m done = demand (is_some (basic_of version m.value)) (faults.Range m.at m.value) >>= λ _. Ok done

-- the type is known now
abbrev pub with_type : Sections → ReadsBlock → ℕ → Mention → Table → Result Table ByteFault
with_type src read holder m done =
    cond (nat_lt m.value FIRST_DESCRIPTOR) (with_basic src.version m done) (with_descriptor read holder m done)

-- and is what its holder asks for
abbrev pub resolve : Sections → ReadsBlock → ℕ → Mention → Table → Result Table ByteFault
resolve src read holder m done = do
  known ← with_type src read holder m done
  met ← demand (meets m.asked (type_named src.version known m.value)) (unmet m m.asked)
  Ok known

abbrev pub resolve_all : Sections → ReadsBlock → ℕ → List Mention → Table → Result Table ByteFault
resolve_all src read holder [] done = Ok done
resolve_all src read holder (m ∷ ms) done = resolve src read holder m done >>= resolve_all src read holder ms

-- ---- a whole descriptor

-- the offset in the data section of what is next
abbrev pub offset_of : Sections → Ahead → ℕ
offset_of src a = place a.spot - src.body_at

-- its types, and then its own end or fault
abbrev pub finish : Sections → ReadsBlock → ℕ → Result (Flat × Ahead) Stopped → Table → Result Table ByteFault
finish src read offset (Ok x) done = do
  known ← resolve_all src read offset (x.1).mentions done
  Ok (with_block known offset
      (record { end = offset_of src x.1; tree = tree_spelled src.version known x.0 }))
finish src read offset (Err stopped) done = do
  known ← resolve_all src read offset stopped.mentions done
  Err stopped.fault

-- The descriptor at an offset, for a block that starts at another one. It may use the bytes up to that start, or up to
-- those of a descriptor that was read before. The number bounds the offsets.
unfoldable pub block_at : Sections → ℕ → ReadsBlock
block_at src zero offset holder done = Err (faults.Ended 0)
block_at src (suc n) offset holder done =
    finish src (block_at src n) offset (flat_at src (start (window src offset (free_to offset holder done)))) done
