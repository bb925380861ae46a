-- Descriptors that are open: their own bytes were read, and some of their types are still to be known.
use Rattle.std.specs.Prelude.{ℕ, List, [], ◌∷◌, Result, Ok, Err}
use Rattle.wire_bytes.specs.declared.fault.ByteFault.{ByteFault}
use Rattle.wire_bytes.specs.Reading.{◌>>=◌, demand}
use Rattle.decl_spelling.specs.declared.mention.Mention.{Mention}
use Rattle.decl_spelling.specs.Sections.{Sections}
use Rattle.decl_spelling.specs.Reading.{Ahead, Stopped}
use Rattle.decl_spelling.specs.Descriptors.{Flat}
use Rattle.decl_spelling.specs.Tables.{Table, with_block, type_named, tree_spelled}
use Rattle.decl_spelling.specs.Descent.{ReadsBlock, meets, unmet, named_at, resolve_all, offset_of}

-- where it starts, its types that are still to be known, its shape and where it ends or the fault in its own bytes, and
-- the mention that named it
pub record Frame : Type 0 where
  pub start : ℕ
  pub left : List Mention
  pub own : Result (Flat × ℕ) ByteFault
  pub named : Mention

-- what its own bytes came to
abbrev pub own_of : Sections → Result (Flat × Ahead) Stopped → Result (Flat × ℕ) ByteFault
own_of src (Ok x) = Ok (x.0, offset_of src x.1)
own_of src (Err stopped) = Err stopped.fault

abbrev pub mentions_of : Result (Flat × Ahead) Stopped → List Mention
mentions_of (Ok x) = (x.1).mentions
mentions_of (Err stopped) = stopped.mentions

-- the type of a mention is known, and is what its holder asks for
abbrev pub answered : ℕ → Mention → Table → Result Table ByteFault
answered version m done = demand (meets m.asked (type_named version done m.value)) (unmet m m.asked) >>= λ _. Ok done

abbrev pub with_shape : ℕ → ℕ → Flat × ℕ → Table → Table
with_shape version start x done =
    with_block done start (record { end = x.1; tree = tree_spelled version done x.0 })

-- A descriptor whose types are known is closed: it is among the finished ones, or it was at fault.
abbrev pub closed_by : ℕ → ℕ → Mention → Result (Flat × ℕ) ByteFault → Table → Result Table ByteFault
closed_by version start m (Ok x) done = answered version m (with_shape version start x done)
closed_by version start m (Err f) done = named_at m (Err f)

abbrev pub closed : ℕ → Frame → Table → Result Table ByteFault
closed version f done = closed_by version f.start f.named f.own done

-- what open descriptors still come to, the innermost first
abbrev pub resume : Sections → ReadsBlock → List Frame → Table → Result Table ByteFault
resume src read [] done = Ok done
resume src read (f ∷ fs) done =
    resolve_all src read f.start f.left done >>= λ known. closed src.version f known
    >>= λ after. resume src read fs after
