-- What reading a declaration leaves: the types of the descriptors that it reads whole, also where it meets a fault
-- behind them.
use Rattle.std.specs.Prelude.{ℕ, zero, suc, ◌-◌, List, [], ◌∷◌, ◌++◌, Bool, true, false, not, Result, Ok, Err}
use Rattle.std.specs.Prelude.{cond, nat_lt, length, is_some}
use Rattle.wire_bytes.specs.declared.fault.ByteFault.{ByteFault}
use Rattle.type_terms.specs.Trees.{Tree}
use Rattle.type_terms.specs.Declarations.{Decl, form_types}
use Rattle.decl_spelling.specs.declared.mention.TheConstants.{FIRST_DESCRIPTOR}
use Rattle.decl_spelling.specs.declared.mention.Mention.{Mention}
use Rattle.decl_spelling.specs.Sections.{Sections, Basics, window}
use Rattle.decl_spelling.specs.Reading.{Ahead, Stopped, start, list_at}
use Rattle.decl_spelling.specs.Descriptors.{Flat, flat_at}
use Rattle.decl_spelling.specs.Tables.{Table, at, free_to, type_spelled, tree_spelled}
use Rattle.decl_spelling.specs.Descent.{ReadsBlock, resolve, resolve_all, block_at}
use Rattle.decl_spelling.specs.Declarations.{Head, whole, of_type, of_constant, head_at, receiver_at, resolved}
use Rattle.decl_spelling.specs.Declarations.{has_methods, decl_at}

-- what the descriptor at an offset leaves, read for a block that starts at another one
abbrev pub LeavesBlock : Type 0
LeavesBlock = ℕ → ℕ → Table → List Tree

-- what follows a step that was well
abbrev pub if_well : {X : Type 0} → Result X ByteFault → (X → List Tree) → List Tree
if_well (Ok x) left = left x
if_well (Err fault) left = []

-- A type opens its descriptor where this starts before the holder and wasn't read before.
abbrev pub opens : ℕ → ℕ → Table → Bool
opens holder number done =
    cond (nat_lt number FIRST_DESCRIPTOR) false
    (cond (nat_lt (number - FIRST_DESCRIPTOR) holder) (not (is_some (at done (number - FIRST_DESCRIPTOR)))) false)

abbrev pub left_by_type : LeavesBlock → ℕ → ℕ → Table → List Tree
left_by_type leaves holder number done =
    cond (opens holder number done) (leaves (number - FIRST_DESCRIPTOR) holder done) []

abbrev pub left_by_types : Sections → ReadsBlock → LeavesBlock → ℕ → List Mention → Table → List Tree
left_by_types src read leaves holder [] done = []
left_by_types src read leaves holder (m ∷ ms) done =
    left_by_type leaves holder m.value done
    ++ if_well (resolve src read holder m done) (left_by_types src read leaves holder ms)

-- what the types that it names leave, and then its own type
abbrev pub left_by_block : Sections → ReadsBlock → LeavesBlock → ℕ → Result (Flat × Ahead) Stopped → Table → List Tree
left_by_block src read leaves offset (Ok x) done =
    left_by_types src read leaves offset (x.1).mentions done
    ++ if_well (resolve_all src read offset (x.1).mentions done)
    (λ known. tree_spelled src.version known x.0 ∷ [])
left_by_block src read leaves offset (Err stopped) done = left_by_types src read leaves offset stopped.mentions done

-- The number bounds the offsets.
unfoldable pub left_at : Sections → ℕ → LeavesBlock
left_at src zero offset holder done = []
left_at src (suc n) offset holder done =
    left_by_block src (block_at src n) (left_at src n) offset
    (flat_at src (start (window src offset (free_to offset holder done)))) done

-- ---- a declaration

abbrev pub left_by_named : Sections → ℕ → List Mention → Table → List Tree
left_by_named src offset ms done = left_by_types src (block_at src offset) (left_at src offset) offset ms done

-- by the types that a part of it names
abbrev pub left_by_part : {X : Type 0} → Sections → ℕ → Result (X × Ahead) Stopped → Table → List Tree
left_by_part src offset (Ok x) done = left_by_named src offset (x.1).mentions done
left_by_part src offset (Err stopped) done = left_by_named src offset stopped.mentions done

abbrev pub left_by_methods : Sections → ℕ → Ahead → Table → Bool → List Tree
left_by_methods src offset a done true = left_by_part src offset (list_at (receiver_at src) a) done
left_by_methods src offset a done false = []

abbrev pub left_after_head : Sections → ℕ → Head → Ahead → Table → List Tree
left_after_head src offset (whole form) a done = []
left_after_head src offset (of_type pos tparams underlying) a done =
    left_by_methods src offset a done (has_methods (type_spelled src.version done underlying))
left_after_head src offset (of_constant pos type at) a done = []

-- by all that is read of it
unfoldable pub left_by_decl : Sections → ℕ → List Tree
left_by_decl src offset =
    let head = head_at src (start (window src offset (length src.body))) in
    left_by_part src offset head []
    ++ if_well (resolved src offset head []) (λ x. left_after_head src offset (x.0).0 (x.0).1 x.1)

abbrev pub types_by : Sections → ℕ → Result Decl ByteFault → List Tree
types_by src offset (Ok decl) = form_types decl
types_by src offset (Err fault) = left_by_decl src offset

-- The types of the declaration at an offset, where it is read whole; else those of the descriptors that were read whole
-- before the first fault.
abbrev pub types_read : Sections → Basics → ℕ → List Tree
types_read src basics offset = types_by src offset (decl_at src basics offset)
