-- Which types are known by a table of finished descriptors.
use Rattle.std.specs.Prelude.{◌≡◌, ℕ, ◌-◌, ◌<◌, ◌≤◌, ◌⊎◌, true, Some, is_some}
use Rattle.decl_spelling.specs.declared.mention.Mention.{Mention}
use Rattle.decl_spelling.specs.declared.mention.TheConstants.{FIRST_DESCRIPTOR}
use Rattle.decl_spelling.specs.Sections.{Sections}
use Rattle.decl_spelling.specs.Codes.{basic_of}
use Rattle.decl_spelling.specs.Tables.{Finished, Table, at, type_named}
use Rattle.decl_spelling.specs.Descent.{meets}

-- what was found stays
abbrev pub Kept : Table → Table → Type 0
Kept done known = (o : ℕ) (f : Finished) → at done o ≡ Some f → at known o ≡ Some f

-- The type of a typeOff is known for a block that starts at the holder.
abbrev pub IsKnown : Sections → Table → ℕ → ℕ → Type 0
IsKnown src done holder n =
    ((n < FIRST_DESCRIPTOR) × (is_some (basic_of src.version n) ≡ true))
    ⊎ ((FIRST_DESCRIPTOR ≤ n) × (f : Finished) × (at done (n - FIRST_DESCRIPTOR) ≡ Some f) × (f.end ≤ holder))

-- a mention whose type is known, and is what its holder asks for
abbrev pub IsAnswered : Sections → Table → ℕ → Mention → Type 0
IsAnswered src done holder m =
    IsKnown src done holder m.value × (meets m.asked (type_named src.version done m.value) ≡ true)
