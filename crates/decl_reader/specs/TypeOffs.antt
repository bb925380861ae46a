-- What the number of a type in a block names.
use Rattle.std.specs.Prelude.{◌≡◌, ℕ, ◌+◌, ◌<◌}
use Rattle.decl_spelling.specs.declared.mention.TheConstants.{FIRST_DESCRIPTOR}
use Rattle.decl_reader.specs.declared.type_off.TypeOff.{TypeOff}
use Rattle.decl_reader.specs.declared.type_off.TypeOff.TheVariants.{Basic, At}

abbrev pub IsTypeOff : ℕ → TypeOff → Type 0
IsTypeOff number (Basic code) = (number ≡ code) × (code < FIRST_DESCRIPTOR)
IsTypeOff number (At offset) = number ≡ FIRST_DESCRIPTOR + offset
