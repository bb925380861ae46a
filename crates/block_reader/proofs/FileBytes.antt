-- The sections of a file hold bytes.
use Rattle.std.proofs.Common.{ℕ, ◌<◌, List, [], ◌∷◌, arith}
use Rattle.std.specs.List.{AllByRecursion}
use Rattle.wire_bytes.proofs.Spellings.{IsBytes, IsBytes-rest}
use Rattle.wire_bytes.proofs.TextLemmas.{IsBytes-drop}
use Rattle.file_parts.specs.declared.parts.Parts.{Parts}
use Rattle.decl_spelling.specs.Sections.{HoldsBytes}
use Rattle.decl_spelling.proofs.Windows.{IsBytes-take}
use Rattle.block_reader.specs.Calls.{sections_of}

all_bytes : (bytes : List ℕ) → IsBytes bytes → AllByRecursion (λ b. b < 256) bytes
all_bytes [] fits = tt
all_bytes (b ∷ bytes) fits = (omega (arith, fits 0), all_bytes bytes (IsBytes-rest b bytes fits))

pub holds_bytes : (p : Parts) → IsBytes p.file.now → HoldsBytes (sections_of p)
holds_bytes p fits = (
  all_bytes (sections_of p).strings (IsBytes-take _ _ (IsBytes-drop p.strings_at p.file.now fits)),
  all_bytes (sections_of p).body (IsBytes-take _ _ (IsBytes-drop p.body_at p.file.now fits)),
)
