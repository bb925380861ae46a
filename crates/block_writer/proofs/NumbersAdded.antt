-- Numbers, flags and whole numbers that are put, by their bytes.
use Rattle.std.proofs.Common.{◌≡◌, ℕ, Bool, true, false, List, ◌++◌, ap, ◌∙◌}
use Rattle.std.specs.Prelude.{ℤ, IsTrue}
use Rattle.wire_bytes.specs.Begins.{Appends}
use Rattle.wire_bytes.specs.Varint.{Varint, Flag, number_of}
use Rattle.wire_bytes.specs.Whole.{Whole, IsGreatestLength, in_range}
use Rattle.wire_bytes.proofs.WholeSpellings.{whole_code}
use Rattle.file_layout.specs.Bytes.{signed_bytes, flag_bytes, whole_bytes}
use Rattle.file_layout.proofs.WholeHere.{whole_is}
use Rattle.file_writer.proofs.PutLemmas.{number_added}

pub signed_added : (x : ℤ) (u v : List ℕ) → Appends Varint u x v → v ≡ u ++ signed_bytes x
signed_added x u v appends = number_added (number_of x) u v appends

pub flag_added : (x : Bool) (u v : List ℕ) → Appends Flag u x v → v ≡ u ++ flag_bytes x
flag_added false u v appends = number_added 0 u v appends
flag_added true u v appends = number_added 1 u v appends

pub whole_added : (signed : Bool) (max : ℕ) (x : ℤ) (u v : List ℕ) → IsGreatestLength max → IsTrue (in_range signed max x) → Appends (Whole signed max) u x v → v ≡ u ++ whole_bytes signed max x
whole_added signed max x u v length inside appends =
    appends.2 ∙ ap (λ (bytes : List ℕ). u ++ bytes) ((whole_code signed max length).one appends.0 (whole_bytes signed max x) x appends.1 (whole_is signed max x length inside))
