-- Text that is printed as it is.
use Rattle.std.proofs.Common.{◌≡◌, ℕ, Bool, true, false, ◌||◌, List, [], ◌∷◌, refl}
use Rattle.std.specs.List.{list_any}
use Rattle.decl_text.specs.Printed.{is_escaped, printed}

neither : (a b : Bool) → a || b ≡ false → (a ≡ false) × (b ≡ false)
neither true b e = let f : true ≡ false = e in absurd (cc)
neither false b e = (refl, e)

pub printed_plain : (text : List ℕ) → list_any is_escaped text ≡ false → printed text ≡ text
printed_plain [] e = refl
printed_plain (byte ∷ text) e =
    let both = neither (is_escaped byte) (list_any is_escaped text) e in
    let rest : printed text ≡ text = printed_plain text both.1 in
    rw (both.0, rest) refl
