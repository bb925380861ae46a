-- What the interfaces that were opened have, apart from how they were met.
use Rattle.std.specs.Prelude.{◌≡◌, List, Some, Ok}
use Rattle.std.specs.List.{AllZip, flat_map, list_any}
use Rattle.interface_opening.specs.Elements.{Interface, Opened, Looks}

-- The types show these interfaces, in order; the methods are theirs, in order; the flag is set where one of them has
-- it.
pub record HasAll {T Q M F : Type 0} (look : Looks T Q M F) (s : Opened T M) : Type 0 where
  pub interfaces : List (Interface T Q M)
  pub shown : AllZip (λ x it. look.beneath x ≡ Ok (Some it)) s.types interfaces
  pub methods : s.methods ≡ flat_map (λ it. it.own) interfaces
  pub flag : s.flag ≡ list_any (λ it. it.flag) interfaces
