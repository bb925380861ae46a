use Rattle.std.proofs.Common.{◌≡◌, ◌-◌, ◌+◌, ◌≤◌, Some, map, length}
use Rattle.std.specs.Option.{option_copied}
use Rattle.std.specs.List.{AllByRecursion}
use Rattle.wire_bytes.specs.Reading.{many}
use Rattle.wire_bytes.proofs.ManyLemmas.{with_front}
use Rattle.name_index.specs.FirstBreach.{package_at, packages_at}
use Rattle.name_index.specs.Records.{IsPackageInside, IsNumbered, name_count, package_of}
use Rattle.name_index.proofs.full.packages.read_packages.Given as goal

abbrev pub invariant-loop : goal.invariant-loop
invariant-loop l = record {
  inside : AllByRecursion (λ p. IsPackageInside l.strings p) l.packages.items;
  numbered : IsNumbered 0 l.packages.items;
  first_is : l.first ≡ name_count l.packages.items;
  few : length l.packages.items + length l.cursor.left ≤ length l.fn.cursor.left;
  progress : l.first + length l.cursor.left ≤ length l.fn.cursor.left;
  read : with_front (map (package_of l.strings) l.packages.items) (many (package_at l.own l.strings l.size) (λ p. Some p.path) (l.count - l.counter) (option_copied l.last) l.cursor) ≡ packages_at l.own l.strings l.size l.count l.fn.cursor;
}
