use Rattle.std.proofs.Common.{◌≡◌, ◌-◌, ◌+◌, ◌≤◌, Some, map, length}
use Rattle.std.specs.Option.{option_copied}
use Rattle.std.specs.List.{AllByRecursion}
use Rattle.wire_bytes.specs.Reading.{many}
use Rattle.wire_bytes.proofs.ManyLemmas.{with_front}
use Rattle.name_index.specs.FirstBreach.{entry_at, entries_at}
use Rattle.file_parts.specs.Paths.{IsInside}
use Rattle.name_index.specs.Records.{entry_of}
use Rattle.name_index.proofs.full.entries.read_entries.Given as goal

abbrev pub invariant-loop : goal.invariant-loop
invariant-loop l = record {
  inside : AllByRecursion (λ e. IsInside l.strings e.name) l.entries.items;
  progress : length l.entries.items + length l.cursor.left ≤ length l.fn.cursor.left;
  read : with_front (map (entry_of l.strings) l.entries.items) (many (entry_at l.strings l.size) (λ e. Some e.name) (l.count - l.counter) (option_copied l.last) l.cursor) ≡ entries_at l.strings l.size l.count l.fn.cursor;
}
