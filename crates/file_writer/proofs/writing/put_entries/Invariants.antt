use Rattle.std.proofs.Common.{take, map, [], ◌∷◌}
use Rattle.std.specs.List.{flat_map}
use Rattle.file_envelope.specs.FileBytes.{entry_bytes}
use Rattle.file_writer.specs.Puts.{Puts, entry_of}
use Rattle.file_writer.proofs.writing.put_entries.Given as goal

abbrev pub invariant-loop-entry : goal.invariant-loop-entry
invariant-loop-entry l = Puts (flat_map (λ e. e.name ∷ []) (map entry_of (take l.entry-index l.entries))) (λ texts. flat_map (entry_bytes texts) (map entry_of (take l.entry-index l.entries))) l.fn.strings l.strings l.fn.w l.w
