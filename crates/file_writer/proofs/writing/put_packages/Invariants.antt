use Rattle.std.proofs.Common.{take, map}
use Rattle.std.specs.List.{flat_map}
use Rattle.file_envelope.specs.FileBytes.{package_bytes, index_texts}
use Rattle.file_writer.specs.Puts.{Puts, package_of}
use Rattle.file_writer.proofs.writing.put_packages.Given as goal

abbrev pub invariant-loop-listed : goal.invariant-loop-listed
invariant-loop-listed l = Puts (index_texts (map package_of (take l.listed-index l.index))) (λ texts. flat_map (package_bytes texts) (map package_of (take l.listed-index l.index))) l.fn.strings l.strings l.fn.w l.w
