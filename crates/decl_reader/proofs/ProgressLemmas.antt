-- A reading that goes on twice.
use Rattle.std.proofs.Common.{refl, arith, ◌∙◌}
use Rattle.file_parts.specs.declared.parts.Parts.{Parts}
use Rattle.decl_reader.specs.declared.reading.Reading.{Reading}
use Rattle.decl_reader.specs.Progress.{IsReadyFor, GoesOn}

pub goes_on_itself : {L : Type 0} (p : Parts) (r : Reading L) → IsReadyFor p r → GoesOn p r r
goes_on_itself p r ready = record { ready = ready; same_memory = refl; counted = refl; same_steps = refl }

pub goes_on_twice : {L : Type 0} (p : Parts) (old mid new : Reading L) → GoesOn p old mid → GoesOn p mid new → GoesOn p old new
goes_on_twice p old mid new first second = record {
  ready = second.ready;
  same_memory = second.same_memory ∙ first.same_memory;
  counted = omega (arith, first.counted, second.counted);
  same_steps = second.same_steps ∙ first.same_steps;
}
