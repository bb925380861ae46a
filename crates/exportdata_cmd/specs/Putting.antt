-- What a sink has taken when lines were put, each as one piece.
use Rattle.std.specs.Prelude.{ℕ, List, take, Result, OnOk, IsErrOf}
use Rattle.std.specs.List.{concat}
use Rattle.outside.specs.Sinks.{SinkState, Wrote, WroteSome}
use Rattle.exportdata_cmd.specs.Printed.{Line}
use Rattle.exportdata_cmd.specs.declared.putting.PutFault.{PutFault}
use Rattle.exportdata_cmd.specs.declared.putting.PutFault.TheVariants.{Failed, OutOfMemory}

-- Lines were put: all of them, or where the sink failed the first few and then a part of the next, or where memory
-- was wanting the first few.
pub record PutsLines (lines : List Line) (result : Result (Unit {0}) PutFault) (before after : SinkState) : Type 0 where
  pub whole : OnOk result (Wrote before after (concat lines))
  pub broken : IsErrOf result Failed → WroteSome before after (concat lines)
  pub starved : IsErrOf result OutOfMemory → (n : ℕ) × Wrote before after (concat (take n lines))
