-- The loop over the packages, where a reader's error may be want of memory.
use Rattle.std.proofs.Common.{◌≡◌, ℕ, ◌-◌, ◌<◌, List, Result}
use Rattle.wire_bytes.specs.declared.fault.ByteFault.{ByteFault}
use Rattle.wire_bytes.specs.Reading.{Spot, Fails, many}
use Rattle.wire_bytes.proofs.ManyLemmas.{with_front, fails}
use Rattle.wire_bytes.specs.declared.fault.ReadFault.{ReadFault}
use Rattle.wire_bytes.specs.declared.fault.ReadFault.TheVariants as errors
use Rattle.name_index.specs.Records.{fault_of}

pub ends : {X K : Type 0} (e : ReadFault) (one : K → Spot → Result (X × Spot) ByteFault) (next : X → K) (front : List X) (count i : ℕ) (k : K) (s : Spot) (total : Result (List X × Spot) ByteFault)
    → i < count → Fails (fault_of e) (one k s) → with_front front (many one next (count - i) k s) ≡ total → Fails (fault_of e) total
ends (errors.Bytes f) one next front count i k s total lt failed so_far = fails one next front count i k s f total lt failed so_far
ends errors.OutOfMemory one next front count i k s total lt failed so_far = tt
