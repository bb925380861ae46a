-- The text of a fault.
use Rattle.std.specs.Prelude.{ℕ, List, ◌++◌, codes, decimal}
use Rattle.wire_bytes.specs.declared.fault.ByteFault.{ByteFault}
use Rattle.wire_bytes.specs.declared.fault.ByteFault.TheVariants.{Ended, Number, Range, Tag, Order, Version, Wide}
use Rattle.wire_bytes.specs.declared.fault.ByteFault.TheVariants.{Float, NotConst, Trailing}

abbrev pub fault_text : ByteFault → List ℕ
fault_text (Ended at) = codes "ended at " ++ decimal at
fault_text (Number at) = codes "number at " ++ decimal at
fault_text (Range at value) = codes "range at " ++ decimal at ++ codes " value " ++ decimal value
fault_text (Tag at value) = codes "tag at " ++ decimal at ++ codes " value " ++ decimal value
fault_text (Order at) = codes "order at " ++ decimal at
fault_text (Version found) = codes "version " ++ decimal found
fault_text (Wide at) = codes "wide at " ++ decimal at
fault_text (Float at) = codes "float at " ++ decimal at
fault_text (NotConst at) = codes "notconst at " ++ decimal at
fault_text (Trailing at) = codes "trailing at " ++ decimal at
