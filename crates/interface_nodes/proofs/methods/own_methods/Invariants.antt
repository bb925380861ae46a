use Rattle.std.proofs.Common.{◌≡◌, map, take}
use Rattle.interface_nodes.specs.HeldNodes.{set_method_of}
use Rattle.interface_nodes.proofs.methods.own_methods.Given as goal

abbrev pub invariant-loop-method : goal.invariant-loop-method
invariant-loop-method l = l.own.items ≡ map (set_method_of l.home) (take l.method-index l.methods)
