-- What the interface beneath a type holds, where an environment tells its underlying type.
use Rattle.std.specs.Prelude.{◌≡◌, ◌⊎◌, length, Bool, Option, Result, Ok, Err, IfSome, IsOkAnd, option_map}
use Rattle.std.specs.List.{Contains}
use Rattle.go_values.specs.declared.qualified.QName.{QName}
use Rattle.type_terms.specs.Arenas.{Contents, AllBelow}
use Rattle.type_terms.specs.Trees.{Tree}
use Rattle.interface_opening.specs.Elements.{Interface}
use Rattle.replacement.specs.declared.faults.SetFault.{SetFault}
use Rattle.replacement.specs.Expansion.{Entries, then, defined_use, beneath}
use Rattle.replacement.specs.Calls.{Stops, OpensDefined}
use Rattle.type_sets.specs.Interfaces.{SetMethod as Method, interface_of}
use Rattle.interface_nodes.specs.declared.held.Held.{Held}
use Rattle.interface_nodes.specs.HeldNodes.{meant, held_nodes, made_for}

-- the interface that the underlying type of a type is, where no alias is at its head
abbrev pub interface_beneath : Entries → Option QName → Tree → Result (Option (Interface Tree QName Method)) SetFault
interface_beneath entries name type =
    then (beneath entries type (defined_use type)) (λ under. Ok (interface_of name under))

-- the types that are opened for it
abbrev pub OpensInterface : Entries → Tree → Tree → Type 0
OpensInterface entries type opened = OpensDefined entries type opened
    ⊎ IsOkAnd (beneath entries type (defined_use type)) (λ under. Contains (made_for under) opened)

-- the answer is what the interface that is wanted holds, or the fault that is, or the call stopped
abbrev pub GivesHeld : Option QName → (Tree → Type 0) → Contents → Contents → Option Bool
    → Result (Option Held) SetFault → Result (Option (Interface Tree QName Method)) SetFault → Type 0
GivesHeld name opens before after full (Ok held) want = (want ≡ Ok (option_map (meant after.nodes name) held))
    × IfSome held (λ x. AllBelow (length after.nodes) (held_nodes x))
GivesHeld name opens before after full (Err fault) want = Stops opens before full fault (want ≡ Err fault)
