-- A call whose error passes through wants a node only where that call did.
use Rattle.std.proofs.Common.{◌≡◌, Result, Ok, Err, refl, sym, ap, ◌∙◌}
use Rattle.std.specs.Prelude.{IsErrOf}
use Rattle.type_terms.specs.declared.shared_nodes.ArenaError.{ArenaError}
use Rattle.type_terms.specs.declared.shared_nodes.ArenaError.TheVariants as arena
use Rattle.decl_reader.specs.declared.fault.DeclFault.{DeclFault}
use Rattle.decl_reader.specs.declared.fault.DeclFault.TheVariants.{Nodes}
use Rattle.decl_reader.specs.Faults.{of_arena}

abbrev fault_of : {X : Type 0} → Result X DeclFault → DeclFault
fault_of (Ok x) = Nodes
fault_of (Err e) = e

pub passed : {X Y : Type 0} (r : Result X DeclFault) (s : Result Y DeclFault) (e f : DeclFault) → r ≡ Err e → e ≡ f → s ≡ Err f → IsErrOf r Nodes → IsErrOf s Nodes
passed r s e f is same was wants = was ∙ ap (λ (g : DeclFault). Err g) (sym same ∙ ap fault_of (sym is ∙ wants))

only_full : (f : ArenaError) → of_arena f ≡ Nodes → f ≡ arena.Full
only_full arena.Full is = refl
only_full arena.OutOfMemory is = absurd (cc)

pub full_passed : {X Y : Type 0} (r : Result X DeclFault) (s : Result Y ArenaError) (e : DeclFault) (f : ArenaError) → r ≡ Err e → e ≡ of_arena f → s ≡ Err f → IsErrOf r Nodes → IsErrOf s arena.Full
full_passed r s e f is same was wants = was ∙ ap (λ (g : ArenaError). Err g) (only_full f (sym same ∙ ap fault_of (sym is ∙ wants)))
