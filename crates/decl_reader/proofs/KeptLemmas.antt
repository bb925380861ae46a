-- What is remembered, as an arena is extended; and nothing.
use Rattle.std.proofs.Common.{◌≡◌, ℕ, List, [], length, Result, Ok, Err, ap, subst, sym, ◌∙◌}
use Rattle.std.specs.Prelude.{OnOk, OnErr}
use Rattle.wire_bytes.specs.declared.fault.ByteFault.{ByteFault}
use Rattle.wire_bytes.specs.declared.fault.ReadFault.{ReadFault}
use Rattle.wire_bytes.specs.declared.fault.ReadFault.TheVariants.{Bytes}
use Rattle.type_terms.specs.declared.descriptors.Node.{Node}
use Rattle.type_terms.specs.Arenas.{Contents, Extends}
use Rattle.decl_spelling.specs.Sections.{Sections, Basics, HoldsBytes}
use Rattle.decl_spelling.specs.Tables.{Table}
use Rattle.shared_reading.specs.Memory.{IsMemory}
use Rattle.shared_reading.specs.WithMemory.{read_with, or_same, widened}
use Rattle.shared_reading.proofs.MemoryLemmas.{no_memory}
use Rattle.shared_reading.proofs.SharedReads.{stays_memory}
use Rattle.block_reader.specs.declared.declarations.DeclParts.{DeclParts}
use Rattle.decl_reader.specs.declared.fault.DeclFault.{DeclFault}
use Rattle.decl_reader.specs.declared.fault.DeclFault.TheVariants as faults
use Rattle.decl_reader.specs.declared.finished.Descriptor.{Descriptor}
use Rattle.decl_reader.specs.Blocks.{Entry, table_of, AllInside}
use Rattle.decl_reader.specs.Finished.{known_after}
use Rattle.decl_reader.specs.Kept.{IsKept}
use Rattle.decl_reader.specs.Places.{EndsBy, IsStacked}
use Rattle.decl_reader.specs.Wholes.{FaultIs, IfFault, IsRead}
use Rattle.decl_reader.proofs.ExtendsLemmas.{table_stays, inside_stays}

pub none_kept : (src : Sections) (nodes : List Node) (entries : List Entry) → entries ≡ [] → IsKept src nodes entries
none_kept src nodes entries none = subst (IsKept src nodes) (sym none) (record { memory = no_memory src; held = record { inside = tt; stacked = tt }; ends = tt })

pub none_remembered : (nodes : List Node) (entries : List Entry) → entries ≡ [] → table_of nodes entries ≡ []
none_remembered nodes entries none = ap (table_of nodes) none

pub kept_stays : (src : Sections) (old new : Contents) (grown : Extends old new) (entries : List Entry) → IsKept src old.nodes entries → IsKept src new.nodes entries
kept_stays src old new grown entries kept =
    let same = sym (table_stays old new grown entries kept.held.inside) in
    record {
      memory = subst (IsMemory src) same kept.memory;
      held = record { inside = inside_stays old new grown entries kept.held.inside; stacked = subst IsStacked same kept.held.stacked };
      ends = subst (EndsBy (length src.body)) same kept.ends;
    }

pub on_ok : {T E Q : Type 0} (r : Result T E) → Q → OnOk r Q
on_ok (Ok x) q = q
on_ok (Err e) q = tt

pub if_fault : {T Q : Type 0} (r : Result T DeclFault) → Q → IfFault r (λ f. Q)
if_fault (Ok x) q = tt
if_fault (Err (faults.Bytes f)) q = q
if_fault (Err faults.Nodes) q = tt
if_fault (Err faults.OutOfMemory) q = tt

-- ---- a declaration was read with what is remembered

module _ (src : Sections) (basics : Basics) (holds : HoldsBytes src) (memory : Table) (is_memory : IsMemory src memory) (offset : ℕ) where
  pub wider_memory : (parts : DeclParts) (ds : List Descriptor) → IsRead src basics memory offset parts ds → IsMemory src (known_after src.version memory ds)
  wider_memory parts ds read = subst (IsMemory src) (ap (or_same memory) read.is ∙ read.table) (stays_memory src basics holds memory is_memory offset)

  -- its descriptors have nodes, or all is forgotten
  pub kept_then : {X E : Type 0} (parts : DeclParts) (ds : List Descriptor) → IsRead src basics memory offset parts ds → (nodes : List Node) (entries : List Entry) (r : Result X E) → OnOk r (table_of nodes entries ≡ known_after src.version memory ds)
      → OnOk r (AllInside (length nodes) entries) → OnErr r (entries ≡ []) → IsKept src nodes entries
  kept_then {X} {E} parts ds read nodes entries (Ok x) table inside none =
      let same = sym table in
      record {
        memory = subst (IsMemory src) same (wider_memory parts ds read);
        held = record { inside = inside; stacked = subst IsStacked same read.stacked };
        ends = subst (EndsBy (length src.body)) same read.ends;
      }
  kept_then {X} {E} parts ds read nodes entries (Err e) table inside none = none_kept src nodes entries none

-- ---- a fault was met with what is remembered

module _ (src : Sections) (basics : Basics) (memory : Table) (offset : ℕ) where
  pub same_memory : (e : ReadFault) (f : ByteFault) → e ≡ Bytes f → FaultIs e (read_with src basics memory offset) → memory ≡ widened src basics memory offset
  same_memory e f is fault = sym (ap (or_same memory) (subst (λ (x : ReadFault). FaultIs x (read_with src basics memory offset)) is fault))
