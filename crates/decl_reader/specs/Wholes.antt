-- What the calls that read a declaration answer.
use Rattle.std.specs.Prelude.{◌≡◌, ℕ, ◌+◌, ◌-◌, ◌++◌, List, [], length, Bool, true, false, Result, Ok, Err, IfOk}
use Rattle.std.specs.Prelude.{Option}
use Rattle.std.specs.List.{sum_by}
use Rattle.code_tables.specs.declared.predeclared.Basic.{Basic}
use Rattle.wire_bytes.specs.declared.fault.ByteFault.{ByteFault}
use Rattle.wire_bytes.specs.declared.fault.ReadFault.{ReadFault}
use Rattle.wire_bytes.specs.declared.fault.ReadFault.TheVariants as reading
use Rattle.wire_bytes.specs.Reading.{place, ◌>>=◌}
use Rattle.type_terms.specs.declared.descriptors.Node.{Node}
use Rattle.type_terms.specs.declared.declarations.DeclNode.{DeclNode}
use Rattle.type_terms.specs.Declarations.{Decl, form_types}
use Rattle.type_terms.specs.Trees.{Tree}
use Rattle.type_terms.specs.Declarations.{decl_of}
use Rattle.decl_spelling.specs.Sections.{Sections, Basics}
use Rattle.decl_spelling.specs.Spelled as of
use Rattle.block_reader.specs.declared.spelled.SpelledConst.{SpelledConst}
use Rattle.decl_spelling.specs.Reading.{Ahead, list_at}
use Rattle.decl_spelling.specs.declared.mention.Mention.{Mention}
use Rattle.decl_spelling.specs.Tables.{Table}
use Rattle.decl_spelling.specs.Descent.{block_at, resolve_all}
use Rattle.decl_spelling.specs.Constants.{spelling_at, value_at}
use Rattle.decl_spelling.specs.Declarations.{Receiver, receiver_at, resolved, fault_alone, Read, read_at}
use Rattle.block_reader.specs.declared.declarations.DeclParts.{DeclParts}
use Rattle.decl_reader.specs.declared.fault.DeclFault.{DeclFault}
use Rattle.decl_reader.specs.declared.fault.DeclFault.TheVariants.{Bytes, Nodes, OutOfMemory}
use Rattle.decl_reader.specs.declared.finished.Descriptor.{Descriptor}
use Rattle.decl_reader.specs.declared.finished.Spelled.{Spelled}
use Rattle.shared_reading.specs.WithMemory.{read_with}
use Rattle.shared_reading.specs.Counted.{steps_of}
use Rattle.decl_reader.specs.Finished.{known_after, types_after, AreInTurn}
use Rattle.decl_reader.specs.Places.{EndsBy, IsStacked}
use Rattle.decl_reader.specs.Meant.{decl_by}
use Rattle.block_reader.specs.Spelled.{const_spelled}
use Rattle.block_reader.specs.Parts.{form_spelled, value_spelled}

-- an error that names a fault is what reading gives; want of memory says nothing
abbrev pub FaultIs : {X : Type 0} → ReadFault → Result X ByteFault → Type 0
FaultIs (reading.Bytes f) read = read ≡ Err f
FaultIs reading.OutOfMemory read = Unit {0}

-- where the types are read that were named
abbrev pub all_known : Ahead → Ahead
all_known a = record { spot = a.spot; before = a.before; mentions = [] }

-- a declaration's types start before it
abbrev pub types_before : Sections → ℕ → List Mention → Table → Result Table ByteFault
types_before src offset ms done = resolve_all src (block_at src offset) offset ms done

-- a part of a declaration, seen by view, what is ahead of it then, and the types that are read then
abbrev pub IsPart : {X Y : Type 0} → (X → Y) → Result X ReadFault → Ahead → Table
    → Result ((Y × Ahead) × Table) ByteFault → Type 0
IsPart view (Ok x) ahead known read = read ≡ Ok ((view x, ahead), known)
IsPart view (Err e) ahead known read = FaultIs e read

-- the methods of a defined type that may have its own
abbrev pub methods_by : Sections → ℕ → Ahead → Table → Bool → Result ((List Receiver × Ahead) × Table) ByteFault
methods_by src offset a done true = resolved src offset (list_at (receiver_at src) a) done
methods_by src offset a done false = Ok (([], a), done)

-- the value of a constant whose type comes down to a predeclared one
abbrev pub value_by : Sections → ℕ → Option Basic → Ahead → Result (of.SpelledConst × Ahead) ByteFault
value_by src at basic a = spelling_at at basic >>= λ spelling. fault_alone (value_at src spelling a)

abbrev pub IsValue : Result SpelledConst ReadFault → Ahead → Result (of.SpelledConst × Ahead) ByteFault → Type 0
IsValue (Ok value) ahead read = read ≡ Ok (const_spelled value, ahead)
IsValue (Err e) ahead read = FaultIs e read

-- a declaration with types as numbers, what is ahead of it, and the types that it reaches
abbrev pub IsWhole : Result DeclParts ReadFault → Ahead → Table → Result Read ByteFault → Type 0
IsWhole (Ok parts) ahead known read =
    read
    ≡ Ok (record {
      form = form_spelled parts;
      value = value_spelled parts;
      end = place ahead.spot;
      table = known;
    })
IsWhole (Err e) ahead known read = FaultIs e read

-- the bytes of the descriptors that a declaration reaches, each once, and its own
abbrev pub reached : Sections → ℕ → Read → ℕ
reached src offset x = sum_by (λ entry. entry.1.end - entry.0) x.table + (x.end - (src.body_at + offset))

-- where a declaration is read whole, the steps are the bytes that it reaches
abbrev pub CountsReached : {X E : Type 0} → Sections → Basics → ℕ → Result X E → ℕ → ℕ → Type 0
CountsReached src basics offset result before after =
    IfOk result (λ _. IfOk (read_at src basics offset) (λ x. after ≡ before + reached src offset x))

-- where a declaration is read with a memory, the steps are the bytes that are read for the first time
abbrev pub CountsNew : {X E : Type 0} → Sections → Basics → Table → ℕ → Result X E → ℕ → ℕ → Type 0
CountsNew src basics memory offset result before after =
    IfOk result (λ _. IfOk (read_with src basics memory offset) (λ x. after ≡ before + steps_of src memory offset x))

-- A declaration with types as numbers and the descriptors that it reaches, behind those that are remembered, are what
-- reading with these gives.
pub record IsRead (src : Sections) (basics : Basics) (memory : Table) (offset : ℕ) (parts : DeclParts)
    (ds : List Descriptor) : Type 0 where
  pub read : Read
  pub is : read_with src basics memory offset ≡ Ok read
  pub form : read.form ≡ form_spelled parts
  pub value : read.value ≡ value_spelled parts
  pub table : read.table ≡ known_after src.version memory ds
  pub turn : AreInTurn src.version memory ds
  pub stacked : IsStacked (known_after src.version memory ds)
  pub ends : EndsBy (length src.body) (known_after src.version memory ds)

abbrev pub ReadsParts : Sections → Basics → Table → ℕ → Result DeclParts ReadFault → List Descriptor → Type 0
ReadsParts src basics memory offset (Ok parts) ds = IsRead src basics memory offset parts ds
ReadsParts src basics memory offset (Err e) ds = FaultIs e (read_with src basics memory offset)

abbrev pub ReadsSpelled : Sections → Basics → Table → ℕ → Result Spelled ReadFault → Type 0
ReadsSpelled src basics memory offset (Ok spelled) =
    IsRead src basics memory offset spelled.decl spelled.finished.items
ReadsSpelled src basics memory offset (Err e) = FaultIs e (read_with src basics memory offset)

-- the types of the descriptors, and those that the declaration names
abbrev pub types_reached : ℕ → Table → Spelled → List Tree
types_reached version memory spelled =
    types_after version memory spelled.finished.items
    ++ form_types (decl_by version (known_after version memory spelled.finished.items) spelled.decl)

-- a declaration whose types are nodes
abbrev pub ReadsDecl : Result DeclNode DeclFault → List Node → Result Decl ByteFault → Type 0
ReadsDecl (Ok node) nodes read = read ≡ Ok (decl_of nodes node)
ReadsDecl (Err (Bytes f)) nodes read = read ≡ Err f
ReadsDecl (Err Nodes) nodes read = Unit {0}
ReadsDecl (Err OutOfMemory) nodes read = Unit {0}

-- what holds of a fault that was met
abbrev pub IfFault : {X : Type 0} → Result X DeclFault → (ByteFault → Type 0) → Type 0
IfFault (Ok x) P = Unit {0}
IfFault (Err (Bytes f)) P = P f
IfFault (Err Nodes) P = Unit {0}
IfFault (Err OutOfMemory) P = Unit {0}
