-- A declaration's parts, with the types that they name, come to what reading gives.
use Rattle.std.proofs.Common.{◌≡◌, ℕ, ◌≤◌, Bool, true, false, List, [], length, Result, Ok, Err, None, refl, sym, ap, subst, ◌∙◌, arith}
use Rattle.std.specs.Prelude.{IfOk, IfErr}
use Rattle.wire_bytes.specs.declared.fault.ByteFault.{ByteFault}
use Rattle.wire_bytes.specs.declared.fault.ReadFault.{ReadFault}
use Rattle.wire_bytes.specs.declared.fault.ReadFault.TheVariants as reading
use Rattle.wire_bytes.specs.Reading.{◌>>=◌}
use Rattle.type_terms.specs.declared.descriptors.Node.{Node}
use Rattle.type_terms.specs.declared.declarations.DeclNode.{DeclNode}
use Rattle.type_terms.specs.Declarations.{Decl, constant_of, form_map, form_types}
use Rattle.type_terms.specs.Declarations.{decl_of}
use Rattle.decl_spelling.specs.declared.mention.Mention.{Mention}
use Rattle.decl_spelling.specs.Sections.{Sections, Basics, HoldsBytes, window}
use Rattle.decl_spelling.specs.Spelled.{SpelledPos, SpelledType, form_meant}
use Rattle.decl_spelling.specs.Leaving.{types_by, types_read}
use Rattle.decl_spelling.specs.Reading.{Ahead, Stopped, start}
use Rattle.decl_spelling.specs.Tables.{Table, at, type_spelled}
use Rattle.decl_spelling.specs.Descent.{block_at, resolve_all}
use Rattle.decl_spelling.specs.Constants.{basic_type, spelling_at, value_at}
use Rattle.decl_spelling.specs.Declarations.{Head, Read, read, head_at, resolved, methods_of, after_type, fault_alone, after_constant, after_head, read_at, decl_of as decl_read, decl_at, FirstFault}
use Rattle.decl_spelling.specs.Spelling.{SpellsDecl}
use Rattle.decl_spelling.proofs.Bounds.{resolve_all_same, block_same}
use Rattle.decl_spelling.specs.Grammar.{Here}
use Rattle.decl_spelling.proofs.Took.{IsHead, seen_from}
use Rattle.decl_spelling.proofs.FlatLaws.{head_took}
use Rattle.decl_spelling.proofs.BlockTakes.{window_fits}
use Rattle.decl_spelling.proofs.DeclTakes.{resolved_ok}
use Rattle.decl_spelling.proofs.DeclAtLaws.{strings_are, body_is, decl_found}
use Rattle.block_reader.specs.declared.declarations.DeclParts.{DeclParts}
use Rattle.block_reader.specs.declared.declarations.DeclParts.TheVariants as decls
use Rattle.block_reader.specs.declared.declarations.DeclHead.{DeclHead}
use Rattle.block_reader.specs.declared.declarations.DeclHead.TheVariants as heads
use Rattle.block_reader.specs.Parts.{head_spelled, value_spelled}
use Rattle.decl_reader.specs.Forms.{IsUpToTypes}
use Rattle.decl_reader.specs.declared.fault.DeclFault.{DeclFault}
use Rattle.decl_reader.specs.declared.fault.DeclFault.TheVariants.{Bytes, Nodes, OutOfMemory}
use Rattle.decl_reader.specs.declared.finished.Descriptor.{Descriptor}
use Rattle.decl_reader.specs.Faults.{IsNoFault, of_read}
use Rattle.shared_reading.specs.Memory.{IsMemory}
use Rattle.shared_reading.specs.WithMemory.{read_with}
use Rattle.shared_reading.proofs.SharedReads.{read_alone}
use Rattle.decl_reader.specs.Finished.{known_after}
use Rattle.decl_reader.specs.Meant.{decl_by}
use Rattle.decl_reader.specs.Opens.{reads, Resolves}
use Rattle.decl_reader.specs.Wholes.{FaultIs, IfFault, IsRead, ReadsDecl, all_known, methods_by, value_by}

-- ---- types

-- A declaration's types start before it, so any larger bound serves.
pub types_same : (src : Sections) (offset : ℕ) (ms : List Mention) (done : Table) → offset ≤ length src.body → resolve_all src (reads src) offset ms done ≡ resolve_all src (block_at src offset) offset ms done
types_same src offset ms done within =
    resolve_all_same src (reads src) (block_at src offset) offset (λ inner now before. block_same src (length src.body) offset inner offset now (omega arith) before) ms done

-- ---- a part and then its types

module _ {X : Type 0} (src : Sections) (offset : ℕ) (part : Result (X × Ahead) Stopped) (done : Table) where
  pub part_known : (x : X) (a b : Ahead) (known : Table) → part ≡ Ok (x, a) → b ≡ all_known a → resolve_all src (block_at src offset) offset a.mentions done ≡ Ok known → resolved src offset part done ≡ Ok ((x, b), known)
  part_known x a b known is blank types = rw is (rw types (ap (λ (c : Ahead). Ok ((x, c), known)) (sym blank)))

  pub part_fault : (s : Stopped) (known : Table) → part ≡ Err s → resolve_all src (block_at src offset) offset s.mentions done ≡ Ok known → resolved src offset part done ≡ Err s.fault
  part_fault s known is types = rw is (rw types refl)

  pub types_fault : (x : X) (a : Ahead) (t : Table) (e : ReadFault) → part ≡ Ok (x, a) → Resolves (Err e) t (resolve_all src (block_at src offset) offset a.mentions done) → FaultIs e (resolved src offset part done)
  types_fault x a t (reading.Bytes f) is types = rw is (rw types refl)
  types_fault x a t reading.OutOfMemory is types = tt

  pub types_fault_first : (s : Stopped) (t : Table) (e : ReadFault) → part ≡ Err s → Resolves (Err e) t (resolve_all src (block_at src offset) offset s.mentions done) → FaultIs e (resolved src offset part done)
  types_fault_first s t (reading.Bytes f) is types = rw is (rw types refl)
  types_fault_first s t reading.OutOfMemory is types = tt

-- ---- what comes after a step

pub then_fault : {A B : Type 0} (r : Result A ByteFault) (f : A → Result B ByteFault) (e : ReadFault) → FaultIs e r → FaultIs e (r >>= f)
then_fault r f (reading.Bytes fault) is = ap (λ r. r >>= f) is
then_fault r f reading.OutOfMemory is = tt

pub fault_as : {A : Type 0} (a b : Result A ByteFault) (e : ReadFault) → a ≡ b → FaultIs e a → FaultIs e b
fault_as a b (reading.Bytes fault) same is = sym same ∙ is
fault_as a b reading.OutOfMemory same is = tt

pub bind_twice : {A B C : Type 0} (r : Result A ByteFault) (f : A → Result B ByteFault) (g : B → Result C ByteFault) → (r >>= f >>= g) ≡ (r >>= λ x. f x >>= g)
bind_twice (Ok x) f g = refl
bind_twice (Err e) f g = refl

-- ---- methods and values

pub methods_then : (src : Sections) (offset : ℕ) (pos : SpelledPos) (tparams : List SpelledType) (underlying : SpelledType) (a : Ahead) (done : Table) (own : Bool)
    → (methods_by src offset a done own >>= methods_of pos tparams underlying) ≡ after_type src offset pos tparams underlying a done own
methods_then src offset pos tparams underlying a done true = refl
methods_then src offset pos tparams underlying a done false = refl

pub value_then : (src : Sections) (basics : Basics) (pos : SpelledPos) (type : SpelledType) (at : ℕ) (a : Ahead) (done : Table)
    → (value_by src at (basic_type basics (type_spelled src.version done type)) a >>= λ value. read (constant_of pos type (value.0).value) (value.0).offset value.1 done) ≡ after_constant src basics pos type at a done
value_then src basics pos type at a done =
    bind_twice (spelling_at at (basic_type basics (type_spelled src.version done type))) (λ spelling. fault_alone (value_at src spelling a)) (λ value. read (constant_of pos type (value.0).value) (value.0).offset value.1 done)

-- ---- the whole

module _ (src : Sections) (basics : Basics) (memory : Table) (offset : ℕ) where
  -- the two parts of a declaration
  abbrev pub first_part : Result ((Head × Ahead) × Table) ByteFault
  first_part = resolved src offset (head_at src (start (window src offset (length src.body)))) memory

  pub first_faults : (e : ReadFault) → FaultIs e first_part → FaultIs e (read_with src basics memory offset)
  unfolding read_with
  first_faults e is = then_fault first_part (λ head. after_head src basics offset (head.0).0 (head.0).1 head.1) e is

  both_parts : (head : Head) (a : Ahead) (known : Table) → first_part ≡ Ok ((head, a), known) → after_head src basics offset head a known ≡ read_with src basics memory offset
  unfolding read_with
  both_parts head a known is = sym (ap (λ (r : Result ((Head × Ahead) × Table) ByteFault). r >>= λ x. after_head src basics offset (x.0).0 (x.0).1 x.1) is)

  pub whole_read : (head : Head) (a : Ahead) (known : Table) (x : Read) → first_part ≡ Ok ((head, a), known) → after_head src basics offset head a known ≡ Ok x → read_with src basics memory offset ≡ Ok x
  whole_read head a known x is rest = sym (both_parts head a known is) ∙ rest

  pub rest_faults : (head : Head) (a : Ahead) (known : Table) (e : ReadFault) → first_part ≡ Ok ((head, a), known) → FaultIs e (after_head src basics offset head a known) → FaultIs e (read_with src basics memory offset)
  rest_faults head a known e is rest = fault_as (after_head src basics offset head a known) (read_with src basics memory offset) e (both_parts head a known is) rest

  -- where the head of a declaration is read from
  pub first_is : (a : Ahead) (done : Table) (to : ℕ) → a ≡ start (window src offset to) → length src.body ≡ to → done ≡ memory → resolved src offset (head_at src a) done ≡ first_part
  first_is a done to at size same =
      ap (λ (b : Ahead). resolved src offset (head_at src b) done) (at ∙ ap (λ (n : ℕ). start (window src offset n)) (sym size))
      ∙ ap (λ (t : Table). resolved src offset (head_at src (start (window src offset (length src.body)))) t) same

-- a fault of what is read is one of the declaration
module _ (src : Sections) (basics : Basics) (offset : ℕ) where
  pub fault_kept : (nodes : List Node) (r : Result DeclNode DeclFault) (e : ReadFault) → r ≡ Err (of_read e) → FaultIs e (read_at src basics offset) → ReadsDecl r nodes (decl_at src basics offset)
  fault_kept nodes r (reading.Bytes f) is read = subst (λ (x : Result DeclNode DeclFault). ReadsDecl x nodes (decl_at src basics offset)) (sym is) (ap (λ (x : Result Read ByteFault). x >>= λ y. Ok (decl_read src y)) read)
  fault_kept nodes r reading.OutOfMemory is read = subst (λ (x : Result DeclNode DeclFault). ReadsDecl x nodes (decl_at src basics offset)) (sym is) tt

-- what was read is the declaration
module _ (src : Sections) (basics : Basics) (holds : HoldsBytes src) (memory : Table) (is_memory : IsMemory src memory) (offset : ℕ) where
  pub decl_is : (parts : DeclParts) (ds : List Descriptor) → IsRead src basics memory offset parts ds → decl_at src basics offset ≡ Ok (decl_by src.version (known_after src.version memory ds) parts)
  decl_is parts ds read =
      let form = read.form in
      let table = read.table in
      let by_itself = read_alone src basics holds memory offset read.read is_memory read.is in
      ap (λ (x : Result Read ByteFault). x >>= λ y. Ok (decl_read src y)) by_itself.is ∙ ap (λ (d : Decl). Ok d) by_itself.decl
      ∙ (λ i. Ok (form_meant (form_map (λ pos. pos) (λ text. text) (type_spelled src.version (table i)) (form i))))

  pub types_are : (parts : DeclParts) (ds : List Descriptor) → IsRead src basics memory offset parts ds → types_read src basics offset ≡ form_types (decl_by src.version (known_after src.version memory ds) parts)
  types_are parts ds read = ap (types_by src offset) (decl_is parts ds read)

  -- what was read, with its types as nodes
  pub kept_is : (parts : DeclParts) (ds : List Descriptor) (nodes : List Node) (r : Result DeclNode DeclFault) → IsRead src basics memory offset parts ds
      → IfOk r (λ node. decl_of nodes node ≡ decl_by src.version (known_after src.version memory ds) parts) → IfErr r IsNoFault → ReadsDecl r nodes (decl_at src basics offset)
  kept_is parts ds nodes (Ok node) read means none = decl_is parts ds read ∙ ap (λ (d : Decl). Ok d) (sym means)
  kept_is parts ds nodes (Err (Bytes f)) read means none = absurd none
  kept_is parts ds nodes (Err Nodes) read means none = tt
  kept_is parts ds nodes (Err OutOfMemory) read means none = tt

-- No head is a whole constant, since none stands there.
module _ (src : Sections) (holds : HoldsBytes src) (offset to : ℕ) (head : DeclHead) (a b : Ahead) (done known : Table) (at : a ≡ start (window src offset to)) where
  pub up_to_types : resolved src offset (head_at src a) done ≡ Ok ((head_spelled head, b), known) → IsUpToTypes head
  up_to_types is =
      let first = resolved_ok src offset (head_at src (start (window src offset to))) done ((head_spelled head, b), known) (ap (λ (c : Ahead). resolved src offset (head_at src c) done) (sym at) ∙ is) in
      let taken = head_took src (strings_are src holds) (start (window src offset to)) (window_fits src offset to (body_is src holds)) (first.0).0 (first.0).1 first.1 in
      let same : (first.0).0 ≡ head_spelled head = ap (λ (x : Head × Ahead). x.0) first.3 in
      none head (_) (_) (subst (λ (x : Head). IsHead src (seen_from (start (window src offset to)) []) x (seen_from (first.0).1 [])) same (taken.stands []))
    where
      none : (head : DeclHead) (c d : Here) → IsHead src c (head_spelled head) d → IsUpToTypes head
      none (heads.Whole (decls.Constant pos ty value)) c d stands = stands.parts
      none (heads.Whole (decls.Var pos ty)) c d stands = tt
      none (heads.Whole (decls.Func pos tparams sig)) c d stands = tt
      none (heads.Whole (decls.Defined pos tparams underlying methods)) c d stands = tt
      none (heads.Whole (decls.Alias pos tparams ty)) c d stands = tt
      none (heads.Whole (decls.Parameter pos implicit bound)) c d stands = tt
      none (heads.Defined pos tparams underlying) c d stands = tt
      none (heads.Constant pos ty at) c d stands = tt

pub no_value : (parts : DeclParts) → IsUpToTypes (heads.Whole parts) → value_spelled parts ≡ None
no_value (decls.Constant pos ty value) is = absurd is
no_value (decls.Var pos ty) is = refl
no_value (decls.Func pos tparams sig) is = refl
no_value (decls.Defined pos tparams underlying methods) is = refl
no_value (decls.Alias pos tparams ty) is = refl
no_value (decls.Parameter pos implicit bound) is = refl

-- ---- what a public call says of it

pub is_spelled : (src : Sections) (basics : Basics) (offset : ℕ) (nodes : List Node) (r : Result DeclNode DeclFault) → HoldsBytes src → ReadsDecl r nodes (decl_at src basics offset) → IfOk r (λ node. SpellsDecl src basics offset (decl_of nodes node))
is_spelled src basics offset nodes (Ok node) holds is = decl_found src basics holds offset (decl_of nodes node) is
is_spelled src basics offset nodes (Err e) holds is = tt

pub is_fault : (src : Sections) (basics : Basics) (offset : ℕ) (nodes : List Node) (r : Result DeclNode DeclFault) → ReadsDecl r nodes (decl_at src basics offset) → IfFault r (FirstFault src basics offset)
is_fault src basics offset nodes (Ok node) is = tt
is_fault src basics offset nodes (Err (Bytes f)) is = is
is_fault src basics offset nodes (Err Nodes) is = tt
is_fault src basics offset nodes (Err OutOfMemory) is = tt
