-- Each type in the table of a declaration is one that its reading leaves, so it stands in the declaration's types.
use Rattle.std.proofs.Common.{◌≡◌, ℕ, zero, suc, ◌-◌, ◌<◌, ◌≤◌, ◌⊎◌, inl, inr, List, [], ◌∷◌, ◌++◌, length, Contains, Bool, true, false, not, cond, Result, Ok, Err, Option, Some, None, nat_lt, nat_le, is_some, refl, sym, ◌∙◌, ap, subst, arith}
use Rattle.std.specs.List.{AllByRecursion}
use Rattle.std.proofs.lemmas.Bool.{cases_lt}
use Rattle.std.proofs.lemmas.List.Elements.{Contains-append_left, Contains-append_right, All-contains, All-from_recursion}
use Rattle.wire_bytes.specs.declared.fault.ByteFault.{ByteFault}
use Rattle.wire_bytes.specs.declared.fault.ByteFault.TheVariants as faults
use Rattle.wire_bytes.specs.Reading.{◌>>=◌, demand}
use Rattle.wire_bytes.proofs.Steps.{bind_ok, demand_ok, done_is}
use Rattle.type_terms.specs.Trees.{Tree}
use Rattle.type_terms.specs.Declarations.{form_types, constant_of}
use Rattle.type_terms.specs.Replaced.{all_append}
use Rattle.type_terms.specs.Additions.{StandsIn, Covers}
use Rattle.type_terms.specs.AdditionLaws.{covers_each, stands_itself}
use Rattle.decl_spelling.specs.declared.mention.Mention.{Mention}
use Rattle.decl_spelling.specs.Sections.{Sections, Basics, HoldsBytes, window}
use Rattle.decl_spelling.specs.Codes.{basic_of}
use Rattle.decl_spelling.specs.Reading.{Ahead, Stopped, start, list_at}
use Rattle.decl_spelling.specs.Spelled.{SpelledPos, SpelledType}
use Rattle.decl_spelling.specs.Descriptors.{Flat, flat_at}
use Rattle.decl_spelling.specs.Tables.{Finished, Table, at, with_block, free_to, type_named, type_spelled, tree_spelled}
use Rattle.decl_spelling.specs.Descent.{ReadsBlock, meets, unmet, found_or_read, with_basic, with_descriptor, with_type, resolve, resolve_all, finish, block_at, offset_of}
use Rattle.decl_spelling.specs.Constants.{basic_type, spelling_at, value_at}
use Rattle.decl_spelling.specs.Declarations.{Head, Read, whole, of_type, of_constant, read, head_at, receiver_at, has_methods, resolved, methods_of, after_type, fault_alone, after_head, read_at}
use Rattle.decl_spelling.specs.Leaving.{LeavesBlock, if_well, left_by_type, left_by_types, left_by_block, left_at, left_by_named, left_by_part, left_by_methods, left_after_head, left_by_decl, types_read}
use Rattle.decl_spelling.proofs.MapLemmas.{all_weaker}
use Rattle.decl_spelling.proofs.TableLaws.{first_has, later_has, found_new, found_still, some_is, block, block_found, found_block}
use Rattle.decl_spelling.proofs.TypeTakes.{named_ok}
use Rattle.decl_spelling.proofs.LeavingDecls.{left_stands}
use Rattle.shared_reading.specs.Memory.{IsMemory, Joins}
use Rattle.shared_reading.specs.WithMemory.{read_with}
use Rattle.shared_reading.proofs.MemoryLemmas.{in_order_rises}
use Rattle.shared_reading.proofs.SharedReads.{Alone, read_alone, joined}
use Rattle.block_reader.specs.declared.declarations.DeclParts.{DeclParts}
use Rattle.decl_reader.specs.declared.finished.Descriptor.{Descriptor}
use Rattle.decl_reader.specs.Finished.{known_after, types_after}
use Rattle.decl_reader.specs.Meant.{decl_by}
use Rattle.decl_reader.specs.Wholes.{IsRead}
use Rattle.decl_reader.proofs.FinishedLemmas.{Stands, each_stands}
use Rattle.decl_reader.proofs.WholeLemmas.{types_are}

-- each that is known was there before, or is one of those that are left
abbrev Brought : Table → Table → List Tree → Type 0
Brought done known left = (o : ℕ) (f : Finished) → at known o ≡ Some f → (at done o ≡ Some f) ⊎ Contains left f.tree

abbrev Brings : ReadsBlock → LeavesBlock → Type 0
Brings read leaves = (offset holder : ℕ) (done known : Table) → read offset holder done ≡ Ok known → Brought done known (leaves offset holder done)

none_brought : (done known : Table) (left : List Tree) → done ≡ known → Brought done known left
none_brought done known left same o f found = inl (ap (λ (t : Table). at t o) same ∙ found)

-- what one step brought, and then another
brought_twice : (done mid known : Table) (first second : List Tree) → Brought done mid first → Brought mid known second → Brought done known (first ++ second)
brought_twice done mid known first second a b o f found = by (b o f found)
  where
    before : (at done o ≡ Some f) ⊎ Contains first f.tree → (at done o ≡ Some f) ⊎ Contains (first ++ second) f.tree
    before (inl there) = inl there
    before (inr has) = inr (Contains-append_left first second f.tree has)

    by : (at mid o ≡ Some f) ⊎ Contains second f.tree → (at done o ≡ Some f) ⊎ Contains (first ++ second) f.tree
    by (inl there) = before (a o f there)
    by (inr has) = inr (Contains-append_right first second f.tree has)

module _ (src : Sections) (read_block : ReadsBlock) (leaves : LeavesBlock) (brings : Brings read_block leaves) (holder : ℕ) where
  one_brought : (m : Mention) (done known : Table) → resolve src read_block holder m done ≡ Ok known → Brought done known (left_by_type leaves holder m.value done)
  one_brought m done known e = by (nat_lt m.value 32) refl
    where
      typed : with_type src read_block holder m done ≡ Ok known
      typed =
          let first = bind_ok (with_type src read_block holder m done) (λ mid. demand (meets m.asked (type_named src.version mid m.value)) (unmet m m.asked) >>= λ met. Ok mid) known e in
          let second = bind_ok (demand (meets m.asked (type_named src.version first.0 m.value)) (unmet m m.asked)) (λ met. Ok first.0) known first.2 in
          first.1 ∙ second.2

      found : nat_lt m.value 32 ≡ false → nat_lt (m.value - 32) holder ≡ true → (a : Option Finished) → at done (m.value - 32) ≡ a → found_or_read read_block holder m done a ≡ Ok known → Brought done known (left_by_type leaves holder m.value done)
      found large before (Some f) is h =
          let tests = bind_ok (demand (nat_le f.end holder) (faults.Range m.at m.value)) (λ u. Ok done) known h in
          none_brought done known (left_by_type leaves holder m.value done) (done_is done known tests.2)
      found large before None is h =
          let brought = brings (m.value - 32) holder done known (named_ok m (read_block (m.value - 32) holder done) known h) in
          let opened : left_by_type leaves holder m.value done ≡ leaves (m.value - 32) holder done
          = ap (λ b. cond (cond b false (cond (nat_lt (m.value - 32) holder) (not (is_some (at done (m.value - 32)))) false)) (leaves (m.value - 32) holder done) []) large
          ∙ ap (λ b. cond (cond b (not (is_some (at done (m.value - 32)))) false) (leaves (m.value - 32) holder done) []) before
          ∙ ap (λ (a : Option Finished). cond (not (is_some a)) (leaves (m.value - 32) holder done) []) is in
          subst (Brought done known) (sym opened) brought

      by : (small : Bool) → nat_lt m.value 32 ≡ small → Brought done known (left_by_type leaves holder m.value done)
      by true small =
          let basic : with_basic src.version m done ≡ Ok known = sym (ap (λ b. cond b (with_basic src.version m done) (with_descriptor read_block holder m done)) small) ∙ typed in
          let tests = bind_ok (demand (is_some (basic_of src.version m.value)) (faults.Range m.at m.value)) (λ u. Ok done) known basic in
          none_brought done known (left_by_type leaves holder m.value done) (done_is done known tests.2)
      by false large =
          let block : with_descriptor read_block holder m done ≡ Ok known = sym (ap (λ b. cond b (with_basic src.version m done) (with_descriptor read_block holder m done)) large) ∙ typed in
          let tests = bind_ok (demand (nat_lt (m.value - 32) holder) (faults.Range m.at m.value)) (λ before. found_or_read read_block holder m done (at done (m.value - 32))) known block in
          found large (demand_ok (nat_lt (m.value - 32) holder) (faults.Range m.at m.value) tests.0 tests.1) (at done (m.value - 32)) refl tests.2

  all_brought : (ms : List Mention) (done known : Table) → resolve_all src read_block holder ms done ≡ Ok known → Brought done known (left_by_types src read_block leaves holder ms done)
  all_brought [] done known e = none_brought done known [] (done_is done known e)
  all_brought (m ∷ ms) done known e =
      let first = bind_ok (resolve src read_block holder m done) (resolve_all src read_block holder ms) known e in
      let mid = first.0 in
      brought_twice done mid known (left_by_type leaves holder m.value done) (if_well (resolve src read_block holder m done) (left_by_types src read_block leaves holder ms)) (one_brought m done mid first.1)
      (subst (λ (r : Result Table ByteFault). Brought mid known (if_well r (left_by_types src read_block leaves holder ms))) (sym first.1) (all_brought ms mid known first.2))

one_more_brought : (mid known : Table) (offset : ℕ) (fin : Finished) → with_block mid offset fin ≡ known → Brought mid known (fin.tree ∷ [])
one_more_brought mid known offset fin is o f found = by (cases_lt o offset) (cases_lt offset o)
  where
    here : at (with_block mid offset fin) o ≡ Some f
    here = ap (λ (t : Table). at t o) is ∙ found

    by : (o < offset) ⊎ (offset ≤ o) → (offset < o) ⊎ (o ≤ offset) → (at mid o ≡ Some f) ⊎ Contains (fin.tree ∷ []) f.tree
    by (inl less) more = inl (sym (found_still mid offset o fin (λ same. omega (arith, less, same))) ∙ here)
    by (inr le) (inl more) = inl (sym (found_still mid offset o fin (λ same. omega (arith, more, same))) ∙ here)
    by (inr le) (inr ge) =
        let same : o ≡ offset = omega (arith, le, ge) in
        let it : fin ≡ f = some_is fin f (at (with_block mid offset fin) o) (ap (at (with_block mid offset fin)) same ∙ found_new mid offset fin) here in
        inr (subst (λ (g : Finished). Contains (fin.tree ∷ []) g.tree) it (first_has fin.tree []))

finish_brought : (src : Sections) (read_block : ReadsBlock) (leaves : LeavesBlock) → Brings read_block leaves → (offset : ℕ) (r : Result (Flat × Ahead) Stopped) (done known : Table) → finish src read_block offset r done ≡ Ok known
    → Brought done known (left_by_block src read_block leaves offset r done)
finish_brought src read_block leaves brings offset (Err s) done known e =
    let no = bind_ok (resolve_all src read_block offset s.mentions done) (λ mid. Err s.fault) known e in
    absurd (let err = no.2 in cc)
finish_brought src read_block leaves brings offset (Ok x) done known e =
    let ms = (x.1).mentions in
    let fin_of : Table → Finished = λ mid. record { end = offset_of src x.1; tree = tree_spelled src.version mid x.0 } in
    let resolved_so = bind_ok (resolve_all src read_block offset ms done) (λ mid. Ok (with_block mid offset (fin_of mid))) known e in
    let mid = resolved_so.0 in
    brought_twice done mid known (left_by_types src read_block leaves offset ms done) (if_well (resolve_all src read_block offset ms done) (λ (t : Table). tree_spelled src.version t x.0 ∷ [])) (all_brought src read_block leaves brings offset ms done mid resolved_so.1)
    (subst (λ (r : Result Table ByteFault). Brought mid known (if_well r (λ (t : Table). tree_spelled src.version t x.0 ∷ []))) (sym resolved_so.1) (one_more_brought mid known offset (fin_of mid) (done_is (with_block mid offset (fin_of mid)) known resolved_so.2)))

block_brings : (src : Sections) (n : ℕ) → Brings (block_at src n) (left_at src n)
unfolding block_at left_at
block_brings src zero offset holder done known e = absurd (cc)
block_brings src (suc n) offset holder done known e =
    finish_brought src (block_at src n) (left_at src n) (block_brings src n) offset (flat_at src (start (window src offset (free_to offset holder done)))) done known e

-- ---- a declaration

module _ (src : Sections) (offset : ℕ) where
  part_brought : {X : Type 0} (part : Result (X × Ahead) Stopped) (done : Table) (y : (X × Ahead) × Table) → resolved src offset part done ≡ Ok y → Brought done y.1 (left_by_part src offset part done)
  part_brought {X} (Ok x) done y e =
      let types = bind_ok (resolve_all src (block_at src offset) offset (x.1).mentions done) (λ known. Ok ((x.0, record { spot = (x.1).spot; before = (x.1).before; mentions = [] }), known)) y e in
      let same : types.0 ≡ y.1 = ap (λ (z : (X × Ahead) × Table). z.1) (done_is _ y types.2) in
      subst (λ (t : Table). Brought done t (left_by_named src offset (x.1).mentions done)) same
      (all_brought src (block_at src offset) (left_at src offset) (block_brings src offset) offset (x.1).mentions done types.0 types.1)
  part_brought {X} (Err s) done y e =
      let no = bind_ok (resolve_all src (block_at src offset) offset s.mentions done) (λ known. Err s.fault) y e in
      absurd (let err = no.2 in cc)

  same_table : (x : Read) (done : Table) (y : Read) (left : List Tree) → y.table ≡ done → y ≡ x → Brought done x.table left
  same_table x done y left at_first same = none_brought done x.table left (sym at_first ∙ ap (λ (z : Read). z.table) same)

  methods_brought : (pos : SpelledPos) (tparams : List SpelledType) (underlying : SpelledType) (a : Ahead) (done : Table) (x : Read) (own : Bool) → after_type src offset pos tparams underlying a done own ≡ Ok x
      → Brought done x.table (left_by_methods src offset a done own)
  methods_brought pos tparams underlying a done x true e =
      let steps = bind_ok (resolved src offset (list_at (receiver_at src) a) done) (methods_of pos tparams underlying) x e in
      let known = steps.0 in
      subst (λ (t : Table). Brought done t (left_by_part src offset (list_at (receiver_at src) a) done)) (ap (λ (z : Read). z.table) (done_is _ x steps.2)) (part_brought (list_at (receiver_at src) a) done known steps.1)
  methods_brought pos tparams underlying a done x false e = same_table x done _ [] refl (done_is _ x e)

  head_brought : (basics : Basics) (head : Head) (a : Ahead) (done : Table) (x : Read) → after_head src basics offset head a done ≡ Ok x → Brought done x.table (left_after_head src offset head a done)
  head_brought basics (whole form) a done x e = same_table x done _ [] refl (done_is _ x e)
  head_brought basics (of_type pos tparams underlying) a done x e = methods_brought pos tparams underlying a done x (has_methods (type_spelled src.version done underlying)) e
  head_brought basics (of_constant pos type at_type) a done x e =
      let first = bind_ok (spelling_at at_type (basic_type basics (type_spelled src.version done type))) (λ spelling. fault_alone (value_at src spelling a) >>= λ value. read (constant_of pos type (value.0).value) (value.0).offset value.1 done) x e in
      let second = bind_ok (fault_alone (value_at src first.0 a)) (λ value. read (constant_of pos type (value.0).value) (value.0).offset value.1 done) x first.2 in
      same_table x done _ [] refl (done_is _ x second.2)

  pub decl_brought : (basics : Basics) (x : Read) → read_at src basics offset ≡ Ok x → Brought [] x.table (left_by_decl src offset)
  unfolding read_at left_by_decl
  decl_brought basics x e =
      let head = head_at src (start (window src offset (length src.body))) in
      let steps = bind_ok (resolved src offset head []) (λ y. after_head src basics offset (y.0).0 (y.0).1 y.1) x e in
      let y = steps.0 in
      brought_twice [] y.1 x.table (left_by_part src offset head []) (if_well (resolved src offset head []) (λ z. left_after_head src offset (z.0).0 (z.0).1 z.1)) (part_brought head [] y steps.1)
      (subst (λ (r : Result ((Head × Ahead) × Table) ByteFault). Brought y.1 x.table (if_well r (λ z. left_after_head src offset (z.0).0 (z.0).1 z.1))) (sym steps.1) (head_brought basics (y.0).0 (y.0).1 y.1 x steps.2))

all_in : (types part : List Tree) → ((t : Tree) → Contains part t → Contains types t) → AllByRecursion (StandsIn types) part
all_in types [] has = tt
all_in types (t ∷ ts) has = (stands_itself types t (has t (first_has t ts)), all_in types ts (λ u later. has u (later_has t u ts later)))

module _ (src : Sections) (basics : Basics) (holds : HoldsBytes src) (memory : Table) (is_memory : IsMemory src memory) (offset : ℕ) (within : offset ≤ length src.body) where
  abbrev types : List Tree
  types = types_read src basics offset

  left_in : (t : Tree) → Contains (left_by_decl src offset) t → StandsIn types t
  left_in t has = All-contains (StandsIn types) (left_by_decl src offset) t (All-from_recursion (StandsIn types) (left_by_decl src offset) (left_stands src basics holds offset within)) has

  -- what is found where nothing was remembered is found where the declaration is read by itself
  found_alone : (x : Read) → (a : Alone src basics holds memory offset x) → Joins memory (a.alone).table x.table → (o : ℕ) (f : Finished) → at x.table o ≡ Some f → at memory o ≡ None → at (a.alone).table o ≡ Some f
  found_alone x a joins o f found none =
      elim (joins.only (block o f) (block_found x.table o f found)) [
        | inl has ↦ absurd (let there = found_block memory 0 (block o f) (in_order_rises memory is_memory.in_order) has in cc)
        | inr has ↦ found_block (a.alone).table 0 (block o f) a.whole_alone.added.fine.rising has
      ]

  from_table : (x : Read) → read_with src basics memory offset ≡ Ok x → (t : Tree) → Stands memory x.table t → StandsIn types t
  unfolding Stands
  from_table x e t (o, f, found, same, none) =
      let a = read_alone src basics holds memory offset x is_memory e in
      let its_own = found_alone x a (joined src basics holds memory offset x is_memory e a) o f found none in
      subst (StandsIn types) same (by (decl_brought src offset basics a.alone a.is o f its_own))
    where
      by : (at [] o ≡ Some f) ⊎ Contains (left_by_decl src offset) f.tree → StandsIn types f.tree
      by (inl there) = absurd (let no = there in cc)
      by (inr has) = left_in f.tree has

  -- what a declaration reaches stands in its types
  pub reached_covers : (parts : DeclParts) (ds : List Descriptor) → IsRead src basics memory offset parts ds
      → Covers types (types_after src.version memory ds ++ form_types (decl_by src.version (known_after src.version memory ds) parts))
  reached_covers parts ds read_so =
      let own : List Tree = form_types (decl_by src.version (known_after src.version memory ds) parts) in
      let new : List Tree = types_after src.version memory ds in
      let table = sym read_so.table in
      let each : AllByRecursion (StandsIn types) new
      = all_weaker (Stands memory (known_after src.version memory ds)) (StandsIn types) (λ t stands. from_table read_so.read read_so.is t (subst (λ (k : Table). Stands memory k t) table stands)) new
      (each_stands src.version memory memory ds (λ o f found. found) read_so.turn) in
      let same = types_are src basics holds memory is_memory offset parts ds read_so in
      let itself : AllByRecursion (StandsIn types) own = all_in types own (λ t has. subst (λ (ts : List Tree). Contains ts t) (sym same) has) in
      let all = all_append (StandsIn types) new own each itself in
      covers_each types (new ++ own) (λ t has. All-contains (StandsIn types) (new ++ own) t (All-from_recursion (StandsIn types) (new ++ own) all) has)
