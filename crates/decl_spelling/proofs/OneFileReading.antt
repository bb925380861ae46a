-- What is read of a file, or left of reading it, is of the file.
use Rattle.std.proofs.Common.{◌≡◌, ℕ, zero, suc, ◌-◌, ◌<◌, ◌≤◌, ◌⊎◌, inl, inr, List, take, drop, [], ◌+◌, ◌∷◌, ◌++◌, length, map, Contains, Bool, true, false, not, cond, Result, Ok, Err, Option, Some, None, nat_lt, is_some, refl, sym, ◌∙◌, ap, subst, arith}
use Rattle.std.specs.List.{AllByRecursion}
use Rattle.std.proofs.lemmas.Bool.{cases_lt}
use Rattle.std.proofs.lemmas.Bool.Decides.{nat_tests}
use Rattle.std.proofs.Math.ListN.{drop_of_length-le}
use Rattle.std.proofs.lemmas.List.Elements.{All-contains, All-from_recursion}
use Rattle.wire_bytes.specs.declared.fault.ByteFault.{ByteFault}
use Rattle.wire_bytes.specs.Reading.{◌>>=◌}
use Rattle.wire_bytes.proofs.Spellings.{IsBytes}
use Rattle.type_terms.specs.Denotation.{tree}
use Rattle.type_terms.specs.Arenas.{Contents, Extends}
use Rattle.type_terms.specs.Extensions.{extends_tree}
use Rattle.type_terms.specs.Additions.{StandsIn, IsDenoted, AddsOnly, Outgrows}
use Rattle.type_terms.specs.Replaced.{all_append}
use Rattle.type_terms.specs.Trees.{Tree}
use Rattle.type_terms.specs.Declarations.{form_types, form_map, Decl}
use Rattle.decl_spelling.specs.declared.mention.Mention.{Mention}
use Rattle.decl_spelling.specs.Sections.{Sections, Basics, HoldsBytes, window}
use Rattle.decl_spelling.specs.Reading.{Ahead, Stopped, start, list_at}
use Rattle.decl_spelling.specs.Descriptors.{Flat, flat_at}
use Rattle.decl_spelling.specs.Tables.{Finished, Table, at, with_block, free_to, type_spelled, tree_spelled}
use Rattle.decl_spelling.specs.Descent.{ReadsBlock, resolve, resolve_all, block_at, offset_of}
use Rattle.decl_spelling.specs.Declarations.{Head, whole, of_type, of_constant, head_at, receiver_at, resolved, has_methods, decl_at}
use Rattle.decl_spelling.specs.Leaving.{LeavesBlock, if_well, left_by_type, left_by_types, left_by_block, left_at, left_by_named, left_by_part, left_by_methods, left_after_head, left_by_decl, types_by, types_read}
use Rattle.decl_spelling.specs.Spelling.{Known, Names, same_pos, same_text}
use Rattle.decl_spelling.specs.OneFile.{IsOfFile, type_count, HoldsTypesOf}
use Rattle.decl_spelling.proofs.TableLaws.{block, blocks_of, block_found, found_new}
use Rattle.decl_spelling.proofs.Forms.{form_types_map, form_meant_types}
use Rattle.decl_spelling.proofs.TypeTakes.{Fine, ReadsSoundly, resolve_known, all_known}
use Rattle.decl_spelling.proofs.BlockTakes.{block_takes, finish_takes}
use Rattle.decl_spelling.proofs.DeclTakes.{resolved_ok, fine_none}
use Rattle.decl_spelling.proofs.DeclAtLaws.{strings_are, body_is, decl_found}
use Rattle.decl_spelling.proofs.OneFileTypes.{mapped_has, named_in_file, within_file, few_types}

-- a finished descriptor is of the file
finished_of_file : (src : Sections) (done : Table) (o : ℕ) (f : Finished) → Fine src done → at done o ≡ Some f → IsOfFile src f.tree
finished_of_file src done o f fine found =
    let has = block_found done o f found in
    let says = fine.sound.each (block o f) has in
    (32 + o, (blocks_of done, fine.sound, inr (block o f, has, refl, omega (arith, says.ends), refl)))

abbrev pub LeavesOfFile : Sections → LeavesBlock → Type 0
LeavesOfFile src leaves = (offset holder : ℕ) (done : Table) → offset < holder → holder ≤ length src.body → Fine src done → at done offset ≡ None → AllByRecursion (IsOfFile src) (leaves offset holder done)

module _ (src : Sections) (read : ReadsBlock) (reads : ReadsSoundly src read) (leaves : LeavesBlock) (leave : LeavesOfFile src leaves) (holder : ℕ) (within : holder ≤ length src.body) where
  type_of_file : (number : ℕ) (done : Table) → Fine src done → AllByRecursion (IsOfFile src) (left_by_type leaves holder number done)
  type_of_file number done fine = by (nat_lt number 32) (nat_lt (number - 32) holder) refl (at done (number - 32)) refl
    where
      by : (small before : Bool) → nat_lt (number - 32) holder ≡ before → (a : Option Finished) → at done (number - 32) ≡ a → AllByRecursion (IsOfFile src) (cond (cond small false (cond before (not (is_some a)) false)) (leaves (number - 32) holder done) [])
      by true before is a found = tt
      by false false is a found = tt
      by false true is (Some f) found = tt
      by false true is None found = let less : number - 32 < holder = grind (arith, nat_tests) in leave (number - 32) holder done less within fine found

  pub types_of_file : (ms : List Mention) (done : Table) → Fine src done → AllByRecursion (IsOfFile src) (left_by_types src read leaves holder ms done)
  types_of_file [] done fine = tt
  types_of_file (m ∷ ms) done fine =
      all_append (IsOfFile src) (left_by_type leaves holder m.value done) (if_well (resolve src read holder m done) (left_by_types src read leaves holder ms)) (type_of_file m.value done fine)
      (rest (types_of_file ms) (resolve src read holder m done) refl)
    where
      rest : ((known : Table) → Fine src known → AllByRecursion (IsOfFile src) (left_by_types src read leaves holder ms known)) → (r : Result Table ByteFault) → resolve src read holder m done ≡ r
          → AllByRecursion (IsOfFile src) (if_well r (left_by_types src read leaves holder ms))
      rest others (Ok known) e = others known (resolve_known src read reads holder within m done known fine e).0.fine
      rest others (Err f) e = tt

module _ (src : Sections) (strings : IsBytes src.strings) (bytes : IsBytes src.body) where
  block_of_file : (read : ReadsBlock) → ReadsSoundly src read → (leaves : LeavesBlock) → LeavesOfFile src leaves → (offset holder to : ℕ) (done : Table) → to ≡ free_to offset holder done → offset < holder → holder ≤ length src.body → Fine src done → at done offset ≡ None
      → (r : Result (Flat × Ahead) Stopped) → flat_at src (start (window src offset to)) ≡ r → AllByRecursion (IsOfFile src) (left_by_block src read leaves offset r done)
  block_of_file read reads leaves leave offset holder to done free before within fine none (Err s) e = types_of_file src read reads leaves leave offset (omega arith) s.mentions done fine
  block_of_file read reads leaves leave offset holder to done free before within fine none (Ok x) e =
      all_append (IsOfFile src) (left_by_types src read leaves offset (x.1).mentions done) (if_well (resolve_all src read offset (x.1).mentions done) own) (types_of_file src read reads leaves leave offset (omega arith) (x.1).mentions done fine)
      (last (resolve_all src read offset (x.1).mentions done) refl)
    where
      fin_of : Table → Finished
      fin_of mid = record { end = offset_of src x.1; tree = tree_spelled src.version mid x.0 }

      own : Table → List Tree
      own mid = tree_spelled src.version mid x.0 ∷ []

      last : (known : Result Table ByteFault) → resolve_all src read offset (x.1).mentions done ≡ known → AllByRecursion (IsOfFile src) (if_well known own)
      last (Ok mid) is =
          let taken = finish_takes src strings bytes read reads offset holder to done (with_block mid offset (fin_of mid)) free before within fine none (Ok x) e (ap (λ (r : Result Table ByteFault). r >>= λ known. Ok (with_block known offset (fin_of known))) is) in
          (finished_of_file src (with_block mid offset (fin_of mid)) offset (fin_of mid) taken.0.fine (found_new mid offset (fin_of mid)), tt)
      last (Err f) is = tt

  pub leaves_of_file : (n : ℕ) → LeavesOfFile src (left_at src n)
  unfolding block_at left_at
  leaves_of_file zero offset holder done before within fine none = tt
  leaves_of_file (suc n) offset holder done before within fine none =
      block_of_file (block_at src n) (block_takes src strings bytes n) (left_at src n) (leaves_of_file n) offset holder (free_to offset holder done) done refl before within fine none
      (flat_at src (start (window src offset (free_to offset holder done)))) refl

-- ---- a declaration

module _ (src : Sections) (basics : Basics) (holds : HoldsBytes src) (offset : ℕ) (within : offset ≤ length src.body) where
  abbrev reads : ReadsSoundly src (block_at src offset)
  reads = block_takes src (strings_are src holds) (body_is src holds) offset

  named_of_file : (ms : List Mention) (done : Table) → Fine src done → AllByRecursion (IsOfFile src) (left_by_named src offset ms done)
  named_of_file = types_of_file src (block_at src offset) reads (left_at src offset) (leaves_of_file src (strings_are src holds) (body_is src holds) offset) offset within

  part_is : {X : Type 0} (r : Result (X × Ahead) Stopped) (done : Table) → Fine src done → AllByRecursion (IsOfFile src) (left_by_part src offset r done)
  part_is (Ok x) done fine = named_of_file (x.1).mentions done fine
  part_is (Err stopped) done fine = named_of_file stopped.mentions done fine

  methods_are : (a : Ahead) (done : Table) → Fine src done → (own : Bool) → AllByRecursion (IsOfFile src) (left_by_methods src offset a done own)
  methods_are a done fine true = part_is (list_at (receiver_at src) a) done fine
  methods_are a done fine false = tt

  after_is : (head : Head) (a : Ahead) (done : Table) → Fine src done → AllByRecursion (IsOfFile src) (left_after_head src offset head a done)
  after_is (whole form) a done fine = tt
  after_is (of_type pos tparams underlying) a done fine = methods_are a done fine (has_methods (type_spelled src.version done underlying))
  after_is (of_constant pos type at) a done fine = tt

  pub left_of_file : AllByRecursion (IsOfFile src) (left_by_decl src offset)
  unfolding left_by_decl
  left_of_file =
      let head = head_at src (start (window src offset (length src.body))) in
      all_append (IsOfFile src) (left_by_part src offset head []) (if_well (resolved src offset head []) (λ x. left_after_head src offset (x.0).0 (x.0).1 x.1)) (part_is head [] (fine_none src))
      (rest (resolved src offset head []) refl)
    where
      rest : (r : Result ((Head × Ahead) × Table) ByteFault) → resolved src offset (head_at src (start (window src offset (length src.body)))) [] ≡ r
          → AllByRecursion (IsOfFile src) (if_well r (λ x. left_after_head src offset (x.0).0 (x.0).1 x.1))
      rest (Ok y) e =
          let first = resolved_ok src offset (head_at src (start (window src offset (length src.body)))) [] y e in
          let types = all_known src (block_at src offset) reads offset within ((first.0).1).mentions [] y.1 (fine_none src) first.2 in
          after_is (y.0).0 (y.0).1 y.1 types.0.fine
      rest (Err f) e = tt

-- behind the section nothing is left
none_taken : (n : ℕ) (bytes : List ℕ) → bytes ≡ [] → take n bytes ≡ []
none_taken zero bytes none = refl
none_taken (suc n) [] none = refl
none_taken (suc n) (b ∷ bytes) none = absurd (cc)

left_none : (src : Sections) (offset : ℕ) → length src.body ≤ offset → left_by_decl src offset ≡ []
unfolding left_by_decl head_at
left_none src offset behind =
    let size = length src.body in
    let nothing : take (size - offset) (drop offset src.body) ≡ [] = none_taken (size - offset) (drop offset src.body) (drop_of_length-le src.body behind) in
    ap (λ (bytes : List ℕ).
    let head = head_at src (start (record { end = src.body_at + size; left = bytes })) in
    left_by_part src offset head [] ++ if_well (resolved src offset head []) (λ x. left_after_head src offset (x.0).0 (x.0).1 x.1)) nothing

module _ (src : Sections) (basics : Basics) (holds : HoldsBytes src) (offset : ℕ) where
  all_of_file : AllByRecursion (IsOfFile src) (left_by_decl src offset)
  all_of_file = elim (cases_lt offset (length src.body)) [
    | inl inside ↦ left_of_file src basics holds offset (omega (arith, inside))
    | inr behind ↦ subst (AllByRecursion (IsOfFile src)) (sym (left_none src offset behind)) tt
  ]

  of_file_by : (r : Result Decl ByteFault) → decl_at src basics offset ≡ r → (t : Tree) → Contains (types_by src offset r) t → IsOfFile src t
  of_file_by (Ok decl) e t has =
      let spells = decl_found src basics holds offset decl e in
      let types : form_types decl ≡ map (λ (x : Known). x.tree) (form_types spells.parts) = ap form_types spells.meant ∙ form_meant_types (form_map same_pos same_text (λ (x : Known). x.tree) spells.parts) ∙ form_types_map same_pos same_text (λ (x : Known). x.tree) spells.parts in
      let known = mapped_has (form_types spells.parts) t (subst (λ (ts : List Tree). Contains ts t) types has) in
      subst (IsOfFile src) known.2 (named_in_file src spells.blocks offset known.0 spells.sound (All-contains (Names src spells.blocks offset) (form_types spells.parts) known.0 spells.named known.1))
  of_file_by (Err f) e t has = All-contains (IsOfFile src) (left_by_decl src offset) t (All-from_recursion (IsOfFile src) (left_by_decl src offset) all_of_file) has

  -- Each type that is read of the file is one of its types, and so is each that stands in it.
  pub read_of_file : (t : Tree) → StandsIn (types_read src basics offset) t → IsOfFile src t
  read_of_file t stands = within_file src stands.0 t stands.2 (of_file_by (decl_at src basics offset) refl stands.0 stands.1)

  -- So an arena that has only such types has them still, and it has room where it may have one for each number.
  pub types_stay : (old new : Contents) → HoldsTypesOf src old → Extends old new → AddsOnly (types_read src basics offset) old new → HoldsTypesOf src new
  types_stay old new of grown adds number below =
      elim (cases_lt number (length old.nodes)) [
        | inl early ↦ subst (IsOfFile src) (sym (extends_tree old new grown number early)) (of number early)
        | inr late ↦ read_of_file (tree new.nodes number) (adds number late below)
      ]

  pub types_suffice : (arena : Contents) → HoldsTypesOf src arena → type_count src ≤ arena.limit → Outgrows arena (types_read src basics offset) → ⊥
  types_suffice arena of room outgrown =
      let few = few_types src holds outgrown.trees outgrown.apart (λ type held. by type (outgrown.known type held)) in
      omega (arith, outgrown.many, few, room)
    where
      by : (type : Tree) → IsDenoted arena.nodes type ⊎ StandsIn (types_read src basics offset) type → IsOfFile src type
      by type (inl denoted) = subst (IsOfFile src) denoted.2 (of denoted.0 denoted.1)
      by type (inr stands) = read_of_file type stands
