-- What reading leaves stands in the types of the declaration, where it is read whole.
use Rattle.std.proofs.Common.{◌≡◌, ℕ, zero, suc, ◌-◌, ◌<◌, ◌≤◌, List, [], ◌∷◌, ◌++◌, length, map, Contains, Bool, true, false, not, cond, Result, Ok, Err, Option, Some, None, nat_lt, is_some, refl, sym, ◌∙◌, ap, subst, arith}
use Rattle.std.specs.List.{AllByRecursion}
use Rattle.std.proofs.lemmas.Bool.Decides.{nat_tests}
use Rattle.std.proofs.lemmas.List.Elements.{Contains-append_left, Contains-append_right}
use Rattle.wire_bytes.specs.declared.fault.ByteFault.{ByteFault}
use Rattle.wire_bytes.specs.declared.fault.ByteFault.TheVariants as faults
use Rattle.wire_bytes.specs.Reading.{◌>>=◌, demand}
use Rattle.wire_bytes.proofs.Steps.{bind_ok, done_is}
use Rattle.wire_bytes.proofs.Spellings.{IsBytes}
use Rattle.type_terms.specs.Shapes.{retype, shape_types}
use Rattle.type_terms.specs.ShapeLaws.{shape_types_map}
use Rattle.type_terms.specs.Parts.{Within, itself, inside, parts}
use Rattle.type_terms.specs.TreeLevels.{level_of-tree_of}
use Rattle.type_terms.specs.Additions.{StandsIn}
use Rattle.type_terms.specs.Replaced.{all_append}
use Rattle.type_terms.specs.Trees.{Tree}
use Rattle.decl_spelling.specs.declared.mention.Mention.{Mention}
use Rattle.decl_spelling.specs.Sections.{Sections, window}
use Rattle.decl_spelling.specs.Spelled.{SpelledText, SpelledPath, SpelledPos, SpelledType, SpelledShape, pos_meant, text_meant, path_meant, meant}
use Rattle.decl_spelling.specs.Reading.{Ahead, Stopped, start}
use Rattle.decl_spelling.specs.Descriptors.{Flat, flat_at}
use Rattle.decl_spelling.specs.Tables.{Finished, Table, at, with_block, free_to, type_named, type_spelled, tree_spelled, finished_tree}
use Rattle.decl_spelling.specs.Descent.{ReadsBlock, meets, unmet, found_or_read, with_basic, with_descriptor, with_type, resolve, resolve_all, finish, block_at, offset_of}
use Rattle.decl_spelling.specs.Leaving.{LeavesBlock, if_well, left_by_type, left_by_types, left_by_block, left_at}
use Rattle.decl_spelling.specs.KnownTypes.{Kept, IsAnswered}
use Rattle.decl_spelling.specs.Asks.{ask_of, shape_asks, flat_types}
use Rattle.decl_spelling.proofs.KnownTypeLemmas.{named_block, named_still}
use Rattle.decl_spelling.proofs.MapLemmas.{all_weaker, map_twice, map_same}
use Rattle.decl_spelling.proofs.TableLaws.{first_has, later_has, found_new, some_is}
use Rattle.decl_spelling.proofs.TypeTakes.{Fine, ReadsSoundly, named_ok, resolve_known, all_known}
use Rattle.decl_spelling.proofs.FlatLaws.{flat_took, numbers_of, numbers_asked, numbers_in, shape_asks_types}
use Rattle.decl_spelling.proofs.AskLemmas.{asks_from}
use Rattle.decl_spelling.proofs.BlockTakes.{window_fits, block_takes}

-- ---- what stands in some types

pub stands_same : (types : List Tree) (type : Tree) → Contains types type → StandsIn types type
stands_same types type has = (type, has, itself type)

pub stands_left : (xs ys : List Tree) (type : Tree) → StandsIn xs type → StandsIn (xs ++ ys) type
stands_left xs ys type stands = (stands.0, Contains-append_left xs ys stands.0 stands.1, stands.2)

pub stands_right : (xs ys : List Tree) (type : Tree) → StandsIn ys type → StandsIn (xs ++ ys) type
stands_right xs ys type stands = (stands.0, Contains-append_right xs ys stands.0 stands.1, stands.2)

stands_later : (x : Tree) (xs : List Tree) (type : Tree) → StandsIn xs type → StandsIn (x ∷ xs) type
stands_later x xs type stands = (stands.0, later_has x stands.0 xs stands.1, stands.2)

-- what stands in the parts of a type stands in it
stands_within : (whole type : Tree) → StandsIn (parts whole) type → Within whole type
stands_within whole type stands = inside whole stands.0 type stands.1 stands.2

-- ---- the types that mentions name

abbrev pub types_of : ℕ → Table → List Mention → List Tree
types_of version known ms = map (λ (m : Mention). type_named version known m.value) ms

pub types_as : (version : ℕ) (known : Table) (ms : List Mention) (numbers : List ℕ) → map (λ (m : Mention). m.value) ms ≡ numbers → types_of version known ms ≡ map (type_named version known) numbers
types_as version known ms numbers is =
    sym (map_twice (λ (m : Mention). m.value) (type_named version known) (λ (m : Mention). type_named version known m.value) (λ m. refl) ms) ∙ ap (map (type_named version known)) is

-- they are the same as the table grows
pub types_still : (src : Sections) (done known : Table) (holder : ℕ) (ms : List Mention) → Kept done known → AllByRecursion (IsAnswered src done holder) ms → types_of src.version known ms ≡ types_of src.version done ms
types_still src done known holder [] kept answered = refl
types_still src done known holder (m ∷ ms) kept answered =
    let first = named_still src done known holder m.value kept answered.0.0 in
    let rest = types_still src done known holder ms kept answered.1 in
    λ i. first i ∷ rest i

-- what is meant has the types of what is spelled
pub meant_types : (shape : SpelledShape Tree) → shape_types (meant shape) ≡ shape_types shape
meant_types shape = shape_types_map pos_meant text_meant path_meant (λ (t : Tree). t) shape ∙ map_same (λ (t : Tree). t) (λ t. refl) (shape_types shape)

parts_spelled : (version : ℕ) (known : Table) (x : Flat) → parts (tree_spelled version known x) ≡ map (type_spelled version known) (flat_types x)
parts_spelled version known x =
    let level = retype (type_spelled version known) x in
    ap shape_types (level_of-tree_of (meant level)) ∙ meant_types level ∙ shape_types_map (λ (p : SpelledPos). p) (λ (t : SpelledText). t) (λ (t : SpelledPath). t) (type_spelled version known) x

-- the types of a descriptor are the parts of its type
pub parts_are : (version : ℕ) (known : Table) (ms : List Mention) (x : Flat) → map ask_of ms ≡ shape_asks x → parts (tree_spelled version known x) ≡ types_of version known ms
parts_are version known ms x asks =
    parts_spelled version known x
    ∙ sym (map_twice (λ (t : SpelledType). t.number) (type_named version known) (type_spelled version known) (λ t. refl) (flat_types x))
    ∙ sym (types_as version known ms (numbers_in (flat_types x)) (numbers_of ms ∙ ap numbers_asked asks ∙ shape_asks_types x))

-- ---- what a descriptor leaves stands in its type

abbrev pub LeavesWithin : Sections → ReadsBlock → LeavesBlock → Type 0
LeavesWithin src read leaves = (offset holder : ℕ) (done known : Table) (f : Finished) → offset < holder → holder ≤ length src.body → Fine src done → at done offset ≡ None → read offset holder done ≡ Ok known → at known offset ≡ Some f
    → AllByRecursion (Within f.tree) (leaves offset holder done)

module _ (src : Sections) (read : ReadsBlock) (reads : ReadsSoundly src read) (leaves : LeavesBlock) (leave : LeavesWithin src read leaves) (holder : ℕ) (within : holder ≤ length src.body) where
  one_reached : (m : Mention) (done known : Table) → Fine src done → resolve src read holder m done ≡ Ok known → AllByRecursion (Within (type_named src.version known m.value)) (left_by_type leaves holder m.value done)
  one_reached m done known fine e = by (nat_lt m.value 32) refl (nat_lt (m.value - 32) holder) refl (at done (m.value - 32)) refl
    where
      typed : with_type src read holder m done ≡ Ok known
      typed =
          let first = bind_ok (with_type src read holder m done) (λ mid. demand (meets m.asked (type_named src.version mid m.value)) (unmet m m.asked) >>= λ met. Ok mid) known e in
          let second = bind_ok (demand (meets m.asked (type_named src.version first.0 m.value)) (unmet m m.asked)) (λ met. Ok first.0) known first.2 in
          first.1 ∙ second.2

      by : (small : Bool) → nat_lt m.value 32 ≡ small → (before : Bool) → nat_lt (m.value - 32) holder ≡ before → (a : Option Finished) → at done (m.value - 32) ≡ a
          → AllByRecursion (Within (type_named src.version known m.value)) (cond (cond small false (cond before (not (is_some a)) false)) (leaves (m.value - 32) holder done) [])
      by true small before is a found = tt
      by false large false is a found = tt
      by false large true is (Some f) found = tt
      by false large true is None found =
          let opened : (demand true (faults.Range m.at m.value) >>= λ u. found_or_read read holder m done None) ≡ Ok known
          = sym (ap (λ b. demand b (faults.Range m.at m.value) >>= λ u. found_or_read read holder m done (at done (m.value - 32))) is ∙ ap (λ a. demand true (faults.Range m.at m.value) >>= λ u. found_or_read read holder m done a) found)
          ∙ sym (ap (λ b. cond b (with_basic src.version m done) (with_descriptor read holder m done)) large) ∙ typed in
          let read_so = named_ok m (read (m.value - 32) holder done) known opened in
          let before : m.value - 32 < holder = grind (arith, nat_tests) in
          let le : 32 ≤ m.value = grind (arith, nat_tests) in
          let taken = reads (m.value - 32) holder done known before within fine found read_so in
          let is_type : taken.1.tree ≡ type_named src.version known m.value = sym (named_block src known m.value le ∙ ap finished_tree taken.2) in
          subst (λ (t : Tree). AllByRecursion (Within t) (leaves (m.value - 32) holder done)) is_type (leave (m.value - 32) holder done known taken.1 before within fine found read_so taken.2)

  pub all_reached : (ms : List Mention) (done known : Table) → Fine src done → resolve_all src read holder ms done ≡ Ok known → AllByRecursion (StandsIn (types_of src.version known ms)) (left_by_types src read leaves holder ms done)
  all_reached [] done known fine e = tt
  all_reached (m ∷ ms) done known fine e =
      let first = bind_ok (resolve src read holder m done) (resolve_all src read holder ms) known e in
      let mid = first.0 in
      let one = resolve_known src read reads holder within m done mid fine first.1 in
      let others = all_known src read reads holder within ms mid known one.0.fine first.2 in
      let still : type_named src.version known m.value ≡ type_named src.version mid m.value = named_still src mid known holder m.value others.0.kept one.1.0 in
      let types : List Tree = types_of src.version known (m ∷ ms) in
      let here : AllByRecursion (StandsIn types) (left_by_type leaves holder m.value done)
      = all_weaker (Within (type_named src.version mid m.value)) (StandsIn types)
      (λ t inner. (type_named src.version mid m.value, subst (Contains types) still (first_has (type_named src.version known m.value) (types_of src.version known ms)), inner)) (left_by_type leaves holder m.value done)
      (one_reached m done mid fine first.1) in
      let rest : AllByRecursion (StandsIn types) (left_by_types src read leaves holder ms mid)
      = all_weaker (StandsIn (types_of src.version known ms)) (StandsIn types) (λ t. stands_later (type_named src.version known m.value) (types_of src.version known ms) t) (left_by_types src read leaves holder ms mid)
      (all_reached ms mid known one.0.fine first.2) in
      all_append (StandsIn types) (left_by_type leaves holder m.value done) (if_well (resolve src read holder m done) (left_by_types src read leaves holder ms)) here
      (subst (λ (r : Result Table ByteFault). AllByRecursion (StandsIn types) (if_well r (left_by_types src read leaves holder ms))) (sym first.1) rest)

module _ (src : Sections) (strings : IsBytes src.strings) (bytes : IsBytes src.body) where
  finish_within : (read : ReadsBlock) → ReadsSoundly src read → (leaves : LeavesBlock) → LeavesWithin src read leaves → (offset holder to : ℕ) (done known : Table) (f : Finished) → offset < holder → holder ≤ length src.body → Fine src done
      → (r : Result (Flat × Ahead) Stopped) → flat_at src (start (window src offset to)) ≡ r → finish src read offset r done ≡ Ok known → at known offset ≡ Some f → AllByRecursion (Within f.tree) (left_by_block src read leaves offset r done)
  finish_within read reads leaves leave offset holder to done known f before within fine (Err s) e h found =
      let no = bind_ok (resolve_all src read offset s.mentions done) (λ mid. Err s.fault) known h in
      absurd (let err = no.2 in cc)
  finish_within read reads leaves leave offset holder to done known f before within fine (Ok x) e h found =
      let flat = flat_took src strings (start (window src offset to)) (window_fits src offset to bytes) x.0 x.1 e in
      let ms = (x.1).mentions in
      let fin_of : Table → Finished = λ mid. record { end = offset_of src x.1; tree = tree_spelled src.version mid x.0 } in
      let resolved = bind_ok (resolve_all src read offset ms done) (λ mid. Ok (with_block mid offset (fin_of mid))) known h in
      let mid = resolved.0 in
      let whole : Tree = tree_spelled src.version mid x.0 in
      let is : f ≡ fin_of mid = some_is f (fin_of mid) (at known offset) found (ap (λ (t : Table). at t offset) (sym (done_is (with_block mid offset (fin_of mid)) known resolved.2)) ∙ found_new mid offset (fin_of mid)) in
      let asks = asks_from (start (window src offset to)) x.1 (shape_asks x.0) refl flat.went in
      let own : Table → List Tree = λ t. tree_spelled src.version t x.0 ∷ [] in
      let named : AllByRecursion (Within whole) (left_by_types src read leaves offset ms done)
      = all_weaker (StandsIn (types_of src.version mid ms)) (Within whole) (λ t stands. stands_within whole t (subst (λ (ts : List Tree). StandsIn ts t) (sym (parts_are src.version mid ms x.0 asks)) stands)) (left_by_types src read leaves offset ms done)
      (all_reached src read reads leaves leave offset (omega arith) ms done mid fine resolved.1) in
      let all : AllByRecursion (Within whole) (left_by_block src read leaves offset (Ok x) done)
      = all_append (Within whole) (left_by_types src read leaves offset ms done) (if_well (resolve_all src read offset ms done) own) named
      (subst (λ (r : Result Table ByteFault). AllByRecursion (Within whole) (if_well r own)) (sym resolved.1) (itself whole, tt)) in
      subst (λ (g : Finished). AllByRecursion (Within g.tree) (left_by_block src read leaves offset (Ok x) done)) (sym is) all

  pub block_leaves : (n : ℕ) → LeavesWithin src (block_at src n) (left_at src n)
  unfolding block_at left_at
  block_leaves zero offset holder done known f before within fine none e found = absurd (cc)
  block_leaves (suc n) offset holder done known f before within fine none e found =
      finish_within (block_at src n) (block_takes src strings bytes n) (left_at src n) (block_leaves n) offset holder (free_to offset holder done) done known f before within fine
      (flat_at src (start (window src offset (free_to offset holder done)))) refl e found
