-- The types of a block that is spelled are read: each is a block of the same table.
use Rattle.std.proofs.Common.{◌≡◌, ◌≢◌, ℕ, ◌+◌, ◌-◌, ◌<◌, ◌≤◌, ◌⊎◌, inl, inr, List, [], ◌∷◌, map, Contains, true, false, Result, Ok, Option, Some, None, is_some, nat_lt, nat_le, refl, sym, ◌∙◌, ap, subst, arith}
use Rattle.std.specs.List.{AllByRecursion}
use Rattle.std.proofs.lemmas.Bool.Decides.{nat_tests}
use Rattle.wire_bytes.specs.declared.fault.ByteFault.{ByteFault}
use Rattle.wire_bytes.specs.Reading.{◌>>=◌}
use Rattle.decl_spelling.specs.declared.mention.Mention.{Mention}
use Rattle.decl_spelling.specs.Sections.{Sections}
use Rattle.decl_spelling.specs.Codes.{basic_of}
use Rattle.decl_spelling.specs.Tables.{Finished, Table, at, free_to, basic_tree, finished_tree, type_named}
use Rattle.decl_spelling.specs.Descent.{ReadsBlock, meets, named_at, found_or_read, with_type, resolve, resolve_all}
use Rattle.decl_spelling.specs.Spelling.{Block, Known, Names, Sound}
use Rattle.decl_spelling.specs.Asks.{Ask, ask_of}
use Rattle.decl_spelling.proofs.Took.{meets_unplaced}
use Rattle.decl_spelling.proofs.TableLaws.{block, finished_of, found_all, none_there, stop_far}
use Rattle.decl_spelling.specs.KnownTypes.{Kept, IsKnown}
use Rattle.decl_spelling.proofs.KnownTypeLemmas.{known_still, named_basic, named_block}
use Rattle.decl_spelling.proofs.AskLemmas.{IsNamed}
use Rattle.decl_spelling.proofs.NewBlocks.{block_some}
use Rattle.decl_spelling.proofs.MapLemmas.{all_weaker, all_unmap, all_both}

-- a mention of a type that its holder may name, and asks for
abbrev pub IsNameable : Sections → List Block → ℕ → Mention → Type 0
IsNameable src all holder m = (x : Known) × Names src all holder x × (x.number ≡ m.value) × (meets m.asked x.tree ≡ true)

pub mentions_named : (src : Sections) (all : List Block) (holder : ℕ) (ms : List Mention) (asks : List Ask) → map ask_of ms ≡ asks → AllByRecursion (IsNamed src all holder) asks → AllByRecursion (IsNameable src all holder) ms
mentions_named src all holder ms asks same named =
    all_weaker (λ m. IsNamed src all holder (ask_of m)) (IsNameable src all holder) (λ m known. (known.0, known.1, known.2, sym (meets_unplaced m.asked (known.0).tree) ∙ known.3)) ms
    (all_unmap (IsNamed src all holder) ask_of ms (subst (AllByRecursion (IsNamed src all holder)) (sym same) named))

module _ (src : Sections) (all : List Block) where
  -- each finished descriptor is one of the blocks
  abbrev pub Inside : Table → Type 0
  Inside done = AllByRecursion (λ e. Contains all (block e.0 e.1)) done

  -- what is asked of a reader of descriptors
  abbrev pub ReadsAgain : ReadsBlock → ℕ → Type 0
  ReadsAgain read holder = (b : Block) (done : Table) → Contains all b → b.end ≤ holder → Inside done → at done b.start ≡ None
      → (known : Table) × (read b.start holder done ≡ Ok known) × Inside known × Kept done known × (at known b.start ≡ Some (finished_of b))

  module _ (sound : Sound src all) where
    pub one_block : (a b : Block) → Contains all a → Contains all b → a.start ≡ b.start → a ≡ b
    one_block a b has_a has_b same =
        let some_a : a.start < a.end = block_some src all a (sound.each a has_a) in
        let some_b : b.start < b.end = block_some src all b (sound.each b has_b) in
        elim (sound.apart a b has_a has_b) [
          | inl is ↦ is
          | inr (inl before) ↦ absurd (omega arith)
          | inr (inr behind) ↦ absurd (omega arith)
        ]

    pub found_one : (done : Table) (b : Block) (f : Finished) → Inside done → Contains all b → at done b.start ≡ Some f → f ≡ finished_of b
    found_one done b f inside has found =
        ap finished_of (one_block (block b.start f) b (found_all (λ e. Contains all (block e.0 e.1)) done b.start f inside found) has refl)

    -- all that is finished is apart from another block
    pub block_free : (b : Block) (holder : ℕ) (done : Table) → Contains all b → b.end ≤ holder → Inside done → at done b.start ≡ None → b.end ≤ free_to b.start holder done
    block_free b holder done has within inside none =
        stop_far b.start holder b.end done (block_some src all b (sound.each b has)) within
        (all_both (λ e. Contains all (block e.0 e.1)) (λ e. e.0 ≢ b.start) (λ e. (e.1.end ≤ b.start) ⊎ (b.end ≤ e.0)) apart done inside (none_there done b.start none))
      where
        apart : (e : ℕ × Finished) → Contains all (block e.0 e.1) → e.0 ≢ b.start → (e.1.end ≤ b.start) ⊎ (b.end ≤ e.0)
        apart e inside other =
            elim (sound.apart (block e.0 e.1) b inside has) [
              | inl same ↦ absurd (other (ap (λ (x : Block). x.start) same))
              | inr away ↦ away
            ]

    -- the type that is known is the one that the relation names
    pub tree_is : (known : Table) (holder : ℕ) (x : Known) → Inside known → IsKnown src known holder x.number → Names src all holder x → type_named src.version known x.number ≡ x.tree
    tree_is known holder x inside is (inl small) = let basic : basic_of src.version x.number ≡ Some small.1 = small.2 in named_basic src known x.number small.0 ∙ ap basic_tree basic ∙ sym small.3
    tree_is known holder x inside (inl tiny) (inr large) = let lt = tiny.0 in let e = large.2 in absurd (omega arith)
    tree_is known holder x inside (inr is) (inr large) =
        let e = large.2 in
        let there : x.number - 32 ≡ (large.0).start = omega arith in
        let found : at known (large.0).start ≡ Some is.1 = ap (at known) (sym there) ∙ is.2 in
        let one : is.1 ≡ finished_of large.0 = found_one known large.0 is.1 inside large.1 found in
        named_block src known x.number is.0 ∙ ap finished_tree is.2 ∙ ap (λ (f : Finished). f.tree) one ∙ sym large.4

    module _ (read : ReadsBlock) (holder : ℕ) (reads : ReadsAgain read holder) where
      -- what resolving leaves
      abbrev Resolved : Result Table ByteFault → Table → ℕ → Type 0
      Resolved r done n = (known : Table) × (r ≡ Ok known) × Inside known × Kept done known × IsKnown src known holder n

      found_again : (m : Mention) (done : Table) (b : Block) → Contains all b → m.value ≡ 32 + b.start → b.end ≤ holder → Inside done → (a : Option Finished) → at done b.start ≡ a → Resolved (found_or_read read holder m done a) done m.value
      found_again m done b has is within inside (Some f) found =
          let one : f ≡ finished_of b = found_one done b f inside has found in
          let end : f.end ≡ b.end = ap (λ (x : Finished). x.end) one in
          let fits : nat_le f.end holder ≡ true = grind (arith, nat_tests) in
          let there : b.start ≡ m.value - 32 = omega arith in
          (done, rw fits refl, inside, λ o g found. found, inr (omega arith, f, ap (at done) (sym there) ∙ found, omega arith))
      found_again m done b has is within inside None none =
          let again = reads b done has within inside none in
          let there : m.value - 32 ≡ b.start = omega arith in
          let found : at again.0 b.start ≡ Some (finished_of b) = again.4 in (
            again.0,
            ap (λ (o : ℕ). named_at m (read o holder done)) there ∙ ap (named_at m) again.1,
            again.2,
            again.3,
            inr (omega arith, finished_of b, ap (at again.0) there ∙ found, within),
          )

      type_again : (m : Mention) (done : Table) (x : Known) → Names src all holder x → x.number ≡ m.value → Inside done → Resolved (with_type src read holder m done) done m.value
      type_again m done x (inl small) same inside =
          let lt : m.value < 32 = let lt' = small.0 in omega arith in
          let test : nat_lt m.value 32 ≡ true = grind (arith, nat_tests) in
          let basic : basic_of src.version m.value ≡ Some small.1 = ap (basic_of src.version) (sym same) ∙ small.2 in
          let is : is_some (basic_of src.version m.value) ≡ true = ap is_some basic in
          (done, rw (test, is) refl, inside, λ o f found. found, inl (lt, is))
      type_again m done x (inr large) same inside =
          let b = large.0 in
          let number : m.value ≡ 32 + b.start = sym same ∙ large.2 in
          let some : b.start < b.end = block_some src all b (sound.each b large.1) in
          let within : b.end ≤ holder = large.3 in
          let test : nat_lt m.value 32 ≡ false = grind (arith, nat_tests) in
          let there : m.value - 32 ≡ b.start = omega arith in
          let before : nat_lt (m.value - 32) holder ≡ true = grind (arith, nat_tests) in
          let found = found_again m done b large.1 number within inside (at done (m.value - 32)) (ap (at done) (sym there)) in
          (found.0, rw (test, before) found.1, found.2, found.3, found.4)

      resolve_again : (m : Mention) (done : Table) → IsNameable src all holder m → Inside done → Resolved (resolve src read holder m done) done m.value
      resolve_again m done named inside =
          let typed = type_again m done named.0 named.1 named.2 inside in
          let known = typed.0 in
          let is : IsKnown src known holder (named.0).number = subst (IsKnown src known holder) (sym named.2) typed.4 in
          let tree : type_named src.version known m.value ≡ (named.0).tree = ap (type_named src.version known) (sym named.2) ∙ tree_is known holder named.0 typed.2 is named.1 in
          let met : meets m.asked (type_named src.version known m.value) ≡ true = ap (meets m.asked) tree ∙ named.3 in
          let first : with_type src read holder m done ≡ Ok known = typed.1 in
          (known, rw (first, met) refl, typed.2, typed.3, typed.4)

      pub all_again : (ms : List Mention) (done : Table) → AllByRecursion (IsNameable src all holder) ms → Inside done
          → (known : Table) × (resolve_all src read holder ms done ≡ Ok known) × Inside known × Kept done known × AllByRecursion (λ m. IsKnown src known holder m.value) ms
      all_again [] done named inside = (done, refl, inside, λ o f found. found, tt)
      all_again (m ∷ ms) done named inside =
          let first = resolve_again m done named.0 inside in
          let others = all_again ms first.0 named.1 first.2 in (
            others.0,
            ap (λ (r : Result Table ByteFault). r >>= resolve_all src read holder ms) first.1 ∙ others.1,
            others.2,
            λ o f found. others.3 o f (first.3 o f found),
            (known_still src first.0 others.0 holder m.value others.3 first.4, others.4),
          )
