-- Which types the typeOffs of a block name, by a table of finished descriptors.
use Rattle.std.proofs.Common.{◌≡◌, ℕ, ◌-◌, ◌<◌, ◌≤◌, inl, inr, List, Contains, true, false, Option, Some, None, is_some, nat_lt, refl, sym, ◌∙◌, ap, arith}
use Rattle.std.proofs.lemmas.Bool.Decides.{nat_tests}
use Rattle.code_tables.specs.declared.predeclared.Basic.{Basic}
use Rattle.decl_spelling.specs.declared.mention.Mention.{Mention}
use Rattle.decl_spelling.specs.Sections.{Sections}
use Rattle.decl_spelling.specs.Codes.{basic_of}
use Rattle.decl_spelling.specs.Spelled.{SpelledType}
use Rattle.decl_spelling.specs.Tables.{Table, at, basic_tree, finished_tree, type_named, type_spelled}
use Rattle.decl_spelling.specs.Descent.{meets}
use Rattle.decl_spelling.specs.KnownTypes.{Kept, IsKnown, IsAnswered}
use Rattle.decl_spelling.specs.Spelling.{Block, Known, Names}
use Rattle.decl_spelling.proofs.TableLaws.{block, blocks_of, block_found}

abbrev pub known_as : Sections → Table → SpelledType → Known
known_as src done t = record { number = t.number; pos = t.pos; tree = type_spelled src.version done t }

-- ---- by the test for the two kinds

pub named_basic : (src : Sections) (done : Table) (n : ℕ) → n < 32 → type_named src.version done n ≡ basic_tree (basic_of src.version n)
named_basic src done n small = let test : nat_lt n 32 ≡ true = grind (arith, nat_tests) in rw test refl

pub named_block : (src : Sections) (done : Table) (n : ℕ) → 32 ≤ n → type_named src.version done n ≡ finished_tree (at done (n - 32))
named_block src done n large = let test : nat_lt n 32 ≡ false = grind (arith, nat_tests) in rw test refl

the_basic : (a : Option Basic) → is_some a ≡ true → (basic : Basic) × (a ≡ Some basic)
the_basic (Some basic) e = (basic, refl)
the_basic None e = absurd (cc)

pub known_named : (src : Sections) (done : Table) (holder : ℕ) (t : SpelledType) → IsKnown src done holder t.number → Names src (blocks_of done) holder (known_as src done t)
known_named src done holder t (inl small) =
    let n = t.number in
    let basic = the_basic (basic_of src.version n) small.1 in
    inl (small.0, basic.0, basic.1, named_basic src done n small.0 ∙ ap basic_tree basic.1)
known_named src done holder t (inr large) =
    let n = t.number in
    let found : at done (n - 32) ≡ Some large.1 = large.2 in
    let off = large.0 in
    inr (block (n - 32) large.1, block_found done (n - 32) large.1 found, omega arith, large.3, named_block src done n large.0 ∙ ap finished_tree found)

-- ---- as the table grows

pub known_still : (src : Sections) (done known : Table) (holder n : ℕ) → Kept done known → IsKnown src done holder n → IsKnown src known holder n
known_still src done known holder n kept (inl small) = inl small
known_still src done known holder n kept (inr large) = inr (large.0, large.1, kept (n - 32) large.1 large.2, large.3)

pub named_still : (src : Sections) (done known : Table) (holder n : ℕ) → Kept done known → IsKnown src done holder n → type_named src.version known n ≡ type_named src.version done n
named_still src done known holder n kept (inl small) = named_basic src known n small.0 ∙ sym (named_basic src done n small.0)
named_still src done known holder n kept (inr large) =
    let before : at done (n - 32) ≡ Some large.1 = large.2 in
    named_block src known n large.0 ∙ ap finished_tree (kept (n - 32) large.1 large.2 ∙ sym before) ∙ sym (named_block src done n large.0)

pub answered_still : (src : Sections) (done known : Table) (holder : ℕ) (m : Mention) → Kept done known → IsAnswered src done holder m → IsAnswered src known holder m
answered_still src done known holder m kept answered =
    (known_still src done known holder m.value kept answered.0, ap (meets m.asked) (named_still src done known holder m.value kept answered.0) ∙ answered.1)

-- more blocks name what some of them name
pub names_more : (src : Sections) (some all : List Block) (holder : ℕ) (x : Known) → ((b : Block) → Contains some b → Contains all b) → Names src some holder x → Names src all holder x
names_more src some all holder x more (inl small) = inl small
names_more src some all holder x more (inr large) = inr (large.0, more large.0 large.1, large.2, large.3, large.4)
