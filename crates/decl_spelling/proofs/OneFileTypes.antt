-- The types that one file has: what stands in them, and that there are no more than typeOffs.
use Rattle.std.proofs.Common.{◌≡◌, ◌≢◌, ℕ, suc, ◌<◌, ◌≤◌, ◌⊎◌, inl, inr, List, [], ◌∷◌, length, map, Contains, true, false, eqb, refl, sym, ◌∙◌, ap, subst, arith}
use Rattle.std.specs.List.{AllByRecursion, AllPairs, IsDistinct, list_any}
use Rattle.std.proofs.lemmas.Bool.{cases_Bool}
use Rattle.std.proofs.lemmas.Bool.Decides.{nat_tests}
use Rattle.std.proofs.lemmas.Map.Steps.{length-le_from_distinct_below}
use Rattle.std.proofs.lemmas.List.Elements.{All-contains}
use Rattle.type_terms.specs.Shapes.{shape_types, retype}
use Rattle.type_terms.specs.ShapeLaws.{shape_types_map}
use Rattle.type_terms.specs.Trees.{Tree, predeclared}
use Rattle.type_terms.specs.TreeLevels.{level_of-tree_of}
use Rattle.type_terms.specs.Parts.{Within, itself, inside, parts}
use Rattle.decl_spelling.specs.Sections.{Sections, HoldsBytes}
use Rattle.decl_spelling.specs.Spelled.{SpelledText, SpelledPath, SpelledPos, meant}
use Rattle.decl_spelling.specs.Codes.{basic_of}
use Rattle.decl_spelling.specs.Spelling.{Block, Known, Names, Sound}
use Rattle.decl_spelling.specs.OneFile.{NamesType, IsOfFile, type_count}
use Rattle.decl_spelling.proofs.TableLaws.{has_where, has_none, some_is, first_has, later_has}
use Rattle.decl_spelling.proofs.NewBlocks.{block_some}
use Rattle.decl_spelling.proofs.DeclAtLaws.{one_type}
use Rattle.decl_spelling.proofs.LeavingReach.{meant_types}

-- ---- what stands in a type of the file is one

-- what a block names is named in the file
pub named_in_file : (src : Sections) (blocks : List Block) (holder : ℕ) (x : Known) → Sound src blocks → Names src blocks holder x → IsOfFile src x.tree
named_in_file src blocks holder x sound (inl basic) = (x.number, (blocks, sound, inl basic))
named_in_file src blocks holder x sound (inr block) =
    let says = sound.each block.0 block.1 in
    (x.number, (blocks, sound, inr (block.0, block.1, block.2, omega (arith, says.ends), block.4)))

pub mapped_has : (xs : List Known) (t : Tree) → Contains (map (λ (x : Known). x.tree) xs) t → (x : Known) × Contains xs x × (x.tree ≡ t)
mapped_has [] t has = absurd (has_none t has)
mapped_has (x ∷ xs) t has =
    elim (has_where x.tree t (map (λ (x : Known). x.tree) xs) has) [
      | inl here ↦ (x, first_has x xs, here)
      | inr later ↦ let rest = mapped_has xs t later in (rest.0, later_has x rest.0 xs rest.1, rest.2)
    ]

part_of_file : (src : Sections) (type part : Tree) → Contains (parts type) part → IsOfFile src type → IsOfFile src part
part_of_file src type part has (number, (blocks, sound, inl basic)) =
    absurd (has_none part (subst (λ (t : Tree). Contains (parts t) part) basic.3 has))
part_of_file src type part has (number, (blocks, sound, inr block)) =
    let says = sound.each block.0 block.1 in
    let trees : parts type ≡ map (λ (x : Known). x.tree) (shape_types says.parts)
    = ap parts (block.4 ∙ says.type) ∙ ap shape_types (level_of-tree_of (meant (retype (λ (x : Known). x.tree) says.parts))) ∙ meant_types (retype (λ (x : Known). x.tree) says.parts)
    ∙ shape_types_map (λ (p : SpelledPos). p) (λ (t : SpelledText). t) (λ (t : SpelledPath). t) (λ (x : Known). x.tree) says.parts in
    let known = mapped_has (shape_types says.parts) part (subst (λ (ts : List Tree). Contains ts part) trees has) in
    subst (IsOfFile src) known.2 (named_in_file src blocks block.0.start known.0 sound (All-contains (Names src blocks block.0.start) (shape_types says.parts) known.0 says.named known.1))

pub within_file : (src : Sections) (type part : Tree) → Within type part → IsOfFile src type → IsOfFile src part
within_file src type part (itself t) of = of
within_file src type below (inside t part b has within) of = within_file src part below within (part_of_file src type part has of)

-- ---- a number names one type, and is below the count

number_below : (src : Sections) (number : ℕ) (type : Tree) → NamesType src number type → number < type_count src
number_below src number type (blocks, sound, inl basic) = omega (arith, basic.0)
number_below src number type (blocks, sound, inr block) =
    let some = block_some src blocks block.0 (sound.each block.0 block.1) in
    omega (arith, block.2, block.3, some)

pub one_named : (src : Sections) → HoldsBytes src → (number : ℕ) (a b : Tree) → NamesType src number a → NamesType src number b → a ≡ b
one_named src holds number a b (some, sound, inl x) (others, sound', inl y) =
    x.3 ∙ ap predeclared (some_is x.1 y.1 (basic_of src.version number) x.2 y.2) ∙ sym y.3
one_named src holds number a b (some, sound, inl x) (others, sound', inr y) = absurd (omega (arith, x.0, y.2))
one_named src holds number a b (some, sound, inr x) (others, sound', inl y) = absurd (omega (arith, y.0, x.2))
one_named src holds number a b (some, sound, inr x) (others, sound', inr y) =
    let start : x.0.start ≡ y.0.start = omega (arith, x.2, y.2) in
    x.4 ∙ ap (λ (z : Block). z.tree) (one_type src holds some others sound sound' x.0 y.0 x.1 y.1 start) ∙ sym y.4

-- ---- so there are no more of them

-- the numbers of some types
abbrev Each : Sections → List Tree → Type 0
Each src types = (t : Tree) → Contains types t → IsOfFile src t

abbrev numbers_for : (src : Sections) (types : List Tree) → Each src types → List ℕ
numbers_for src [] each = []
numbers_for src (t ∷ ts) each = (each t (first_has t ts)).0 ∷ numbers_for src ts (λ x has. each x (later_has t x ts has))

numbers_length : (src : Sections) (types : List Tree) (each : Each src types) → length (numbers_for src types each) ≡ length types
numbers_length src [] each = refl
numbers_length src (t ∷ ts) each = ap suc (numbers_length src ts (λ x has. each x (later_has t x ts has)))

-- each number names one of the types
number_names : (src : Sections) (types : List Tree) (each : Each src types) (q : ℕ) → list_any (eqb q) (numbers_for src types each) ≡ true → (t : Tree) × Contains types t × NamesType src q t
number_names src [] each q any = absurd (cc)
number_names src (t ∷ ts) each q any = by (number_names src ts (λ x has. each x (later_has t x ts has)) q) (cases_Bool (eqb q (each t (first_has t ts)).0))
  where
    rest : Each src ts
    rest x has = each x (later_has t x ts has)

    by : (list_any (eqb q) (numbers_for src ts rest) ≡ true → (u : Tree) × Contains ts u × NamesType src q u) → (eqb q (each t (first_has t ts)).0 ≡ true) ⊎ (eqb q (each t (first_has t ts)).0 ≡ false) → (u : Tree) × Contains (t ∷ ts) u × NamesType src q u
    by others (inl same) =
        let is : (each t (first_has t ts)).0 ≡ q = grind (arith, nat_tests) in
        (t, first_has t ts, subst (λ (n : ℕ). NamesType src n t) is (each t (first_has t ts)).1)
    by others (inr other) =
        let later = others (rw other at any) in
        (later.0, later_has t later.0 ts later.1, later.2)

numbers_apart : (src : Sections) → HoldsBytes src → (types : List Tree) (each : Each src types) → AllPairs (λ x y. x ≢ y) types → IsDistinct eqb (numbers_for src types each)
unfolding IsDistinct
numbers_apart src holds [] each apart = tt
numbers_apart src holds (t ∷ ts) each apart =
    (none (numbers_for src ts rest) (λ q any. q_other q any), numbers_apart src holds ts rest (λ i j d less within. apart (suc i) (suc j) d (omega arith) (omega arith)))
  where
    rest : Each src ts
    rest x has = each x (later_has t x ts has)

    number : ℕ
    number = (each t (first_has t ts)).0

    q_other : (q : ℕ) → list_any (eqb q) (numbers_for src ts rest) ≡ true → number ≢ q
    q_other q any same =
        let named = number_names src ts rest q any in
        let other : t ≢ named.0 = λ e. apart 0 (suc named.1.0) named.0 (omega arith) (omega (arith, named.1.1)) (e ∙ sym named.1.2) in
        other (one_named src holds q t named.0 (subst (λ (n : ℕ). NamesType src n t) same (each t (first_has t ts)).1) named.2)

    none : (qs : List ℕ) → ((q : ℕ) → list_any (eqb q) qs ≡ true → number ≢ q) → AllByRecursion (λ y. eqb number y ≡ false) qs
    none [] others = tt
    none (q ∷ qs) others = (
      (let ne : number ≢ q = others q (let same : eqb q q ≡ true = grind (arith, nat_tests) in rw same refl) in grind (arith, nat_tests)),
      none qs (λ x any. others x (later x q qs any)),
    )
      where
        later : (x q : ℕ) (qs : List ℕ) → list_any (eqb x) qs ≡ true → list_any (eqb x) (q ∷ qs) ≡ true
        later x q qs any = elim (cases_Bool (eqb x q)) [ inl same ↦ rw same refl | inr other ↦ rw other any ]

-- Types of one file, no two of which are the same, are no more than its typeOffs may be.
pub few_types : (src : Sections) → HoldsBytes src → (types : List Tree) → AllPairs (λ x y. x ≢ y) types → ((t : Tree) → Contains types t → IsOfFile src t) → length types ≤ type_count src
few_types src holds types apart each =
    let distinct = numbers_apart src holds types each apart in
    let below : (q : ℕ) → list_any (eqb q) (numbers_for src types each) ≡ true → q < type_count src = λ q any. let named = number_names src types each q any in number_below src q named.0 named.2 in
    let count = length-le_from_distinct_below (numbers_for src types each) (type_count src) distinct below in
    omega (arith, numbers_length src types each, count)
