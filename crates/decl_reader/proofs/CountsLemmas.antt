-- The steps that reading a declaration takes.
use Rattle.std.proofs.Common.{◌≡◌, ℕ, ◌+◌, ◌-◌, ◌≤◌, [], ◌∷◌, length, Result, Ok, Err, refl, sym, ap, subst, ◌∙◌, arith}
use Rattle.std.specs.Prelude.{IfOk}
use Rattle.std.specs.List.{AllByRecursion, sum_by}
use Rattle.std.proofs.lemmas.List.Sums.{sum_by-cons}
use Rattle.wire_bytes.specs.declared.fault.ByteFault.{ByteFault}
use Rattle.decl_spelling.specs.Sections.{Sections, Basics, HoldsBytes}
use Rattle.decl_spelling.specs.Declarations.{Read, read_at}
use Rattle.decl_spelling.proofs.DeclAtLaws.{strings_are, body_is}
use Rattle.decl_spelling.proofs.Lengths.{block_length, decl_lies}
use Rattle.decl_spelling.specs.Tables.{Table}
use Rattle.shared_reading.specs.Memory.{block_of, blocks_in, IsMemory}
use Rattle.shared_reading.specs.WithMemory.{read_with, or_same}
use Rattle.shared_reading.specs.Counted.{byte_count, stretch_of, bytes_in, steps_of}
use Rattle.shared_reading.proofs.SharedReads.{Alone, read_alone, alone_with, stays_memory}
use Rattle.shared_reading.proofs.TurnCounts.{more_bytes, few_steps}
use Rattle.decl_reader.specs.Places.{IsStacked, EndsBy, bytes_of}
use Rattle.decl_reader.specs.Progress.{Counts}
use Rattle.decl_reader.specs.Wholes.{reached, CountsNew}

-- blocks that share no byte have no more bytes than the section
stacked_bytes : (low limit : ℕ) (es : Table) → low ≤ limit → IsStacked es → AllByRecursion (λ e. low ≤ e.0) es → EndsBy limit es → bytes_of es + low ≤ limit
stacked_bytes low limit [] fits stacked above ends = omega (arith, fits)
stacked_bytes low limit (e ∷ es) fits stacked above ends =
    let rest = stacked_bytes e.1.end limit es ends.0 stacked.2 stacked.1 ends.1 in
    omega (arith, rest, stacked.0, above.0)

from_zero : (es : Table) → AllByRecursion (λ e. 0 ≤ e.0) es
from_zero [] = tt
from_zero (e ∷ es) = (omega arith, from_zero es)

own_bytes : (limit : ℕ) (done : Table) → IsStacked done → EndsBy limit done → bytes_of done ≤ limit
own_bytes limit done stacked ends = omega (arith, stacked_bytes 0 limit done (omega arith) stacked (from_zero done) ends)

pub counts_most : (limit old new : ℕ) (memory done : Table) → IsStacked done → EndsBy limit done → Counts old memory new done → new ≤ old + limit
counts_most limit old new memory done stacked ends counts = omega (arith, own_bytes limit done stacked ends, counts)

pub counts_twice : (a b c : ℕ) (xs ys zs : Table) → Counts a xs b ys → Counts b ys c zs → Counts a xs c zs
counts_twice a b c xs ys zs first second = omega (arith, first, second)

pub counts_first : (a b : ℕ) (memory xs ys : Table) → xs ≡ memory → Counts a xs b ys → Counts a memory b ys
counts_first a b memory xs ys same counts = subst (λ (es : Table). Counts a es b ys) same counts

pub if_either : {T E : Type 0} {Q : Type 0} (r : Result T E) → Q → IfOk r (λ x. Q)
if_either (Ok x) q = q
if_either (Err e) q = tt

table_bytes : (done : Table) → sum_by block_length done ≡ bytes_of done
table_bytes [] = refl
table_bytes (e ∷ es) = sum_by-cons block_length e es ∙ ap (λ n. e.1.end - e.0 + n) (table_bytes es)

new_bytes : (done : Table) → bytes_in done ≡ bytes_of done
new_bytes [] = refl
new_bytes (e ∷ es) = sum_by-cons (λ block. byte_count (stretch_of block)) (block_of e) (blocks_in es) ∙ ap (λ n. e.1.end - e.0 + n) (new_bytes es)

-- a declaration that was read whole
module _ (src : Sections) (basics : Basics) (holds : HoldsBytes src) (memory : Table) (is_memory : IsMemory src memory) (offset : ℕ) (x : Read) (is : read_with src basics memory offset ≡ Ok x) where
  abbrev by_itself : Alone src basics holds memory offset x
  by_itself = read_alone src basics holds memory offset x is_memory is

  pub lies_in : (src.body_at + offset ≤ x.end) × (x.end ≤ src.body_at + length src.body)
  lies_in =
      let lies = decl_lies src basics (strings_are src holds) (body_is src holds) offset by_itself.alone by_itself.is in
      (omega (arith, lies.starts, by_itself.end), omega (arith, lies.ends, by_itself.end))

  pub steps_most : steps_of src memory offset x ≤ length src.body
  steps_most = few_steps src basics holds memory is_memory offset x is

  more_bytes_in : bytes_in memory ≤ bytes_in x.table
  more_bytes_in =
      let wider : IsMemory src x.table = subst (IsMemory src) (ap (or_same memory) is) (stays_memory src basics holds memory is_memory offset) in
      more_bytes src memory x.table is_memory wider by_itself.has_memory

  pub steps_are : (done : Table) (old mid new more : ℕ) → x.table ≡ done → Counts old memory mid done → new ≡ mid + more → more ≡ x.end - (src.body_at + offset) → new ≡ old + steps_of src memory offset x
  steps_are done old mid new more table counts added own =
      let bytes : bytes_in x.table ≡ bytes_of done = ap bytes_in table ∙ new_bytes done in
      omega (arith, bytes, new_bytes memory, more_bytes_in, counts, added, own)

  pub counts_new : (old new : ℕ) → new ≡ old + steps_of src memory offset x → IfOk (read_with src basics memory offset) (λ read. new ≡ old + steps_of src memory offset read)
  counts_new old new counted = subst (λ (r : Result Read ByteFault). IfOk r (λ read. new ≡ old + steps_of src memory offset read)) (sym is) counted

-- ---- with nothing remembered

module _ (src : Sections) (basics : Basics) (holds : HoldsBytes src) (offset : ℕ) where
  pub alone : read_with src basics [] offset ≡ read_at src basics offset
  alone = alone_with src basics holds offset (read_at src basics offset) refl

  steps_alone : (x : Read) → steps_of src [] offset x ≡ reached src offset x
  steps_alone x = omega (arith, new_bytes x.table, table_bytes x.table)

  pub reached_alone : (before after : ℕ) → IfOk (read_with src basics [] offset) (λ x. after ≡ before + steps_of src [] offset x) → IfOk (read_at src basics offset) (λ x. after ≡ before + reached src offset x)
  reached_alone before after counted =
      by (read_at src basics offset) (subst (λ (r : Result Read ByteFault). IfOk r (λ x. after ≡ before + steps_of src [] offset x)) alone counted)
    where
      by : (r : Result Read ByteFault) → IfOk r (λ x. after ≡ before + steps_of src [] offset x) → IfOk r (λ x. after ≡ before + reached src offset x)
      by (Ok x) counts = counts ∙ ap (λ (n : ℕ). before + n) (steps_alone x)
      by (Err f) counts = tt

-- the same of the counter as it is called elsewhere
pub counted_as : {X E : Type 0} (src : Sections) (basics : Basics) (memory : Table) (offset : ℕ) (r : Result X E) (before after last : ℕ) → CountsNew src basics memory offset r before after → after ≡ last → CountsNew src basics memory offset r before last
counted_as {X} {E} src basics memory offset r before after last counted same = subst (λ (n : ℕ). CountsNew src basics memory offset r before n) same counted

pub at_most_as : (after last most : ℕ) → after ≤ most → after ≡ last → last ≤ most
at_most_as after last most le same = omega (arith, le, same)
