-- Readers of things that stand one after the other.
use Rattle.std.proofs.Common.{◌≡◌, ℕ, zero, suc, ◌<◌, ◌≤◌, List, [], ◌∷◌, ◌++◌, length, refl, sym, ap, subst, ◌∙◌, arith}
use Rattle.std.specs.Prelude.{nat_lt}
use Rattle.std.specs.List.{flat_map}
use Rattle.std.proofs.lemmas.Bool.{ltb-true, lt-ltb}
use Rattle.std.proofs.lemmas.List.{map-append}
use Rattle.wire_bytes.specs.declared.fault.ByteFault.TheVariants as faults
use Rattle.wire_bytes.specs.Reading.{place}
use Rattle.decl_spelling.specs.declared.mention.Demand.{Demand}
use Rattle.decl_spelling.specs.Spelled.{SpelledType}
use Rattle.decl_spelling.specs.Reading.{Ahead, Reader, number_at, times, list_at, some_at}
use Rattle.decl_spelling.specs.Grammar.{Here, IsNumber, InTurn, IsList}
use Rattle.decl_spelling.specs.Asks.{Ask, asking}
use Rattle.decl_spelling.proofs.Took.{seen_from, Again}
use Rattle.decl_spelling.proofs.Readers.{went_nowhere, Reads, Two, two_reads, bind_reads, tested_reads}
use Rattle.decl_spelling.proofs.BaseReaders.{number_reads}

-- ---- what a list asks is what its elements ask

pub asking-append : (asked : Demand) (xs ys : List SpelledType) → asking asked xs ++ asking asked ys ≡ asking asked (xs ++ ys)
asking-append asked xs ys = sym (map-append (λ type. (type.number, asked)) xs ys)

pub asking-flat : {X : Type 0} (asked : Demand) (types : X → List SpelledType) (xs : List X) → flat_map (λ x. asking asked (types x)) xs ≡ asking asked (flat_map types xs)
asking-flat asked types [] = refl
asking-flat asked types (x ∷ xs) = ap (λ (asks : List Ask). asking asked (types x) ++ asks) (asking-flat asked types xs) ∙ asking-append asked (types x) (flat_map types xs)

-- ---- the readers

module _ {X : Type 0} (one : Reader X) (F : Here → X → Here → Type 0) (asks : X → List Ask) where
  -- so many of them
  abbrev pub SoMany : ℕ → Here → List X → Here → Type 0
  SoMany n a xs b = InTurn F a xs b × (length xs ≡ n)

  none_again : (a : Ahead) (tail : List ℕ) (xs : List X) (after : Here) → SoMany 0 (seen_from a tail) xs after → Again (times one zero) a xs tail after
  unfolding times
  none_again a tail [] after w = (a, refl, sym w.0)
  none_again a tail (x ∷ xs) after w = absurd (omega (arith, w.1))

  none_shrinks : (a : Here) (xs : List X) (b : Here) → SoMany 0 a xs b → length b.left ≤ length a.left
  none_shrinks a [] b w = omega (arith, ap (λ (h : Here). length h.left) w.0)
  none_shrinks a (x ∷ xs) b w = absurd (omega (arith, w.1))

  more_split : (n : ℕ) (a : Here) (xs : List X) (b : Here) → SoMany (suc n) a xs b → Two one (times one n) F (SoMany n) asks (flat_map asks) (λ x others. x ∷ others) (SoMany (suc n)) (flat_map asks) a xs b
  more_split n a [] b w = absurd (omega (arith, w.1))
  more_split n a (x ∷ xs) b w = record { x = x; y = xs; at_y = w.0.0; first = w.0.1; second = (w.0.2, omega (arith, w.1)); made = refl }

  pub times_reads : {Given : Type 0} → Reads Given one F asks → (n : ℕ) → Reads Given (times one n) (SoMany n) (flat_map asks)
  unfolding times
  times_reads r zero = record {
    takes = λ given a fits. record { stands = λ tail. (refl, refl); went = went_nowhere a fits };
    again = λ a tail xs after w le. none_again a tail xs after w;
    shrinks = none_shrinks;
  }
  times_reads r (suc n) =
      two_reads one (times one n) F (SoMany n) asks (flat_map asks) (λ x others. x ∷ others) (SoMany (suc n)) (flat_map asks) r (times_reads r n) (λ x others. refl)
      (λ a x b xs c first others. ((b, first, others.0), ap suc others.1)) (more_split n)

  pub list_reads : {Given : Type 0} → Reads Given one F asks → Reads Given (list_at one) (IsList F) (flat_map asks)
  unfolding list_at
  list_reads r =
      bind_reads number_at (times one) IsNumber SoMany (flat_map asks) (IsList F) number_reads (times_reads r)
      (λ a n b xs c number turns. (b, subst (λ n. IsNumber a n b) (sym turns.1) number, turns.0))
      (λ a xs b list. record { x = length xs; next = list.0; first = list.1; second = (list.2, refl) })

  abbrev pub IsSome : Here → List X → Here → Type 0
  IsSome a xs b = IsList F a xs b × (0 < length xs)

  pub some_reads : {Given : Type 0} → Reads Given one F asks → Reads Given (some_at one) IsSome (flat_map asks)
  unfolding some_at
  some_reads r =
      tested_reads number_at (λ a n. faults.Range (place a.spot) n) (nat_lt 0) (times one) IsNumber SoMany (flat_map asks) IsSome number_reads (times_reads r)
      (λ a n b xs c number some turns. ((b, subst (λ n. IsNumber a n b) (sym turns.1) number, turns.0), omega (arith, ltb-true 0 n some, turns.1)))
      (λ a xs b list. record { x = length xs; next = list.0.0; first = list.0.1; holds = lt-ltb 0 (length xs) list.1; second = (list.0.2, refl) })
