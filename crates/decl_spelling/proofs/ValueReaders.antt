-- The readers of constants' values.
use Rattle.std.proofs.Common.{◌≡◌, ℕ, ◌*◌, Bool, true, false, cond, Result, Ok, Err, refl, sym, ap, subst, ◌∙◌, inl, inr}
use Rattle.std.specs.Prelude.{ℤ, ◌==◌}
use Rattle.std.proofs.lemmas.Bool.{eqb-true, eqb-false, eq-eqb}
use Rattle.code_tables.specs.declared.predeclared.Basic.{Basic}
use Rattle.code_tables.specs.declared.predeclared.Basic.TheVariants as b
use Rattle.go_values.specs.declared.constants.Const.TheVariants.{Bool as truth, Int as whole}
use Rattle.wire_bytes.specs.declared.fault.ByteFault.TheVariants as faults
use Rattle.wire_bytes.specs.Reading.{place}
use Rattle.wire_bytes.specs.Begins.{Begins}
use Rattle.wire_bytes.specs.Varint.{Varint, number_of, signed_of, varint_at}
use Rattle.wire_bytes.specs.Whole.{Whole, whole_at}
use Rattle.wire_bytes.proofs.Spellings.{IsBytes}
use Rattle.wire_bytes.proofs.WholeSpellings.{whole_again}
use Rattle.position_codec.proofs.PositionLemmas.{varint_at_again}
use Rattle.decl_spelling.specs.Sections.{Sections}
use Rattle.decl_spelling.specs.Spelled.{SpelledConst}
use Rattle.decl_spelling.specs.Reading.{Ahead, Reader, Stopped, plain, truth_at, text_at}
use Rattle.decl_spelling.specs.Constants.{Spelling, flag, offset, number, spelled, kind_of, kind_number, kind_given_at, kind_at, value_alone, text_value, with_value, spelled_at, value_at}
use Rattle.decl_spelling.specs.Grammar.{Here, IsNumber, IsTruth, IsText}
use Rattle.decl_spelling.specs.Spelling.{IsKind, IsSpelled}
use Rattle.decl_spelling.proofs.Took.{seen_from, IsSpelling, IsValueOf}
use Rattle.decl_spelling.proofs.Readers.{Answered, Reads, nothing, give, give_reads, as_reads, bind_reads, tested_reads}
use Rattle.decl_spelling.proofs.BaseReaders.{plain_reads, truth_reads, text_reads}
use Rattle.decl_spelling.proofs.ValueTakes.{varint_takes, whole_takes, number_again}

-- ---- the number of a value's kind

abbrev IsSigned : Here → ℤ → Here → Type 0
IsSigned a x b = Begins Varint a.left x b.left × (b.before ≡ a.before)

signed_reads : {Given : Type 0} → Reads Given (λ a. plain a (varint_at a.spot)) IsSigned nothing
signed_reads = plain_reads varint_at Varint (λ given. varint_takes) (λ s x front rest spelled e. varint_at_again s x front rest spelled e)

-- the kind of a spelling is given
abbrev IsGiven : Spelling → Here → Unit {0} → Here → Type 0
IsGiven spelling a u b = IsNumber a (2 * kind_number spelling) b

given_reads : {Given : Type 0} (spelling : Spelling) → Reads Given (kind_given_at spelling) (IsGiven spelling) nothing
unfolding kind_given_at
given_reads {Given} spelling =
    tested_reads (λ a. plain a (varint_at a.spot)) (λ a x. faults.Tag (place a.spot) (number_of x)) (λ x. number_of x == 2 * kind_number spelling) (λ x. give tt) IsSigned (λ x a u b. (u ≡ tt) × (b ≡ a)) nothing (IsGiven spelling)
    signed_reads (λ x. give_reads Given tt)
    (λ a x b u c signed fits stays. subst (IsNumber a (2 * kind_number spelling)) (sym stays.1) (subst (λ n. IsNumber a n b) (eqb-true (number_of x) (2 * kind_number spelling) fits) signed))
    (λ a u b w. record {
      x = signed_of (2 * kind_number spelling);
      next = b;
      first = subst (λ n. IsNumber a n b) (sym (number_again (2 * kind_number spelling))) w;
      holds = eq-eqb (number_of (signed_of (2 * kind_number spelling))) (2 * kind_number spelling) (number_again (2 * kind_number spelling));
      second = (refl, refl);
    })

abbrev KindStands : ℕ → Spelling → Here → Unit {0} → Here → Type 0
KindStands version spelling a u b = IsKind version spelling a b

kind_reads : {Given : Type 0} (version : ℕ) (spelling : Spelling) → Reads Given (kind_at version spelling) (KindStands version spelling) nothing
kind_reads {Given} version spelling = by (version == 1) refl
  where
    by : (first : Bool) → (version == 1) ≡ first → Reads Given (λ a. cond first (Ok (tt, a)) (kind_given_at spelling a)) (KindStands version spelling) nothing
    by true e =
        as_reads (give tt) (λ a u b. (u ≡ tt) × (b ≡ a)) (KindStands version spelling) nothing (give_reads Given tt) (λ a u b stays. inl (eqb-true version 1 e, sym stays.1))
        (λ a u b w. elim w [ inl first ↦ (refl, sym first.1) | inr later ↦ absurd (later.0 (eqb-true version 1 e)) ])
    by false e =
        as_reads (kind_given_at spelling) (IsGiven spelling) (KindStands version spelling) nothing (given_reads spelling) (λ a u b w. inr (eqb-false version 1 e, w))
        (λ a u b w. elim w [ inl first ↦ absurd (eqb-false version 1 e first.0) | inr later ↦ later.1 ])

-- ---- the value

module _ {X : Type 0} (make : X → SpelledConst) (p : Reader X) (F : Here → X → Here → Type 0) (T : Here → SpelledConst → Here → Type 0) where
  value_answers : (a : Ahead) (r : Result (X × Ahead) Stopped) → ((a : Here) (x : X) (b : Here) → F a x b → T a (make x) b) → Answered F nothing a r → Answered T nothing a (with_value make r)
  value_answers a (Ok y) join h = record { stands = λ tail. join _ _ _ (h.stands tail); went = h.went }
  value_answers a (Err s) join h = h

  with_value_reads : {Given : Type 0} → Reads Given p F nothing → ((a : Here) (x : X) (b : Here) → F a x b → T a (make x) b)
      → ((a : Here) (v : SpelledConst) (b : Here) → T a v b → (x : X) × (v ≡ make x) × F a x b) → Reads Given (λ a. with_value make (p a)) T nothing
  with_value_reads r join split = record {
    takes = λ given a fits. value_answers a (p a) join (r.takes given a fits);
    again = λ a tail v after w le.
        let s = split (seen_from a tail) v after w in
        let read = r.again a tail s.0 after s.2 le in
        (read.0, ap (with_value make) read.1 ∙ ap (λ (v : SpelledConst). Ok (v, read.0)) (sym s.1), read.2);
    shrinks = λ a v b w. let s = split a v b w in r.shrinks a s.0 b s.2;
  }

abbrev IsWhole : Bool → ℕ → Here → ℤ → Here → Type 0
IsWhole signed max a x b = Begins (Whole signed max) a.left x b.left × (b.before ≡ a.before)

spelled_reads : (src : Sections) (spelling : Spelling) → IsSpelling spelling → Reads (IsBytes src.strings) (spelled_at src spelling) (IsSpelled src spelling) nothing
spelled_reads src flag is = with_value_reads (λ x. value_alone (truth x)) truth_at IsTruth (IsSpelled src flag) truth_reads (λ a x b w. (x, refl, w)) (λ a v b w. w)
spelled_reads src offset is = with_value_reads text_value (text_at src) (IsText src) (IsSpelled src offset) (text_reads src) (λ a x b w. (x, refl, w)) (λ a v b w. w)
spelled_reads src (number signed max) is =
    with_value_reads (λ x. value_alone (whole x)) (λ a. plain a (whole_at signed max a.spot)) (IsWhole signed max) (IsSpelled src (number signed max))
    (plain_reads (whole_at signed max) (Whole signed max) (λ given s v after fits e. whole_takes signed max s v after is fits e) (λ s v front rest spelled e. whole_again signed max s front rest v is spelled e))
    (λ a x b w. (x, refl, w.0, w.1)) (λ a v b w. (w.0, w.1, (w.2, w.3)))

pub value_reads : (src : Sections) (spelling : Spelling) → IsSpelling spelling → Reads (IsBytes src.strings) (value_at src spelling) (IsValueOf src spelling) nothing
unfolding value_at
value_reads src spelling is =
    bind_reads (kind_at src.version spelling) (λ u. spelled_at src spelling) (KindStands src.version spelling) (λ u. IsSpelled src spelling) nothing (IsValueOf src spelling) (kind_reads src.version spelling)
    (λ u. spelled_reads src spelling is)
    (λ a u b v c kind value. (b, kind, value))
    (λ a v b w. record { x = tt; next = w.0; first = w.1; second = w.2 })

-- ---- the spelling of a basic type

spelling_is : (x y : Spelling) → spelled x ≡ spelled y → IsSpelling x → IsSpelling y
spelling_is x y e is = let same : x ≡ y = cc in subst IsSpelling same is

pub kind_spelling : (basic : Basic) (spelling : Spelling) → kind_of basic ≡ spelled spelling → IsSpelling spelling
kind_spelling b.Bool spelling e = spelling_is flag spelling e tt
kind_spelling b.Int spelling e = spelling_is (number true 8) spelling e (inr (inr (inr (inl refl))))
kind_spelling b.Int8 spelling e = spelling_is (number true 1) spelling e (inl refl)
kind_spelling b.Int16 spelling e = spelling_is (number true 2) spelling e (inr (inl refl))
kind_spelling b.Int32 spelling e = spelling_is (number true 4) spelling e (inr (inr (inl refl)))
kind_spelling b.Int64 spelling e = spelling_is (number true 8) spelling e (inr (inr (inr (inl refl))))
kind_spelling b.Uint spelling e = spelling_is (number false 8) spelling e (inr (inr (inr (inl refl))))
kind_spelling b.Uint8 spelling e = spelling_is (number false 1) spelling e (inl refl)
kind_spelling b.Uint16 spelling e = spelling_is (number false 2) spelling e (inr (inl refl))
kind_spelling b.Uint32 spelling e = spelling_is (number false 4) spelling e (inr (inr (inl refl)))
kind_spelling b.Uint64 spelling e = spelling_is (number false 8) spelling e (inr (inr (inr (inl refl))))
kind_spelling b.Uintptr spelling e = spelling_is (number false 8) spelling e (inr (inr (inr (inl refl))))
kind_spelling b.String spelling e = spelling_is offset spelling e tt
kind_spelling b.Byte spelling e = spelling_is (number false 1) spelling e (inl refl)
kind_spelling b.Rune spelling e = spelling_is (number true 4) spelling e (inr (inr (inl refl)))
kind_spelling b.UntypedBool spelling e = spelling_is flag spelling e tt
kind_spelling b.UntypedInt spelling e = spelling_is (number true 64) spelling e (inr (inr (inr (inr refl))))
kind_spelling b.UntypedRune spelling e = spelling_is (number true 64) spelling e (inr (inr (inr (inr refl))))
kind_spelling b.UntypedString spelling e = spelling_is offset spelling e tt
kind_spelling basic spelling e = absurd cc
