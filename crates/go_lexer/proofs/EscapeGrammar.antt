-- Escapes are those of the grammar, in both directions.
use Rattle.std.proofs.Common.{◌≡◌, ◌<◌, ◌+◌, ◌*◌, ℕ, zero, suc, true, cond, List, [], ◌∷◌, ◌++◌, sym, ap, ◌∙◌, ⊎_elim, arith, eqb, ltb}
use borrow.Author.Tests.{true-eqb}
use Rattle.std.proofs.lemmas.Bool.{lt-ltb}
use Rattle.std.proofs.lemmas.Bool.Decides.{nat_tests}
use Rattle.std.specs.Char.{digit_value}
use Rattle.go_lexer.proofs.Choices.{chosen}
use Rattle.go_lexer.specs.Escapes.{Digits, number, broken, short, digits, whole, wrong, byte_escape, code_point_escape, is_code_point, is_simple, escape}
use Rattle.go_lexer.specs.Grammar.{AreDigits, IsEscape, simple, hexadecimal, octal, short_code_point, long_code_point}

-- the digits at the front of a text
abbrev Spelled : ℕ → ℕ → ℕ → List ℕ → ℕ → List ℕ → Type 0
Spelled base n before cs value rest = (front : List ℕ) × (cs ≡ front ++ rest) × AreDigits base n before front value

lt_from : (a b : ℕ) → ltb a b ≡ true → a < b
lt_from a b e = grind (arith, nat_tests)

digits_take : (base n before : ℕ) (cs : List ℕ) (value : ℕ) (rest : List ℕ) → digits base n before cs ≡ number value rest → Spelled base n before cs value rest
digits_take base zero before cs value rest e = let same : cs ≡ rest = (cc) in let is : before ≡ value = (cc) in ([], same, is)
digits_take base (suc n) before [] value rest e = cc
digits_take base (suc n) before (c ∷ cs) value rest e = ⊎_elim
    (λ h. let more = digits_take base n (before * base + digit_value c) cs value rest h.1 in (c ∷ more.0, ap (λ l. c ∷ l) more.1, (lt_from (digit_value c) base h.0, more.2)))
    (λ h. cc (h.1))
    (chosen (ltb (digit_value c) base) (digits base n (before * base + digit_value c) cs) broken (number value rest) e)

pub digits_again : (base n before : ℕ) (front rest : List ℕ) (value : ℕ) → AreDigits base n before front value → digits base n before (front ++ rest) ≡ number value rest
digits_again base zero before [] rest value h = ap (λ v. number v rest) h
digits_again base zero before (c ∷ cs) rest value h = absurd h
digits_again base (suc n) before [] rest value h = absurd h
digits_again base (suc n) before (c ∷ cs) rest value h =
    ap (λ b. cond b (digits base n (before * base + digit_value c) (cs ++ rest)) broken) (lt-ltb (digit_value c) base h.0) ∙ digits_again base n (before * base + digit_value c) cs rest value h.1

byte_take : (d : Digits) (rest : List ℕ) → byte_escape d ≡ whole rest → (v : ℕ) × (d ≡ number v rest) × (v < 256)
byte_take (number v left) rest e = ⊎_elim
    (λ h. (v, (let same : left ≡ rest = cc (h.1) in ap (number v) same), lt_from v 256 h.0))
    (λ h. cc (h.1))
    (chosen (ltb v 256) (whole left) wrong (whole rest) e)
byte_take broken rest e = cc
byte_take short rest e = cc

code_point_take : (d : Digits) (rest : List ℕ) → code_point_escape d ≡ whole rest → (v : ℕ) × (d ≡ number v rest) × (is_code_point v ≡ true)
code_point_take (number v left) rest e = ⊎_elim
    (λ h. (v, (let same : left ≡ rest = cc (h.1) in ap (number v) same), h.0))
    (λ h. cc (h.1))
    (chosen (is_code_point v) (whole left) wrong (whole rest) e)
code_point_take broken rest e = cc
code_point_take short rest e = cc

-- an escape at the front of a text
abbrev pub EscapeIn : ℕ → List ℕ → List ℕ → Type 0
EscapeIn quote cs rest = (front : List ℕ) × (cs ≡ front ++ rest) × IsEscape quote front

module _ (quote : ℕ) where
  pub escape_takes : (cs rest : List ℕ) → escape quote cs ≡ whole rest → EscapeIn quote cs rest
  escape_takes [] rest e = cc
  escape_takes (c ∷ cs) rest e = ⊎_elim
      (λ h. let same : cs ≡ rest = cc (h.1) in (c ∷ [], ap (λ l. c ∷ l) same, simple c h.0))
      (λ h. ⊎_elim
      (λ x.
      let d = byte_take (digits 16 2 0 cs) rest x.1 in
      let s = digits_take 16 2 0 cs d.0 rest d.1 in
      (120 ∷ s.0, (λ i. true-eqb c 120 (sym x.0) i ∷ s.1 i), hexadecimal s.0 d.0 s.2 d.2))
      (λ x. ⊎_elim
      (λ u.
      let d = code_point_take (digits 16 4 0 cs) rest u.1 in
      let s = digits_take 16 4 0 cs d.0 rest d.1 in
      (117 ∷ s.0, (λ i. true-eqb c 117 (sym u.0) i ∷ s.1 i), short_code_point s.0 d.0 s.2 d.2))
      (λ u. ⊎_elim
      (λ w.
      let d = code_point_take (digits 16 8 0 cs) rest w.1 in
      let s = digits_take 16 8 0 cs d.0 rest d.1 in
      (85 ∷ s.0, (λ i. true-eqb c 85 (sym w.0) i ∷ s.1 i), long_code_point s.0 d.0 s.2 d.2))
      (λ w.
      let d = byte_take (digits 8 3 0 (c ∷ cs)) rest w.1 in
      let s = digits_take 8 3 0 (c ∷ cs) d.0 rest d.1 in
      (s.0, s.1, octal s.0 d.0 s.2 d.2))
      (chosen (eqb c 85) _ _ _ u.1))
      (chosen (eqb c 117) _ _ _ x.1))
      (chosen (eqb c 120) _ _ _ h.1))
      (chosen (is_simple quote c) _ _ _ e)
