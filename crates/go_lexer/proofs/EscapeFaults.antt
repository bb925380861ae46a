-- What stands behind a backslash is read as an escape, as the front of one, or as none.
use Rattle.std.proofs.Common.{◌≡◌, ◌≢◌, ◌<◌, ◌+◌, ◌*◌, ℕ, zero, suc, Bool, true, false, cond, List, [], ◌∷◌, ◌++◌, sym, ap, ◌∙◌, refl, subst, ⊎_elim, arith, eqb, ltb, nat_lt}
use Rattle.std.proofs.lemmas.Bool.{lt-ltb}
use Rattle.std.proofs.lemmas.Bool.Decides.{nat_tests}
use Rattle.std.specs.Char.{digit_value}
use Rattle.go_lexer.specs.Characters.{double_quote, single_quote}
use Rattle.go_lexer.specs.Escapes.{Digits, number as digits_number, broken, short, digits, Escape, whole, wrong, cut, byte_escape, code_point_escape, is_code_point, is_simple, escape}
use Rattle.go_lexer.specs.FaultGrammar.{AreFewer, IsCutEscape, backslash_alone, hexadecimal_cut, octal_cut, short_code_point_cut, long_code_point_cut, IsWrongEscape}
use Rattle.go_lexer.specs.Grammar.{AreDigits, IsEscape, simple, hexadecimal, octal, short_code_point, long_code_point}
use Rattle.go_lexer.proofs.Choices.{chosen}
use Rattle.go_lexer.proofs.EscapeGrammar.{EscapeIn, escape_takes, digits_again}

if_yes : {A : Type 0} (b : Bool) (x y : A) → b ≡ true → cond b x y ≡ x
if_yes b x y h = ap (λ t. cond t x y) h

if_no : {A : Type 0} (b : Bool) (x y : A) → b ≡ false → cond b x y ≡ y
if_no b x y h = ap (λ t. cond t x y) h

-- escapes
byte_again : (v : ℕ) (d : Digits) (rest : List ℕ) → d ≡ digits_number v rest → v < 256 → byte_escape d ≡ whole rest
byte_again v d rest e l = ap byte_escape e ∙ if_yes (ltb v 256) (whole rest) wrong (lt-ltb v 256 l)

code_point_again : (v : ℕ) (d : Digits) (rest : List ℕ) → d ≡ digits_number v rest → is_code_point v ≡ true → code_point_escape d ≡ whole rest
code_point_again v d rest e l = ap code_point_escape e ∙ if_yes (is_code_point v) (whole rest) wrong l

-- what a quote has to leave to escapes
pub record Plain (quote : ℕ) : Type 0 where
  pub letter_x : is_simple quote 120 ≡ false
  pub letter_u : is_simple quote 117 ≡ false
  pub letter_U : is_simple quote 85 ≡ false
  pub digit : (c : ℕ) → digit_value c < 8 → is_simple quote c ≡ false

pub double_plain : Plain double_quote
double_plain = record { letter_x = refl; letter_u = refl; letter_U = refl; digit = λ c h. grind (arith, nat_tests) }

pub single_plain : Plain single_quote
single_plain = record { letter_x = refl; letter_u = refl; letter_U = refl; digit = λ c h. grind (arith, nat_tests) }

octal_letters : (c : ℕ) → digit_value c < 8 → (eqb c 120 ≡ false) × (eqb c 117 ≡ false) × (eqb c 85 ≡ false)
octal_letters c h = (grind (arith, nat_tests), grind (arith, nat_tests), grind (arith, nat_tests))

module _ (quote : ℕ) (plain : Plain quote) where
  octal_again : (cs rest : List ℕ) (value : ℕ) → AreDigits 8 3 0 cs value → value < 256 → escape quote (cs ++ rest) ≡ whole rest
  octal_again [] rest value h l = absurd h
  octal_again (c ∷ cs) rest value h l =
      let n = octal_letters c h.0 in
      if_no (is_simple quote c) _ _ (plain.digit c h.0) ∙ if_no (eqb c 120) _ _ n.0 ∙ if_no (eqb c 117) _ _ n.1 ∙ if_no (eqb c 85) _ _ n.2
      ∙ byte_again value (digits 8 3 0 (c ∷ (cs ++ rest))) rest (digits_again 8 3 0 (c ∷ cs) rest value h) l

  pub escape_again : (front rest : List ℕ) → IsEscape quote front → escape quote (front ++ rest) ≡ whole rest
  escape_again front rest (simple c h) = if_yes (is_simple quote c) _ _ h
  escape_again front rest (hexadecimal cs value h l) = if_no (is_simple quote 120) _ _ plain.letter_x ∙ byte_again value (digits 16 2 0 (cs ++ rest)) rest (digits_again 16 2 0 cs rest value h) l
  escape_again front rest (octal cs value h l) = octal_again cs rest value h l
  escape_again front rest (short_code_point cs value h l) = if_no (is_simple quote 117) _ _ plain.letter_u ∙ code_point_again value (digits 16 4 0 (cs ++ rest)) rest (digits_again 16 4 0 cs rest value h) l
  escape_again front rest (long_code_point cs value h l) = if_no (is_simple quote 85) _ _ plain.letter_U ∙ code_point_again value (digits 16 8 0 (cs ++ rest)) rest (digits_again 16 8 0 cs rest value h) l

-- fewer digits than an escape has
fewer_takes : (base n before : ℕ) (cs : List ℕ) → digits base n before cs ≡ short → AreFewer base n cs
fewer_takes base zero before cs e = cc
fewer_takes base (suc n) before [] e = (tt, omega arith)
fewer_takes base (suc n) before (c ∷ cs) e = ⊎_elim
    (λ h. let k = fewer_takes base n (before * base + digit_value c) cs h.1 in ((h.0, k.0), omega (arith, k.1)))
    (λ h. cc (h.1))
    (chosen (ltb (digit_value c) base) (digits base n (before * base + digit_value c) cs) broken short e)

fewer_again : (base n before : ℕ) (cs : List ℕ) → AreFewer base n cs → digits base n before cs ≡ short
fewer_again base zero before cs h = absurd (omega (arith, h.1))
fewer_again base (suc n) before [] h = refl
fewer_again base (suc n) before (c ∷ cs) h =
    if_yes (ltb (digit_value c) base) _ broken h.0.0 ∙ fewer_again base n (before * base + digit_value c) cs (h.0.1, omega (arith, h.1))

byte_cut : (d : Digits) → byte_escape d ≡ cut → d ≡ short
byte_cut (digits_number v left) e = ⊎_elim (λ h. cc (h.1)) (λ h. cc (h.1)) (chosen (ltb v 256) (whole left) wrong cut e)
byte_cut broken e = cc
byte_cut short e = refl

code_point_cut : (d : Digits) → code_point_escape d ≡ cut → d ≡ short
code_point_cut (digits_number v left) e = ⊎_elim (λ h. cc (h.1)) (λ h. cc (h.1)) (chosen (is_code_point v) (whole left) wrong cut e)
code_point_cut broken e = cc
code_point_cut short e = refl

is : (c d : ℕ) → eqb c d ≡ true → c ≡ d
is c d e = grind (arith, nat_tests)

module _ (quote : ℕ) where
  pub cut_takes : (cs : List ℕ) → escape quote cs ≡ cut → IsCutEscape cs
  cut_takes [] e = backslash_alone
  cut_takes (c ∷ cs) e = ⊎_elim
      (λ h. cc (h.1))
      (λ h. ⊎_elim
      (λ x. subst (λ y. IsCutEscape (y ∷ cs)) (sym (is c 120 x.0)) (hexadecimal_cut cs (fewer_takes 16 2 0 cs (byte_cut (digits 16 2 0 cs) x.1))))
      (λ x. ⊎_elim
      (λ u. subst (λ y. IsCutEscape (y ∷ cs)) (sym (is c 117 u.0)) (short_code_point_cut cs (fewer_takes 16 4 0 cs (code_point_cut (digits 16 4 0 cs) u.1))))
      (λ u. ⊎_elim
      (λ w. subst (λ y. IsCutEscape (y ∷ cs)) (sym (is c 85 w.0)) (long_code_point_cut cs (fewer_takes 16 8 0 cs (code_point_cut (digits 16 8 0 cs) w.1))))
      (λ w. octal_cut c cs (fewer_takes 8 3 0 (c ∷ cs) (byte_cut (digits 8 3 0 (c ∷ cs)) w.1)))
      (chosen (eqb c 85) _ _ _ u.1))
      (chosen (eqb c 117) _ _ _ x.1))
      (chosen (eqb c 120) _ _ _ h.1))
      (chosen (is_simple quote c) _ _ _ e)

octal_digit : (c : ℕ) → nat_lt (digit_value c) 8 ≡ true → digit_value c < 8
octal_digit c h = grind (arith, nat_tests)

module _ (quote : ℕ) (plain : Plain quote) where
  pub cut_again : (cs : List ℕ) → IsCutEscape cs → escape quote cs ≡ cut
  cut_again cs backslash_alone = refl
  cut_again cs (hexadecimal_cut more h) = if_no (is_simple quote 120) _ _ plain.letter_x ∙ ap byte_escape (fewer_again 16 2 0 more h)
  cut_again cs (octal_cut c more h) =
      let d : digit_value c < 8 = octal_digit c h.0.0 in
      let n = octal_letters c d in
      if_no (is_simple quote c) _ _ (plain.digit c d) ∙ if_no (eqb c 120) _ _ n.0 ∙ if_no (eqb c 117) _ _ n.1 ∙ if_no (eqb c 85) _ _ n.2
      ∙ ap byte_escape (fewer_again 8 3 0 (c ∷ more) h)
  cut_again cs (short_code_point_cut more h) = if_no (is_simple quote 117) _ _ plain.letter_u ∙ ap code_point_escape (fewer_again 16 4 0 more h)
  cut_again cs (long_code_point_cut more h) = if_no (is_simple quote 85) _ _ plain.letter_U ∙ ap code_point_escape (fewer_again 16 8 0 more h)

  whole_no : (front rest cs : List ℕ) → escape quote cs ≡ wrong → IsEscape quote front → cs ≢ front ++ rest
  whole_no front rest cs e h s =
      let k : wrong ≡ whole rest = sym e ∙ ap (escape quote) s ∙ escape_again quote plain front rest h in cc

  cut_no : (cs : List ℕ) → escape quote cs ≡ wrong → IsCutEscape cs → ⊥
  cut_no cs e h = let k : wrong ≡ cut = sym e ∙ cut_again cs h in cc

  pub wrong_takes : (cs : List ℕ) → escape quote cs ≡ wrong → IsWrongEscape quote cs
  wrong_takes cs e = (λ front rest h. whole_no front rest cs e h, cut_no cs e)

  wrong_by : (cs : List ℕ) (x : Escape) → escape quote cs ≡ x → IsWrongEscape quote cs → x ≡ wrong
  wrong_by cs (whole rest) e h = let s : EscapeIn quote cs rest = escape_takes quote cs rest e in absurd (h.0 s.0 rest s.2 s.1)
  wrong_by cs wrong e h = refl
  wrong_by cs cut e h = absurd (h.1 (cut_takes quote cs e))

  pub wrong_again : (cs : List ℕ) → IsWrongEscape quote cs → escape quote cs ≡ wrong
  wrong_again cs h = wrong_by cs (escape quote cs) refl h
