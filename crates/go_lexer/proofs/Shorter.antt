-- Readers leave fewer characters than they were given.
use Rattle.std.proofs.Common.{◌≡◌, ◌≤◌, ◌<◌, ◌+◌, ◌*◌, ℕ, zero, suc, List, [], ◌∷◌, length, sym, ap, ◌∙◌, refl, ⊎_elim, arith, eqb, ltb}
use Rattle.std.specs.Char.{digit_value}
use Rattle.go_lexer.proofs.Choices.{chosen}
use Rattle.go_lexer.specs.Characters.{backslash, line_feed, double_quote}
use Rattle.go_lexer.specs.Escapes.{Digits, number, broken, short, digits, Escape, whole, wrong, cut, byte_escape, code_point_escape, is_code_point, is_simple, escape}
use Rattle.go_lexer.specs.Literals.{Closing, Element, goes, ends, escaped, element, closing_by, closing}

digits_shorter : (base n value : ℕ) (cs : List ℕ) (w : ℕ) (rest : List ℕ) → digits base n value cs ≡ number w rest → length rest ≤ length cs
digits_shorter base zero value cs w rest e = let same : cs ≡ rest = (cc) in omega (arith, ap length same)
digits_shorter base (suc n) value [] w rest e = cc
digits_shorter base (suc n) value (c ∷ cs) w rest e = ⊎_elim
    (λ h. let less : length rest ≤ length cs = digits_shorter base n (value * base + digit_value c) cs w rest h.1 in omega arith)
    (λ h. cc (h.1))
    (chosen (ltb (digit_value c) base) (digits base n (value * base + digit_value c) cs) broken (number w rest) e)

byte_whole : (d : Digits) (rest : List ℕ) → byte_escape d ≡ whole rest → (v : ℕ) × (d ≡ number v rest)
byte_whole (number v left) rest e = ⊎_elim
    (λ h. (v, let same : left ≡ rest = cc (h.1) in ap (number v) same))
    (λ h. cc (h.1))
    (chosen (ltb v 256) (whole left) wrong (whole rest) e)
byte_whole broken rest e = cc
byte_whole short rest e = cc

code_point_whole : (d : Digits) (rest : List ℕ) → code_point_escape d ≡ whole rest → (v : ℕ) × (d ≡ number v rest)
code_point_whole (number v left) rest e = ⊎_elim
    (λ h. (v, let same : left ≡ rest = cc (h.1) in ap (number v) same))
    (λ h. cc (h.1))
    (chosen (is_code_point v) (whole left) wrong (whole rest) e)
code_point_whole broken rest e = cc
code_point_whole short rest e = cc

byte_shorter : (base n : ℕ) (cs rest : List ℕ) → byte_escape (digits base n 0 cs) ≡ whole rest → length rest ≤ length cs
byte_shorter base n cs rest e = let h = byte_whole (digits base n 0 cs) rest e in digits_shorter base n 0 cs h.0 rest h.1

code_point_shorter : (n : ℕ) (cs rest : List ℕ) → code_point_escape (digits 16 n 0 cs) ≡ whole rest → length rest ≤ length cs
code_point_shorter n cs rest e = let h = code_point_whole (digits 16 n 0 cs) rest e in digits_shorter 16 n 0 cs h.0 rest h.1

pub escape_shorter : (quote : ℕ) (cs rest : List ℕ) → escape quote cs ≡ whole rest → length rest ≤ length cs
escape_shorter quote [] rest e = cc
escape_shorter quote (c ∷ cs) rest e = ⊎_elim
    (λ h. let same : cs ≡ rest = cc (h.1) in omega (arith, ap length same))
    (λ h. ⊎_elim
    (λ x. omega (arith, byte_shorter 16 2 cs rest x.1))
    (λ x. ⊎_elim
    (λ u. omega (arith, code_point_shorter 4 cs rest u.1))
    (λ u. ⊎_elim
    (λ w. omega (arith, code_point_shorter 8 cs rest w.1))
    (λ w. byte_shorter 8 3 (c ∷ cs) rest w.1)
    (chosen (eqb c 85) _ _ _ u.1))
    (chosen (eqb c 117) _ _ _ x.1))
    (chosen (eqb c 120) _ _ _ h.1))
    (chosen (is_simple quote c) _ _ _ e)

escaped_shorter : (at : List ℕ) (x : Escape) (rest : List ℕ) → escaped at x ≡ goes rest → x ≡ whole rest
escaped_shorter at (whole left) rest e = let same : left ≡ rest = (cc) in ap whole same
escaped_shorter at wrong rest e = cc
escaped_shorter at cut rest e = cc

pub element_shorter : (cs rest : List ℕ) → element cs ≡ goes rest → length rest < length cs
element_shorter [] rest e = cc
element_shorter (c ∷ cs) rest e = ⊎_elim
    (λ h. cc (h.1))
    (λ h. ⊎_elim
    (λ x. cc (x.1))
    (λ x. ⊎_elim
    (λ u. omega (arith, escape_shorter double_quote cs rest (escaped_shorter (c ∷ cs) (escape double_quote cs) rest u.1)))
    (λ u. let same : cs ≡ rest = cc (u.1) in omega (arith, ap length same))
    (chosen (eqb c backslash) _ _ _ x.1))
    (chosen (eqb c line_feed) _ _ _ h.1))
    (chosen (eqb c double_quote) _ _ _ e)

-- more turns than characters change nothing
enough_by : (m n : ℕ) (x : Element) → ((rest : List ℕ) → x ≡ goes rest → closing m rest ≡ closing n rest) → closing_by (closing m) x ≡ closing_by (closing n) x
enough_by m n (goes rest) h = h rest refl
enough_by m n (ends how) h = refl

enough : (m n : ℕ) (cs : List ℕ) → length cs ≤ m → length cs ≤ n → closing m cs ≡ closing n cs
enough zero zero cs a b = refl
enough zero (suc n) [] a b = refl
enough zero (suc n) (c ∷ cs) a b = absurd (omega arith)
enough (suc m) zero [] a b = refl
enough (suc m) zero (c ∷ cs) a b = absurd (omega arith)
enough (suc m) (suc n) cs a b = enough_by m n (element cs) (λ rest e. let less : length rest < length cs = element_shorter cs rest e in enough m n rest (omega arith) (omega arith))

pub closing_goes : (cs rest : List ℕ) → element cs ≡ goes rest → closing (length rest) rest ≡ closing (length cs) cs
closing_goes [] rest e = cc
closing_goes (c ∷ cs) rest e = let less : length rest < length (c ∷ cs) = element_shorter (c ∷ cs) rest e in enough (length rest) (length cs) rest (omega arith) (omega arith) ∙ sym (ap (closing_by (closing (length cs))) e)

pub closing_ends : (cs : List ℕ) (how : Closing) → element cs ≡ ends how → how ≡ closing (length cs) cs
closing_ends [] how e = cc
closing_ends (c ∷ cs) how e = sym (ap (closing_by (closing (length cs))) e)
