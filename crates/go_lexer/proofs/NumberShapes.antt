-- What looks like a number is what is read as one.
use Rattle.std.proofs.Common.{◌≡◌, ◌≢◌, ℕ, Bool, true, false, cond, ◌||◌, ◌==◌, List, [], ◌∷◌, ◌++◌, Option, Some, None, sym, ap, ◌∙◌, refl, subst, ◌⊎◌, inl, inr, ⊎_elim, eqb, arith, append_assoc, append-nil}
use Rattle.std.proofs.lemmas.Bool.Decides.{nat_tests}
use Rattle.std.specs.Prelude.{is_some}
use borrow.Author.Tests.{true-eqb}
use Rattle.go_lexer.specs.declared.token_kinds.TokenKind.{TokenKind}
use Rattle.go_lexer.specs.declared.token_kinds.TokenKind.TheVariants.{Imaginary}
use Rattle.go_lexer.specs.declared.classes.Class.TheVariants.{Digits}
use Rattle.go_lexer.specs.declared.numbers.Base.{Base}
use Rattle.go_lexer.specs.declared.numbers.Base.TheVariants.{Decimal, Binary, Octal, Hexadecimal}
use Rattle.go_lexer.specs.declared.pieces.Breach.TheVariants.{BadNumber}
use Rattle.go_lexer.specs.Characters.{plus, minus, point, digit_zero, letter_i, strip, front_while, after_while, Each, Ends}
use Rattle.go_lexer.specs.Classes.{in_class}
use Rattle.go_lexer.specs.NumberGrammar.{IsLetter, IsNumber}
use Rattle.go_lexer.specs.NumberShape.{GoesOn, is_in_run, IsPrefixLetter, IsPrefix, hexadecimal, octal, binary, no_prefix, IsScaleLetter, IsPlusOrMinus, IsSignPart, signed, unsigned, Scale, Parts, from_unit, from_scale, from_fraction, behind_fraction, behind_whole, behind_prefix, written, IsFraction, IsScale, IsUnit, GoFar, LooksLikeNumber}
use Rattle.go_lexer.specs.Numbers.{prefix_base, based, after_zero, base_of, run, mantissa_in, Exponent, is_decimal_letter, is_binary_letter, is_exponent_letter, after_sign, exponent, is_unscaled, is_scaled, number_kind, number_by, number}
use Rattle.go_lexer.specs.Pieces.{Piece, token, stop}
use Rattle.go_lexer.proofs.Choices.{chosen}
use Rattle.go_lexer.proofs.FrontBytes.{front-after}
use Rattle.go_lexer.proofs.NumberAgain.{pair, parts, letter_base, mantissa_again, by_parts, number_again}
use Rattle.go_lexer.proofs.NumberTaken.{either, strip_is, NumberIn, number_takes}
use Rattle.go_lexer.proofs.Runs.{each_front, ends_after, after_again, front_again}

if_yes : {A : Type 0} (b : Bool) (x y : A) → b ≡ true → cond b x y ≡ x
if_yes b x y h = ap (λ t. cond t x y) h

if_no : {A : Type 0} (b : Bool) (x y : A) → b ≡ false → cond b x y ≡ y
if_no b x y h = ap (λ t. cond t x y) h

off : (b : Bool) → (b ≡ true → ⊥) → b ≡ false
off true n = absurd (n refl)
off false n = refl

same : (c d : ℕ) → c ≡ d → eqb c d ≡ true
same c d e = grind (arith, nat_tests)

is : (c d : ℕ) → eqb c d ≡ true → c ≡ d
is c d e = true-eqb c d (sym e)

or_yes : (a b : Bool) → (a ≡ true) ⊎ (b ≡ true) → (a || b) ≡ true
or_yes true b h = refl
or_yes false b (inl h) = cc
or_yes false b (inr h) = h

or_one : (a b : Bool) → (a || b) ≡ true → (a ≡ true) ⊎ (b ≡ true)
or_one true b h = inl refl
or_one false b h = inr h

letter_yes : (c small large : ℕ) → IsLetter small large c → (c == small || c == large) ≡ true
letter_yes c small large l = or_yes (c == small) (c == large) (⊎_elim (λ e. inl (same c small e)) (λ e. inr (same c large e)) l)

run_is : (base : Base) → is_in_run base ≡ run base
run_is Decimal = refl
run_is Binary = refl
run_is Octal = refl
run_is Hexadecimal = refl

-- the parts are read
no_letter : (d : ℕ) → (IsPrefixLetter d → ⊥) → prefix_base d ≡ None
no_letter d n =
    if_no (d == 120 || d == 88) _ _ (off (d == 120 || d == 88) (λ t. n (inl (either d 120 88 t))))
    ∙ if_no (d == 111 || d == 79) _ _ (off (d == 111 || d == 79) (λ t. n (inr (inl (either d 111 79 t)))))
    ∙ if_no (d == 98 || d == 66) _ _ (off (d == 98 || d == 66) (λ t. n (inr (inr (either d 98 66 t)))))

abbrev NoPrefix : List ℕ → Type 0
NoPrefix rest = (letter : ℕ) (more : List ℕ) → rest ≡ digit_zero ∷ letter ∷ more → IsPrefixLetter letter → ⊥

plain_reads : (rest : List ℕ) → NoPrefix rest → base_of rest ≡ pair Decimal rest
plain_reads [] n = refl
plain_reads (c ∷ []) n = by_zero (eqb c digit_zero)
  where
    by_zero : (b : Bool) → after_zero (c ∷ []) (cond b (Some []) None) ≡ pair Decimal (c ∷ [])
    by_zero true = refl
    by_zero false = refl
plain_reads (c ∷ d ∷ more) n = by_zero (eqb c digit_zero) refl
  where
    by_zero : (b : Bool) → eqb c digit_zero ≡ b → after_zero (c ∷ d ∷ more) (cond b (Some (d ∷ more)) None) ≡ pair Decimal (c ∷ d ∷ more)
    by_zero true e = ap (based (c ∷ d ∷ more) more) (no_letter d (n d more (ap (λ x. x ∷ d ∷ more) (is c digit_zero e))))
    by_zero false e = refl

prefix_reads : (base : Base) (prefix rest : List ℕ) → IsPrefix base prefix rest → base_of (prefix ++ rest) ≡ pair base rest
prefix_reads base prefix rest (hexadecimal letter r l) = letter_base Hexadecimal 120 88 letter r l refl refl
prefix_reads base prefix rest (octal letter r l) = letter_base Octal 111 79 letter r l refl refl
prefix_reads base prefix rest (binary letter r l) = letter_base Binary 98 66 letter r l refl refl
prefix_reads base prefix rest (no_prefix r n) = plain_reads r n

strip_none : (p : ℕ) (cs : List ℕ) → (GoesOn (λ c. c ≡ p) cs → ⊥) → strip p cs ≡ None
strip_none p [] n = refl
strip_none p (c ∷ cs) n = if_no (eqb c p) _ _ (off (eqb c p) (λ t. n (is c p t)))

mantissa_reads : (base : Base) (whole : List ℕ) (fraction : Option (List ℕ)) (after : List ℕ) → Each (run base) whole → Ends (run base) (from_fraction fraction after) → IsFraction base fraction after
    → mantissa_in (pair base (whole ++ from_fraction fraction after)) ≡ parts base whole fraction after
mantissa_reads base whole None after w e f = mantissa_again base whole None after w (strip_none point after f) e
mantissa_reads base whole (Some fraction) after w e f =
    ap (λ l. mantissa_in (pair base l)) (sym (append_assoc whole (point ∷ fraction) after))
    ∙ mantissa_again base whole (Some fraction) after w (subst (λ p. Each p fraction) (run_is base) f.0) (subst (λ p. Ends p after) (run_is base) f.1)

scale_letter : (base : Base) (c : ℕ) → is_exponent_letter base c ≡ true → IsScaleLetter base c
scale_letter Hexadecimal c h = either c 112 80 h
scale_letter Decimal c h = ⊎_elim (λ t. inl (either c 112 80 t)) (λ t. inr (either c 101 69 t)) (or_one (is_binary_letter c) (is_decimal_letter c) h)
scale_letter Binary c h = ⊎_elim (λ t. inl (either c 112 80 t)) (λ t. inr (either c 101 69 t)) (or_one (is_binary_letter c) (is_decimal_letter c) h)
scale_letter Octal c h = ⊎_elim (λ t. inl (either c 112 80 t)) (λ t. inr (either c 101 69 t)) (or_one (is_binary_letter c) (is_decimal_letter c) h)

other_letter : (c : ℕ) → IsLetter 112 80 c ⊎ IsLetter 101 69 c → (is_binary_letter c || is_decimal_letter c) ≡ true
other_letter c l = or_yes (is_binary_letter c) (is_decimal_letter c) (⊎_elim (λ t. inl (letter_yes c 112 80 t)) (λ t. inr (letter_yes c 101 69 t)) l)

letter_scale : (base : Base) (c : ℕ) → IsScaleLetter base c → is_exponent_letter base c ≡ true
letter_scale Hexadecimal c l = letter_yes c 112 80 l
letter_scale Decimal c l = other_letter c l
letter_scale Binary c l = other_letter c l
letter_scale Octal c l = other_letter c l

sign_yes : (c : ℕ) → IsPlusOrMinus c → (c == plus || c == minus) ≡ true
sign_yes c h = or_yes (c == plus) (c == minus) (⊎_elim (λ e. inl (same c plus e)) (λ e. inr (same c minus e)) h)

sign_is : (c : ℕ) → (c == plus || c == minus) ≡ true → IsPlusOrMinus c
sign_is c h = ⊎_elim (λ t. inl (is c plus t)) (λ t. inr (is c minus t)) (or_one (c == plus) (c == minus) h)

no_sign_reads : (rest : List ℕ) → (GoesOn IsPlusOrMinus rest → ⊥) → after_sign rest ≡ rest
no_sign_reads [] n = refl
no_sign_reads (c ∷ cs) n = if_no (c == plus || c == minus) _ _ (off (c == plus || c == minus) (λ t. n (sign_is c t)))

sign_reads : (sign rest : List ℕ) → IsSignPart sign rest → after_sign (sign ++ rest) ≡ rest
sign_reads sign rest (signed c r h) = if_yes (c == plus || c == minus) _ _ (sign_yes c h)
sign_reads sign rest (unsigned r n) = no_sign_reads r n

abbrev exponent_of : Option Scale → List ℕ → Option Exponent
exponent_of (Some s) rest = Some (record { letter = s.letter; digits = s.digits; rest = rest })
exponent_of None rest = None

no_scale_reads : (base : Base) (rest : List ℕ) → (GoesOn (IsScaleLetter base) rest → ⊥) → exponent base rest ≡ None
no_scale_reads base [] n = refl
no_scale_reads base (c ∷ cs) n = if_no (is_exponent_letter base c) _ _ (off (is_exponent_letter base c) (λ t. n (scale_letter base c t)))

abbrev some_scale : ℕ → List ℕ → List ℕ → Option Exponent
some_scale letter digits rest = Some (record { letter = letter; digits = digits; rest = rest })

scale_reads : (base : Base) (s : Option Scale) (rest : List ℕ) → IsScale base s rest → exponent base (from_scale s rest) ≡ exponent_of s rest
scale_reads base None rest n = no_scale_reads base rest n
scale_reads base (Some s) rest h =
    if_yes (is_exponent_letter base s.letter) _ _ (letter_scale base s.letter h.0)
    ∙ ap (λ cs. some_scale s.letter (front_while (in_class Digits) cs) (after_while (in_class Digits) cs)) (sign_reads s.sign (s.digits ++ rest) h.1)
    ∙ ap (λ cs. some_scale s.letter cs (after_while (in_class Digits) (s.digits ++ rest))) (front_again (in_class Digits) s.digits rest h.2 h.3)
    ∙ ap (some_scale s.letter s.digits) (after_again (in_class Digits) s.digits rest h.2 h.3)

unit_reads : (imaginary : Bool) (rest : List ℕ) → IsUnit imaginary rest → strip letter_i (from_unit imaginary rest) ≡ cond imaginary (Some rest) None
unit_reads true rest h = refl
unit_reads false rest h = strip_none letter_i rest h

-- whether the parts are a number, and of which kind
abbrev fits_by : Bool → Base → List ℕ → Option (List ℕ) → Option Scale → Bool
fits_by imaginary base whole fraction None = is_unscaled imaginary base whole fraction
fits_by imaginary base whole fraction (Some s) = is_scaled base whole fraction s.letter s.digits

abbrev pub fits : Parts → Bool
fits p = fits_by p.imaginary p.base p.whole p.fraction p.scale

abbrev kind_by : Bool → Option (List ℕ) → Option Scale → TokenKind
kind_by true fraction scale = Imaginary
kind_by false fraction scale = number_kind fraction (is_some scale)

abbrev pub kind_of : Parts → TokenKind
kind_of p = kind_by p.imaginary p.fraction p.scale

abbrev pub Judged : List ℕ → Bool → TokenKind → List ℕ → Piece
Judged start fit kind rest = cond fit (token kind true rest) (stop BadNumber start)

judged : (start : List ℕ) (base : Base) (whole : List ℕ) (fraction : Option (List ℕ)) (scale : Option Scale) (imaginary : Bool) (rest : List ℕ) → IsUnit imaginary rest
    → number_by start (parts base whole fraction (from_scale scale (from_unit imaginary rest))) (exponent_of scale (from_unit imaginary rest)) ≡ Judged start (fits_by imaginary base whole fraction scale) (kind_by imaginary fraction scale) rest
judged start base whole fraction None true rest u = refl
judged start base whole fraction (Some s) true rest u = refl
judged start base whole fraction None false rest u = simp (strip_none letter_i rest u)
judged start base whole fraction (Some s) false rest u = simp (strip_none letter_i rest u)

pub reads : (p : Parts) (rest : List ℕ) → GoFar p rest → number (written p rest) ≡ Judged (written p rest) (fits p) (kind_of p) rest
reads p rest g =
    by_parts (written p rest) (parts p.base p.whole p.fraction (behind_fraction p rest)) (exponent_of p.scale (from_unit p.imaginary rest))
    (ap mantissa_in (prefix_reads p.base p.prefix (behind_prefix p rest) g.prefix)
    ∙ mantissa_reads p.base p.whole p.fraction (behind_fraction p rest) (subst (λ r. Each r p.whole) (run_is p.base) g.whole) (subst (λ r. Ends r (behind_whole p rest)) (run_is p.base) g.ends) g.fraction)
    (scale_reads p.base p.scale (from_unit p.imaginary rest) g.scale)
    ∙ judged (written p rest) p.base p.whole p.fraction p.scale p.imaginary rest g.unit

-- without the text behind them
unit_front : (imaginary : Bool) (rest : List ℕ) → from_unit imaginary rest ≡ from_unit imaginary [] ++ rest
unit_front true rest = refl
unit_front false rest = refl

scale_front : (s : Option Scale) (x rest : List ℕ) → from_scale s (x ++ rest) ≡ from_scale s x ++ rest
scale_front None x rest = refl
scale_front (Some s) x rest = ap (λ l. s.letter ∷ l) (ap (λ l. s.sign ++ l) (sym (append_assoc s.digits x rest)) ∙ sym (append_assoc s.sign (s.digits ++ x) rest))

fraction_front : (f : Option (List ℕ)) (x rest : List ℕ) → from_fraction f (x ++ rest) ≡ from_fraction f x ++ rest
fraction_front None x rest = refl
fraction_front (Some digits) x rest = ap (λ l. point ∷ l) (sym (append_assoc digits x rest))

module _ (p : Parts) (rest : List ℕ) where
  behind_fraction_front : behind_fraction p rest ≡ behind_fraction p [] ++ rest
  behind_fraction_front = ap (from_scale p.scale) (unit_front p.imaginary rest) ∙ scale_front p.scale (from_unit p.imaginary []) rest

  behind_whole_front : behind_whole p rest ≡ behind_whole p [] ++ rest
  behind_whole_front = ap (from_fraction p.fraction) behind_fraction_front ∙ fraction_front p.fraction (behind_fraction p []) rest

  behind_prefix_front : behind_prefix p rest ≡ behind_prefix p [] ++ rest
  behind_prefix_front = ap (λ l. p.whole ++ l) behind_whole_front ∙ sym (append_assoc p.whole (behind_whole p []) rest)

  pub written_front : written p rest ≡ written p [] ++ rest
  written_front = ap (λ l. p.prefix ++ l) behind_prefix_front ∙ sym (append_assoc p.prefix (behind_prefix p []) rest)

prefix_alone : (base : Base) (prefix text x rest : List ℕ) → text ≡ x ++ rest → IsPrefix base prefix text → IsPrefix base prefix x
prefix_alone base prefix text x rest e (hexadecimal letter r l) = hexadecimal letter x l
prefix_alone base prefix text x rest e (octal letter r l) = octal letter x l
prefix_alone base prefix text x rest e (binary letter r l) = binary letter x l
prefix_alone base prefix text x rest e (no_prefix r n) = no_prefix x (λ letter more h. n letter (more ++ rest) (e ∙ ap (λ l. l ++ rest) h))

ends_alone : (q : ℕ → Bool) (x rest : List ℕ) → Ends q (x ++ rest) → Ends q x
ends_alone q [] rest h = tt
ends_alone q (c ∷ x) rest h = h

goes_on : (P : ℕ → Type 0) (x rest : List ℕ) → GoesOn P x → GoesOn P (x ++ rest)
goes_on P [] rest h = absurd h
goes_on P (c ∷ x) rest h = h

sign_alone : (sign text x rest : List ℕ) → text ≡ x ++ rest → IsSignPart sign text → IsSignPart sign x
sign_alone sign text x rest e (signed c r h) = signed c x h
sign_alone sign text x rest e (unsigned r n) = unsigned x (λ h. n (subst (GoesOn IsPlusOrMinus) (sym e) (goes_on IsPlusOrMinus x rest h)))

fraction_alone : (base : Base) (f : Option (List ℕ)) (text x rest : List ℕ) → text ≡ x ++ rest → IsFraction base f text → IsFraction base f x
fraction_alone base None text x rest e n = λ h. n (subst (GoesOn (λ c. c ≡ point)) (sym e) (goes_on (λ c. c ≡ point) x rest h))
fraction_alone base (Some digits) text x rest e h = (h.0, ends_alone (is_in_run base) x rest (subst (Ends (is_in_run base)) e h.1))

scale_alone : (base : Base) (s : Option Scale) (text x rest : List ℕ) → text ≡ x ++ rest → IsScale base s text → IsScale base s x
scale_alone base None text x rest e n = λ h. n (subst (GoesOn (IsScaleLetter base)) (sym e) (goes_on (IsScaleLetter base) x rest h))
scale_alone base (Some s) text x rest e h = (
  h.0,
  sign_alone s.sign (s.digits ++ text) (s.digits ++ x) rest (ap (λ l. s.digits ++ l) e ∙ sym (append_assoc s.digits x rest)) h.1,
  h.2,
  ends_alone (is_in_run Decimal) x rest (subst (Ends (is_in_run Decimal)) e h.3),
)

unit_alone : (imaginary : Bool) (rest : List ℕ) → IsUnit imaginary rest → IsUnit imaginary []
unit_alone true rest h = tt
unit_alone false rest h = λ k. k

alone : (p : Parts) (rest : List ℕ) → GoFar p rest → GoFar p []
alone p rest g = record {
  prefix = prefix_alone p.base p.prefix (behind_prefix p rest) (behind_prefix p []) rest (behind_prefix_front p rest) g.prefix;
  whole = g.whole;
  ends = ends_alone (is_in_run p.base) (behind_whole p []) rest (subst (Ends (is_in_run p.base)) (behind_whole_front p rest) g.ends);
  fraction = fraction_alone p.base p.fraction (behind_fraction p rest) (behind_fraction p []) rest (behind_fraction_front p rest) g.fraction;
  scale = scale_alone p.base p.scale (from_unit p.imaginary rest) (from_unit p.imaginary []) rest (unit_front p.imaginary rest) g.scale;
  unit = unit_alone p.imaginary rest g.unit;
}

judged_token : (start again : List ℕ) (fit : Bool) (kind other : TokenKind) (left rest : List ℕ) → Judged start fit kind left ≡ token other true left → Judged again fit kind rest ≡ token other true rest
judged_token start again true kind other left rest e = let h : kind ≡ other = (cc) in ap (λ k. token k true rest) h
judged_token start again false kind other left rest e = cc

-- a number of the grammar that is all that looks like one is read, whatever follows it
pub number_reads : (kind : TokenKind) (literal rest : List ℕ) → IsNumber kind literal → LooksLikeNumber literal rest → number (literal ++ rest) ≡ token kind true rest
number_reads kind literal rest h l =
    let p : Parts = l.parts in
    let text : literal ++ rest ≡ written p rest = ap (λ x. x ++ rest) (sym l.is) ∙ sym (written_front p rest) in
    ap number text ∙ reads p rest l.far
    ∙ judged_token (written p []) (written p rest) (fits p) (kind_of p) kind [] rest (sym (reads p [] (alone p rest l.far)) ∙ ap number l.is ∙ number_again kind literal h)

-- the parts are there
abbrev Prefixed : List ℕ → Base × List ℕ → Type 0
Prefixed cs b = (prefix : List ℕ) × (cs ≡ prefix ++ b.1) × IsPrefix b.0 prefix b.1

some_prefix : (c : ℕ) (o : Option Base) → prefix_base c ≡ o → (base : Base) (rest : List ℕ) → o ≡ Some base → IsPrefix base (digit_zero ∷ c ∷ []) rest
some_prefix c o e base rest s = ⊎_elim
    (λ h. let k : Hexadecimal ≡ base = cc (h.1) in subst (λ x. IsPrefix x (digit_zero ∷ c ∷ []) rest) k (hexadecimal c rest (either c 120 88 h.0)))
    (λ h. ⊎_elim
    (λ x. let k : Octal ≡ base = cc (x.1) in subst (λ y. IsPrefix y (digit_zero ∷ c ∷ []) rest) k (octal c rest (either c 111 79 x.0)))
    (λ x. ⊎_elim
    (λ y. let k : Binary ≡ base = cc (y.1) in subst (λ z. IsPrefix z (digit_zero ∷ c ∷ []) rest) k (binary c rest (either c 98 66 y.0)))
    (λ y. cc (y.1))
    (chosen (c == 98 || c == 66) _ _ _ x.1))
    (chosen (c == 111 || c == 79) _ _ _ h.1))
    (chosen (c == 120 || c == 88) _ _ _ (e ∙ s))

letter_at : (c small large : ℕ) (P : ℕ → Type 0) → P small → P large → IsLetter small large c → P c
letter_at c small large P s l h = ⊎_elim (λ e. subst P (sym e) s) (λ e. subst P (sym e) l) h

prefix_some : (c : ℕ) → IsPrefixLetter c → prefix_base c ≢ None
prefix_some c h = ⊎_elim (letter_at c 120 88 (λ x. prefix_base x ≢ None) (λ e. cc) (λ e. cc))
    (⊎_elim (letter_at c 111 79 (λ x. prefix_base x ≢ None) (λ e. cc) (λ e. cc)) (letter_at c 98 66 (λ x. prefix_base x ≢ None) (λ e. cc) (λ e. cc))) h

prefix_looks : (cs : List ℕ) → Prefixed cs (base_of cs)
prefix_looks [] = ([], refl, no_prefix [] (λ letter more e. cc))
prefix_looks (c ∷ []) = by_zero (eqb c digit_zero)
  where
    none : NoPrefix (c ∷ [])
    none letter more e = let h : [] ≡ letter ∷ more = (cc) in cc

    by_zero : (b : Bool) → Prefixed (c ∷ []) (after_zero (c ∷ []) (cond b (Some []) None))
    by_zero true = ([], refl, no_prefix (c ∷ []) none)
    by_zero false = ([], refl, no_prefix (c ∷ []) none)
prefix_looks (c ∷ d ∷ more) = by_zero (eqb c digit_zero) refl
  where
    by_base : (o : Option Base) → prefix_base d ≡ o → c ≡ digit_zero → Prefixed (c ∷ d ∷ more) (based (c ∷ d ∷ more) more o)
    by_base (Some base) e z = (digit_zero ∷ d ∷ [], ap (λ x. x ∷ d ∷ more) z, some_prefix d (Some base) e base more refl)
    by_base None e z = ([], refl, no_prefix (c ∷ d ∷ more) (λ letter rest s l. let k : letter ≡ d = (cc) in prefix_some d (subst IsPrefixLetter k l) e))

    by_zero : (b : Bool) → eqb c digit_zero ≡ b → Prefixed (c ∷ d ∷ more) (after_zero (c ∷ d ∷ more) (cond b (Some (d ∷ more)) None))
    by_zero true e = by_base (prefix_base d) refl (is c digit_zero e)
    by_zero false e = ([], refl, no_prefix (c ∷ d ∷ more) (λ letter rest s l. let k : c ≡ digit_zero = (cc) in let t : true ≡ false = sym (same c digit_zero k) ∙ e in cc))

none_strips : (p : ℕ) (cs : List ℕ) → strip p cs ≡ None → GoesOn (λ c. c ≡ p) cs → ⊥
none_strips p [] e h = h
none_strips p (c ∷ cs) e h = let k : Some cs ≡ None = sym (if_yes (eqb c p) (Some cs) None (same c p h)) ∙ e in cc

-- a fraction, and what is behind it
record Fraction (base : Base) (after : List ℕ) : Type 0 where
  fraction : Option (List ℕ)
  behind : List ℕ
  is_there : after ≡ from_fraction fraction behind
  goes : IsFraction base fraction behind

fraction_looks : (base : Base) (after : List ℕ) (o : Option (List ℕ)) → strip point after ≡ o → Fraction base after
fraction_looks base after None e = record { fraction = None; behind = after; is_there = refl; goes = none_strips point after e }
fraction_looks base after (Some more) e = record {
  fraction = Some (front_while (is_in_run base) more);
  behind = after_while (is_in_run base) more;
  is_there = strip_is point after more e ∙ ap (λ l. point ∷ l) (sym (front-after (is_in_run base) more));
  goes = (each_front (is_in_run base) more, ends_after (is_in_run base) more);
}

record Scaled (base : Base) (after : List ℕ) : Type 0 where
  scale : Option Scale
  behind : List ℕ
  is_there : after ≡ from_scale scale behind
  goes : IsScale base scale behind

sign_looks : (cs : List ℕ) → (sign : List ℕ) × (cs ≡ sign ++ after_sign cs) × IsSignPart sign (after_sign cs)
sign_looks [] = ([], refl, unsigned [] (λ h. h))
sign_looks (c ∷ cs) = by_sign (c == plus || c == minus) refl
  where
    by_sign : (b : Bool) → (c == plus || c == minus) ≡ b → (sign : List ℕ) × (c ∷ cs ≡ sign ++ cond b cs (c ∷ cs)) × IsSignPart sign (cond b cs (c ∷ cs))
    by_sign true e = (c ∷ [], refl, signed c cs (sign_is c e))
    by_sign false e = ([], refl, unsigned (c ∷ cs) (λ h. let t : true ≡ false = sym (sign_yes c h) ∙ e in cc))

scale_looks : (base : Base) (after : List ℕ) → Scaled base after
scale_looks base [] = record { scale = None; behind = []; is_there = refl; goes = λ h. h }
scale_looks base (c ∷ cs) = by_letter (is_exponent_letter base c) refl
  where
    by_letter : (b : Bool) → is_exponent_letter base c ≡ b → Scaled base (c ∷ cs)
    by_letter true e =
        let s = sign_looks cs in
        let digits : List ℕ = front_while (is_in_run Decimal) (after_sign cs) in
        let behind : List ℕ = after_while (is_in_run Decimal) (after_sign cs) in
        let whole : digits ++ behind ≡ after_sign cs = front-after (is_in_run Decimal) (after_sign cs) in
        record {
          scale = Some (record { letter = c; sign = s.0; digits = digits });
          behind = behind;
          is_there = ap (λ l. c ∷ l) (s.1 ∙ ap (λ l. s.0 ++ l) (sym whole));
          goes = (scale_letter base c e, subst (IsSignPart s.0) (sym whole) s.2, each_front (is_in_run Decimal) (after_sign cs), ends_after (is_in_run Decimal) (after_sign cs));
        }
    by_letter false e = record { scale = None; behind = c ∷ cs; is_there = refl; goes = λ h. let t : true ≡ false = sym (letter_scale base c h) ∙ e in cc }

record United (after : List ℕ) : Type 0 where
  imaginary : Bool
  behind : List ℕ
  is_there : after ≡ from_unit imaginary behind
  goes : IsUnit imaginary behind

unit_looks : (after : List ℕ) (o : Option (List ℕ)) → strip letter_i after ≡ o → United after
unit_looks after None e = record { imaginary = false; behind = after; is_there = refl; goes = none_strips letter_i after e }
unit_looks after (Some more) e = record { imaginary = true; behind = more; is_there = strip_is letter_i after more e; goes = tt }

pub record Looks (text : List ℕ) : Type 0 where
  pub parts : Parts
  pub rest : List ℕ
  pub is_there : text ≡ written parts rest
  pub far : GoFar parts rest

pub looks : (text : List ℕ) → Looks text
looks text =
    let b : Base × List ℕ = base_of text in
    let q : Prefixed text b = prefix_looks text in
    let whole : List ℕ = front_while (is_in_run b.0) b.1 in
    let after : List ℕ = after_while (is_in_run b.0) b.1 in
    let f : Fraction b.0 after = fraction_looks b.0 after (strip point after) refl in
    let s : Scaled b.0 f.behind = scale_looks b.0 f.behind in
    let u : United s.behind = unit_looks s.behind (strip letter_i s.behind) refl in
    let p : Parts = record { base = b.0; prefix = q.0; whole = whole; fraction = f.fraction; scale = s.scale; imaginary = u.imaginary } in
    let behind : f.behind ≡ behind_fraction p u.behind = s.is_there ∙ ap (from_scale s.scale) u.is_there in
    let back : after ≡ behind_whole p u.behind = f.is_there ∙ ap (from_fraction f.fraction) behind in
    let digits : b.1 ≡ behind_prefix p u.behind = sym (front-after (is_in_run b.0) b.1) ∙ ap (λ l. whole ++ l) back in
    record {
      parts = p;
      rest = u.behind;
      is_there = q.1 ∙ ap (λ l. q.0 ++ l) digits;
      far = record {
        prefix = subst (IsPrefix b.0 q.0) digits q.2;
        whole = each_front (is_in_run b.0) b.1;
        ends = subst (Ends (is_in_run b.0)) back (ends_after (is_in_run b.0) b.1);
        fraction = subst (IsFraction b.0 f.fraction) behind f.goes;
        scale = subst (IsScale b.0 s.scale) u.is_there s.goes;
        unit = u.goes;
      };
    }

-- no literal is what looks like a number and isn't judged to be one
pub no_number_reads : (p : Parts) (rest : List ℕ) → GoFar p rest → fits p ≡ false → (kind : TokenKind) → IsNumber kind (written p []) → ⊥
no_number_reads p rest g e kind h =
    let read : stop BadNumber (written p []) ≡ token kind true [] =
    sym (ap (λ b. Judged (written p []) b (kind_of p) []) e) ∙ sym (reads p [] (alone p rest g)) ∙ number_again kind (written p []) h in
    cc

-- what looks like a number and is judged to be one is one
pub fit_number : (p : Parts) (rest : List ℕ) → GoFar p rest → fits p ≡ true → IsNumber (kind_of p) (written p [])
fit_number p rest g e =
    let n : NumberIn (kind_of p) (written p []) [] =
    number_takes (written p []) (kind_of p) true [] (reads p [] (alone p rest g) ∙ ap (λ b. Judged (written p []) b (kind_of p) []) e) in
    subst (IsNumber (kind_of p)) (sym (n.1 ∙ append-nil n.0)) n.2

fails_by : (p : Parts) (rest : List ℕ) → GoFar p rest → ((kind : TokenKind) → IsNumber kind (written p []) → ⊥) → (fit : Bool) → fits p ≡ fit → number (written p rest) ≡ stop BadNumber (written p rest)
fails_by p rest g n true e = absurd (n (kind_of p) (fit_number p rest g e))
fails_by p rest g n false e = reads p rest g ∙ ap (λ b. Judged (written p rest) b (kind_of p) rest) e

-- what looks like a number and is none is refused
pub number_fails : (literal rest : List ℕ) → LooksLikeNumber literal rest → ((kind : TokenKind) → IsNumber kind literal → ⊥) → number (literal ++ rest) ≡ stop BadNumber (literal ++ rest)
number_fails literal rest l n =
    let p : Parts = l.parts in
    let text : literal ++ rest ≡ written p rest = ap (λ x. x ++ rest) (sym l.is) ∙ sym (written_front p rest) in
    subst (λ x. number x ≡ stop BadNumber x) (sym text)
    (fails_by p rest l.far (λ kind h. n kind (subst (IsNumber kind) l.is h)) (fits p) refl)
