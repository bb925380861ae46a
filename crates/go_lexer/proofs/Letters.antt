-- Which characters below 128 are letters.
use Rattle.std.proofs.Common.{◌||◌, ◌≡◌, ℕ, Bool, true, false, not, ◌&&◌, ◌==◌, List, [], ◌∷◌, sym, ◌∙◌, refl, subst, arith, eqb}
use borrow.Author.Tests.{true-eqb}
use Rattle.std.proofs.lemmas.Bool.Decides.{nat_tests}
use Rattle.std.specs.Prelude.{codes}
use Rattle.std.specs.List.{list_any}
use Rattle.code_tables.specs.declared.words.Keyword.{Keyword}
use Rattle.code_tables.specs.declared.words.Keyword.TheVariants.{Break, Case, Chan, Const, Continue, Default, Defer, Else, Fallthrough, For, Func, Go, Goto, If, Import, Interface, Map, Package, Range, Return, Select, Struct, Switch, «Type», Var}
use Rattle.code_tables.specs.Keyword.{keyword_text}
use Rattle.ucd_category.specs.GeneralCategory.{general_category}
use Rattle.ucd_category.specs.GeneralCategoryRows.{general_category_rows}
use Rattle.ucd_table.specs.Rows.{value_in}
use Rattle.go_lexer.specs.Characters.{double_quote, single_quote, back_quote, point, slash}
use Rattle.go_lexer.specs.Classes.{is_letter, is_space, is_decimal}
use Rattle.go_lexer.specs.Marks.{is_single}

-- a test of each character
abbrev pub each : (ℕ → Bool) → List ℕ → Bool
each q [] = true
each q (c ∷ cs) = q c && each q cs

pub both : (a b : Bool) → (a && b) ≡ true → (a ≡ true) × (b ≡ true)
both true b e = (refl, e)
both false b e = cc

pub off : (b : Bool) → not b ≡ true → b ≡ false
off true e = sym e
off false e = refl

-- one of the characters passes as each does
one_of_by : (q : ℕ → Bool) (a c : ℕ) (b rest : Bool) → (c == a) ≡ b → (b || rest) ≡ true → q c ≡ true → (rest ≡ true → q a ≡ true) → q a ≡ true
one_of_by q a c true rest h e k f = subst (λ x. q x ≡ true) (true-eqb c a (sym h)) k
one_of_by q a c false rest h e k f = f e

pub one_of : (q : ℕ → Bool) (a : ℕ) (cs : List ℕ) → list_any (λ m. m == a) cs ≡ true → each q cs ≡ true → q a ≡ true
one_of q a [] e h = cc
one_of q a (c ∷ cs) e h = one_of_by q a c (c == a) (list_any (λ m. m == a) cs) refl e (both (q c) (each q cs) h).0 (λ k. one_of q a cs k (both (q c) (each q cs) h).1)

-- a mark's first character begins nothing else, but for a point and a slash
abbrev pub begins_mark : ℕ → Bool
begins_mark a = not (is_space a) && (not (is_decimal a) && (not (eqb a double_quote) && (not (eqb a single_quote) && (not (eqb a back_quote) && not (is_letter a)))))

singles : each begins_mark (codes "+-*/%&|^<>=!()[]{},;.:~") ≡ true
unfolding is_letter general_category value_in general_category_rows
singles = refl

pub single_begins : (a : ℕ) → is_single a ≡ true → begins_mark a ≡ true
single_begins a h = one_of begins_mark a (codes "+-*/%&|^<>=!()[]{},;.:~") h singles

-- the first characters of longer marks are marks
heads_by : (b rest q : Bool) → (b || rest) ≡ true → (b ≡ true → q ≡ true) → (rest ≡ true → q ≡ true) → q ≡ true
heads_by true rest q e f g = f refl
heads_by false rest q e f g = g e

others : each (λ c. not (is_letter c)) (codes " \t\r\n0123456789./\"'`") ≡ true
unfolding is_letter general_category value_in general_category_rows
others = refl

other_off : (c : ℕ) → list_any (λ m. m == c) (codes " \t\r\n0123456789./\"'`") ≡ true → is_letter c ≡ false
other_off c h = off (is_letter c) (one_of (λ c. not (is_letter c)) c (codes " \t\r\n0123456789./\"'`") h others)

not_other : (c : ℕ) (b : Bool) → b ≡ is_letter c → is_letter c ≡ true → (is_letter c ≡ false → ⊥)
not_other c b e h k = let f : true ≡ false = sym h ∙ k in cc

by_test : (c : ℕ) (b : Bool) → is_letter c ≡ true → (b ≡ true → is_letter c ≡ false) → b ≡ false
by_test c true h f = let k : true ≡ false = sym h ∙ f refl in k
by_test c false h f = refl

pub letter_no_space : (c : ℕ) → is_letter c ≡ true → is_space c ≡ false
letter_no_space c h = by_test c (is_space c) h (λ e. other_off c (grind (arith, nat_tests)))

pub letter_no_decimal : (c : ℕ) → is_letter c ≡ true → is_decimal c ≡ false
letter_no_decimal c h = by_test c (is_decimal c) h (λ e. other_off c (grind (arith, nat_tests)))

pub letter_no_point : (c : ℕ) → is_letter c ≡ true → eqb c point ≡ false
letter_no_point c h = by_test c (eqb c point) h (λ e. other_off c (grind (arith, nat_tests)))

pub letter_no_slash : (c : ℕ) → is_letter c ≡ true → eqb c slash ≡ false
letter_no_slash c h = by_test c (eqb c slash) h (λ e. other_off c (grind (arith, nat_tests)))

pub letter_no_double : (c : ℕ) → is_letter c ≡ true → eqb c double_quote ≡ false
letter_no_double c h = by_test c (eqb c double_quote) h (λ e. other_off c (grind (arith, nat_tests)))

pub letter_no_single : (c : ℕ) → is_letter c ≡ true → eqb c single_quote ≡ false
letter_no_single c h = by_test c (eqb c single_quote) h (λ e. other_off c (grind (arith, nat_tests)))

pub letter_no_back : (c : ℕ) → is_letter c ≡ true → eqb c back_quote ≡ false
letter_no_back c h = by_test c (eqb c back_quote) h (λ e. other_off c (grind (arith, nat_tests)))

pub decimal_no_space : (c : ℕ) → is_decimal c ≡ true → is_space c ≡ false
decimal_no_space c h = grind (arith, nat_tests)

-- keywords are of letters
pub word_letters : (k : Keyword) → each is_letter (keyword_text k) ≡ true
unfolding is_letter general_category value_in general_category_rows
word_letters Break = refl
word_letters Case = refl
word_letters Chan = refl
word_letters Const = refl
word_letters Continue = refl
word_letters Default = refl
word_letters Defer = refl
word_letters Else = refl
word_letters Fallthrough = refl
word_letters For = refl
word_letters Func = refl
word_letters Go = refl
word_letters Goto = refl
word_letters If = refl
word_letters Import = refl
word_letters Interface = refl
word_letters Map = refl
word_letters Package = refl
word_letters Range = refl
word_letters Return = refl
word_letters Select = refl
word_letters Struct = refl
word_letters Switch = refl
word_letters «Type» = refl
word_letters Var = refl
