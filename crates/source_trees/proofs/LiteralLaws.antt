-- Each literal stands for one thing, which is what reading it gives.
use Rattle.std.proofs.Common.{◌≡◌, ◌<◌, ◌≤◌, ◌^◌, ℕ, true, List, Option, Some, None, Result, Ok, Err, refl, sym, ap, subst, ◌∙◌, arith}
use Rattle.std.specs.Prelude.{pos, ℤ}
use Rattle.std.specs.Int.{w128}
use Rattle.std.proofs.lemmas.Int.{to_z-of_z}
use mir.Val.{SFits, to_z, of_z}
use Rattle.go_lexer.specs.TokenTexts.{IsTokenOf, bytes_at}
use Rattle.go_lexer.specs.declared.token_kinds.Token.{Token}
use Rattle.go_lexer.specs.declared.token_kinds.TokenKind.{TokenKind}
use Rattle.go_lexer.specs.declared.token_kinds.TokenKind.TheVariants as kind
use Rattle.go_expr_syntax.specs.StandingExprs.{is_literal, LiteralStands}
use Rattle.number_literals.specs.Reading.{answer, whole_of}
use Rattle.number_literals.specs.RuneReading.{rune_of}
use Rattle.number_literals.specs.Runes.{HasRune}
use Rattle.number_literals.specs.Wholes.{HasWhole, IsWholeFault}
use Rattle.number_literals.specs.declared.faults.ValueFault.{ValueFault}
use Rattle.number_literals.specs.declared.faults.ValueFault.TheVariants.{NotALiteral, Wide}
use Rattle.number_literals.proofs.Laws as wholes
use Rattle.number_literals.proofs.RuneLaws.{rune_takes, rune_again}
use Rattle.number_literals.proofs.RuneTokens as runes
use Rattle.string_literals.proofs.Again.{value_again}
use Rattle.string_literals.proofs.Valued as texts
use Rattle.source_trees.specs.declared.literals.Literal.{Literal}
use Rattle.source_trees.specs.declared.literals.Literal.TheVariants as lit
use Rattle.source_trees.specs.Literals as l
use Rattle.source_trees.specs.Literals.{HasLiteral, whole_literal, rune_literal, literal_by, literal_of}

-- ---- what reading answers

whole_by : (cs : List ℕ) (n : ℕ) → HasWhole cs n → n < 2 ^ 127 → (r : Result ℕ ValueFault) → answer (whole_of cs) ≡ r → whole_literal r ≡ lit.Whole (pos n)
whole_by cs n h small (Ok m) e = let k = wholes.is_found cs m (sym e) in ap (λ i. lit.Whole (pos i)) (wholes.one_value cs m n k.0 h)
whole_by cs n h small (Err Wide) e = let k : IsWholeFault cs Wide = wholes.is_fault cs Wide (sym e) in let same : k.0 ≡ n = wholes.one_value cs k.0 n k.1 h in let wide : 2 ^ 127 ≤ k.0 = k.2 in absurd (omega (arith, same, wide, small))
whole_by cs n h small (Err NotALiteral) e = absurd (wholes.is_fault cs NotALiteral (sym e) n h)

pub whole_again : (cs : List ℕ) (n : ℕ) → HasWhole cs n → n < 2 ^ 127 → whole_literal (answer (whole_of cs)) ≡ lit.Whole (pos n)
whole_again cs n h small = whole_by cs n h small (answer (whole_of cs)) refl

pub ok_found : (cs : List ℕ) (v : ℤ) → SFits w128 v → (n : ℕ) × HasWhole cs n × (v ≡ pos n) → lit.Whole (to_z w128 (of_z w128 v)) ≡ whole_literal (answer (whole_of cs))
ok_found cs v fits h = let g : SFits w128 (pos h.0) = subst (SFits w128) h.2 fits in let small : h.0 < 2 ^ 127 = g.sfits in ap (λ z. lit.Whole z) (to_z-of_z w128 v fits ∙ h.2) ∙ sym (whole_again cs h.0 h.1 small)

wide_by : (cs : List ℕ) (n : ℕ) → HasWhole cs n → 2 ^ 127 ≤ n → (r : Result ℕ ValueFault) → answer (whole_of cs) ≡ r → whole_literal r ≡ lit.TooWide
wide_by cs n h wide (Ok m) e = let k = wholes.is_found cs m (sym e) in let same : m ≡ n = wholes.one_value cs m n k.0 h in let small : m < 2 ^ 127 = k.1 in absurd (omega (arith, same, wide, small))
wide_by cs n h wide (Err Wide) e = refl
wide_by cs n h wide (Err NotALiteral) e = absurd (wholes.is_fault cs NotALiteral (sym e) n h)

pub wide_again : (cs : List ℕ) → IsWholeFault cs Wide → whole_literal (answer (whole_of cs)) ≡ lit.TooWide
wide_again cs h = wide_by cs h.0 h.1 h.2 (answer (whole_of cs)) refl

none_by : (cs : List ℕ) → IsWholeFault cs NotALiteral → (r : Result ℕ ValueFault) → answer (whole_of cs) ≡ r → whole_literal r ≡ lit.NoLiteral
none_by cs h (Ok m) e = absurd (h m (wholes.is_found cs m (sym e)).0)
none_by cs h (Err Wide) e = let k : IsWholeFault cs Wide = wholes.is_fault cs Wide (sym e) in absurd (h k.0 k.1)
none_by cs h (Err NotALiteral) e = refl

pub none_again : (cs : List ℕ) → IsWholeFault cs NotALiteral → whole_literal (answer (whole_of cs)) ≡ lit.NoLiteral
none_again cs h = none_by cs h (answer (whole_of cs)) refl

pub rune_found : (cs : List ℕ) (v : ℕ) → HasRune cs v → rune_literal (rune_of cs) ≡ lit.Rune v
rune_found cs v h = ap rune_literal (rune_again cs v h)

no_rune_by : (cs : List ℕ) → ((v : ℕ) → HasRune cs v → ⊥) → (r : Option ℕ) → rune_of cs ≡ r → rune_literal r ≡ lit.NoLiteral
no_rune_by cs h (Some v) e = absurd (h v (rune_takes cs v e))
no_rune_by cs h None e = refl

pub no_rune : (cs : List ℕ) → ((v : ℕ) → HasRune cs v → ⊥) → rune_literal (rune_of cs) ≡ lit.NoLiteral
no_rune cs h = no_rune_by cs h (rune_of cs) refl

-- ---- one thing

literal_again : (k : TokenKind) (bytes : List ℕ) (x : Literal) → HasLiteral k bytes x → literal_by k bytes ≡ x
literal_again k bytes x (l.a_whole cs n h small) = whole_again cs n h small
literal_again k bytes x (l.a_wide_one cs n h wide) = wide_again cs (n, h, wide)
literal_again k bytes x (l.a_rune cs n h) = rune_found cs n h
literal_again k bytes x (l.a_text cs value h) = ap lit.Text (value_again cs value h)
literal_again k bytes x (l.a_floating_one cs) = refl
literal_again k bytes x (l.an_imaginary_one cs) = refl

pub one : (k : TokenKind) (bytes : List ℕ) (x y : Literal) → HasLiteral k bytes x → HasLiteral k bytes y → x ≡ y
one k bytes x y a b = sym (literal_again k bytes x a) ∙ literal_again k bytes y b

-- ---- each literal of a source

whole_stands : (cs : List ℕ) (n : ℕ) → HasWhole cs n → (r : Result ℕ ValueFault) → answer (whole_of cs) ≡ r → HasLiteral kind.Whole cs (whole_literal r)
whole_stands cs n h (Ok m) e = let k = wholes.is_found cs m (sym e) in l.a_whole cs m k.0 k.1
whole_stands cs n h (Err Wide) e = let k : IsWholeFault cs Wide = wholes.is_fault cs Wide (sym e) in l.a_wide_one cs k.0 k.1 k.2
whole_stands cs n h (Err NotALiteral) e = absurd (wholes.is_fault cs NotALiteral (sym e) n h)

by_kind : (source : List ℕ) (t : Token) → IsTokenOf source t → (k : TokenKind) → t.kind ≡ k → is_literal k ≡ true → HasLiteral k (bytes_at source t) (literal_by k (bytes_at source t))
by_kind source t h kind.Whole e f = let w = wholes.token_valued source t h e in whole_stands (bytes_at source t) w.0 w.1 (answer (whole_of (bytes_at source t))) refl
by_kind source t h kind.Rune e f = let w = runes.token_valued source t h e in subst (HasLiteral kind.Rune (bytes_at source t)) (sym (rune_found (bytes_at source t) w.0 w.1)) (l.a_rune (bytes_at source t) w.0 w.1)
by_kind source t h kind.Text e f = let w = texts.token_valued source t h e in subst (λ v. HasLiteral kind.Text (bytes_at source t) (lit.Text v)) (sym (value_again (bytes_at source t) w.0 w.1)) (l.a_text (bytes_at source t) w.0 w.1)
by_kind source t h kind.Floating e f = l.a_floating_one (bytes_at source t)
by_kind source t h kind.Imaginary e f = l.an_imaginary_one (bytes_at source t)
by_kind source t h _ e f = absurd cc

pub each : (source : List ℕ) (t : Token) → LiteralStands source t → HasLiteral t.kind (bytes_at source t) (literal_of source t)
unfolding literal_of
each source t h = by_kind source t h.0 t.kind refl h.1
