-- Keywords by their texts.
use Rattle.std.proofs.Common.{◌≡◌, ℕ, Bool, true, false, ◌&&◌, nat_eq, List, [], ◌∷◌, Option, Some, None, sym, ap, ◌∙◌, refl, ⊎_elim}
use borrow.Author.Tests.{true-eqb}
use Rattle.std.specs.Prelude.{codes}
use Rattle.std.specs.Char.{encode_utf8}
use Rattle.std.specs.Str.{encode_utf8_all}
use Rattle.code_tables.specs.declared.words.Keyword.{Keyword}
use Rattle.code_tables.specs.declared.words.Keyword.TheVariants.{Break, Case, Chan, Const, Continue, Default, Defer, Else, Fallthrough, For, Func, Go, Goto, If, Import, Interface, Map, Package, Range, Return, Select, Struct, Switch, «Type», Var}
use Rattle.code_tables.specs.Keyword.{keyword_text}
use Rattle.go_lexer.proofs.Choices.{chosen}
use Rattle.go_lexer.specs.Words.{same, early_keyword, late_keyword, keyword_or, keyword_of}

both : (a b : Bool) → (a && b) ≡ true → (a ≡ true) × (b ≡ true)
both true b e = (refl, e)
both false b e = cc

same_is : (xs ys : List ℕ) → same xs ys ≡ true → xs ≡ ys
same_is [] [] e = refl
same_is [] (y ∷ ys) e = cc
same_is (x ∷ xs) [] e = cc
same_is (x ∷ xs) (y ∷ ys) e =
    let h = both (nat_eq x y) (same xs ys) e in
    let head : x ≡ y = true-eqb x y (sym h.0) in
    let tail : xs ≡ ys = same_is xs ys h.1 in
    (λ i. head i ∷ tail i)

early_is : (w : List ℕ) (k : Keyword) → early_keyword w ≡ Some k → w ≡ keyword_text k
early_is w k e0 = ⊎_elim
    (λ h. same_is w (codes "break") h.0 ∙ ap keyword_text (let k : Break ≡ k = cc (h.1) in k))
    (λ h0. ⊎_elim
    (λ h. same_is w (codes "case") h.0 ∙ ap keyword_text (let k : Case ≡ k = cc (h.1) in k))
    (λ h1. ⊎_elim
    (λ h. same_is w (codes "chan") h.0 ∙ ap keyword_text (let k : Chan ≡ k = cc (h.1) in k))
    (λ h2. ⊎_elim
    (λ h. same_is w (codes "const") h.0 ∙ ap keyword_text (let k : Const ≡ k = cc (h.1) in k))
    (λ h3. ⊎_elim
    (λ h. same_is w (codes "continue") h.0 ∙ ap keyword_text (let k : Continue ≡ k = cc (h.1) in k))
    (λ h4. ⊎_elim
    (λ h. same_is w (codes "default") h.0 ∙ ap keyword_text (let k : Default ≡ k = cc (h.1) in k))
    (λ h5. ⊎_elim
    (λ h. same_is w (codes "defer") h.0 ∙ ap keyword_text (let k : Defer ≡ k = cc (h.1) in k))
    (λ h6. ⊎_elim
    (λ h. same_is w (codes "else") h.0 ∙ ap keyword_text (let k : Else ≡ k = cc (h.1) in k))
    (λ h7. ⊎_elim
    (λ h. same_is w (codes "fallthrough") h.0 ∙ ap keyword_text (let k : Fallthrough ≡ k = cc (h.1) in k))
    (λ h8. ⊎_elim
    (λ h. same_is w (codes "for") h.0 ∙ ap keyword_text (let k : For ≡ k = cc (h.1) in k))
    (λ h9. ⊎_elim
    (λ h. same_is w (codes "func") h.0 ∙ ap keyword_text (let k : Func ≡ k = cc (h.1) in k))
    (λ h10. ⊎_elim
    (λ h. same_is w (codes "go") h.0 ∙ ap keyword_text (let k : Go ≡ k = cc (h.1) in k))
    (λ h11. ⊎_elim
    (λ h. same_is w (codes "goto") h.0 ∙ ap keyword_text (let k : Goto ≡ k = cc (h.1) in k))
    (λ h12. cc (h12.1))
    (chosen (same w (codes "goto")) _ _ _ (h11.1)))
    (chosen (same w (codes "go")) _ _ _ (h10.1)))
    (chosen (same w (codes "func")) _ _ _ (h9.1)))
    (chosen (same w (codes "for")) _ _ _ (h8.1)))
    (chosen (same w (codes "fallthrough")) _ _ _ (h7.1)))
    (chosen (same w (codes "else")) _ _ _ (h6.1)))
    (chosen (same w (codes "defer")) _ _ _ (h5.1)))
    (chosen (same w (codes "default")) _ _ _ (h4.1)))
    (chosen (same w (codes "continue")) _ _ _ (h3.1)))
    (chosen (same w (codes "const")) _ _ _ (h2.1)))
    (chosen (same w (codes "chan")) _ _ _ (h1.1)))
    (chosen (same w (codes "case")) _ _ _ (h0.1)))
    (chosen (same w (codes "break")) _ _ _ (e0))

late_is : (w : List ℕ) (k : Keyword) → late_keyword w ≡ Some k → w ≡ keyword_text k
late_is w k e0 = ⊎_elim
    (λ h. same_is w (codes "if") h.0 ∙ ap keyword_text (let k : If ≡ k = cc (h.1) in k))
    (λ h0. ⊎_elim
    (λ h. same_is w (codes "import") h.0 ∙ ap keyword_text (let k : Import ≡ k = cc (h.1) in k))
    (λ h1. ⊎_elim
    (λ h. same_is w (codes "interface") h.0 ∙ ap keyword_text (let k : Interface ≡ k = cc (h.1) in k))
    (λ h2. ⊎_elim
    (λ h. same_is w (codes "map") h.0 ∙ ap keyword_text (let k : Map ≡ k = cc (h.1) in k))
    (λ h3. ⊎_elim
    (λ h. same_is w (codes "package") h.0 ∙ ap keyword_text (let k : Package ≡ k = cc (h.1) in k))
    (λ h4. ⊎_elim
    (λ h. same_is w (codes "range") h.0 ∙ ap keyword_text (let k : Range ≡ k = cc (h.1) in k))
    (λ h5. ⊎_elim
    (λ h. same_is w (codes "return") h.0 ∙ ap keyword_text (let k : Return ≡ k = cc (h.1) in k))
    (λ h6. ⊎_elim
    (λ h. same_is w (codes "select") h.0 ∙ ap keyword_text (let k : Select ≡ k = cc (h.1) in k))
    (λ h7. ⊎_elim
    (λ h. same_is w (codes "struct") h.0 ∙ ap keyword_text (let k : Struct ≡ k = cc (h.1) in k))
    (λ h8. ⊎_elim
    (λ h. same_is w (codes "switch") h.0 ∙ ap keyword_text (let k : Switch ≡ k = cc (h.1) in k))
    (λ h9. ⊎_elim
    (λ h. same_is w (codes "type") h.0 ∙ ap keyword_text (let k : «Type» ≡ k = cc (h.1) in k))
    (λ h10. ⊎_elim
    (λ h. same_is w (codes "var") h.0 ∙ ap keyword_text (let k : Var ≡ k = cc (h.1) in k))
    (λ h11. cc (h11.1))
    (chosen (same w (codes "var")) _ _ _ (h10.1)))
    (chosen (same w (codes "type")) _ _ _ (h9.1)))
    (chosen (same w (codes "switch")) _ _ _ (h8.1)))
    (chosen (same w (codes "struct")) _ _ _ (h7.1)))
    (chosen (same w (codes "select")) _ _ _ (h6.1)))
    (chosen (same w (codes "return")) _ _ _ (h5.1)))
    (chosen (same w (codes "range")) _ _ _ (h4.1)))
    (chosen (same w (codes "package")) _ _ _ (h3.1)))
    (chosen (same w (codes "map")) _ _ _ (h2.1)))
    (chosen (same w (codes "interface")) _ _ _ (h1.1)))
    (chosen (same w (codes "import")) _ _ _ (h0.1)))
    (chosen (same w (codes "if")) _ _ _ (e0))

either : (a b : Option Keyword) (k : Keyword) (w : List ℕ) → (a ≡ Some k → w ≡ keyword_text k) → (b ≡ Some k → w ≡ keyword_text k) → keyword_or a b ≡ Some k → w ≡ keyword_text k
either (Some j) b k w f g e = f e
either None b k w f g e = g e

-- what is read as a keyword is spelled so
pub keyword_is : (w : List ℕ) (k : Keyword) → keyword_of w ≡ Some k → w ≡ keyword_text k
keyword_is w k e = either (early_keyword w) (late_keyword w) k w (early_is w k) (late_is w k) e

pub keyword_again : (k : Keyword) → keyword_of (keyword_text k) ≡ Some k
keyword_again Break = refl
keyword_again Case = refl
keyword_again Chan = refl
keyword_again Const = refl
keyword_again Continue = refl
keyword_again Default = refl
keyword_again Defer = refl
keyword_again Else = refl
keyword_again Fallthrough = refl
keyword_again For = refl
keyword_again Func = refl
keyword_again Go = refl
keyword_again Goto = refl
keyword_again If = refl
keyword_again Import = refl
keyword_again Interface = refl
keyword_again Map = refl
keyword_again Package = refl
keyword_again Range = refl
keyword_again Return = refl
keyword_again Select = refl
keyword_again Struct = refl
keyword_again Switch = refl
keyword_again «Type» = refl
keyword_again Var = refl

pub text_bytes : (k : Keyword) → encode_utf8_all (keyword_text k) ≡ keyword_text k
unfolding encode_utf8
text_bytes Break = refl
text_bytes Case = refl
text_bytes Chan = refl
text_bytes Const = refl
text_bytes Continue = refl
text_bytes Default = refl
text_bytes Defer = refl
text_bytes Else = refl
text_bytes Fallthrough = refl
text_bytes For = refl
text_bytes Func = refl
text_bytes Go = refl
text_bytes Goto = refl
text_bytes If = refl
text_bytes Import = refl
text_bytes Interface = refl
text_bytes Map = refl
text_bytes Package = refl
text_bytes Range = refl
text_bytes Return = refl
text_bytes Select = refl
text_bytes Struct = refl
text_bytes Switch = refl
text_bytes «Type» = refl
text_bytes Var = refl
