-- What it takes that a form fits, by its variant.
use Rattle.std.proofs.Common.{◌≡◌, ℕ, ◌<◌, List, slice_get, Some, ap, ◌∙◌, sym, subst}
use Rattle.cycle_rules.specs.declared.shapes.Form.{Form}
use Rattle.cycle_rules.specs.declared.shapes.DeclShape.{DeclShape}
use Rattle.cycle_rules.specs.declared.shapes.Form.TheVariants.{Stop, Held, Apply, Parts, rolls-Apply, rolls-Parts, rolls-Stop, rolls-Held}
use Rattle.cycle_rules.specs.declared.shapes.Form.TheOpen.{Form-F}
use Rattle.cycle_rules.specs.declared.shapes.Form.TheOpen as layer
use Rattle.cycle_rules.specs.declared.shapes.Form.TheViews.{out-Form, roll-Form, out-roll-Form}
use Rattle.cycle_rules.specs.Forms.{Fits, stop, held, applied, parts}

layer_is : (f : Form) (x : Form-F Form) → roll-Form x ≡ f → out-Form f ≡ x
layer_is f x e = sym (ap out-Form e) ∙ out-roll-Form x

pub out-Stop : out-Form Stop ≡ layer.Stop
out-Stop = layer_is Stop layer.Stop rolls-Stop

pub out-Held : (i : ℕ) → out-Form (Held i) ≡ layer.Held i
out-Held i = layer_is (Held i) (layer.Held i) (rolls-Held i)

pub out-Apply : (t : ℕ) (arguments : List Form) → out-Form (Apply t arguments) ≡ layer.Apply t arguments
out-Apply t arguments = layer_is (Apply t arguments) (layer.Apply t arguments) (rolls-Apply t arguments)

pub out-Parts : (all : List Form) → out-Form (Parts all) ≡ layer.Parts all
out-Parts all = layer_is (Parts all) (layer.Parts all) (rolls-Parts all)

pub record FitsApplied (shapes : List DeclShape) (params t : ℕ) (arguments : List Form) : Type 0 where
  pub of : DeclShape
  pub at : slice_get shapes t ≡ Some of
  pub each : (k : ℕ) (form : Form) → slice_get arguments k ≡ Some form → Fits shapes params form

fits-applied : {shapes : List DeclShape} {params : ℕ} {form : Form} (t : ℕ) (arguments : List Form) → Fits shapes params form → out-Form form ≡ layer.Apply t arguments → FitsApplied shapes params t arguments
fits-applied t arguments stop e = let own = out-Stop in absurd cc
fits-applied t arguments (held i h) e = let own = out-Held i in absurd cc
fits-applied {shapes} {params} t arguments (applied u others of at each) e =
    let own : layer.Apply u others ≡ layer.Apply t arguments = sym (out-Apply u others) ∙ e in
    let same : u ≡ t = cc in
    let alike : others ≡ arguments = cc in
    record {
      of = of;
      at = subst (λ (n : ℕ). slice_get shapes n ≡ Some of) same at;
      each = subst (λ (l : List Form). (k : ℕ) (form : Form) → slice_get l k ≡ Some form → Fits shapes params form) alike each;
    }
fits-applied t arguments (parts all each) e = let own = out-Parts all in absurd cc

pub fits-Apply : {shapes : List DeclShape} {params : ℕ} (form : Form) (t : ℕ) (arguments : List Form) → form ≡ Apply t arguments → Fits shapes params form → FitsApplied shapes params t arguments
fits-Apply form t arguments e fits = fits-applied t arguments fits (ap out-Form e ∙ out-Apply t arguments)

fits-parts : {shapes : List DeclShape} {params : ℕ} {form : Form} (all : List Form) → Fits shapes params form → out-Form form ≡ layer.Parts all → (k : ℕ) (part : Form) → slice_get all k ≡ Some part → Fits shapes params part
fits-parts all stop e = let own = out-Stop in absurd cc
fits-parts all (held i h) e = let own = out-Held i in absurd cc
fits-parts all (applied u others of at each) e = let own = out-Apply u others in absurd cc
fits-parts {shapes} {params} all (parts some each) e =
    let own : layer.Parts some ≡ layer.Parts all = sym (out-Parts some) ∙ e in
    let alike : some ≡ all = cc in
    subst (λ (l : List Form). (k : ℕ) (part : Form) → slice_get l k ≡ Some part → Fits shapes params part) alike each

pub fits-Parts : {shapes : List DeclShape} {params : ℕ} (form : Form) (all : List Form) → form ≡ Parts all → Fits shapes params form → (k : ℕ) (part : Form) → slice_get all k ≡ Some part → Fits shapes params part
fits-Parts form all e fits = fits-parts all fits (ap out-Form e ∙ out-Parts all)

fits-held : {shapes : List DeclShape} {params : ℕ} {form : Form} (i : ℕ) → Fits shapes params form → out-Form form ≡ layer.Held i → i < params
fits-held i stop e = let own = out-Stop in absurd cc
fits-held {shapes} {params} i (held j h) e =
    let own : layer.Held j ≡ layer.Held i = sym (out-Held j) ∙ e in
    let same : j ≡ i = cc in
    subst (λ (n : ℕ). n < params) same h
fits-held i (applied u others of at each) e = let own = out-Apply u others in absurd cc
fits-held i (parts all each) e = let own = out-Parts all in absurd cc

pub fits-Held : {shapes : List DeclShape} {params : ℕ} (form : Form) (i : ℕ) → form ≡ Held i → Fits shapes params form → i < params
fits-Held form i e fits = fits-held i fits (ap out-Form e ∙ out-Held i)

-- a form applies one declaration, to one list of arguments
pub same_Apply : (form : Form) (t u : ℕ) (xs ys : List Form) → form ≡ Apply t xs → form ≡ Apply u ys → (t ≡ u) × (xs ≡ ys)
same_Apply form t u xs ys e f =
    let one : layer.Apply t xs ≡ layer.Apply u ys = sym (out-Apply t xs) ∙ sym (ap out-Form e) ∙ ap out-Form f ∙ out-Apply u ys in
    (cc, cc)

pub not_Held_Apply : (form : Form) (i t : ℕ) (xs : List Form) → form ≡ Apply t xs → form ≡ Held i → ⊥
not_Held_Apply form i t xs e f = let one : layer.Apply t xs ≡ layer.Held i = sym (out-Apply t xs) ∙ sym (ap out-Form e) ∙ ap out-Form f ∙ out-Held i in cc

pub not_Parts_Apply : (form : Form) (t : ℕ) (all xs : List Form) → form ≡ Apply t xs → form ≡ Parts all → ⊥
not_Parts_Apply form t all xs e f = let one : layer.Apply t xs ≡ layer.Parts all = sym (out-Apply t xs) ∙ sym (ap out-Form e) ∙ ap out-Form f ∙ out-Parts all in cc

pub not_Held_Parts : (form : Form) (i : ℕ) (all : List Form) → form ≡ Parts all → form ≡ Held i → ⊥
not_Held_Parts form i all e f = let one : layer.Parts all ≡ layer.Held i = sym (out-Parts all) ∙ sym (ap out-Form e) ∙ ap out-Form f ∙ out-Held i in cc

pub same_Parts : (form : Form) (xs ys : List Form) → form ≡ Parts xs → form ≡ Parts ys → xs ≡ ys
same_Parts form xs ys e f = let one : layer.Parts xs ≡ layer.Parts ys = sym (out-Parts xs) ∙ sym (ap out-Form e) ∙ ap out-Form f ∙ out-Parts ys in cc

pub same_Held : (form : Form) (i j : ℕ) → form ≡ Held i → form ≡ Held j → i ≡ j
same_Held form i j e f = let one : layer.Held i ≡ layer.Held j = sym (out-Held i) ∙ sym (ap out-Form e) ∙ ap out-Form f ∙ out-Held j in cc

pub not_Apply_Stop : (form : Form) (t : ℕ) (xs : List Form) → form ≡ Stop → form ≡ Apply t xs → ⊥
not_Apply_Stop form t xs e f = let one : layer.Stop ≡ layer.Apply t xs = sym out-Stop ∙ sym (ap out-Form e) ∙ ap out-Form f ∙ out-Apply t xs in cc

pub not_Parts_Stop : (form : Form) (all : List Form) → form ≡ Stop → form ≡ Parts all → ⊥
not_Parts_Stop form all e f = let one : layer.Stop ≡ layer.Parts all = sym out-Stop ∙ sym (ap out-Form e) ∙ ap out-Form f ∙ out-Parts all in cc

pub not_Held_Stop : (form : Form) (i : ℕ) → form ≡ Stop → form ≡ Held i → ⊥
not_Held_Stop form i e f = let one : layer.Stop ≡ layer.Held i = sym out-Stop ∙ sym (ap out-Form e) ∙ ap out-Form f ∙ out-Held i in cc
