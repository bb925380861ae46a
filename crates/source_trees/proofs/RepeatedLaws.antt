-- What constants repeat stands before them.
use Rattle.std.proofs.Common.{◌≡◌, ◌≤◌, ◌-◌, ℕ, List, Some, sym, ap, ◌∙◌}
use Rattle.go_syntax.specs.declared.tree.ConstSpec.{ConstSpec}
use Rattle.go_syntax.specs.declared.tree.Top.{Top}
use Rattle.go_syntax.specs.declared.tree.Top.TheVariants as top
use Rattle.go_syntax.specs.StandingFiles.{AreRepeated}
use Rattle.source_trees.specs.Files.{constants_or, repeated}
use Rattle.source_trees.specs.Laws.{AreConstants}

module _ (tops : List Top) (k : ℕ) (c : ConstSpec) (r : AreRepeated tops) (is : AreConstants tops k c) where
  same : repeated tops k c ≡ (r k c is).found
  same = ap (constants_or c) (r k c is).stands

  pub found : AreConstants tops (k - (c.iota - c.source)) (repeated tops k c)
  found = (r k c is).stands ∙ ap (λ x. Some (top.Constant x)) (sym same)

  pub inside : c.iota - c.source ≤ k
  inside = (r k c is).back

  pub number : (repeated tops k c).iota ≡ c.source
  number = ap (λ x. x.iota) same ∙ (r k c is).number

  pub own : (repeated tops k c).source ≡ c.source
  own = ap (λ x. x.source) same ∙ (r k c is).own
