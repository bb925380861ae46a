-- A declaration's first spot and scope.
use Rattle.std.proofs.Common.{◌≡◌, ℕ, List, refl}
use Rattle.go_syntax.specs.declared.tree.Top.{Top}
use Rattle.go_syntax.specs.declared.tree.Top.TheVariants as top
use Rattle.source_trees.specs.Files.{WrittenTop, written_top}
use Rattle.source_walk.specs.Spots.{start, scope}
use Rattle.source_walk.specs.Rows.{scope_in}

pub start_top : (file k : ℕ) (t : WrittenTop) → (start file k t).top ≡ k
unfolding start
start_top file k t = refl

pub scope_is : (source : List ℕ) (all : List Top) (k : ℕ) (t : Top) → scope_in source t ≡ scope (written_top source all k t)
unfolding scope_in
scope_is source all k (top.Constant c) = refl
scope_is source all k (top.Var v) = refl
scope_is source all k (top.Defined d) = refl
scope_is source all k (top.Alias d) = refl
scope_is source all k (top.Func f) = refl

pub ruleset tops = (start_top, scope_is)
