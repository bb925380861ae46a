use Rattle.std.proofs.Common.{◌≡◌, ℕ, List, slice_get, Some, subst, sym, arith}
use Rattle.std.proofs.lemmas.List.{length-map}
use Rattle.cycle_rules.specs.Cycles.{targets_of}
use Rattle.cycle_rules.proofs.PlaceLemmas.{at_within, at-mapped}
use Rattle.front_cases.proofs.fitting.are_shapes.Goals as goal

pub returns : goal.returns
returns c _ =
    let shapes = c.args.shapes.now in
    let end = c.loop-shape-test.false in
    record {
      forms = λ s of at. c.loop-shape.invariant.forms s of (let w = at_within shapes s of at in omega arith) at;
      lists = λ kind a b arrow.
          let row = at-mapped (targets_of kind) shapes a arrow.targets arrow.from in
          let w = at_within shapes a row.0 row.1 in
          let to : slice_get (targets_of kind row.0) arrow.place ≡ Some b = subst (λ (l : List ℕ). slice_get l arrow.place ≡ Some b) (sym row.2) arrow.to in
          let below = c.loop-shape.invariant.lists a row.0 kind arrow.place b (omega arith) row.1 to in
          omega (arith, below, length-map shapes (targets_of kind));
    }
