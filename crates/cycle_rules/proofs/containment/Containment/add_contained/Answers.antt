use Rattle.std.proofs.Common.{List, Bool, length, refl, arith, sym, subst}
use Rattle.std.proofs.lemmas.Option.{slice_get_read}
use Rattle.cycle_rules.specs.declared.shapes.DeclShape.{DeclShape}
use Rattle.cycle_rules.specs.declared.shapes.Form.TheVariants.{Apply}
use Rattle.cycle_rules.specs.Containment.{IsMarked, IsPlaced, Counts}
use Rattle.cycle_rules.proofs.PlaceLemmas.{at_within, at_some}
use Rattle.cycle_rules.proofs.ContainmentLemmas.{only_twice, placed_grown, placed_more, size_more, size_passed, counts_argument}
use Rattle.cycle_rules.proofs.containment.Containment.add_contained.Goals as goal

pub add-requires : goal.add-requires
add-requires c =
    let arguments = c.args.arguments.now in
    let index = c.loop-index.index in
    let s = c.loop-index.self in
    let at = slice_get_read arguments (length arguments) index c.index-arguments-index.result refl c.loop-index-test.true c.index-arguments-index.is in
    let mark = c.contains.ensures.marked c.if-not-contains.false in
    let owns = c.contains.ensures.sound.marked c.args.applied index mark in
    let counts : Counts s.shapes c.args.owner (Apply c.args.applied arguments) = subst (λ (l : List DeclShape). Counts l c.args.owner (Apply c.args.applied arguments)) (sym c.loop-index.invariant.only.shapes) c.requires in
    record { counts = counts_argument s.shapes c.args.owner c.args.applied index (Apply c.args.applied arguments) c.index-arguments-index.result arguments counts refl owns at }

pub loop-index-preserved : goal.loop-index-preserved
loop-index-preserved c =
    let arguments = c.args.arguments.now in
    let index = c.loop-index.index in
    let was = c.loop-index.invariant.only in
    let now = c.in_ok-add.ensures.only in
    let at = slice_get_read arguments (length arguments) index c.index-arguments-index.result refl c.loop-index-test.true c.index-arguments-index.is in
    record {
      only = only_twice was now;
      placed = placed_more arguments index c.index-arguments-index.result at (λ k form. IsMarked c.args.self.now.marks c.args.applied k → IsPlaced c.add.new.self.places c.args.owner form)
          (λ k form below there mark. placed_grown _ _ c.args.owner form now.places (c.loop-index.invariant.placed k form below there mark)) (λ mark. c.in_ok-add.ensures.placed);
      size = size_more arguments index c.index-arguments-index.result at c.loop-index.self.places c.add.new.self.places _ was.at c.in_ok-add.ensures.size c.loop-index.invariant.size;
    }

pub loop-index-preserved-then-not-contains : goal.loop-index-preserved-then-not-contains
loop-index-preserved-then-not-contains c =
    let arguments = c.args.arguments.now in
    let index = c.loop-index.index in
    let only = c.loop-index.invariant.only in
    let item = at_some arguments index c.loop-index-test.true in
    record {
      only = only;
      placed = placed_more arguments index item.0 item.1 (λ k form. IsMarked c.args.self.now.marks c.args.applied k → IsPlaced c.loop-index.self.places c.args.owner form)
          c.loop-index.invariant.placed
          (λ mark. absurd (c.contains.ensures.unmarked c.if-not-contains.true (subst (λ (l : List (List Bool)). IsMarked l c.args.applied index) (sym only.marks) mark)));
      size = size_passed arguments index _ _ c.loop-index-test.true c.loop-index.invariant.size;
    }

pub returns-clause-placed : goal.returns-clause-placed
returns-clause-placed c k form mark at = c.loop-index.invariant.placed k form (let w = at_within c.args.arguments.now k form at in omega arith) at mark
