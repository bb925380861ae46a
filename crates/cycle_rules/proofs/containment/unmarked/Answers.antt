use Rattle.std.proofs.Common.{◌≡◌, ◌+◌, ◌++◌, [], ◌∷◌, List, Bool, length, take, map, refl}
use Rattle.std.proofs.lemmas.List.{map-append}
use Rattle.std.proofs.lemmas.Option.{slice_get_read}
use Rattle.std.specs.declared.vec.Vec.{Vec}
use Rattle.std.specs.declared.alloc.Global.{Global}
use Rattle.cycle_rules.specs.declared.shapes.DeclShape.{DeclShape}
use Rattle.cycle_rules.specs.Containment.{IsUnmarked}
use Rattle.cycle_rules.proofs.ContainmentLemmas.{unmarked_more}
use Rattle.cycle_rules.proofs.containment.unmarked.Goals as goal

pushed : (shapes : List DeclShape) (rows rows' : List (Vec Bool Global)) (row : Vec Bool Global) → rows' ≡ rows ++ row ∷ [] → IsUnmarked shapes (map (λ r. r.items) rows ++ row.items ∷ []) → IsUnmarked shapes (map (λ r. r.items) rows')
pushed shapes rows rows' row e was = rw (e, map-append (λ r. r.items) rows (row ∷ [])) was

pub loop-shape-preserved : goal.loop-shape-preserved
loop-shape-preserved c =
    let shapes = c.args.shapes.now in
    let index = c.loop-shape.shape-index in
    let at = slice_get_read shapes (length shapes) index c.shape-item.result refl c.loop-shape-test.true c.shape-item.is in
    pushed (take (index + 1) shapes) c.loop-shape.rows.items c.push.new.self.items c.in_ok-vec.field-0 c.in_ok-push.ensures.items
    (unmarked_more shapes index c.shape-item.result (map (λ r. r.items) c.loop-shape.rows.items) c.in_ok-vec.field-0.items at (c.in_ok-vec.ensures.items_if_clones_equal (λ y e. e)) c.loop-shape.invariant)
