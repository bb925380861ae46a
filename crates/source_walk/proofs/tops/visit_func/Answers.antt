use Rattle.std.proofs.Common.{map, refl}
use Rattle.source_trees.specs.Trees.{written_sig}
use Rattle.source_trees.specs.Files.{written_tparam}
use Rattle.source_walk.specs.Spots.{signature_of}
use Rattle.source_walk.specs.Visits.{tparams_visits, sig_visits}
use Rattle.source_walk.specs.Rows.{scope_in}
use Rattle.source_walk.proofs.SeenLaws.{two_lists}
use Rattle.source_walk.proofs.tops.visit_func.Goals as goal

pub returns-clause-told : goal.returns-clause-told
returns-clause-told g c = two_lists g.V.Visitor.join _ _ _ _ _ _
    (tparams_visits c.args.spot (scope_in c.args.around.now.source.now c.args.around.now.top.now) (map (written_tparam c.args.around.now.source.now) c.args.func.now.tparams))
    (sig_visits (signature_of c.args.spot) (scope_in c.args.around.now.source.now c.args.around.now.top.now) (written_sig c.args.around.now.source.now c.args.func.now.sig)) _
    refl (rw c.as_slice.ensures at c.in_ok-visit_tparams.ensures.told) c.in_ok-visit_tparams.ensures.kept (rw c.signature.ensures at c.visit_sig.ensures.told)
