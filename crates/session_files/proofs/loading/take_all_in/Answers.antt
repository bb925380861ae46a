use Rattle.std.proofs.Common.{◌∙◌, arith}
use Rattle.std.proofs.lemmas.Option.{slice_get-get_or}
use Rattle.std.proofs.lemmas.Result.{err_from_is_err_and}
use Rattle.session_files.specs.OpenSessions.{all_opened}
use Rattle.session_files.proofs.LoadingLemmas.{refused_here, next_taken}
use Rattle.session_files.proofs.loading.take_all_in.Goals as goal

pub returns-in_err-file-clause-cause : goal.returns-in_err-file-clause-cause
returns-in_err-file-clause-cause g c =
    let inv = c.loop-source.invariant in
    let held = g.F.Files.held c.args.device.now in
    let now = g.F.Files.held c.loop-source.device in
    let before = g.F.Files.faults c.args.device.now in
    let here = g.F.Files.faults c.loop-source.device in
    let after = g.F.Files.faults c.take_in.new.device in
    let at = slice_get-get_or c.args.sources.now c.loop-source.source-index _ c.loop-source-test.true in
    let e = c.in_err-file.field-0.0 in
    let cause = rw c.deref.ensures.value at c.in_err-file.ensures.cause in
    let p = err_from_is_err_and c.from_residual.result c.from_residual.ensures.1 in
    rw (p.1, p.2) (refused_here held now before here after c.args.sources.now c.loop-source.source-index c.loop-source.bytes _ (all_opened c.loop-source.files.items) at inv.0 inv.1 inv.2 e cause)

pub loop-source-preserved : goal.loop-source-preserved
loop-source-preserved g c =
    let inv = c.loop-source.invariant in
    let held = g.F.Files.held c.args.device.now in
    let now = g.F.Files.held c.loop-source.device in
    let f = c.in_ok-file.file in
    let at = slice_get-get_or c.args.sources.now c.loop-source.source-index _ c.loop-source-test.true in
    let few = rw c.deref.ensures.value at c.in_ok-file.ensures.few in (
      next_taken held now c.args.sources.now c.loop-source.source-index _ c.loop-source.files.items c.push.new.self.items f c.loop-source.bytes c.count_bytes-bytes.result c.parts.result.file.now at inv.0 inv.1 c.in_ok-file.ensures.opened
          c.parts.ensures.exact.bytes c.count_bytes-bytes.ensures.bytes c.count_bytes-bytes.ensures.count few c.in_ok-file.ensures.small c.in_ok-push.ensures.items,
      c.take_in.ensures.kept ∙ inv.1,
      grind arith,
    )
