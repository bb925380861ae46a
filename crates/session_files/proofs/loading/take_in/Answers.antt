use Rattle.std.proofs.Common.{◌+◌, ◌<◌, ◌≤◌, length, arith}
use Rattle.std.proofs.lemmas.Result.{err_from_is_err_and}
use Rattle.session_files.specs.Loading.{word_of, total, IsUnfetched, IsSpoilt, Refuses, one_too_many, unfetched, too_long, spoilt}
use Rattle.session_files.specs.OpenSessions.{all_opened}
use Rattle.session_files.specs.declared.limits.TheConstants.{MOST_FILES, MOST_BYTES}
use Rattle.session_files.proofs.OpenLemmas.{length_opened}
use Rattle.session_files.proofs.LoadingLemmas.{weaker_err, weaker_cause}
use Rattle.session_files.proofs.loading.take_in.Goals as goal

pub returns-then-files-ge-MOST_FILES-clause-cause : goal.returns-then-files-ge-MOST_FILES-clause-cause
returns-then-files-ge-MOST_FILES-clause-cause g c = one_too_many (omega (arith, length_opened c.args.files.now, c.if-files-ge-MOST_FILES.true))

pub returns-in_err-body-clause-cause : goal.returns-in_err-body-clause-cause
returns-in_err-body-clause-cause g c =
    let held = g.F.Files.held c.args.device.now in
    let before = g.F.Files.faults c.args.device.now in
    let after = g.F.Files.faults c.fetch.new.device in
    let files = all_opened c.args.files.now in
    let word = word_of c.args.source.now in
    let few : length files < MOST_FILES = omega (arith, length_opened c.args.files.now, c.if-files-ge-MOST_FILES.false) in
    let p = err_from_is_err_and c.from_residual.result c.from_residual.ensures.1 in
    rw (p.1, p.2) (weaker_cause (IsUnfetched held before after word.file) (Refuses held before after files word) (λ r is. unfetched r few is) _ c.in_err-body.ensures.cause)

pub returns-then-len-bytes-clause-cause : goal.returns-then-len-bytes-clause-cause
returns-then-len-bytes-clause-cause g c =
    let few : length (all_opened c.args.files.now) < MOST_FILES = omega (arith, length_opened c.args.files.now, c.if-files-ge-MOST_FILES.false) in
    too_long c.in_ok-body.body.items few c.in_ok-body.ensures.fetched (omega (arith, c.if-len-bytes.true, c.requires.taken, c.requires.small, c.len.ensures))

pub returns-clause-cause : goal.returns-clause-cause
returns-clause-cause g c =
    let held = g.F.Files.held c.args.device.now in
    let before = g.F.Files.faults c.args.device.now in
    let after = g.F.Files.faults c.fetch.new.device in
    let files = all_opened c.args.files.now in
    let word = word_of c.args.source.now in
    let body = c.in_ok-body.body.items in
    let few : length files < MOST_FILES = omega (arith, length_opened c.args.files.now, c.if-files-ge-MOST_FILES.false) in
    let small : total files + length body ≤ MOST_BYTES = omega (arith, c.if-len-bytes.false, c.requires.taken, c.requires.small, c.len.ensures) in
    weaker_err (IsSpoilt word body) (Refuses held before after files word) (λ r is. spoilt r body few c.in_ok-body.ensures.fetched small is) c.open_file.result c.open_file.ensures.cause
