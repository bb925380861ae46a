use Rattle.std.proofs.Common.{ap, length, ◌≡◌, ◌++◌, ◌∷◌, ◌+◌, [], length, ap, arith, map, ◌∙◌}
use Rattle.std.proofs.lemmas.Result.{err_from_is_err_and}
use Rattle.std.proofs.lemmas.List.{map_push, length-append}
use Rattle.wire_bytes.proofs.ManyLemmas.{goes_on, is_done}
use Rattle.name_index.proofs.Lists.{all_pushed, numbered_pushed, name_count-push}
use Rattle.name_index.proofs.Loops.{ends}
use Rattle.name_index.specs.Records.{package_of, name_count}
use Rattle.name_index.proofs.full.packages.read_packages.Goals as goal

pub returns-in_err-package-clause-exact : goal.returns-in_err-package-clause-exact
returns-in_err-package-clause-exact c =
    let p = err_from_is_err_and c.from_residual.result c.from_residual.ensures.1 in
    rw (p.1, p.2) (ends c.in_err-package.field-0.0 _ _ _ c.args.count c.loop.counter _ c.loop.cursor _ c.loop-test.true c.in_err-package.ensures.exact c.loop.invariant.read)

pub loop-preserved : goal.loop-preserved
loop-preserved c =
    let p = c.in_ok-package.package in
    let ps = c.loop.packages.items in
    let pushed : map (package_of c.args.strings.now) c.push.new.self.items ≡ map (package_of c.args.strings.now) ps ++ package_of c.args.strings.now p ∷ [] = rw c.in_ok-push.ensures.items (map_push _ ps p) in
    let counted : name_count c.push.new.self.items ≡ name_count ps + length p.entries.items = ap name_count c.in_ok-push.ensures.items ∙ name_count-push ps p in
    let len : length c.as_slice.result.now ≡ length p.entries.items = ap length c.as_slice.ensures.value in
    record {
      inside = rw c.in_ok-push.ensures.items (all_pushed _ ps p c.loop.invariant.inside c.in_ok-package.ensures.inside);
      numbered = rw c.in_ok-push.ensures.items (numbered_pushed 0 ps p c.loop.invariant.numbered (omega (arith, c.in_ok-package.ensures.first, c.loop.invariant.first_is)));
      first_is = omega (arith, counted, len, c.loop.invariant.first_is);
      few = omega (arith, ap length c.in_ok-push.ensures.items, length-append ps (p ∷ []), c.loop.invariant.few, c.in_ok-package.ensures.progress);
      progress = omega (arith, len, c.loop.invariant.progress, c.in_ok-package.ensures.progress);
      read = rw pushed (goes_on _ _ (map (package_of c.args.strings.now) ps) c.args.count c.loop.counter _ c.loop.cursor (package_of c.args.strings.now p) c.read_package.new.cursor _ c.loop-test.true c.in_ok-package.ensures.exact c.loop.invariant.read);
    }

pub returns-clause-exact : goal.returns-clause-exact
returns-clause-exact c = is_done _ _ _ c.args.count c.loop.counter _ c.loop.cursor _ c.loop-test.false c.loop.invariant.read
