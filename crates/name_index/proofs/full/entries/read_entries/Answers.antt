use Rattle.std.proofs.Common.{ap, length, arith, ◌≡◌, ◌++◌, ◌∷◌, [], map}
use Rattle.std.proofs.lemmas.Result.{err_from_is_err_and}
use Rattle.std.proofs.lemmas.List.{map_push, length-append}
use Rattle.wire_bytes.proofs.ManyLemmas.{goes_on, fails, is_done}
use Rattle.name_index.proofs.Lists.{all_pushed}
use Rattle.name_index.specs.Records.{entry_of}
use Rattle.name_index.proofs.full.entries.read_entries.Goals as goal

pub returns-in_err-entry-clause-exact : goal.returns-in_err-entry-clause-exact
returns-in_err-entry-clause-exact c =
    let p = err_from_is_err_and c.from_residual.result c.from_residual.ensures.1 in
    rw (p.1, p.2) (fails _ _ _ c.args.count c.loop.counter _ c.loop.cursor c.in_err-entry.field-0.0 _ c.loop-test.true c.in_err-entry.ensures.exact c.loop.invariant.read)

pub loop-preserved : goal.loop-preserved
loop-preserved c =
    let e = c.in_ok-entry.entry in
    let pushed : map (entry_of c.args.strings.now) c.push.new.self.items ≡ map (entry_of c.args.strings.now) c.loop.entries.items ++ entry_of c.args.strings.now e ∷ [] = rw c.in_ok-push.ensures.items (map_push _ c.loop.entries.items e) in
    record {
      inside = rw c.in_ok-push.ensures.items (all_pushed _ c.loop.entries.items e c.loop.invariant.inside c.in_ok-entry.ensures.inside);
      progress = omega (arith, c.loop.invariant.progress, c.in_ok-entry.ensures.progress, ap length c.in_ok-push.ensures.items, length-append c.loop.entries.items (e ∷ []));
      read = rw pushed (goes_on _ _ (map (entry_of c.args.strings.now) c.loop.entries.items) c.args.count c.loop.counter _ c.loop.cursor (entry_of c.args.strings.now e) c.read_entry.new.cursor _ c.loop-test.true c.in_ok-entry.ensures.exact c.loop.invariant.read);
    }

pub returns-clause-exact : goal.returns-clause-exact
returns-clause-exact c = is_done _ _ _ c.args.count c.loop.counter _ c.loop.cursor _ c.loop-test.false c.loop.invariant.read
