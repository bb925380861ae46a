use Rattle.std.proofs.Common.{rules, ◌≡◌, None}
use Rattle.set_methods.specs.Pairs.{key_of, known}
use Rattle.set_methods.proofs.PairLemmas.{puts_first}
use Rattle.set_methods.proofs.pairs.meet.Goals as goal

pub returns-clause-firsts : goal.returns-clause-firsts
returns-clause-firsts c =
    let none : known c.args.firsts.now.entries (key_of c.args.method) ≡ None = search rules in
    puts_first (known c.args.firsts.now.entries) (known c.insert.new.self.entries) c.args.method none c.in_ok-insert.ensures.updates.0
