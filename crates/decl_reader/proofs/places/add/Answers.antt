use Rattle.std.proofs.Common.{◌≡◌, length, rules}
use Rattle.decl_reader.proofs.ListedLemmas.{one_put}
use Rattle.decl_reader.proofs.places.add.Goals as goal

pub returns-in-Some-clause-one : goal.returns-in-Some-clause-one
returns-in-Some-clause-one c =
    let none : length c.args.mapped.now.entries ≡ 0 = search rules in
    one_put c.put.result c.args.offset c.in-Some.index c.args.place c.args.listed.now.items c.put.new.listed.items c.args.mapped.now.entries c.requires.one none (search rules) (search rules) (search rules)
