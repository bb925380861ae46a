use Rattle.std.proofs.Common.{rules, ◌≡◌, refl, subst, cond, Some}
use Rattle.type_terms.specs.TreeEquality.{same_name}
use Rattle.right_sides.specs.Tables.{side_of}
use Rattle.right_sides.proofs.reading.put.Goals as goal

pub returns : goal.returns
returns c =
    let name : c.in_ok-name.name ≡ c.args.q.now = search rules in
    record {
      side = record { tparams = c.in_ok-names.names; ty = c.args.right };
      names = c.in_ok-names.ensures;
      denotes = refl;
      there = c.requires.there;
      puts = λ other. subst (λ n. side_of c.insert.new.self.entries other ≡ cond (same_name n other) (Some (record { tparams = c.in_ok-names.names; ty = c.args.right })) (side_of c.args.rights.now.entries other)) name (c.in_ok-insert.ensures.updates.0 other);
    }
