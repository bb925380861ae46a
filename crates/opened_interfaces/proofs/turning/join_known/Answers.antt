use Rattle.opened_interfaces.proofs.TieLemmas.{joined_gives}
use Rattle.opened_interfaces.proofs.turning.join_known.Goals as goal

pub returns : goal.returns
returns c = record {
  exact = λ entries names. joined_gives c.args.arena.now.nodes c.told_apart.ensures entries names c.args.holder c.args.several c.args.of c.args.found.now c.join.new.found
      c.requires.within c.requires.holder c.requires.there c.join.result c.join.ensures;
}
