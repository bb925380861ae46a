use Rattle.type_terms.specs.Denotation.{tree}
use Rattle.term_tests.specs.Walks.{stack}
use Rattle.term_tests.proofs.MentionLemmas.{mentions_put, then_ok}
use Rattle.term_tests.proofs.mentioning.put_mentions.Goals as goal

pub returns : goal.returns
returns c =
    then_ok c.put_aliases.result
    (mentions_put (tree c.args.arena.now.nodes c.args.id) c.in_ok-found.found.keys (stack c.args.tasks.now.items) (stack c.put_aliases.new.tasks.items) c.in_ok-found.ensures.mentions c.put_aliases.ensures.small)
    c.put_aliases.ensures.put
