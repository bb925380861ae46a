use Rattle.mentioned_names.proofs.MentionLemmas.{decl_meets}
use Rattle.mentioned_names.proofs.laws.the_walk_meets_the_references.Goals as goal

pub returns : goal.returns
returns c = decl_meets
