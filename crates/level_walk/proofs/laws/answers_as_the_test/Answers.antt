use Rattle.level_walk.specs.WalkLaws.{walk_answers}
use Rattle.level_walk.proofs.laws.answers_as_the_test.Goals as goal

pub returns : goal.returns
returns g c levels starts due met answer hold came ends = walk_answers g.T.Tested.settle g.T.Tested.same g.T.Tested.steps g.T.Tested.exact g.T.Tested.holds levels starts due met answer hold came ends
