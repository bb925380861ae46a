use Rattle.go_syntax.proofs.DepthPlaces.{deep_type, deep_constraint, deep_expr}
use Rattle.go_syntax.proofs.outcomes.depth_at_the_first_token.Goals as goal

pub returns-clause-types : goal.returns-clause-types
returns-clause-types c = deep_type

pub returns-clause-constraints : goal.returns-clause-constraints
returns-clause-constraints c = deep_constraint

pub returns-clause-expressions : goal.returns-clause-expressions
returns-clause-expressions c = deep_expr
