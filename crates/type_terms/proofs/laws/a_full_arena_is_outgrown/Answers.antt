use Rattle.type_terms.specs.AdditionLaws.{a_full_arena_is_outgrown}
use Rattle.type_terms.proofs.laws.a_full_arena_is_outgrown.Goals as goal

pub returns : goal.returns
returns c = a_full_arena_is_outgrown
