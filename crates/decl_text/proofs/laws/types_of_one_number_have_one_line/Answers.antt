use Rattle.decl_text.proofs.LineLemmas.{numbers_have_lines}
use Rattle.decl_text.proofs.laws.types_of_one_number_have_one_line.Goals as goal

pub returns : goal.returns
returns c = numbers_have_lines
