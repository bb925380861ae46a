use Rattle.decl_spelling.proofs.CodeLaws.{basics_answer}
use Rattle.block_reader.proofs.codes.coded_basic.Goals as goal

pub returns : goal.returns
returns c = basics_answer c.basics.result c.basics.ensures.codes c.args.number c.of_code.result c.of_code.ensures.found c.of_code.ensures.missing
