use Rattle.decl_spelling.proofs.CodeLaws.{type_tags_answer}
use Rattle.block_reader.proofs.codes.coded_type_tag.Goals as goal

pub returns : goal.returns
returns c = type_tags_answer c.type_tags.result c.type_tags.ensures.codes c.args.number c.of_code.result c.of_code.ensures.found c.of_code.ensures.missing
