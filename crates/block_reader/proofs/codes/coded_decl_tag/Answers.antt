use Rattle.decl_spelling.proofs.CodeLaws.{decl_tags_answer}
use Rattle.block_reader.proofs.codes.coded_decl_tag.Goals as goal

pub returns : goal.returns
returns c = decl_tags_answer c.decl_tags.result c.decl_tags.ensures.codes c.args.letter c.of_code.result c.of_code.ensures.found c.of_code.ensures.missing
