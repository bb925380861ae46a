use Rattle.std.proofs.lemmas.Str.Pattern.{contains_char}
use Rattle.command_words.proofs.Spelled.{lacks_where}
use Rattle.command_words.proofs.texts.lacks.Goals as goal

pub returns : goal.returns
returns c = lacks_where _ _ _ (contains_char _ _ _ c.contains.ensures.cases c.requires)
