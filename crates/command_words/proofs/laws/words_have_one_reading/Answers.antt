use Rattle.command_words.proofs.OneReading.{one_request, one_wrong_word, apart}
use Rattle.command_words.proofs.laws.words_have_one_reading.Goals as goal

pub returns-clause-one_request : goal.returns-clause-one_request
returns-clause-one_request c = one_request

pub returns-clause-one_wrong_word : goal.returns-clause-one_wrong_word
returns-clause-one_wrong_word c = one_wrong_word

pub returns-clause-apart : goal.returns-clause-apart
returns-clause-apart c = apart
