use Rattle.std.proofs.Common.{◌+◌, sym, ap}
use Rattle.std.proofs.lemmas.List.{length-map}
use Rattle.std.specs.String.{string_bytes}
use Rattle.command_words.proofs.OneReading.{first_of_form}
use Rattle.command_words.proofs.commands.first_wrong_word.Goals as goal

pub returns-in-Ok : goal.returns-in-Ok
returns-in-Ok c = first_of_form _ _ _ c.in-Ok.ensures.found (sym (ap (λ n. n + 1) (length-map c.args.words.now string_bytes)))
