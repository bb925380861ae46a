use Rattle.std.proofs.Common.{◌≡◌, sym, ap, subst, IfOk, ◌∙◌}
use Rattle.repeated_names.specs.Firsts.{first}
use Rattle.repeated_names.specs.Repeats.{repeats}
use Rattle.source_trees.specs.Files.{receiver_if_any}
use Rattle.source_walk.specs.Spots.{receiver_words}
use Rattle.source_names.specs.Names.{words_at}
use Rattle.source_names.proofs.WordLaws.{each_word}
use Rattle.source_names.proofs.duplicates.first_in_receiver.Goals as goal

pub returns-in-Some : goal.returns-in-Some
returns-in-Some c = subst (λ k. IfOk c.first_repeated.result (λ x. x ≡ first (repeats (words_at c.args.source.file k))))
    (each_word c.args.source.bytes.now c.in-Some.receiver.args ∙ sym (ap (λ r. receiver_words (receiver_if_any c.args.source.bytes.now r)) c.in-Some.is))
    (rw c.as_slice.ensures at c.first_repeated.ensures)
