use Rattle.std.proofs.Common.{ap, ◌∙◌, ◌++◌, List, ℕ}
use Rattle.file_writer.proofs.PutLemmas.{if_ok}
use Rattle.file_writer.proofs.writing.whole.Goals as goal

pub returns : goal.returns
returns c =
    if_ok c.joined.result _ _ (λ bytes is. is ∙ ap (λ (front : List ℕ). front ++ (c.args.strings.now ++ (c.args.body.now ++ c.args.index.now))) (c.bytes.ensures ∙ c.in_ok-front.ensures)) c.joined.ensures
