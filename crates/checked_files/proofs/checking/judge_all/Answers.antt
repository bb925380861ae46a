use Rattle.checked_files.proofs.JudgingLemmas.{all_inside, all_said, if_ok_then}
use Rattle.checked_files.proofs.checking.judge_all.Goals as goal

pub judge_files-requires-clause-inside : goal.judge_files-requires-clause-inside
judge_files-requires-clause-inside c = all_inside c.args.arena.now.nodes c.args.session.now (λ reads. reads.items) c.args.reads.now c.requires.read

pub returns : goal.returns
returns c =
    if_ok_then _ _ c.judge_files.result
    (λ all judged. all_said c.args.arena.now.nodes c.args.session.now (λ reads. reads.items) c.args.reads.now c.requires.read (λ verdicts. verdicts.items) all.items judged)
    c.judge_files.ensures
