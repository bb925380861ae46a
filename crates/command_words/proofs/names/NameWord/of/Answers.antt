use Rattle.std.proofs.Common.{false, ◌≡◌, ◌∙◌}
use Rattle.command_words.proofs.Spelled.{none_or}
use Rattle.command_words.proofs.Named.{undivided_name, parted_name, some_passes}
use Rattle.command_words.proofs.names.NameWord.of.Goals as goal
use Rattle.command_words.proofs.names.NameWord.of.Goals.{else-is_path-via-then-is_path+else-not-is_empty, else-is_path-via-else-is_path}

pub returns-in_err-path-clause-none : goal.returns-in_err-path-clause-none
returns-in_err-path-clause-none c = none_or _ _ (undivided_name c.args.word.now c.in_err-path.ensures.cases)

pub returns-else-is_path-clause-none : goal.returns-else-is_path-clause-none
returns-else-is_path-clause-none c name sound is =
    let parts = parted_name c.args.word.now c.in_ok-path.path c.in_ok-path.name c.in_ok-path.ensures.cases name sound is in
    let path_passes = c.is_path.ensures.1 (rw parts.0 sound.path) in
    elim c.else-is_path.branch [
      | else-is_path-via-then-is_path+else-not-is_empty w ↦
          let passes : w.is_empty.result ≡ false = w.is_empty.ensures ∙ some_passes c.in_ok-path.name.now (λ e. sound.some (rw (← parts.1) e)) in
          let failed = w.if-not-is_empty in
          cc
      | else-is_path-via-else-is_path w ↦ cc
    ]
