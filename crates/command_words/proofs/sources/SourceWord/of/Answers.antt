use Rattle.std.proofs.Common.{List, ◌∷◌, ap, sym, ◌∙◌, ℕ}
use Rattle.command_words.proofs.Spelled.{none_or, undivided, divided}
use Rattle.command_words.proofs.sources.SourceWord.of.Goals as goal
use Rattle.command_words.proofs.sources.SourceWord.of.Goals.{else-is_path-via-then-is_path+else-is_file, else-is_path-via-else-is_path}

pub returns-in_err-path-clause-none : goal.returns-in_err-path-clause-none
returns-in_err-path-clause-none c =
    let marked = c.in_ok-rest.ensures.cases in
    let word_is = marked.1.1 ∙ ap (λ (rest : List ℕ). 102 ∷ 58 ∷ rest) (sym marked.2) in
    none_or _ _ (undivided c.args.word.now c.in_ok-rest.rest.now word_is c.in_err-path.ensures.cases)

pub returns-else-is_path-clause-none : goal.returns-else-is_path-clause-none
returns-else-is_path-clause-none c source sound is =
    let marked = c.in_ok-rest.ensures.cases in
    let word_is = marked.1.1 ∙ ap (λ (rest : List ℕ). 102 ∷ 58 ∷ rest) (sym marked.2) in
    let parts = divided c.args.word.now c.in_ok-rest.rest.now c.in_ok-path.path c.in_ok-path.file word_is c.in_ok-path.ensures.cases source sound is in
    let path_passes = c.is_path.ensures.1 (rw parts.0 sound.path) in
    elim c.else-is_path.branch [
      | else-is_path-via-then-is_path+else-is_file w ↦ let file_passes = w.is_file.ensures.1 (rw parts.1 sound.file) in cc
      | else-is_path-via-else-is_path w ↦ cc
    ]
