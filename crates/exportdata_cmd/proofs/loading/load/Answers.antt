use Rattle.std.proofs.Common.{map, ap, subst, Ok, ◌∙◌}
use Rattle.session_files.specs.Loading.{word_of, Loads}
use Rattle.exportdata_cmd.proofs.CarriedLemmas.{load_stops}
use Rattle.exportdata_cmd.proofs.loading.load.Goals as goal

pub returns-in-Ok-load-clause-loaded : goal.returns-in-Ok-load-clause-loaded
returns-in-Ok-load-clause-loaded g c =
    subst (λ words. Loads (g.F.Files.held c.args.files.now) words (Ok c.in-Ok-load.session))
    (ap (map word_of) c.as_slice.ensures.value ∙ c.in-Ok.ensures) c.in-Ok-load.ensures.loaded

pub returns-clause-cause : goal.returns-clause-cause
returns-clause-cause g c =
    load_stops _ _ _ _ _ c.in-Err.error _ (ap (map word_of) c.as_slice.ensures.value ∙ c.in-Ok.ensures)
    c.error_line_of.ensures c.in-Err.ensures.cause
