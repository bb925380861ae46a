use Rattle.std.proofs.Common.{◌≡◌, true, false, sym, ◌∙◌}
use Rattle.source_names.proofs.WordLaws.{is_bare_all, not_bare_tparams, not_bare_params}
use Rattle.source_names.proofs.inits.is_bare.Goals.{then-no_tparams, else-no_tparams}
use Rattle.source_names.proofs.inits.is_bare.Goals as goal

pub returns-then-no_params : goal.returns-then-no_params
returns-then-no_params c = λ source. elim c.if-no_tparams.branch [
  | then-no_tparams w ↦ is_bare_all source c.args.func.now.tparams c.args.func.now.sig _ (sym w.if-no_tparams.true ∙ c.no_tparams.ensures source)
      (sym c.if-no_params.true ∙ w.value-is ∙ w.no_params.ensures source) (c.no_params-then-no_params.ensures source)
  | else-no_tparams w ↦ let k : true ≡ false = sym c.if-no_params.true ∙ w.value-is ∙ w.if-no_tparams.false in absurd cc
]

pub returns-else-no_params : goal.returns-else-no_params
returns-else-no_params c = λ source. elim c.if-no_tparams.branch [
  | then-no_tparams w ↦ not_bare_params source c.args.func.now.tparams c.args.func.now.sig _ (sym c.if-no_params.false ∙ w.value-is ∙ w.no_params.ensures source) c.if-no_params.false
  | else-no_tparams w ↦ not_bare_tparams source c.args.func.now.tparams c.args.func.now.sig _ (sym w.if-no_tparams.false ∙ c.no_tparams.ensures source) c.if-no_params.false
]
