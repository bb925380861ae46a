use Rattle.std.proofs.Common.{refl, sym, ap, ◌∙◌}
use Rattle.repeated_names.specs.Firsts.{first}
use Rattle.source_trees.specs.Files.{receiver_if_any}
use Rattle.source_trees.specs.Words.{word}
use Rattle.source_names.proofs.WordLaws.{bare_init, no_init}
use Rattle.source_names.proofs.inits.init_of_func.Goals as goal

pub returns-then-is_bare : goal.returns-then-is_bare
returns-then-is_bare c = bare_init c.args.source.file c.args.source.bytes.now c.args.func.now.receiver _ _ c.in-None.is (sym (c.is_bare.ensures c.args.source.bytes.now) ∙ c.if-is_bare.true)

pub returns-else-is_bare : goal.returns-else-is_bare
returns-else-is_bare c = c.init_at.ensures
    ∙ no_init c.args.source.file c.args.source.bytes.now c.args.func.now.receiver _ _ c.in-None.is (sym (c.is_bare.ensures c.args.source.bytes.now) ∙ c.if-is_bare.false)
