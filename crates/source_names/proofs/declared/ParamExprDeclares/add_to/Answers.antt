use Rattle.std.proofs.Common.{◌≡◌, ◌++◌, map, subst}
use Rattle.std.specs.Prelude.{OnOk}
use Rattle.repeated_names.specs.Names.{named}
use Rattle.source_names.specs.Names.{words_at}
use Rattle.source_names.proofs.WordLaws.{param_names}
use Rattle.source_names.proofs.declared.ParamExprDeclares.add_to.Goals as goal

pub returns : goal.returns
returns c = subst (λ k. OnOk c.add_all.result (map named c.add_all.new.names.items ≡ map named c.args.names.now.items ++ words_at c.args.source.file k))
    (param_names c.args.source.bytes.now c.args.self.now) (rw c.as_slice.ensures at c.add_all.ensures)
