use Rattle.std.proofs.Common.{◌≡◌, ◌++◌, map, subst}
use Rattle.std.specs.Prelude.{OnOk}
use Rattle.repeated_names.specs.Names.{named}
use Rattle.source_names.specs.Names.{words_at}
use Rattle.source_names.proofs.WordLaws.{each_word}
use Rattle.source_names.proofs.declared.TParamDeclares.add_to.Goals as goal

pub returns : goal.returns
returns c = subst (λ k. OnOk c.add_all.result (map named c.add_all.new.names.items ≡ map named c.args.names.now.items ++ words_at c.args.source.file k))
    (each_word c.args.source.bytes.now c.args.self.now.names) (rw c.as_slice.ensures at c.add_all.ensures)
