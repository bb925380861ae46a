use Rattle.std.proofs.Common.{◌≡◌, ◌++◌, true, map, subst}
use Rattle.std.specs.Prelude.{OnOk}
use Rattle.repeated_names.specs.Names.{named}
use Rattle.source_names.specs.Names.{words_at}
use Rattle.source_names.proofs.WordLaws.{field_names}
use Rattle.source_names.proofs.declared.FieldExprDeclares.add_to.Goals as goal

pub returns-else-is_empty : goal.returns-else-is_empty
returns-else-is_empty c = subst (λ k. OnOk c.add_all.result (map named c.add_all.new.names.items ≡ map named c.args.names.now.items ++ words_at c.args.source.file k))
    (field_names c.args.source.bytes.now c.args.self.now (λ e. let k : c.is_empty.result ≡ true = c.is_empty.ensures.1 e in absurd cc)) (rw c.as_slice.ensures at c.add_all.ensures)
