use Rattle.std.proofs.Common.{◌≡◌, ℕ, sym, ap, subst, ◌∙◌}
use Rattle.std.specs.Prelude.{slice_index_or}
use Rattle.type_terms.specs.Trees.{Tree}
use Rattle.type_terms.specs.Denotation.{tree}
use Rattle.decl_spelling.specs.Tables.{free_to}
use Rattle.decl_reader.specs.Blocks.{table_of}
use Rattle.decl_reader.specs.Places.{placed_of, IsStacked}
use Rattle.decl_reader.proofs.TableLemmas.{table_made}
use Rattle.decl_reader.proofs.table.Table.free_to.Goals as goal

pub returns : goal.returns
returns c nodes stacked =
    let ids = c.self.inside.nodes.items in
    let es = c.self.inside.places in
    let types : ℕ → Tree = λ index. tree nodes (slice_index_or ids index 0) in
    let same : table_of nodes c.args.self.now ≡ placed_of types es = ap (table_of nodes) (sym c.self.view_is) ∙ table_made nodes ids es in
    c.free_to.ensures types (subst IsStacked same stacked) ∙ ap (free_to c.args.offset c.args.limit) (sym same)
