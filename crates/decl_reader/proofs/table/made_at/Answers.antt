use Rattle.std.proofs.Common.{◌<◌, ℕ, length, Option, Some, sym, ap, subst, refl, ◌∙◌, rules}
use Rattle.std.proofs.lemmas.List.{get_or_read_under}
use Rattle.std.specs.Prelude.{slice_index_or, IfSome}
use Rattle.type_terms.specs.Trees.{Tree}
use Rattle.type_terms.specs.Denotation.{tree}
use Rattle.decl_spelling.specs.Tables.{Table, at}
use Rattle.decl_reader.specs.declared.places.Place.{Place}
use Rattle.decl_reader.proofs.EntryLemmas.{found_holds}
use Rattle.decl_reader.proofs.TableLemmas.{table_made, nodes_inside}
use Rattle.decl_reader.proofs.table.made_at.Goals as goal

pub bounds-nodes-index : goal.bounds-nodes-index
bounds-nodes-index c = c.in-Some.ensures.inside (length c.args.nodes.now) c.requires.inside

pub offset_bounds-nodes-index : goal.offset_bounds-nodes-index
offset_bounds-nodes-index c =
    let inside : c.in-Some.field-0.index < length c.args.nodes.now = c.in-Some.ensures.inside (length c.args.nodes.now) c.requires.inside in
    search rules

pub returns-in-Some-clause-found : goal.returns-in-Some-clause-found
returns-in-Some-clause-found c trees =
    let ids = c.args.nodes.now in
    let es = c.args.places.now in
    let index = c.in-Some.field-0.index in
    let types : ℕ → Tree = λ i. tree trees (slice_index_or ids i 0) in
    let node = get_or_read_under ids index (length ids) c.index-nodes-index.result 0 c.index-nodes-index.is (c.in-Some.ensures.inside (length ids) c.requires.inside) refl in
    (λ i. Some (record { end = c.in-Some.field-0.end; tree = tree trees (node i) })) ∙ c.in-Some.ensures.found types ∙ ap (λ (t : Table). at t c.args.offset) (sym (table_made trees ids es))

pub returns-in-None-clause-found : goal.returns-in-None-clause-found
returns-in-None-clause-found c trees =
    let ids = c.args.nodes.now in
    c.in-None.ensures.found (λ i. tree trees (slice_index_or ids i 0)) ∙ ap (λ (t : Table). at t c.args.offset) (sym (table_made trees ids c.args.places.now))

pub returns-in-Some-clause-inside : goal.returns-in-Some-clause-inside
returns-in-Some-clause-inside c size all =
    let ids = c.args.nodes.now in
    let es = c.args.places.now in
    let node = get_or_read_under ids c.in-Some.field-0.index (length ids) c.index-nodes-index.result 0 c.index-nodes-index.is (c.in-Some.ensures.inside (length ids) c.requires.inside) refl in
    let less : slice_index_or ids c.in-Some.field-0.index 0 < size
    = subst (λ (a : Option Place). IfSome a (λ p. slice_index_or ids p.index 0 < size)) (sym c.in-Some.ensures.place) (found_holds (λ (p : Place). slice_index_or ids p.index 0 < size) es c.args.offset (nodes_inside size ids es all)) in
    subst (λ (n : ℕ). n < size) (sym node) less
