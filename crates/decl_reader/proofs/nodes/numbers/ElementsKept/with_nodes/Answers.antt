use Rattle.std.proofs.Common.{ℕ, List, map}
use Rattle.std.proofs.lemmas.Result.{err_from_is_err_and}
use Rattle.type_terms.specs.Additions.{AddsOnly, Outgrows}
use Rattle.decl_reader.specs.Meant.{named_by}
use Rattle.decl_reader.proofs.ExtendsLemmas.{numbers_of_elements}
use Rattle.decl_reader.proofs.WantLemmas.{passed}
use Rattle.std.proofs.Common.{length, sym, subst}
use Rattle.type_terms.specs.Arenas.{AllBelow}
use Rattle.decl_reader.proofs.ExtendsLemmas.{numbers_below}
use Rattle.decl_reader.proofs.nodes.numbers.ElementsKept.with_nodes.Goals as goal

pub returns-clause-within : goal.returns-clause-within
returns-clause-within c =
    let size = length c.all_with_nodes.new.arena.nodes in
    subst (AllBelow size) (sym c.from_items.ensures) (numbers_below size c.in_ok-ids.ids.items c.in_ok-ids.ensures.within)

pub returns-in_err-ids-clause-adds : goal.returns-in_err-ids-clause-adds
returns-in_err-ids-clause-adds c =
    subst (λ (numbers : List ℕ). AddsOnly (map (named_by c.args.version c.args.arena.now.nodes c.args.table.now) numbers) c.args.arena.now c.all_with_nodes.new.arena) (numbers_of_elements c.args.self.items.items) c.all_with_nodes.ensures.adds

pub returns-in_err-ids-clause-outgrown : goal.returns-in_err-ids-clause-outgrown
returns-in_err-ids-clause-outgrown c wants =
    let p = err_from_is_err_and c.from_residual.result c.from_residual.ensures.1 in
    subst (λ (numbers : List ℕ). Outgrows c.args.arena.now (map (named_by c.args.version c.args.arena.now.nodes c.args.table.now) numbers)) (numbers_of_elements c.args.self.items.items)
    (c.all_with_nodes.ensures.outgrown (passed c.from_residual.result c.all_with_nodes.result p.0 c.in_err-ids.field-0.0 p.1 p.2 c.in_err-ids.was wants))

pub returns-clause-adds : goal.returns-clause-adds
returns-clause-adds c =
    subst (λ (numbers : List ℕ). AddsOnly (map (named_by c.args.version c.args.arena.now.nodes c.args.table.now) numbers) c.args.arena.now c.all_with_nodes.new.arena) (numbers_of_elements c.args.self.items.items) c.all_with_nodes.ensures.adds
