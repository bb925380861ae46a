use Rattle.std.proofs.Common.{◌≡◌, ◌+◌, ◌<◌, ap, subst, ◌∙◌, Err, arith}
use Rattle.std.specs.Prelude.{IfOk}
use Rattle.std.proofs.lemmas.Result.{err_from_is_err_and}
use Rattle.type_terms.specs.AdditionLaws.{adds_more, outgrown_by_more}
use Rattle.decl_spelling.specs.Tables.{Table}
use Rattle.decl_spelling.specs.Leaving.{types_read}
use Rattle.block_reader.specs.Calls.{sections_of}
use Rattle.shared_reading.specs.WithMemory.{read_with}
use Rattle.shared_reading.specs.Counted.{steps_of}
use Rattle.decl_reader.specs.declared.fault.DeclFault.{DeclFault}
use Rattle.decl_reader.specs.Blocks.{table_of}
use Rattle.decl_reader.specs.Wholes.{types_reached}
use Rattle.decl_reader.proofs.BegunLemmas.{body_length}
use Rattle.decl_reader.proofs.CountsLemmas.{alone, if_either, reached_alone}
use Rattle.decl_reader.proofs.KeptLemmas.{none_kept, none_remembered}
use Rattle.decl_reader.proofs.ProperDeclLemmas.{read_proper}
use Rattle.decl_reader.proofs.ReachedLemmas.{reached_covers}
use Rattle.decl_reader.proofs.WholeLemmas.{is_spelled, is_fault, fault_as, fault_kept, kept_is}
use Rattle.decl_reader.proofs.declaration.read_decl.Goals as goal

pub read_spelled-requires-clause-memory : goal.read_spelled-requires-clause-memory
read_spelled-requires-clause-memory g c = none_kept (sections_of c.args.parts.now) c.args.arena.now.nodes c.new-table.result c.new-table.ensures

pub returns-in_err-spelled-clause-exact : goal.returns-in_err-spelled-clause-exact
returns-in_err-spelled-clause-exact g c =
    let src = sections_of c.args.parts.now in
    let basics = g.B.Basics.meaning c.args.basics.now in
    let e = c.in_err-spelled.field-0.0 in
    let p = err_from_is_err_and c.from_residual.result c.from_residual.ensures.1 in
    let none = none_remembered c.args.arena.now.nodes c.new-table.result c.new-table.ensures in
    let same = ap (λ (m : Table). read_with src basics m c.args.offset) none ∙ alone src basics c.read_spelled.ensures.bytes c.args.offset in
    fault_kept src basics c.args.offset _ c.from_residual.result e (p.1 ∙ ap (λ (e : DeclFault). Err e) p.2) (fault_as _ _ e same c.in_err-spelled.ensures.exact)

pub returns-in_err-spelled-clause-fault : goal.returns-in_err-spelled-clause-fault
returns-in_err-spelled-clause-fault g c =
    let src = sections_of c.args.parts.now in
    let basics = g.B.Basics.meaning c.args.basics.now in
    let e = c.in_err-spelled.field-0.0 in
    let p = err_from_is_err_and c.from_residual.result c.from_residual.ensures.1 in
    let none = none_remembered c.args.arena.now.nodes c.new-table.result c.new-table.ensures in
    let same = ap (λ (m : Table). read_with src basics m c.args.offset) none ∙ alone src basics c.read_spelled.ensures.bytes c.args.offset in
    let nodes = c.args.arena.now.nodes in
    is_fault src basics c.args.offset nodes c.from_residual.result
    (fault_kept src basics c.args.offset nodes c.from_residual.result e (p.1 ∙ ap (λ (e : DeclFault). Err e) p.2) (fault_as _ _ e same c.in_err-spelled.ensures.exact))

pub returns-clause-exact : goal.returns-clause-exact
returns-clause-exact g c =
    let s = c.in_ok-spelled.spelled in
    let src = sections_of c.args.parts.now in
    let nodes = c.args.arena.now.nodes in
    let none = none_kept src nodes c.new-table.result c.new-table.ensures in
    kept_is src (g.B.Basics.meaning c.args.basics.now) c.read_spelled.ensures.bytes (table_of nodes c.new-table.result) none.memory c.args.offset s.decl s.finished.items c.add_spelled.new.arena.nodes c.add_spelled.result c.in_ok-spelled.ensures.exact
    c.add_spelled.ensures.denotes c.add_spelled.ensures.only_memory

pub returns-clause-adds : goal.returns-clause-adds
returns-clause-adds g c =
    let src = sections_of c.args.parts.now in
    let basics = g.B.Basics.meaning c.args.basics.now in
    let s = c.in_ok-spelled.spelled in
    let size = body_length c.args.parts.now c.requires.of_file in
    let inside : c.args.offset < c.args.parts.now.body_len = c.requires.inside in
    let nodes = c.args.arena.now.nodes in
    let memory = table_of nodes c.new-table.result in
    let none = none_kept src nodes c.new-table.result c.new-table.ensures in
    adds_more (types_read src basics c.args.offset) (types_reached src.version memory s) c.args.arena.now c.add_spelled.new.arena
    (reached_covers src basics c.read_spelled.ensures.bytes memory none.memory c.args.offset (omega (arith, size, inside)) s.decl s.finished.items c.in_ok-spelled.ensures.exact) c.add_spelled.ensures.adds

pub returns-clause-outgrown : goal.returns-clause-outgrown
returns-clause-outgrown g c wants =
    let src = sections_of c.args.parts.now in
    let basics = g.B.Basics.meaning c.args.basics.now in
    let s = c.in_ok-spelled.spelled in
    let size = body_length c.args.parts.now c.requires.of_file in
    let inside : c.args.offset < c.args.parts.now.body_len = c.requires.inside in
    let nodes = c.args.arena.now.nodes in
    let memory = table_of nodes c.new-table.result in
    let none = none_kept src nodes c.new-table.result c.new-table.ensures in
    outgrown_by_more c.args.arena.now (types_read src basics c.args.offset) (types_reached src.version memory s)
    (reached_covers src basics c.read_spelled.ensures.bytes memory none.memory c.args.offset (omega (arith, size, inside)) s.decl s.finished.items c.in_ok-spelled.ensures.exact) (c.add_spelled.ensures.outgrown wants)

pub returns-clause-found : goal.returns-clause-found
returns-clause-found g c =
    let src = sections_of c.args.parts.now in
    let basics = g.B.Basics.meaning c.args.basics.now in
    let s = c.in_ok-spelled.spelled in
    let nodes = c.args.arena.now.nodes in
    let none = none_kept src nodes c.new-table.result c.new-table.ensures in
    is_spelled src basics c.args.offset c.add_spelled.new.arena.nodes c.add_spelled.result c.read_spelled.ensures.bytes
    (kept_is src basics c.read_spelled.ensures.bytes (table_of nodes c.new-table.result) none.memory c.args.offset s.decl s.finished.items c.add_spelled.new.arena.nodes c.add_spelled.result c.in_ok-spelled.ensures.exact c.add_spelled.ensures.denotes
    c.add_spelled.ensures.only_memory)

pub returns-clause-proper : goal.returns-clause-proper
returns-clause-proper g c =
    let src = sections_of c.args.parts.now in
    let basics = g.B.Basics.meaning c.args.basics.now in
    let s = c.in_ok-spelled.spelled in
    let nodes = c.args.arena.now.nodes in
    let none = none_kept src nodes c.new-table.result c.new-table.ensures in
    read_proper src basics c.args.offset c.add_spelled.new.arena.nodes c.add_spelled.result
    (is_spelled src basics c.args.offset c.add_spelled.new.arena.nodes c.add_spelled.result c.read_spelled.ensures.bytes
    (kept_is src basics c.read_spelled.ensures.bytes (table_of nodes c.new-table.result) none.memory c.args.offset s.decl s.finished.items c.add_spelled.new.arena.nodes c.add_spelled.result c.in_ok-spelled.ensures.exact c.add_spelled.ensures.denotes
    c.add_spelled.ensures.only_memory))

pub returns-clause-counted : goal.returns-clause-counted
returns-clause-counted g c =
    let src = sections_of c.args.parts.now in
    let basics = g.B.Basics.meaning c.args.basics.now in
    let none = none_remembered c.args.arena.now.nodes c.new-table.result c.new-table.ensures in
    let before = c.args.steps.now in
    let after = c.read_spelled.new.steps in
    if_either c.add_spelled.result
    (reached_alone src basics c.read_spelled.ensures.bytes c.args.offset before after
    (subst (λ (m : Table). IfOk (read_with src basics m c.args.offset) (λ x. after ≡ before + steps_of src m c.args.offset x)) none c.in_ok-spelled.ensures.counted))
