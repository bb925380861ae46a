use Rattle.std.proofs.Common.{◌++◌, List, map}
use Rattle.std.proofs.lemmas.Result.{err_from_is_err_and}
use Rattle.type_terms.specs.Trees.{Tree}
use Rattle.type_terms.specs.AdditionLaws.{adds_more, outgrown_by_more}
use Rattle.decl_reader.specs.Meant.{named_by}
use Rattle.decl_reader.proofs.AdditionLemmas.{first_covered, others_covered, more_added, more_outgrown}
use Rattle.decl_reader.proofs.WantLemmas.{passed}
use Rattle.std.proofs.Common.{◌<◌, ap, ◌∙◌, length}
use Rattle.type_terms.specs.Extensions.{extends_below}
use Rattle.type_terms.specs.Replaced.{all_append}
use Rattle.decl_reader.specs.Meant.{Named}
use Rattle.decl_reader.proofs.ExtendsLemmas.{named_stays, meaning_stays}
use Rattle.decl_reader.proofs.nodes.kept.Tuple2Kept.with_nodes.Goals as goal

pub returns-clause-meant : goal.returns-clause-meant
returns-clause-meant g c =
    let a = g.A.Kept in
    let b = g.B.Kept in
    let middle = c.with_nodes.new.arena in
    let stays = meaning_stays a.types a.meant g.met.A.Kept.agrees middle c.with_nodes-2.new.arena c.with_nodes-2.ensures.extends (a.item_shape c.in_ok-first.first) c.in_ok-first.ensures.within in
    let first = stays ∙ c.in_ok-first.ensures.meant in
    let named = named_stays c.args.arena.now middle c.with_nodes.ensures.extends c.args.version c.args.table.now c.requires.inside in
    let second = c.in_ok-second.ensures.meant ∙ ap (λ (n : Named). b.meant n (b.shape c.args.self.1)) named in
    λ i. (first i, second i)

pub returns-clause-within : goal.returns-clause-within
returns-clause-within g c =
    let new = c.with_nodes-2.new.arena in
    let first = g.A.Kept.types (g.A.Kept.item_shape c.in_ok-first.first) in
    let second = g.B.Kept.types (g.B.Kept.item_shape c.in_ok-second.second) in
    all_append (λ n. n < length new.nodes) first second (extends_below c.with_nodes.new.arena new c.with_nodes-2.ensures.extends first c.in_ok-first.ensures.within) c.in_ok-second.ensures.within

pub returns-in_err-first-clause-adds : goal.returns-in_err-first-clause-adds
returns-in_err-first-clause-adds g c =
    let named : Named = named_by c.args.version c.args.arena.now.nodes c.args.table.now in
    let first = g.A.Kept.types (g.A.Kept.shape c.args.self.0) in
    let second = g.B.Kept.types (g.B.Kept.shape c.args.self.1) in
    adds_more (map named (first ++ second)) (map named first) c.args.arena.now c.with_nodes.new.arena (first_covered named first second) c.with_nodes.ensures.adds

pub returns-in_err-first-clause-outgrown : goal.returns-in_err-first-clause-outgrown
returns-in_err-first-clause-outgrown g c wants =
    let p = err_from_is_err_and c.from_residual.result c.from_residual.ensures.1 in
    let named : Named = named_by c.args.version c.args.arena.now.nodes c.args.table.now in
    let first = g.A.Kept.types (g.A.Kept.shape c.args.self.0) in
    let second = g.B.Kept.types (g.B.Kept.shape c.args.self.1) in
    outgrown_by_more c.args.arena.now (map named (first ++ second)) (map named first) (first_covered named first second)
    (c.with_nodes.ensures.outgrown (passed c.from_residual.result c.with_nodes.result p.0 c.in_err-first.field-0.0 p.1 p.2 c.in_err-first.was wants))

pub returns-in_err-second-clause-adds : goal.returns-in_err-second-clause-adds
returns-in_err-second-clause-adds g c =
    let named : Named = named_by c.args.version c.args.arena.now.nodes c.args.table.now in
    let first = g.A.Kept.types (g.A.Kept.shape c.args.self.0) in
    let second = g.B.Kept.types (g.B.Kept.shape c.args.self.1) in
    let whole : List Tree = map named (first ++ second) in
    let middle = c.with_nodes.new.arena in
    let before = adds_more whole (map named first) c.args.arena.now middle (first_covered named first second) c.with_nodes.ensures.adds in
    more_added c.args.version c.args.table.now c.args.arena.now middle c.with_nodes-2.new.arena c.requires.inside whole second c.with_nodes.ensures.extends before (others_covered named first second) c.with_nodes-2.ensures.extends c.with_nodes-2.ensures.adds

pub returns-in_err-second-clause-outgrown : goal.returns-in_err-second-clause-outgrown
returns-in_err-second-clause-outgrown g c wants =
    let p = err_from_is_err_and c.from_residual-in_err-second.result c.from_residual-in_err-second.ensures.1 in
    let named : Named = named_by c.args.version c.args.arena.now.nodes c.args.table.now in
    let first = g.A.Kept.types (g.A.Kept.shape c.args.self.0) in
    let second = g.B.Kept.types (g.B.Kept.shape c.args.self.1) in
    let whole : List Tree = map named (first ++ second) in
    let middle = c.with_nodes.new.arena in
    let before = adds_more whole (map named first) c.args.arena.now middle (first_covered named first second) c.with_nodes.ensures.adds in
    more_outgrown c.args.version c.args.table.now c.args.arena.now middle c.with_nodes-2.new.arena c.requires.inside whole second c.with_nodes.ensures.extends before (others_covered named first second)
    (c.with_nodes-2.ensures.outgrown (passed c.from_residual-in_err-second.result c.with_nodes-2.result p.0 c.in_err-second.field-0.0 p.1 p.2 c.in_err-second.was wants))

pub returns-clause-adds : goal.returns-clause-adds
returns-clause-adds g c =
    let named : Named = named_by c.args.version c.args.arena.now.nodes c.args.table.now in
    let first = g.A.Kept.types (g.A.Kept.shape c.args.self.0) in
    let second = g.B.Kept.types (g.B.Kept.shape c.args.self.1) in
    let whole : List Tree = map named (first ++ second) in
    let middle = c.with_nodes.new.arena in
    let before = adds_more whole (map named first) c.args.arena.now middle (first_covered named first second) c.with_nodes.ensures.adds in
    more_added c.args.version c.args.table.now c.args.arena.now middle c.with_nodes-2.new.arena c.requires.inside whole second c.with_nodes.ensures.extends before (others_covered named first second) c.with_nodes-2.ensures.extends c.with_nodes-2.ensures.adds
