use Rattle.environments.specs.KeptLaws.{kept_more, outgrown_wider, behind_wider}
use Rattle.type_terms.specs.Declarations.{decl_of}
use Rattle.environments.specs.References.{references}
use Rattle.dangling_references.specs.Dangling.{IsNamed, OpensNamed}
use Rattle.dangling_references.proofs.DanglingLemmas.{named_first}
use Rattle.dangling_references.proofs.dangling.first_dangling.Goals as goal

pub returns-clause-kept : goal.returns-clause-kept
returns-clause-kept g c =
    let entries = g.E.Env.entries c.args.env.now c.args.arena.now.nodes in
    let all = references (decl_of c.args.arena.now.nodes c.args.decl.now) in
    let keys = c.in-Ok.mentions.keys in
    let wider = named_first all keys c.in-Ok.ensures.mentions in
    kept_more (IsNamed keys) (IsNamed all) (OpensNamed entries keys) (OpensNamed entries all) _ _ _ _
    wider (behind_wider entries (IsNamed keys) (IsNamed all) wider) c.first_among.ensures.kept

pub returns-clause-outgrown : goal.returns-clause-outgrown
returns-clause-outgrown g c =
    let entries = g.E.Env.entries c.args.env.now c.args.arena.now.nodes in
    let all = references (decl_of c.args.arena.now.nodes c.args.decl.now) in
    let keys = c.in-Ok.mentions.keys in
    let wider = named_first all keys c.in-Ok.ensures.mentions in
    λ wants. outgrown_wider (OpensNamed entries keys) (OpensNamed entries all) c.args.arena.now
    (behind_wider entries (IsNamed keys) (IsNamed all) wider) (c.first_among.ensures.outgrown wants)
