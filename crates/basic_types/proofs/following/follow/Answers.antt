use Rattle.std.proofs.Common.{◌≡◌, Some, ap, sym, ◌∙◌, subst}
use Rattle.go_values.specs.declared.qualified.QName.{QName}
use Rattle.type_terms.specs.Denotation.{tree}
use Rattle.environments.specs.Kept.{OpensBehind}
use Rattle.environments.specs.KeptLaws.{kept_more, outgrown_wider, behind_wider}
use Rattle.basic_types.specs.Calls.{AsksHead, Meets}
use Rattle.basic_types.proofs.SideLemmas.{met_again, turns_by}
use Rattle.basic_types.proofs.following.follow.Goals as goal

pub returns-then-not-fresh-clause-turns : goal.returns-then-not-fresh-clause-turns
returns-then-not-fresh-clause-turns g c =
    let head = c.in-Ok.ensures ∙ c.in-Some.is in
    met_again _ _ _ c.in-Some.q head c.meet.new.met.keys (subst (Meets c.args.met.now.keys c.in-Some.q c.meet.new.met.keys) c.if-not-fresh.true c.in-Ok-meet.ensures)

pub returns-clause-turns : goal.returns-clause-turns
returns-clause-turns g c =
    let head = c.in-Ok.ensures ∙ c.in-Some.is in
    turns_by _ _ _ c.in-Some.q head c.meet.new.met.keys (subst (Meets c.args.met.now.keys c.in-Some.q c.meet.new.met.keys) c.if-not-fresh.false c.in-Ok-meet.ensures)
    _ _ _ c.side_behind.ensures.gives

pub returns-clause-kept : goal.returns-clause-kept
returns-clause-kept g c =
    let head = c.in-Ok.ensures ∙ c.in-Some.is in
    let entries = g.E.Env.entries c.args.env.now c.args.arena.now.nodes in
    let start = tree c.args.arena.now.nodes c.args.node in
    let at_head : (name : QName) → name ≡ c.in-Some.q → AsksHead start name = λ name is. head ∙ ap Some (sym is) in
    kept_more (λ name. name ≡ c.in-Some.q) (AsksHead start) (OpensBehind entries (λ name. name ≡ c.in-Some.q)) (OpensBehind entries (AsksHead start)) _ _ _ _
    at_head (behind_wider entries (λ name. name ≡ c.in-Some.q) (AsksHead start) at_head) c.side_behind.ensures.kept

pub returns-clause-outgrown : goal.returns-clause-outgrown
returns-clause-outgrown g c err =
    let head = c.in-Ok.ensures ∙ c.in-Some.is in
    let entries = g.E.Env.entries c.args.env.now c.args.arena.now.nodes in
    let start = tree c.args.arena.now.nodes c.args.node in
    let at_head : (name : QName) → name ≡ c.in-Some.q → AsksHead start name = λ name is. head ∙ ap Some (sym is) in
    outgrown_wider (OpensBehind entries (λ name. name ≡ c.in-Some.q)) (OpensBehind entries (AsksHead start)) c.args.arena.now
    (behind_wider entries (λ name. name ≡ c.in-Some.q) (AsksHead start) at_head) (c.side_behind.ensures.outgrown err)
