use Rattle.std.proofs.Common.{List, ℕ, ◌∙◌, sym, subst}
use Rattle.cycle_rules.specs.declared.shapes.DeclShape.{DeclShape}
use Rattle.cycle_rules.specs.Paths.{Arrow}
use Rattle.cycle_rules.specs.Forms.{Owns, shape}
use Rattle.cycle_rules.proofs.ContainmentLemmas.{each_found}
use Rattle.cycle_rules.proofs.RankLemmas.{if_none}
use Rattle.cycle_rules.proofs.containment.contained_in.Goals as goal

pub returns-clause-sound : goal.returns-clause-sound
returns-clause-sound c s t arrow =
    let same = c.in_ok-owner.ensures.shapes ∙ c.loop-search.invariant in
    let edge = subst (λ (l : List (List ℕ)). Arrow l s t) c.into_edges.ensures.edges arrow in
    subst (λ (l : List DeclShape). Owns l s (shape t)) same (c.into_edges.ensures.sound.joined s t edge)

pub returns-clause-every : goal.returns-clause-every
returns-clause-every c s t owns =
    let e = c.find.new.self in
    let same = c.in_ok-owner.ensures.shapes ∙ c.loop-search.invariant in
    let edge = each_found e.shapes e.marks e.places e.at e.applications e.edges c.into_edges.ensures.sound (if_none c.in_ok-owner.field-0 c.in_default.is c.in_ok-owner.ensures.ended)
    s t (subst (λ (l : List DeclShape). Owns l s (shape t)) (sym same) owns) in
    subst (λ (l : List (List ℕ)). Arrow l s t) (sym c.into_edges.ensures.edges) edge
