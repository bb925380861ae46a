use Rattle.std.proofs.Common.{rules, ◌≡◌, slice_get, length, Some, None, refl, sym, ap, ◌∙◌, ◌++◌, [], ◌∷◌}
use Rattle.std.proofs.lemmas.Option.{slice_get_read}
use Rattle.std.specs.Prelude.{option_map}
use Rattle.std.proofs.lemmas.List.{append-nil}
use Rattle.type_terms.specs.Denotation.{tree}
use Rattle.type_terms.specs.Names.{parameter_name}
use Rattle.right_sides.proofs.ParameterLemmas.{names_next}
use Rattle.right_sides.proofs.reading.names_of.Goals as goal
use Rattle.right_sides.proofs.reading.names_of.Goals.{in-Some+in_ok-clone+in_ok-push, in_default}

pub loop-id-preserved : goal.loop-id-preserved
loop-id-preserved c =
    let ids = c.args.tparams.now in
    let nodes = c.args.arena.now.nodes in
    let at : slice_get ids c.loop-id.id-index ≡ Some c.id-item.result = slice_get_read ids (length ids) c.loop-id.id-index c.id-item.result refl c.loop-id-test.true c.id-item.is in
    elim c.match-parameter_name.branch [
      | in-Some+in_ok-clone+in_ok-push w ↦
          let is : parameter_name (tree nodes c.id-item.result) ≡ Some w.in-Some.q.now = sym c.parameter_name.ensures ∙ ap (option_map (λ q. q.now)) w.in-Some.is in
          let name : w.in_ok-clone.field-0 ≡ w.in-Some.q.now = search rules in
          ap (λ v. v.items) w.names-is ∙ w.in_ok-push.ensures.items ∙ (λ i. c.loop-id.invariant i ++ name i ∷ [])
          ∙ sym (names_next nodes ids c.loop-id.id-index c.id-item.result (Some w.in-Some.q.now) at is)
      | in_default w ↦
          let is : parameter_name (tree nodes c.id-item.result) ≡ None = search rules in
          ap (λ v. v.items) w.names-is ∙ c.loop-id.invariant ∙ sym (append-nil _)
          ∙ sym (names_next nodes ids c.loop-id.id-index c.id-item.result None at is)
    ]
