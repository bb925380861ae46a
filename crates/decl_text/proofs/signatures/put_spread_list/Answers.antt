use Rattle.std.proofs.Common.{◌<◌, ◌-◌, ap, sym, subst, ◌∙◌, ◌++◌, arith, length}
use Rattle.std.proofs.lemmas.List.{append-nil}
use Rattle.type_terms.specs.Arenas.{AllBelow}
use Rattle.type_terms.specs.Shapes.{param_types}
use Rattle.type_terms.specs.NodeShapes.{param_shape}
use Rattle.decl_text.specs.Referring.{refer, node_count}
use Rattle.decl_text.proofs.JoinedLemmas.{on_ok_more, put_after, all_of_front, all_of_one}
use Rattle.decl_text.proofs.Fused.{params_types, spread_lines_of, no_spread_lines}
use Rattle.decl_text.proofs.signatures.put_spread_list.Goals as goal

pub returns-in_default : goal.returns-in_default
returns-in_default c =
    let line = c.args.line.now.items in
    sym (ap (λ rest. line ++ rest) (no_spread_lines (refer c.args.names.now) c.args.params.now c.in_default.len_below) ∙ append-nil line)

pub put_joined-requires : goal.put_joined-requires
put_joined-requires c =
    all_of_front _ (λ param. param_types (param_shape param)) c.args.params.now _ (subst (AllBelow (node_count c.args.names.now)) (sym (params_types c.args.params.now)) c.requires)

pub put_spread-requires : goal.put_spread-requires
put_spread-requires c =
    let below : length c.args.params.now - 1 < length c.args.params.now = omega arith in
    subst (λ param. AllBelow (node_count c.args.names.now) (param_types (param_shape param))) (sym c.last-item.is)
    (all_of_one _ (λ param. param_types (param_shape param)) c.args.params.now _ c.last-item.result below (subst (AllBelow (node_count c.args.names.now)) (sym (params_types c.args.params.now)) c.requires))

pub returns : goal.returns
returns c =
    let some : 0 < length c.args.params.now = omega arith in
    on_ok_more c.put_spread.result
    (λ third. put_after _ _ _ _ _ _ _ c.in_ok-put_joined.ensures c.in_ok-put_between.ensures third
    ∙ ap (λ rest. c.args.line.now.items ++ rest) (sym (spread_lines_of (refer c.args.names.now) c.args.params.now c.last-item.result some c.last-item.is)))
    c.put_spread.ensures
