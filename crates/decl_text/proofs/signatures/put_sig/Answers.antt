use Rattle.std.proofs.Common.{ap, sym, subst, ◌∙◌, ◌++◌, ◌<◌, map}
use Rattle.std.specs.Prelude.{if◌then◌else◌}
use Rattle.std.specs.List.{flat_map}
use Rattle.type_terms.specs.Replaced.{all_right}
use Rattle.type_terms.specs.Arenas.{AllBelow}
use Rattle.type_terms.specs.Shapes.{param_types}
use Rattle.type_terms.specs.NodeShapes.{param_shape}
use Rattle.decl_text.specs.TypeText.{params_text, results_text, spread}
use Rattle.decl_text.specs.PieceText.{described_params}
use Rattle.decl_text.specs.Referring.{refer, node_count}
use Rattle.decl_text.proofs.JoinedLemmas.{on_ok_more, put_two}
use Rattle.decl_text.proofs.signatures.put_sig.Goals as goal

pub put_results-requires : goal.put_results-requires
put_results-requires c =
    subst (λ results. AllBelow (node_count c.args.names.now) (flat_map param_types (map param_shape results))) (sym c.items-2.ensures)
    (all_right (λ id. id < node_count c.args.names.now) (flat_map param_types (map param_shape c.args.sig.now.params)) (flat_map param_types (map param_shape c.args.sig.now.results)) c.requires)

pub returns : goal.returns
returns c =
    let line = c.args.line.now.items in
    let middle = c.put_params.new.line.items in
    let shown = described_params (refer c.args.names.now) in
    let params = ap (λ xs. line ++ params_text (if c.args.sig.now.variadic then spread (shown xs) else shown xs)) c.items.ensures in
    let results = ap (λ xs. middle ++ results_text (shown xs)) c.items-2.ensures in
    on_ok_more c.put_results.result (λ second. put_two _ _ _ _ _ (c.in_ok-put_params.ensures ∙ params) (second ∙ results)) c.put_results.ensures
