use Rattle.std.proofs.Common.{◌++◌, map, sym, ap, ◌∙◌}
use Rattle.go_type_syntax.specs.declared.tree.SigExpr.{out-SigExpr}
use Rattle.go_type_syntax.specs.PlainTypes.{params_of}
use Rattle.repeated_names.specs.Firsts.{first, first_of_two}
use Rattle.repeated_names.specs.Repeats.{repeats}
use Rattle.repeated_names.proofs.FirstLaws.{first_append}
use Rattle.source_trees.specs.Literals.{literal_of}
use Rattle.source_trees.specs.Trees.{written_param}
use Rattle.source_trees.specs.Words.{word}
use Rattle.source_walk.proofs.SigLaws.{plain_sig_out}
use Rattle.source_names.specs.Duplicates.{in_sig, params_words}
use Rattle.source_names.specs.Names.{words_at}
use Rattle.source_names.proofs.WordLaws.{each_param}
use Rattle.source_names.proofs.duplicates.first_in_sig.Goals as goal

pub returns : goal.returns
returns c =
    let src = c.args.source.bytes.now in
    let file = c.args.source.file in
    let s = out-SigExpr c.args.sig.now in
    let ps = repeats (words_at file (params_words (params_of (map (written_param src) s.params)))) in
    let rs = repeats (words_at file (params_words (params_of (map (written_param src) s.results)))) in
    c.first_of_two.ensures
    ∙ ap (λ k. first_of_two k c.in_ok-in_results.in_results) ((rw c.as_slice.ensures at c.in_ok-in_params.ensures) ∙ ap (λ k. first (repeats (words_at file k))) (each_param src s.params))
    ∙ ap (first_of_two (first ps)) ((rw c.as_slice-2.ensures at c.in_ok-in_results.ensures) ∙ ap (λ k. first (repeats (words_at file k))) (each_param src s.results))
    ∙ sym (first_append ps rs) ∙ sym (ap (λ k. first (in_sig file k)) (plain_sig_out (word src) (literal_of src) c.args.sig.now))
