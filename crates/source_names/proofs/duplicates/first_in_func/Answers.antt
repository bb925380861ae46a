use Rattle.std.proofs.Common.{◌++◌, map, sym, ap, ◌∙◌}
use Rattle.repeated_names.specs.Firsts.{first, first_of_two}
use Rattle.repeated_names.specs.Repeats.{repeats}
use Rattle.repeated_names.proofs.FirstLaws.{first_append}
use Rattle.source_trees.specs.Files.{receiver_if_any, written_tparam}
use Rattle.source_trees.specs.Trees.{written_sig}
use Rattle.source_walk.specs.Spots.{receiver_words, tparam_words}
use Rattle.source_names.specs.Duplicates.{in_sig}
use Rattle.source_names.specs.Names.{words_at}
use Rattle.source_names.proofs.WordLaws.{each_tparam}
use Rattle.source_names.proofs.duplicates.first_in_func.Goals as goal

pub returns : goal.returns
returns c =
    let src = c.args.source.bytes.now in
    let file = c.args.source.file in
    let f = c.args.func.now in
    let rs = repeats (words_at file (receiver_words (receiver_if_any src f.receiver))) in
    let ts = repeats (words_at file (tparam_words (map (written_tparam src) f.tparams))) in
    let ss = in_sig file (written_sig src f.sig) in
    c.first_of_two-2.ensures
    ∙ ap (λ k. first_of_two k c.in_ok-in_sig.in_sig) (c.first_of_two.ensures
    ∙ ap (λ k. first_of_two k c.in_ok-in_tparams.in_tparams) c.in_ok-in_receiver.ensures
    ∙ ap (first_of_two (first rs)) ((rw c.as_slice.ensures at c.in_ok-in_tparams.ensures) ∙ ap (λ k. first (repeats (words_at file k))) (each_tparam src f.tparams))
    ∙ sym (first_append rs ts))
    ∙ ap (first_of_two (first (rs ++ ts))) c.in_ok-in_sig.ensures
    ∙ sym (first_append (rs ++ ts) ss)
