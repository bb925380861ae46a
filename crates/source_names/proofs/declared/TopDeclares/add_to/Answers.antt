use Rattle.std.proofs.Common.{◌≡◌, ◌++◌, [], map, sym, ap, subst, ◌∙◌}
use Rattle.std.specs.Prelude.{OnOk}
use Rattle.repeated_names.specs.Names.{named}
use Rattle.source_trees.specs.Files.{written_top}
use Rattle.source_names.specs.Names.{words_at, top_words}
use Rattle.source_names.proofs.WordLaws.{each_word}
use Rattle.source_names.proofs.declared.TopDeclares.add_to.Goals as goal

pub returns-in-Constant : goal.returns-in-Constant
returns-in-Constant c = subst (λ k. OnOk c.add_all.result (map named c.add_all.new.names.items ≡ map named c.args.names.now.items ++ words_at c.args.source.file k))
    (each_word c.args.source.bytes.now c.in-Constant.constants.names ∙ sym (ap (λ t. top_words (written_top c.args.source.bytes.now [] 0 t)) c.in-Constant.is)) (rw c.as_slice.ensures at c.add_all.ensures)

pub returns-in-Var : goal.returns-in-Var
returns-in-Var c = subst (λ k. OnOk c.add_all-in-Var.result (map named c.add_all-in-Var.new.names.items ≡ map named c.args.names.now.items ++ words_at c.args.source.file k))
    (each_word c.args.source.bytes.now c.in-Var.variables.names ∙ sym (ap (λ t. top_words (written_top c.args.source.bytes.now [] 0 t)) c.in-Var.is)) (rw c.as_slice-in-Var.ensures at c.add_all-in-Var.ensures)
