use Rattle.std.proofs.Common.{Some, sym, ap, ◌∙◌}
use Rattle.std.specs.String.{string_bytes}
use Rattle.command_words.specs.Texts.{source_word, IsSource, divided_source}
use Rattle.command_words.specs.Forms.{source_of}
use Rattle.command_words.proofs.Named.{source_again, text_there, got, got_one}
use Rattle.command_words.proofs.sources.SourceWords.get.Goals as goal

pub returns-clause-exact : goal.returns-clause-exact
returns-clause-exact c =
    let at = c.in_ok-word.ensures.lookup in
    let there = text_there string_bytes c.args.self.now.words.now c.args.k c.in_ok-word.word.now at.3.0 at.1 ∙ ap Some (sym c.as_str.ensures.value) in
    got source_word IsSource divided_source source_again source_of _ c.args.k c.as_str.result.now there c.args.self.now.are_sources c.of.result c.of.ensures.spelled c.of.ensures.sound c.of.ensures.none

pub returns-clause-there : goal.returns-clause-there
returns-clause-there c _ =
    let at = c.in_ok-word.ensures.lookup in
    let there = text_there string_bytes c.args.self.now.words.now c.args.k c.in_ok-word.word.now at.3.0 at.1 ∙ ap Some (sym c.as_str.ensures.value) in
    got_one source_word IsSource divided_source source_again source_of _ c.args.k c.as_str.result.now there c.args.self.now.are_sources c.of.result c.of.ensures.none
