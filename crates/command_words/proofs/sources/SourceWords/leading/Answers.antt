use Rattle.std.specs.String.{string_bytes}
use Rattle.command_words.specs.Texts.{source_word, IsSource, divided_source}
use Rattle.command_words.proofs.Named.{all_sound, leading_sources, leading_parted, leading_other}
use Rattle.command_words.proofs.sources.SourceWords.leading.Goals as goal

pub invariant_of-result : goal.invariant_of-result
invariant_of-result c = record {
  are_sources = leading_sources string_bytes c.args.words.now _ _ _ c.split_at.ensures.front c.split_at.ensures.back c.leading_count.ensures;
}

pub returns-clause-parted : goal.returns-clause-parted
returns-clause-parted c =
    leading_parted string_bytes c.args.words.now _ _ _ c.split_at.ensures.front c.split_at.ensures.back c.leading_count.ensures

pub returns-clause-sound : goal.returns-clause-sound
returns-clause-sound c =
    all_sound source_word IsSource divided_source _
    (leading_sources string_bytes c.args.words.now _ _ _ c.split_at.ensures.front c.split_at.ensures.back c.leading_count.ensures)

pub returns-clause-other : goal.returns-clause-other
returns-clause-other c =
    leading_other string_bytes c.args.words.now _ _ _ c.split_at.ensures.front c.split_at.ensures.back c.leading_count.ensures
