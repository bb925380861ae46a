use Rattle.std.proofs.Common.{map, Some, sym, ap, ◌∙◌, arith}
use Rattle.std.specs.String.{string_bytes}
use Rattle.std.proofs.lemmas.List.{length-map}
use Rattle.std.proofs.lemmas.List.Elements.{All-nil}
use Rattle.command_words.specs.Texts.{source_word, IsSource, divided_source, IsSourceWord}
use Rattle.command_words.specs.Forms.{source_of}
use Rattle.command_words.proofs.Named.{source_again, text_there, leads_to, all_lead, spells_more, read_none, read_one}
use Rattle.command_words.proofs.sources.leading_count.Goals as goal

pub loop-k-init : goal.loop-k-init
loop-k-init c = All-nil IsSourceWord

pub returns-then-is_none : goal.returns-then-is_none
returns-then-is_none c =
    let there = text_there string_bytes c.args.words.now c.loop-k.k c.index-words-k.result c.loop-k-test.true c.index-words-k.is ∙ ap Some (sym c.as_str.ensures.value) in
    leads_to _ c.loop-k.k c.as_str.result.now there c.loop-k.invariant
    (read_none source_word IsSource divided_source c.as_str.result.now c.of.result c.if-is_none.ensures c.of.ensures.none)

pub loop-k-preserved : goal.loop-k-preserved
loop-k-preserved c =
    let there = text_there string_bytes c.args.words.now c.loop-k.k c.index-words-k.result c.loop-k-test.true c.index-words-k.is ∙ ap Some (sym c.as_str.ensures.value) in
    spells_more source_word IsSource divided_source _ c.loop-k.k c.as_str.result.now there
    (read_one source_word IsSource divided_source source_again source_of c.as_str.result.now c.of.result c.if-is_none.ensures c.of.ensures.spelled c.of.ensures.sound)
    c.loop-k.invariant

pub returns : goal.returns
returns c =
    all_lead (map string_bytes c.args.words.now) c.loop-k.k _ (sym (length-map c.args.words.now string_bytes))
    (rw (length-map c.args.words.now string_bytes) c.loop-k-test.false) c.loop-k.invariant
