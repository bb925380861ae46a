use Rattle.std.proofs.Common.{map, Some, sym, ap, ◌∙◌}
use Rattle.std.specs.String.{string_bytes}
use Rattle.std.proofs.lemmas.List.{length-map}
use Rattle.std.proofs.lemmas.List.Elements.{All-nil}
use Rattle.command_words.specs.Texts.{name_word, IsName, divided_name, IsNameWord}
use Rattle.command_words.specs.Forms.{name_of}
use Rattle.command_words.proofs.Named.{name_again, text_there, first_other, spells_more, read_none, read_one, all_spell}
use Rattle.command_words.proofs.Named.{all_spelled, all_sound}
use Rattle.command_words.proofs.names.NameWords.of.Goals as goal

pub loop-k-init : goal.loop-k-init
loop-k-init c = All-nil IsNameWord

pub returns-then-is_none-clause-other : goal.returns-then-is_none-clause-other
returns-then-is_none-clause-other c =
    let there = text_there string_bytes c.args.words.now c.loop-k.k c.index-words-k.result c.loop-k-test.true c.index-words-k.is ∙ ap Some (sym c.as_str.ensures.value) in
    first_other _ c.loop-k.k c.as_str.result.now there c.loop-k.invariant
    (read_none name_word IsName divided_name c.as_str.result.now c.of.result c.if-is_none.ensures c.of.ensures.none)

pub loop-k-preserved : goal.loop-k-preserved
loop-k-preserved c =
    let there = text_there string_bytes c.args.words.now c.loop-k.k c.index-words-k.result c.loop-k-test.true c.index-words-k.is ∙ ap Some (sym c.as_str.ensures.value) in
    spells_more name_word IsName divided_name _ c.loop-k.k c.as_str.result.now there
    (read_one name_word IsName divided_name name_again name_of c.as_str.result.now c.of.result c.if-is_none.ensures c.of.ensures.spelled c.of.ensures.sound)
    c.loop-k.invariant

pub invariant_of-result : goal.invariant_of-result
invariant_of-result c = record { are_names = all_spell name_word IsName divided_name (map string_bytes c.args.words.now) c.loop-k.k (rw (length-map c.args.words.now string_bytes) c.loop-k-test.false) c.loop-k.invariant }

pub returns-clause-spelled : goal.returns-clause-spelled
returns-clause-spelled c =
    all_spelled name_word IsName divided_name _ (all_spell name_word IsName divided_name (map string_bytes c.args.words.now) c.loop-k.k (rw (length-map c.args.words.now string_bytes) c.loop-k-test.false) c.loop-k.invariant)

pub returns-clause-sound : goal.returns-clause-sound
returns-clause-sound c =
    all_sound name_word IsName divided_name _ (all_spell name_word IsName divided_name (map string_bytes c.args.words.now) c.loop-k.k (rw (length-map c.args.words.now string_bytes) c.loop-k-test.false) c.loop-k.invariant)
