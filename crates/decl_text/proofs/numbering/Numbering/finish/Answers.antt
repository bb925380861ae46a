use Rattle.std.proofs.Common.{sym, ◌∙◌}
use Rattle.indexmap.proofs.CallerLemmas.{insert_entry-new}
use Rattle.decl_text.proofs.NodeFinishLemmas.{given, there_more}
use Rattle.decl_text.proofs.numbering.Numbering.finish.Goals as goal

pub returns-clause-numbers : goal.returns-clause-numbers
returns-clause-numbers c =
    let nodes = c.args.arena.now.nodes in
    let old = c.args.self.now.numbers.entries in
    let missing = c.is_settled.ensures.missing c.if-is_settled.false in
    let entries = c.in_ok-insert.ensures.entries ∙ insert_entry-new _ c.args.self.now.numbers c.args.id c.in_ok-number.number missing in
    given nodes old _ c.args.self.now.lines.keys _ c.args.id c.in_ok-number.number c.in_ok-line.line (sym c.is_settled.ensures.settled ∙ c.if-is_settled.false) c.in_ok-line.ensures c.in_ok-number.ensures.index c.in_ok-number.ensures.keys entries

pub returns-clause-stands : goal.returns-clause-stands
returns-clause-stands c =
    let missing = c.is_settled.ensures.missing c.if-is_settled.false in
    let entries = c.in_ok-insert.ensures.entries ∙ insert_entry-new _ c.args.self.now.numbers c.args.id c.in_ok-number.number missing in
    there_more c.args.arena.now.nodes c.args.self.now.numbers.entries _ c.args.id c.in_ok-number.number c.requires.stands c.requires.there entries
