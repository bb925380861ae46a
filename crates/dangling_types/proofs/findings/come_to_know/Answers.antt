use Rattle.dangling_types.proofs.KnowingLemmas.{note_right, note_stays}
use Rattle.dangling_types.proofs.findings.come_to_know.Goals as goal

pub returns-clause-right : goal.returns-clause-right
returns-clause-right g c =
    note_right c.note.result c.args.known.now.entries c.note.new.known.entries c.args.id c.in_ok-finding.finding c.note.ensures.noted c.note.ensures.refused
    (g.R.Roles.entries c.args.roles.now) c.args.arena.now.nodes c.requires.right c.in_ok-finding.ensures

pub returns-clause-kept : goal.returns-clause-kept
returns-clause-kept g c =
    note_stays c.note.result c.args.known.now.entries c.note.new.known.entries c.args.id c.in_ok-finding.finding c.note.ensures.noted c.note.ensures.refused
