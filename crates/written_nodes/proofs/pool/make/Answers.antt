use Rattle.written_nodes.proofs.MadeLemmas.{all_later, note_written}
use Rattle.written_nodes.proofs.pool.make.Goals as goal

pub returns-in_err-own-clause-written : goal.returns-in_err-own-clause-written
returns-in_err-own-clause-written c =
    all_later c.args.arena.now.nodes c.args.nodes.now c.node_for.new.nodes c.args.made.now.entries c.in_err-own.ensures.extends c.in_err-own.ensures.arena c.requires.written

pub returns-clause-written : goal.returns-clause-written
returns-clause-written c =
    let own = c.in_ok-own.ensures in
    note_written c.note.result c.args.made.now.entries c.note.new.made.entries c.args.id c.in_ok-own.own c.note.ensures.noted c.note.ensures.refused
    c.args.arena.now.nodes c.args.nodes.now c.node_for.new.nodes own.extends own.arena c.requires.written
    (record { there = c.requires.there; within = own.within; denotes = own.denotes })
