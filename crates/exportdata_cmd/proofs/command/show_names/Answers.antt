use Rattle.std.proofs.Common.{List, sym, ap, subst, ◌∙◌, ◌++◌, ◌∷◌, [], length}
use Rattle.command_words.specs.Forms.{show, names_of}
use Rattle.session_env.specs.SessionEntries.{session_entries}
use Rattle.exportdata_cmd.specs.Showing.{names_asked}
use Rattle.exportdata_cmd.proofs.LookedUpLemmas.{as_many, all_inside}
use Rattle.exportdata_cmd.proofs.ShowingLemmas.{shows, lines_shown}
use Rattle.exportdata_cmd.proofs.command.show_names.Goals as goal

pub put_answers-put-requires-clause-each : goal.put_answers-put-requires-clause-each
put_answers-put-requires-clause-each g c =
    let is = c.in-Ok.ensures.shown in
    as_many _ (session_entries c.args.session.now) (names_asked (names_of c.args.names)) c.in-Ok.shown.found.items is.found
    ∙ ap (λ xs. length xs) (sym is.names_are)

pub put_answers-put-requires-clause-inside : goal.put_answers-put-requires-clause-inside
put_answers-put-requires-clause-inside g c =
    all_inside _ (session_entries c.args.session.now) (names_asked (names_of c.args.names)) c.in-Ok.shown.found.items c.in-Ok.ensures.shown.found

pub returns : goal.returns
returns g c sources =
    let files = c.args.session.now in
    let names = names_asked (names_of c.args.names) in
    let is = c.in-Ok.ensures.shown in
    let status = rw c.as_slice.ensures.value at c.status_of.ensures in
    c.finish.ensures files (show sources (names_of c.args.names)) _ _ _
    (shows _ files names c.in-Ok.shown is c.status_of.result status)
    (rw (lines_shown _ files names c.in-Ok.shown is) at c.put_answers-put.ensures)
