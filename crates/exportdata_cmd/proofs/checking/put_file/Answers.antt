use Rattle.std.proofs.Common.{refl, sym, ◌∙◌}
use Rattle.session_files.specs.Sessions.{Opened}
use Rattle.exportdata_cmd.proofs.CheckingLemmas.{sound_lines, unsound_lines}
use Rattle.exportdata_cmd.proofs.PuttingLemmas.{puts_as}
use Rattle.exportdata_cmd.proofs.checking.put_file.Goals as goal

pub returns-then-are_sound : goal.returns-then-are_sound
returns-then-are_sound g c =
    let file = c.args.file.now in
    let o : Opened = record { label = file.label.now; file = file.image.now } in
    puts_as _ _ _ _ _ _
    (sym (sound_lines c.args.arena.now.nodes file.session.now o c.args.verdicts.now c.requires c.name_count.result c.name_count.ensures (sym c.are_sound.ensures ∙ c.if-are_sound.true)))
    refl c.put_ok.ensures

pub returns-else-are_sound : goal.returns-else-are_sound
returns-else-are_sound g c =
    let file = c.args.file.now in
    let o : Opened = record { label = file.label.now; file = file.image.now } in
    puts_as _ _ _ _ _ _ (sym (unsound_lines c.args.arena.now.nodes file.session.now o c.args.verdicts.now c.requires (sym c.are_sound.ensures ∙ c.if-are_sound.false)))
    refl c.put_bad_names.ensures
