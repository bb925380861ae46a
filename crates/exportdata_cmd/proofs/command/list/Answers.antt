use Rattle.std.proofs.Common.{◌∷◌, [], ap, sym}
use Rattle.std.proofs.lemmas.List.{append-nil}
use Rattle.command_words.specs.Forms.{list, source_of}
use Rattle.exportdata_cmd.specs.Endings.{output_end}
use Rattle.exportdata_cmd.specs.Listing.{lines_of}
use Rattle.exportdata_cmd.specs.Sources.{opened_as}
use Rattle.exportdata_cmd.specs.declared.exits.Status.TheVariants.{Done}
use Rattle.exportdata_cmd.proofs.CarriedLemmas.{owes_loading, carried}
use Rattle.exportdata_cmd.proofs.command.list.Goals as goal

pub returns-in-Err-clause-carried : goal.returns-in-Err-clause-carried
returns-in-Err-clause-carried g c words form =
    owes_loading words _ _ _ _ (list (source_of c.args.source.now)) _ form c.in-Err.ensures.cause

pub returns-clause-carried : goal.returns-clause-carried
returns-clause-carried g c words form =
    let source = source_of c.args.source.now in
    let files = opened_as source c.in-Ok.image ∷ [] in
    let lines = lines_of c.in-Ok.image.packages in
    let yields = ap (output_end Done) (sym (append-nil lines)) in
    carried words _ _ _ _ _ files (list source) (record { asked = form; loaded = c.in-Ok.ensures.opened }) _
    (c.finish.ensures files (list source) lines _ _ yields c.put_packages.ensures)
