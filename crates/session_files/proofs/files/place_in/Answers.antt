use Rattle.std.proofs.Common.{◌<◌, length, get_or, refl, arith}
use Rattle.std.proofs.lemmas.Option.{slice_get-get_or, slice_get_within}
use Rattle.session_files.specs.OpenSessions.{all_opened}
use Rattle.session_files.proofs.OpenLemmas.{length_opened, is_place}
use Rattle.session_files.proofs.files.place_in.Goals as goal

pub returns-clause-found : goal.returns-clause-found
returns-clause-found c =
    let files = c.args.files.now in
    let file = c.in_ok-file.file in
    let x = get_or files file c.index-files-file.result in
    let stands = c.in_ok-file.ensures.found in
    let within : file < length files = omega (arith, length_opened files, slice_get_within (all_opened files) file stands.0 stands.2.there) in
    let at = slice_get-get_or files file c.index-files-file.result within in
    is_place files c.requires.sound c.args.path.now c.args.name.now _ x c.in-Some.field-0-0.now c.in-Some.field-0-1.now stands at refl c.in-Some.ensures.exact c.in-Some.ensures.inside
