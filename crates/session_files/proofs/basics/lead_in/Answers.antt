use Rattle.std.proofs.Common.{option_map, sym, ap, ◌∙◌}
use Rattle.std.specs.Option.{option_and_then}
use Rattle.decl_spelling.specs.Heads.{head_lead}
use Rattle.decl_reader.specs.Leads.{lead}
use Rattle.session_files.specs.Names.{lead_at}
use Rattle.session_files.specs.OpenSessions.{all_opened}
use Rattle.session_files.proofs.OpenFiles.{source_is}
use Rattle.session_files.proofs.Standing.{not_stood}
use Rattle.session_files.proofs.basics.lead_in.Goals as goal

pub returns-in_err-place : goal.returns-in_err-place
returns-in_err-place c =
    ap (option_map lead) c.from_residual.ensures ∙ ap (option_and_then lead_at) (sym (not_stood (all_opened c.args.files.now) c.args.path.now c.args.name.now c.in_err-place.ensures.none))

pub returns : goal.returns
returns c =
    let place = c.in_ok-place.place in
    let file = place.image.now in
    let source = source_is file c.parts.result c.parts.ensures.exact c.parts.ensures.of_file in
    c.read_head.ensures.exact ∙ ap (λ src. head_lead src place.offset) source ∙ ap (option_and_then lead_at) (sym c.in_ok-place.ensures.found.at)
