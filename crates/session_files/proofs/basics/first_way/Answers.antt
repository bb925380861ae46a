use Rattle.std.proofs.Common.{Some, sym, ap, ◌∙◌}
use Rattle.decl_reader.specs.Leads.{lead}
use Rattle.session_files.specs.OpenSessions.{all_opened}
use Rattle.session_files.proofs.WayLemmas.{goes_on, ends_unknown, ends_there}
use Rattle.session_files.proofs.basics.first_way.Goals as goal

pub returns-in-Some : goal.returns-in-Some
returns-in-Some c =
    goes_on (all_opened c.args.files.now) c.requires.sound c.args.index.now c.args.at c.name_at.result.0.now c.name_at.result.1.now c.name_at.ensures c.in-Some-Link.path.now c.in-Some-Link.name.now c.in-Some.next (ap (λ h. Some (lead h)) (sym c.in-Some-Link.field-0-is) ∙ c.in-Some-Link.ensures) c.in-Some.ensures.found

pub returns-in-None-position_in : goal.returns-in-None-position_in
returns-in-None-position_in c =
    ends_unknown (all_opened c.args.files.now) c.requires.sound c.args.index.now c.args.at c.name_at.result.0.now c.name_at.result.1.now c.name_at.ensures c.in-Some-Link.path.now c.in-Some-Link.name.now (ap (λ h. Some (lead h)) (sym c.in-Some-Link.field-0-is) ∙ c.in-Some-Link.ensures) c.in-None-position_in.ensures.none

pub returns-in-Some-Known : goal.returns-in-Some-Known
returns-in-Some-Known c =
    ends_there (all_opened c.args.files.now) c.requires.sound c.args.index.now c.args.at c.name_at.result.0.now c.name_at.result.1.now c.name_at.ensures c.in-Some-Known.basic (ap (λ h. Some (lead h)) (sym c.in-Some-Known.field-0-is) ∙ c.in-Some-Known.ensures)
