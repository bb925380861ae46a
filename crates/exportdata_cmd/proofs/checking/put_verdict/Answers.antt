use Rattle.std.proofs.Common.{sym, refl, subst}
use Rattle.go_values.specs.declared.qualified.QName.{QName}
use Rattle.checked_files.specs.Checking.{Says}
use Rattle.exportdata_cmd.proofs.CheckingLemmas.{puts_dangling}
use Rattle.exportdata_cmd.proofs.PuttingLemmas.{puts_as}
use Rattle.exportdata_cmd.proofs.checking.put_verdict.Goals as goal

pub returns-in-Dangles : goal.returns-in-Dangles
returns-in-Dangles g c flaw says =
    let q : QName = record { path = c.args.path.now; name = c.args.name.now } in
    let said = subst (λ v. Says c.args.arena.now.nodes v flaw) c.in-Dangles.is says in
    puts_as _ _ _ _ _ _ (sym (puts_dangling c.args.label.now q c.args.arena.now.nodes c.in-Dangles.id flaw said)) refl (c.put_dangling.ensures said.0 said.1)
