use Rattle.std.proofs.Common.{sym, subst, ◌∙◌}
use Rattle.session_files.specs.OpenSessions.{all_opened}
use Rattle.session_files.specs.Sessions.{IsNameCount}
use Rattle.session_files.proofs.IndexLemmas.{counted}
use Rattle.session_files.proofs.session.Session.names.Goals as goal

pub returns : goal.returns
returns c =
    let files = all_opened c.self.inside.files.items in
    let count = counted files c.self.inside.index.items c.self.invariant.indexed in
    subst (λ files. IsNameCount files c.len.result) c.self.view_is (subst (IsNameCount files) (sym c.self.inside.index.ok.0 ∙ sym c.len.ensures) count)
