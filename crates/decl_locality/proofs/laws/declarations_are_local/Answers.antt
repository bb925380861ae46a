use Rattle.decl_locality.proofs.DeclLocality.{decl_read, decl_refused, decl_among, decl_end, decl_goes_on}
use Rattle.decl_locality.proofs.laws.declarations_are_local.Goals as goal

pub returns : goal.returns
returns c = record { read = decl_read; stays = decl_refused; inside = decl_among; end = decl_end; goes_on = decl_goes_on }
