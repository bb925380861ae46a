use Rattle.interface_opener.specs.Stacked.{open_names}
use Rattle.interface_opener.proofs.OpenLemmas.{ended}
use Rattle.interface_opener.proofs.open_names.end.Goals as goal

pub returns : goal.returns
returns c due q is = ended (open_names due) q c.args.names.now.keys c.pop.new.self.keys c.pop.result is c.pop.ensures.keys c.pop.ensures.found
