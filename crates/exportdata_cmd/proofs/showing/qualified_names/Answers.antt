use Rattle.std.proofs.Common.{sym}
use Rattle.command_words.specs.Forms.{name_of, names_of}
use Rattle.exportdata_cmd.specs.Showing.{qualified}
use Rattle.exportdata_cmd.proofs.CollectingLemmas.{maps_from}
use Rattle.exportdata_cmd.proofs.showing.qualified_names.Goals as goal

pub loop-k-preserved : goal.loop-k-preserved
loop-k-preserved c =
    maps_from qualified c.loop-k.names.items c.push.new.self.items c.in_ok-qualified_name.field-0 (names_of c.args.words) c.loop-k.k (name_of c.in-Some.word)
    c.loop-k.invariant c.in_ok-push.ensures.items c.in_ok-qualified_name.ensures (sym c.in-Some.ensures.exact)
