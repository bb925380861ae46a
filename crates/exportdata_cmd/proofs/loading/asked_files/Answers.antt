use Rattle.std.proofs.Common.{sym}
use Rattle.command_words.specs.Forms.{source_of, sources_of}
use Rattle.session_files.specs.Loading.{word_of}
use Rattle.exportdata_cmd.specs.Sources.{file_asked}
use Rattle.exportdata_cmd.proofs.CollectingLemmas.{maps_on}
use Rattle.exportdata_cmd.proofs.loading.asked_files.Goals as goal

pub loop-k-preserved : goal.loop-k-preserved
loop-k-preserved c =
    maps_on word_of file_asked c.loop-k.asked.items c.push.new.self.items c.full_file.result (sources_of c.args.sources) c.loop-k.k (source_of c.in-Some.source)
    c.loop-k.invariant c.in_ok-push.ensures.items c.full_file.ensures (sym c.in-Some.ensures.exact)
