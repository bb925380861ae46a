use Rattle.block_reader.specs.Calls.{sections_of}
use Rattle.decl_reader.specs.Progress.{known}
use Rattle.decl_reader.proofs.ProgressLemmas.{goes_on_twice}
use Rattle.decl_reader.proofs.DescentLoop.{reads_on}
use Rattle.decl_reader.proofs.reading.Reading.read_types.Goals as goal

pub loop-mention-preserved : goal.loop-mention-preserved
loop-mention-preserved g c =
    let p = c.args.parts.now in
    let at = c.loop-mention in
    let new = c.read_type.new.self in (
      reads_on (sections_of p) c.args.holder c.args.mentions.now (known p c.args.self.now) (known p at.self) at.mention-index _ at.invariant.0 c.loop-mention-test.true (known p new) c.in_ok-read_type.ensures.exact,
      goes_on_twice p c.args.self.now at.self new at.invariant.1 c.read_type.ensures.goes_on,
    )
