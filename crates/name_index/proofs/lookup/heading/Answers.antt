use Rattle.std.proofs.Common.{sym, arith}
use Rattle.name_index.proofs.LookupLemmas.{first_heading, later_heading}
use Rattle.name_index.proofs.lookup.heading.Goals as goal
use Rattle.name_index.proofs.lookup.heading.Goals.{then-k-eq0, else-k-eq0}

pub returns : goal.returns
returns c =
    elim c.if-k-eq0.branch [
      | then-k-eq0 w ↦ rw (w.path-is, c.text_of.ensures) (sym (first_heading c.args.own.now c.args.strings.now c.args.packages.now c.args.k c.index-packages-k.result w.if-k-eq0.true c.if-k-packages.false c.index-packages-k.is))
      | else-k-eq0 w ↦ rw (w.path-is, w.text_of-path.ensures, c.text_of.ensures) (sym (later_heading c.args.own.now c.args.strings.now c.args.packages.now c.args.k c.index-packages-k.result (omega arith) c.if-k-packages.false c.index-packages-k.is))
    ]
