use Rattle.std.proofs.Common.{length, arith, leb-true, ◌-◌}
use Rattle.decl_reader.proofs.ListedLemmas.{all_begun_of}
use Rattle.decl_reader.proofs.places.listed.all_begun.Goals as goal

pub returns : goal.returns
returns c begun =
    let es = c.args.listed.now in
    all_begun_of c.args.offset es c.requires.order _ (length es - 1) (omega (arith, c.if-count-eq0.false)) (leb-true _ c.args.offset begun)
