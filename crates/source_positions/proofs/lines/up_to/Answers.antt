use Rattle.std.proofs.lemmas.List.Sorted.{searched}
use Rattle.source_positions.proofs.Starts.{ordered, cut_at, cut_before}
use Rattle.source_positions.proofs.lines.up_to.Goals as goal

pub returns-in-Ok : goal.returns-in-Ok
returns-in-Ok c =
    let m = searched c.args.starts.now c.args.offset c.binary_search.result c.binary_search.ensures.position (ordered c.args.starts.now c.requires) in
    let n = rw c.in-Ok.is at m in
    cut_at c.args.starts.now c.args.offset c.in-Ok.place c.requires n.0 n.1

pub returns-in-Err : goal.returns-in-Err
returns-in-Err c =
    let m = searched c.args.starts.now c.args.offset c.binary_search.result c.binary_search.ensures.position (ordered c.args.starts.now c.requires) in
    let n = rw c.in-Err.is at m in
    cut_before c.args.starts.now c.args.offset c.in-Err.place c.requires n.0 n.1 n.2
