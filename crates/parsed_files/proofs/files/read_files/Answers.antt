use Rattle.std.proofs.Common.{refl, sym}
use Rattle.parsed_files.proofs.FileLaws.{tree_turn, fault_turn, one_more_stands}
use Rattle.parsed_files.proofs.files.read_files.Goals.{in-Ok+in_ok-push-in-Ok, in-Err-Fault}
use Rattle.parsed_files.proofs.files.read_files.Goals as goal

pub loop-number-preserved : goal.loop-number-preserved
loop-number-preserved c = elim c.match-read_file.branch [
  | in-Ok+in_ok-push-in-Ok w ↦ rw (w.files-is, w.faults-is) (record {
    going = tree_turn c.args.sources.now c.loop-number.number _ _ _ _ _ w.in-Ok.tree c.loop-number.invariant.going c.loop-number-test.true refl
        (sym w.in-Ok.ensures.exact) w.in_ok-push-in-Ok.ensures.items;
    stand = one_more_stands _ _ _ w.in-Ok.tree c.loop-number.invariant.stand w.in-Ok.ensures.stands w.in_ok-push-in-Ok.ensures.items;
  })
  | in-Err-Fault w ↦ rw (w.files-is, w.faults-is) (record {
    going = fault_turn c.args.sources.now c.loop-number.number _ _ _ _ _ w.in-Err-Fault.fault c.loop-number.invariant.going c.loop-number-test.true refl
        (sym (rw w.in-Err-Fault.field-0-is at w.in-Err-Fault.ensures.exact)) (rw w.in-Err-Fault.fault-is at w.note.ensures);
    stand = c.loop-number.invariant.stand;
  })
]
