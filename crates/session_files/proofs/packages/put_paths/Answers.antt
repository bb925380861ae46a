use Rattle.std.proofs.Common.{map, ◌++◌, refl}
use Rattle.session_files.specs.OpenSessions.{key_of}
use Rattle.session_files.specs.Index.{keys_in}
use Rattle.session_files.specs.PathIndex.{bare}
use Rattle.session_files.proofs.KeyListLemmas.{key_put}
use Rattle.session_files.proofs.PathLemmas.{bare_there}
use Rattle.session_files.proofs.packages.put_paths.Goals as goal

pub loop-number-preserved : goal.loop-number-preserved
loop-number-preserved c =
    let ps = c.args.image.now.packages in
    let there = bare_there ps c.loop-number.number c.in-Some.path.now c.in-Some.field-0-1.now c.in-Some.ensures in
    key_put c.args.file (map bare ps) c.loop-number.number _ c.loop-number.keys.items _ _ (map key_of c.args.keys.now.items ++ keys_in c.args.file 0 (map bare ps)) there c.in_ok-push.ensures.items refl c.loop-number.invariant
