use Rattle.std.proofs.Common.{map, ◌++◌, refl, sym}
use Rattle.name_index.specs.FullFile.{listed}
use Rattle.session_files.specs.OpenSessions.{key_of}
use Rattle.session_files.specs.Index.{keys_in}
use Rattle.session_files.proofs.KeyListLemmas.{key_put}
use Rattle.session_files.proofs.index.put_keys.Goals as goal

pub loop-number-preserved : goal.loop-number-preserved
loop-number-preserved c =
    let ls = listed c.args.image.now.packages in
    key_put c.args.file ls c.loop-number.number _ c.loop-number.keys.items _ _ (map key_of c.args.keys.now.items ++ keys_in c.args.file 0 ls) (sym c.in-Some.ensures.exact) c.in_ok-push.ensures.items refl c.loop-number.invariant
