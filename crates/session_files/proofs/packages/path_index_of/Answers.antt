use Rattle.std.proofs.Common.{◌≡◌, None, map}
use Rattle.session_files.specs.OpenSessions.{all_opened, key_of}
use Rattle.session_files.specs.Index.{spot_of, firsts_after}
use Rattle.session_files.specs.PathIndex.{IsPathIndex}
use Rattle.session_files.proofs.IndexLemmas.{ok_more}
use Rattle.session_files.proofs.PathLemmas.{path_index_made}
use Rattle.session_files.proofs.packages.path_index_of.Goals as goal

pub returns : goal.returns
returns c =
    let files = all_opened c.args.files.now in
    let sorted = c.sort.new.self.items in
    ok_more (λ places. places.items ≡ map spot_of (firsts_after None (map key_of sorted))) (λ paths. IsPathIndex files paths.items)
    (λ places made. path_index_made files c.in_ok-keys.keys.items sorted places.items c.in_ok-keys.ensures c.in_ok-sort.ensures.permutation c.in_ok-sort.ensures.sorted made)
    c.first_places.result (rw c.deref.ensures.value at c.first_places.ensures)
