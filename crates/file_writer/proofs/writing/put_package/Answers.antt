use Rattle.file_writer.proofs.PutLemmas.{on_ok, package_put}
use Rattle.file_writer.proofs.writing.put_package.Goals as goal

pub returns : goal.returns
returns c =
    on_ok c.put_entries.result _ _ (λ entries.
    package_put c.args.listed.now _ _ _ _ _ _ _ _ _ _ c.in_ok-put_text.ensures c.in_ok-put_text-2.ensures c.in_ok-put_number.ensures c.in_ok-put_number-2.ensures entries) c.put_entries.ensures
