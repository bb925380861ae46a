use Rattle.std.proofs.Common.{List, ◌∙◌, ap}
use Rattle.name_index.specs.declared.records.PackageRecord.{PackageRecord}
use Rattle.name_index.specs.FullFile.{content}
use Rattle.name_index.specs.Records.{section_of}
use Rattle.name_index.proofs.HolderLemmas.{entry_count, counts_are}
use Rattle.name_index.proofs.image.Image.names_in.Goals as goal

pub returns : goal.returns
returns c =
    rw (← c.self.view_is) (c.names.ensures ∙ ap (λ (rs : List PackageRecord). entry_count rs c.args.k) c.as_slice.ensures.value
    ∙ counts_are c.self.inside.own.items (content c.self.inside.bytes.items (section_of c.self.inside.layout.strings)) c.self.inside.layout.packages.items c.args.k)
