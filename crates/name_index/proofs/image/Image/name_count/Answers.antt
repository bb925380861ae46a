use Rattle.std.proofs.Common.{◌∙◌, sym, ap}
use Rattle.name_index.specs.FullFile.{content}
use Rattle.name_index.specs.Records.{section_of, name_count}
use Rattle.name_index.proofs.HolderLemmas.{listed_count}
use Rattle.name_index.proofs.image.Image.name_count.Goals as goal

pub count_names-requires-clause-numbered : goal.count_names-requires-clause-numbered
count_names-requires-clause-numbered c = rw (c.as_slice.ensures.value) c.self.invariant.layout.numbered

pub count_names-requires-clause-few : goal.count_names-requires-clause-few
count_names-requires-clause-few c = rw (c.as_slice.ensures.value) c.self.invariant.layout.few_names

pub returns : goal.returns
returns c =
    rw (← c.self.view_is)
    (c.count_names.ensures ∙ ap name_count c.as_slice.ensures.value
    ∙ sym (listed_count c.self.inside.own.items (content c.self.inside.bytes.items (section_of c.self.inside.layout.strings)) c.self.inside.layout.packages.items))
