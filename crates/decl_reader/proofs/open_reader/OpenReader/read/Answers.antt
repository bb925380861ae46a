use Rattle.std.proofs.Common.{◌<◌, ◌∙◌, arith}
use Rattle.type_terms.specs.AdditionLaws.{adds_more, outgrown_by_more}
use Rattle.decl_spelling.specs.Leaving.{types_read}
use Rattle.block_reader.specs.Calls.{sections_of}
use Rattle.decl_reader.specs.OpenReaders.{entries_of, memory_of}
use Rattle.decl_reader.specs.Wholes.{types_reached}
use Rattle.decl_reader.proofs.BegunLemmas.{body_length}
use Rattle.decl_reader.proofs.ExtendsLemmas.{table_stays}
use Rattle.decl_reader.proofs.KeptLemmas.{if_fault, kept_stays, kept_then, on_ok, same_memory}
use Rattle.decl_reader.proofs.ProperDeclLemmas.{read_proper}
use Rattle.decl_reader.proofs.ReachedLemmas.{reached_covers}
use Rattle.decl_reader.proofs.WholeLemmas.{is_spelled, kept_is}
use Rattle.decl_reader.proofs.open_reader.OpenReader.read.Goals as goal

pub returns-in-Ok-clause-plain : goal.returns-in-Ok-clause-plain
returns-in-Ok-clause-plain g c =
    let src = sections_of c.args.parts.now in
    let basics = g.B.Basics.meaning c.args.basics.now in
    let s = c.in-Ok.spelled in
    let memory = memory_of c.args.arena.now.nodes c.args.self.now in
    kept_is src basics c.read_spelled.ensures.bytes memory c.requires.kept.memory c.args.offset s.decl s.finished.items c.keep.new.arena.nodes c.keep.result c.in-Ok.ensures.exact c.keep.ensures.denotes c.keep.ensures.only_memory

pub returns-in-Ok-clause-found : goal.returns-in-Ok-clause-found
returns-in-Ok-clause-found g c =
    let src = sections_of c.args.parts.now in
    let basics = g.B.Basics.meaning c.args.basics.now in
    let s = c.in-Ok.spelled in
    let memory = memory_of c.args.arena.now.nodes c.args.self.now in
    is_spelled src basics c.args.offset c.keep.new.arena.nodes c.keep.result c.read_spelled.ensures.bytes
    (kept_is src basics c.read_spelled.ensures.bytes memory c.requires.kept.memory c.args.offset s.decl s.finished.items c.keep.new.arena.nodes c.keep.result c.in-Ok.ensures.exact c.keep.ensures.denotes c.keep.ensures.only_memory)

pub returns-in-Ok-clause-proper : goal.returns-in-Ok-clause-proper
returns-in-Ok-clause-proper g c =
    let src = sections_of c.args.parts.now in
    let basics = g.B.Basics.meaning c.args.basics.now in
    let s = c.in-Ok.spelled in
    let memory = memory_of c.args.arena.now.nodes c.args.self.now in
    read_proper src basics c.args.offset c.keep.new.arena.nodes c.keep.result
    (is_spelled src basics c.args.offset c.keep.new.arena.nodes c.keep.result c.read_spelled.ensures.bytes
    (kept_is src basics c.read_spelled.ensures.bytes memory c.requires.kept.memory c.args.offset s.decl s.finished.items c.keep.new.arena.nodes c.keep.result c.in-Ok.ensures.exact c.keep.ensures.denotes c.keep.ensures.only_memory))

pub returns-in-Ok-clause-keeps : goal.returns-in-Ok-clause-keeps
returns-in-Ok-clause-keeps g c =
    let src = sections_of c.args.parts.now in
    let basics = g.B.Basics.meaning c.args.basics.now in
    let s = c.in-Ok.spelled in
    let memory = memory_of c.args.arena.now.nodes c.args.self.now in
    kept_then src basics c.read_spelled.ensures.bytes memory c.requires.kept.memory c.args.offset s.decl s.finished.items c.in-Ok.ensures.exact c.keep.new.arena.nodes (entries_of c.keep.new.self) c.keep.result c.keep.ensures.remembers
    c.keep.ensures.inside c.keep.ensures.forgotten

pub returns-in-Ok-clause-adds : goal.returns-in-Ok-clause-adds
returns-in-Ok-clause-adds g c =
    let src = sections_of c.args.parts.now in
    let basics = g.B.Basics.meaning c.args.basics.now in
    let s = c.in-Ok.spelled in
    let size = body_length c.args.parts.now c.requires.of_file in
    let inside : c.args.offset < c.args.parts.now.body_len = c.requires.inside in
    let memory = memory_of c.args.arena.now.nodes c.args.self.now in
    adds_more (types_read src basics c.args.offset) (types_reached src.version memory s) c.args.arena.now c.keep.new.arena
    (reached_covers src basics c.read_spelled.ensures.bytes memory c.requires.kept.memory c.args.offset (omega (arith, size, inside)) s.decl s.finished.items c.in-Ok.ensures.exact) c.keep.ensures.adds

pub returns-in-Ok-clause-outgrown : goal.returns-in-Ok-clause-outgrown
returns-in-Ok-clause-outgrown g c wants =
    let src = sections_of c.args.parts.now in
    let basics = g.B.Basics.meaning c.args.basics.now in
    let s = c.in-Ok.spelled in
    let size = body_length c.args.parts.now c.requires.of_file in
    let inside : c.args.offset < c.args.parts.now.body_len = c.requires.inside in
    let memory = memory_of c.args.arena.now.nodes c.args.self.now in
    outgrown_by_more c.args.arena.now (types_read src basics c.args.offset) (types_reached src.version memory s)
    (reached_covers src basics c.read_spelled.ensures.bytes memory c.requires.kept.memory c.args.offset (omega (arith, size, inside)) s.decl s.finished.items c.in-Ok.ensures.exact) (c.keep.ensures.outgrown wants)

pub returns-in-Err-Bytes-clause-keeps : goal.returns-in-Err-Bytes-clause-keeps
returns-in-Err-Bytes-clause-keeps g c = kept_stays (sections_of c.args.parts.now) c.args.arena.now c.read_decl.new.arena c.read_decl.ensures.extends (entries_of c.args.self.now) c.requires.kept

pub returns-in-Err-Bytes-clause-same : goal.returns-in-Err-Bytes-clause-same
returns-in-Err-Bytes-clause-same g c = if_fault c.read_decl.result (table_stays c.args.arena.now c.read_decl.new.arena c.read_decl.ensures.extends (entries_of c.args.self.now) c.requires.kept.held.inside)

pub returns-in-Err-Bytes-clause-remembers : goal.returns-in-Err-Bytes-clause-remembers
returns-in-Err-Bytes-clause-remembers g c =
    let src = sections_of c.args.parts.now in
    let basics = g.B.Basics.meaning c.args.basics.now in
    let memory = memory_of c.args.arena.now.nodes c.args.self.now in
    on_ok c.read_decl.result
    (table_stays c.args.arena.now c.read_decl.new.arena c.read_decl.ensures.extends (entries_of c.args.self.now) c.requires.kept.held.inside
    ∙ same_memory src basics memory c.args.offset c.in-Err-Bytes.field-0 c.in-Err-Bytes.field-0-0 c.in-Err-Bytes.field-0-is c.in-Err-Bytes.ensures.exact)
