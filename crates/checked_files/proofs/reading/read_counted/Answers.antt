use Rattle.std.proofs.Common.{sym, subst}
use Rattle.type_terms.specs.Additions.{AddsOnly, Outgrows}
use Rattle.decl_spelling.specs.Sections.{Sections}
use Rattle.decl_spelling.specs.Declarations.{decl_at}
use Rattle.decl_spelling.specs.Leaving.{types_read}
use Rattle.decl_reader.specs.OpenReaders.{Remembers}
use Rattle.decl_reader.specs.Wholes.{ReadsDecl}
use Rattle.session_files.specs.Names.{comes_down}
use Rattle.session_files.proofs.OpenFiles.{source_is}
use Rattle.checked_files.proofs.reading.read_counted.Goals as goal

pub read-requires-clause-kept : goal.read-requires-clause-kept
read-requires-clause-kept g c =
    let source = source_is c.args.image.now c.parts.result c.parts.ensures.exact c.parts.ensures.of_file in
    subst (λ (src : Sections). Remembers src c.args.arena.now.nodes c.args.reader.now) (sym source) c.requires.kept

pub returns-clause-exact : goal.returns-clause-exact
returns-clause-exact g c =
    let source = source_is c.args.image.now c.parts.result c.parts.ensures.exact c.parts.ensures.of_file in
    subst (λ (src : Sections). ReadsDecl c.read.result c.read.new.arena.nodes (decl_at src (comes_down c.args.session.now) c.args.offset)) source c.read.ensures.plain

pub returns-clause-keeps : goal.returns-clause-keeps
returns-clause-keeps g c =
    let source = source_is c.args.image.now c.parts.result c.parts.ensures.exact c.parts.ensures.of_file in
    subst (λ (src : Sections). Remembers src c.read.new.arena.nodes c.read.new.self) source c.read.ensures.keeps

pub returns-clause-adds : goal.returns-clause-adds
returns-clause-adds g c =
    let source = source_is c.args.image.now c.parts.result c.parts.ensures.exact c.parts.ensures.of_file in
    subst (λ (src : Sections). AddsOnly (types_read src (comes_down c.args.session.now) c.args.offset) c.args.arena.now c.read.new.arena) source c.read.ensures.adds

pub returns-clause-outgrown : goal.returns-clause-outgrown
returns-clause-outgrown g c =
    let source = source_is c.args.image.now c.parts.result c.parts.ensures.exact c.parts.ensures.of_file in
    λ is. subst (λ (src : Sections). Outgrows c.args.arena.now (types_read src (comes_down c.args.session.now) c.args.offset)) source (c.read.ensures.outgrown is)
