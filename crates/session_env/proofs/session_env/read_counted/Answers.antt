use Rattle.std.proofs.Common.{subst}
use Rattle.type_terms.specs.Additions.{AddsOnly, Outgrows}
use Rattle.decl_spelling.specs.Sections.{Sections}
use Rattle.decl_spelling.specs.Declarations.{decl_at}
use Rattle.decl_spelling.specs.Leaving.{types_read}
use Rattle.decl_reader.specs.Wholes.{ReadsDecl}
use Rattle.session_files.specs.Names.{comes_down}
use Rattle.session_files.proofs.OpenFiles.{source_is}
use Rattle.session_env.proofs.session_env.read_counted.Goals as goal

pub returns-clause-exact : goal.returns-clause-exact
returns-clause-exact g c =
    let place = c.args.place.now in
    let source = source_is place.image.now c.parts.result c.parts.ensures.exact c.parts.ensures.of_file in
    subst (λ (src : Sections). ReadsDecl c.read_decl.result c.read_decl.new.arena.nodes (decl_at src (comes_down c.args.session.now) place.offset)) source c.read_decl.ensures.exact

pub returns-clause-adds : goal.returns-clause-adds
returns-clause-adds g c =
    let place = c.args.place.now in
    let source = source_is place.image.now c.parts.result c.parts.ensures.exact c.parts.ensures.of_file in
    subst (λ (src : Sections). AddsOnly (types_read src (comes_down c.args.session.now) place.offset) c.args.arena.now c.read_decl.new.arena) source c.read_decl.ensures.adds

pub returns-clause-outgrown : goal.returns-clause-outgrown
returns-clause-outgrown g c =
    let place = c.args.place.now in
    let source = source_is place.image.now c.parts.result c.parts.ensures.exact c.parts.ensures.of_file in
    λ is. subst (λ (src : Sections). Outgrows c.args.arena.now (types_read src (comes_down c.args.session.now) place.offset)) source (c.read_decl.ensures.outgrown is)
