-- The visits of rows of trees, and of the trees of files.
use Rattle.std.specs.Prelude.{ℕ, List, []}
use Rattle.go_syntax.specs.declared.tree.Top.{Top}
use Rattle.source_trees.specs.Words.{Word}
use Rattle.source_trees.specs.Files.{WrittenFile, written_top, written_file}
use Rattle.source_walk.specs.declared.parsed.ParsedFile.{ParsedFile}
use Rattle.source_walk.specs.Spots.{scope}

-- the names of type parameters that are in scope in a declaration, which doesn't depend on the others of its file
unfoldable pub scope_in : List ℕ → Top → List Word
scope_in source top = scope (written_top source [] 0 top)

abbrev pub written_parsed : ParsedFile → WrittenFile
written_parsed f = written_file f.source.now f.tree
