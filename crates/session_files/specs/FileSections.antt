-- An open full file, as the readers of its declarations take it.
use Rattle.std.specs.Prelude.{ℕ, List, [], ◌∷◌, map}
use Rattle.name_index.specs.FullFile.{content, Package, FullFile}
use Rattle.decl_spelling.specs.Sections.{Sections}

-- the path of the file's own package, which is the first
abbrev pub own_path : List Package → List ℕ
own_path [] = []
own_path (p ∷ ps) = p.path

-- the paths of the index, as a full file spells them: the empty text for its own
abbrev pub spelled_paths : List Package → List (List ℕ)
spelled_paths [] = []
spelled_paths (p ∷ ps) = [] ∷ map (λ q. q.path) ps

abbrev pub sections_in : FullFile → Sections
sections_in file = record {
  strings = content file.bytes file.strings;
  body = content file.bytes file.body;
  body_at = file.body.at;
  version = file.version;
  own = own_path file.packages;
  paths = spelled_paths file.packages;
}
