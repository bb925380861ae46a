-- Files whose data section goes on.
use Rattle.std.specs.Prelude.{ℕ, List, ◌++◌}
use Rattle.decl_spelling.specs.Sections.{Sections}

-- the same file, where more bytes follow in its data section
abbrev pub with_behind : Sections → List ℕ → Sections
with_behind src more = record {
  strings = src.strings;
  body = src.body ++ more;
  body_at = src.body_at;
  version = src.version;
  own = src.own;
  paths = src.paths;
}
