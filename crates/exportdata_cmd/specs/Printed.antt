-- What is printed: the parts of a line, and the lines.
use Rattle.std.specs.Prelude.{ℕ, List, ◌++◌, codes, decimal}
use Rattle.decl_text.specs.Printed.{printed}

-- a line, with its line feed
abbrev pub Line : Type 0
Line = List ℕ

-- a line of this text
abbrev pub line : List ℕ → Line
line text = text ++ codes "\n"

-- the first line of a package, and the line of a name
abbrev pub package_line : List ℕ → List ℕ → Line
package_line path name = line (codes "package " ++ printed path ++ codes " " ++ printed name)

abbrev pub name_line : List ℕ → ℕ → Line
name_line name offset = line (codes "  " ++ printed name ++ codes " " ++ decimal offset)
