-- What a list of packages has for names: the first with a path has its names.
use Rattle.std.specs.Prelude.{List, [], ◌∷◌, ◌++◌, Option, Some, None, nat_eq, option_map, cond}
use Rattle.std.specs.Cmp.Lexicographic.{pointwise}
use Rattle.go_values.specs.declared.qualified.QName.{QName}
use Rattle.type_terms.specs.declared.descriptors.Node.{Node}
use Rattle.type_terms.specs.Trees.{Text}
use Rattle.environments.specs.declared.packages.Package.{Package}
use Rattle.environments.specs.Environments.{Entry}
use Rattle.environments.specs.Packages.{PackageStands, package_names, over_entries}

-- the first package with the path
abbrev pub first_at : List Package → Text → Option Package
first_at [] path = None
first_at (first ∷ rest) path = cond (pointwise nat_eq path first.path) (Some first) (first_at rest path)

-- each package stands over those after it
abbrev pub list_entries : List Package → List Node → QName → Option Entry
list_entries [] nodes = λ q. None
list_entries (first ∷ rest) nodes = over_entries first.path first.decls.items nodes (list_entries rest nodes)

abbrev pub list_names : List Package → List QName
list_names [] = []
list_names (first ∷ rest) = package_names first.path first.decls.items ++ list_names rest

abbrev pub list_packages : List Package → Text → Option Text
list_packages packages path = option_map (λ whole. whole.name) (first_at packages path)

abbrev pub list_stands : List Node → List Package → Type 0
list_stands nodes [] = Unit {0}
list_stands nodes (first ∷ rest) = PackageStands nodes first × list_stands nodes rest
