-- References that dangle, and the first of a declaration's.
use Rattle.std.specs.Prelude.{◌≡◌, ◌≢◌, List, [], ◌∷◌, ◌++◌, Option, Some, None}
use Rattle.std.specs.List.{AllByRecursion, Contains}
use Rattle.go_values.specs.declared.qualified.QName.{QName}
use Rattle.type_terms.specs.Trees.{Tree}
use Rattle.type_terms.specs.Declarations.{Decl}
use Rattle.environments.specs.Environments.{Entry, declared, damaged}
use Rattle.environments.specs.Kept.{OpensBehind}
use Rattle.environments.specs.References.{references, IsFirstMentions}
use Rattle.environments.specs.Roles.{role_of}
use Rattle.environments.specs.declared.mentions.Role.{Role}
use Rattle.environments.specs.declared.mentions.Reference.{Reference}

-- what stands behind each name
abbrev pub Entries : Type 0
Entries = QName → Option Entry

-- Nothing stands there, or a fault, or a declaration that may not be used in the role.
abbrev pub DanglesAs : Role → Option Entry → Type 0
DanglesAs role None = Unit {0}
DanglesAs role (Some (damaged fault read)) = Unit {0}
DanglesAs role (Some (declared decl)) = role_of decl ≢ Some role

abbrev pub Dangles : Entries → Reference → Type 0
Dangles entries reference = DanglesAs reference.role (entries reference.name)

abbrev pub NoneDangles : Entries → List Reference → Type 0
NoneDangles entries references = AllByRecursion (λ r. Dangles entries r → ⊥) references

-- the first of some references that dangles
pub record IsFirstDangling (entries : Entries) (all : List Reference) (found : Reference) : Type 0 where
  pub front : List Reference
  pub rest : List Reference
  pub stands : all ≡ front ++ found ∷ rest
  pub before : NoneDangles entries front
  pub dangles : Dangles entries found

-- the first that dangles, or none does
abbrev pub IsFirstIfAny : Entries → List Reference → Option Reference → Type 0
IsFirstIfAny entries all (Some found) = IsFirstDangling entries all found
IsFirstIfAny entries all None = NoneDangles entries all

-- the first of a declaration's references that dangles, in the order of their first mention, or none does
pub record IsFirstOf (entries : Entries) (decl : Decl) (found : Option Reference) : Type 0 where
  pub all : List Reference
  pub mentions : IsFirstMentions [] (references decl) all
  pub is : IsFirstIfAny entries all found

-- the name of one of some references
abbrev pub IsNamed : List Reference → QName → Type 0
IsNamed references q = (r : Reference) × Contains references r × (q ≡ r.name)

-- the types that come with the declarations behind some references, or before their faults
abbrev pub OpensNamed : Entries → List Reference → Tree → Type 0
OpensNamed entries references type = OpensBehind entries (IsNamed references) type
