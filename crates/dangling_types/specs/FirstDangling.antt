-- The first of some references that dangles, as a function.
use Rattle.std.specs.Prelude.{nat_eq, cond, List, [], ◌∷◌, Bool, true, false, Option, Some, None}
use Rattle.type_terms.specs.Declarations.{Decl}
use Rattle.environments.specs.Environments.{Entry, declared, damaged}
use Rattle.environments.specs.References.{references}
use Rattle.environments.specs.Roles.{role_of}
use Rattle.environments.specs.declared.mentions.Role.{Role}
use Rattle.environments.specs.declared.mentions.Role.TheVariants.{Defined, Parameter, Alias, DefinedBase, AliasBase}
use Rattle.environments.specs.declared.mentions.Reference.{Reference}
use Rattle.dangling_references.specs.Dangling.{Entries}

-- the one role in which what stands behind a name may be used
abbrev pub role_behind : Option Entry → Option Role
role_behind None = None
role_behind (Some (damaged fault read)) = None
role_behind (Some (declared decl)) = role_of decl

abbrev pub is_role : Option Role → Role → Bool
is_role (Some Defined) Defined = true
is_role (Some Parameter) Parameter = true
is_role (Some Alias) Alias = true
is_role (Some (DefinedBase m)) (DefinedBase n) = nat_eq m n
is_role (Some (AliasBase m)) (AliasBase n) = nat_eq m n
is_role _ _ = false

-- what stands behind the name may be used so
abbrev pub fits : Entries → Reference → Bool
fits entries reference = is_role (role_behind (entries reference.name)) reference.role

abbrev pub first_dangling : Entries → List Reference → Option Reference
first_dangling entries [] = None
first_dangling entries (r ∷ rest) = cond (fits entries r) (first_dangling entries rest) (Some r)

-- the first of a declaration's references that dangles, in reading order
abbrev pub dangling_in : Entries → Decl → Option Reference
dangling_in entries decl = first_dangling entries (references decl)
