-- The rules that a declaration keeps.
use Rattle.std.specs.Prelude.{◌≡◌, ◌<◌, ◌≤◌, ◌^◌, ◌⊎◌, [], IsTrue, length}
use Rattle.std.specs.List.{All}
use Rattle.go_values.specs.declared.positions.Pos.{Pos}
use Rattle.code_tables.specs.Basic.{basic_code}
use Rattle.type_terms.specs.Shapes.{SigOf, array_of, func_of, interface_of, instance_of, union_of}
use Rattle.type_terms.specs.Trees.{Text, Tree, predeclared, named, parameter, alias, interface, instance, union, Level}
use Rattle.type_terms.specs.Trees.{level_of}
use Rattle.type_terms.specs.Parts.{Within, MeetsBase}
use Rattle.type_terms.specs.Declarations.{var_of, function_of, constant_of, defined_of, renamed_of, type_parameter_of}
use Rattle.type_terms.specs.Declarations.{Decl, form_types}

-- A variadic signature has a parameter.
abbrev pub HasLast : SigOf Pos Text Tree → Type 0
HasLast sig = IsTrue sig.variadic → 0 < length sig.params

-- what holds of each type that stands in a declaration, at its one level
abbrev pub IsProperLevel : Level → Type 0
IsProperLevel (array_of size type) = size < 2 ^ 63
IsProperLevel (func_of home sig) = HasLast sig
IsProperLevel (interface_of home embedded methods) = All (λ method. HasLast method.sig) methods
IsProperLevel (instance_of base args) = MeetsBase (instance_of base args)
IsProperLevel (union_of terms) = 0 < length terms
IsProperLevel _ = Unit {0}

-- at every level
abbrev pub IsProper : Tree → Type 0
IsProper type = (part : Tree) → Within type part → IsProperLevel (level_of part)

abbrev pub IsTypeParameter : Tree → Type 0
IsTypeParameter (parameter q) = Unit {0}
IsTypeParameter _ = ⊥

abbrev pub IsInterface : Tree → Type 0
IsInterface (interface home embedded own) = Unit {0}
IsInterface _ = ⊥

-- A predeclared type up to rune, unsafe.Pointer or any, or a literal.
abbrev pub IsUnderlying : Tree → Type 0
IsUnderlying (predeclared basic) = (basic_code basic ≤ 18) ⊎ ((basic_code basic ≡ 27) ⊎ (basic_code basic ≡ 31))
IsUnderlying (named q) = ⊥
IsUnderlying (parameter q) = ⊥
IsUnderlying (alias q) = ⊥
IsUnderlying (instance base args) = ⊥
IsUnderlying (union parts) = ⊥
IsUnderlying _ = Unit {0}

-- Neither any nor an interface, which have no methods but their own.
abbrev pub MayHaveMethods : Tree → Type 0
MayHaveMethods (interface home embedded own) = ⊥
MayHaveMethods (predeclared basic) = basic_code basic ≡ 31 → ⊥
MayHaveMethods _ = Unit {0}

-- what holds of a declaration's own parts
abbrev pub IsProperForm : Decl → Type 0
IsProperForm (var_of pos type) = Unit {0}
IsProperForm (function_of pos tparams sig) = All IsTypeParameter tparams × HasLast sig
IsProperForm (constant_of pos type value) = Unit {0}
IsProperForm (defined_of pos tparams underlying methods) = All IsTypeParameter tparams × IsUnderlying underlying
    × ((methods ≡ []) ⊎ MayHaveMethods underlying) × All (λ method. HasLast method.sig) methods
IsProperForm (renamed_of pos tparams type) = All IsTypeParameter tparams × ((tparams ≡ []) ⊎ (IsTypeParameter type → ⊥))
IsProperForm (type_parameter_of pos implicit constraint) = IsTrue implicit → IsInterface constraint

pub record IsProperDecl (decl : Decl) : Type 0 where
  pub form : IsProperForm decl
  pub types : All IsProper (form_types decl)
