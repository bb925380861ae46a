-- Names that mean nothing where they stand, or another thing than is wanted there.
use Rattle.std.specs.Prelude.{ℕ, if◌then◌else◌, Bool, true, false, not, is_some, List, [], ◌∷◌, ◌++◌, Option}
use Rattle.std.specs.Prelude.{Some, None, map, flat_map}
use Rattle.go_expr_syntax.specs.PlainExprs.{PlainName, named, convert}
use Rattle.go_type_syntax.specs.PlainTypes as t
use Rattle.go_type_syntax.specs.PlainTypes.{no_type, type_place}
use Rattle.source_places.specs.declared.places.Place.{Place}
use Rattle.source_places.specs.declared.places.Found.{Found}
use Rattle.source_scopes.specs.declared.looking.Meaning.{Meaning}
use Rattle.source_scopes.specs.declared.looking.Meaning.TheVariants.{Parameter as a_parameter}
use Rattle.source_scopes.specs.declared.looking.Resolution.{Resolution}
use Rattle.source_scopes.specs.declared.looking.Resolution.TheVariants.{Unknown, NoPackage, Own}
use Rattle.source_scopes.specs.Scopes.{Scopes, Declared, scopes_at, scopes_in, meaning, resolved, is_type, is_constant}
use Rattle.source_trees.specs.Trees.{WrittenExpr, WrittenType}
use Rattle.source_trees.specs.Words.{Word}
use Rattle.source_trees.specs.Files.{WrittenImport, WrittenReceiver, WrittenTop, WrittenFile}
use Rattle.source_trees.specs.Files.{defined, alias, func}
use Rattle.source_walk.specs.Rules.{places_in}
use Rattle.source_walk.specs.Visits.{Visit, a_file, a_top, a_type, an_expr, files_visits}
use Rattle.name_uses.specs.declared.uses.UseFault.{UseFault}
use Rattle.name_uses.specs.declared.uses.UseFault.TheVariants.{Undefined, NotAType, NotAConstant}
use Rattle.name_uses.specs.declared.uses.Wanted.{Wanted}
use Rattle.name_uses.specs.declared.uses.Wanted.TheVariants.{AType as a_type_is, AConstant as a_constant_is}

-- what imported packages are called, by their paths, and which names they offer
pub record Offers : Type 0 where
  pub names : List ℕ → Option (List ℕ)
  pub offers : List ℕ → List ℕ → Bool

-- ---- a name

-- what a name comes to has this fault, where this is wanted
abbrev pub is_wrong : UseFault → Scopes → Wanted → Resolution → Bool
is_wrong Undefined s wanted Unknown = true
is_wrong Undefined s wanted _ = false
is_wrong NotAType s a_type_is NoPackage = true
is_wrong NotAType s a_type_is (Own m) = not (is_type s m)
is_wrong NotAType s _ _ = false
is_wrong NotAConstant s (a_constant_is iota) NoPackage = true
is_wrong NotAConstant s (a_constant_is iota) (Own m) = not (is_constant iota s m)
is_wrong NotAConstant s _ _ = false

abbrev pub place_at : ℕ → ℕ → Place
place_at file at = record { file = file; at = at }

abbrev pub name_place : UseFault → Offers → Scopes → ℕ → Wanted → PlainName Word → List Place
name_place fault o s file wanted x =
    if is_wrong fault s wanted (resolved o.offers s x) then (place_at file x.at ∷ []) else []

-- of a type, apart from those inside
abbrev pub in_type : UseFault → Offers → Scopes → ℕ → WrittenType → List Place
in_type fault o s file (t.named x args at) = name_place fault o s file a_type_is x
in_type fault o s file _ = []

-- of an expression, apart from its operands: a constant, or the type to which one is converted
abbrev pub in_expr : UseFault → Offers → Scopes → ℕ → Bool → WrittenExpr → List Place
in_expr fault o s file iota (named x at) = name_place fault o s file (a_constant_is iota) x
in_expr fault o s file iota (convert x e at) = name_place fault o s file a_type_is x
in_expr fault o s file iota _ = []

-- ---- imports, receivers and right sides

abbrev pub unknown_import : ℕ → ℕ → Option (List ℕ) → List Place
unknown_import file at None = place_at file at ∷ []
unknown_import file at (Some name) = []

-- imports of paths at which no package is known
abbrev pub unknown_imports : Offers → ℕ → List WrittenImport → List Place
unknown_imports o file imports = flat_map (λ i. unknown_import file i.at (o.names i.path)) imports

abbrev pub in_file : UseFault → Offers → ℕ → WrittenFile → List Place
in_file Undefined o file f = unknown_imports o file f.imports
in_file _ o file f = []

abbrev pub unknown_base : Option Meaning → ℕ → ℕ → List Place
unknown_base None file at = place_at file at ∷ []
unknown_base (Some m) file at = []

-- the base of a receiver, which stands outside of the scope of the receiver's parameters
abbrev pub in_receiver : Declared → ℕ → Option WrittenReceiver → List Place
in_receiver d file (Some r) = unknown_base (meaning (scopes_in d file []) r.base.text) file r.base.at
in_receiver d file None = []

abbrev pub is_parameter : Resolution → Bool
is_parameter (Own (a_parameter i)) = true
is_parameter _ = false

-- a type that is written as a name alone, in parentheses or not, is one of the type parameters
abbrev pub is_own_parameter : Offers → Scopes → WrittenType → Bool
is_own_parameter o s (t.named x no_type at) = is_parameter (resolved o.offers s x)
is_own_parameter o s (t.paren ty at) = is_own_parameter o s ty
is_own_parameter o s _ = false

abbrev pub in_right_side : Offers → Scopes → ℕ → WrittenType → List Place
in_right_side o s file ty = if is_own_parameter o s ty then (place_at file (type_place ty) ∷ []) else []

-- of the declaration with this number, apart from the types and the expressions in it
abbrev pub in_top : UseFault → Offers → Declared → ℕ → ℕ → WrittenTop → List Place
in_top Undefined o d file number (func f) = in_receiver d file f.receiver
in_top NotAType o d file number (defined x) = in_right_side o (scopes_at d file number) file x.ty
in_top NotAType o d file number (alias x) = in_right_side o (scopes_at d file number) file x.ty
in_top _ o d file number _ = []

-- ---- all of them

abbrev pub at_visit : UseFault → Offers → Declared → Visit → List Place
at_visit fault o d (a_file n f) = in_file fault o n f
at_visit fault o d (a_top s top) = in_top fault o d s.file s.top top
at_visit fault o d (a_type s w ty) = in_type fault o (scopes_at d s.file s.top) s.file ty
at_visit fault o d (an_expr s w e) = in_expr fault o (scopes_at d s.file s.top) s.file (is_some s.iota) e

abbrev pub found_at : {C : Type 0} → C → Place → Found C
found_at cause place = record { place = place; cause = cause }

-- the places at a visit with their cause, which is the same for all
abbrev pub wrong_at : {C : Type 0} → C → UseFault → Offers → Declared → Visit → List (Found C)
wrong_at cause fault o d visit = map (found_at cause) (at_visit fault o d visit)

-- those of the files of a package
abbrev pub wrong_uses : {C : Type 0} → C → UseFault → Offers → Declared → List WrittenFile → List (Found C)
wrong_uses cause fault o d files = places_in (wrong_at cause fault o d) (files_visits files)
