-- A package stands that declares one alias of a predeclared type and has no imports and no files.
use Rattle.std.proofs.Common.{◌≡◌, ℕ, ◌<◌, Bool, true, false, cond, List, [], ◌∷◌, length, Some, None, refl, inl, sym, ap, subst, ◌∙◌, arith}
use Rattle.std.specs.Prelude.{nat_eq}
use Rattle.std.specs.List.{All, Contains}
use Rattle.std.specs.Cmp.Lexicographic.{pointwise}
use Rattle.std.proofs.lemmas.List.Elements.{All-nil, All-cons}
use Rattle.code_tables.specs.declared.predeclared.Basic.{Basic}
use Rattle.go_values.specs.declared.positions.Pos.{Pos}
use Rattle.type_terms.specs.declared.descriptors.Node.{Node}
use Rattle.type_terms.specs.declared.declarations.DeclNode.{DeclNode}
use Rattle.type_terms.specs.declared.declarations.DeclNode.TheVariants.{Alias}
use Rattle.environments.specs.declared.packages.Package.{Package}
use Rattle.type_terms.specs.Trees.{Text, Tree, predeclared, level_of}
use Rattle.type_terms.specs.Parts.{Within, itself, inside, parts}
use Rattle.type_terms.specs.Arenas.{AllBelow}
use Rattle.type_terms.specs.Denotation.{tree}
use Rattle.type_terms.specs.Declarations.{renamed_of, decl_nodes}
use Rattle.type_terms.specs.DeclarationRules.{IsProper, IsProperLevel, IsProperDecl, IsTypeParameter}
use Rattle.type_terms.specs.Declarations.{decl_of}
use Rattle.environments.specs.Packages.{IsImports, IsSourceFile, package_decl, HoldsParameters, DeclsStand, PackageStands}

basic_level : (basic : Basic) (type part : Tree) → type ≡ predeclared basic → Within type part → IsProperLevel (level_of part)
basic_level basic _ _ e (itself type) = subst (λ t. IsProperLevel (level_of t)) (sym e) tt
basic_level basic _ _ e (inside type part below held rest) =
    let none : Contains (parts (predeclared basic)) part = subst (λ t. Contains (parts t) part) e held in
    absurd (omega (arith, none.1))

basic_alias : (pos : Pos) (basic : Basic) (type : Tree) → type ≡ predeclared basic → IsProperDecl (renamed_of pos [] type)
basic_alias pos basic type e = record {
  form = (All-nil IsTypeParameter, inl refl);
  types = All-cons IsProper type [] (λ part within. basic_level basic type part e within) (All-nil IsProper);
}

no_imports : IsImports []
no_imports = record {
  rises = tt;
  safe = λ found. absurd (omega (arith, found.1));
}

only : (name : Text) (decl found : DeclNode) (asked : Text) → package_decl ((name, decl) ∷ []) asked ≡ Some found → found ≡ decl
only name decl found asked = by (pointwise nat_eq asked name)
  where
    by : (b : Bool) → cond b (Some decl) None ≡ Some found → found ≡ decl
    by true e = (cc)
    by false e = (cc)

one_stands : (nodes : List Node) (path : Text) (name : Text) (decl : DeclNode) → AllBelow (length nodes) (decl_nodes decl) → IsProperDecl (decl_of nodes decl) → ((asked : Text) → HoldsParameters path ((name, decl) ∷ []) asked (decl_of nodes decl))
    → DeclsStand nodes path ((name, decl) ∷ [])
one_stands nodes path name decl below proper parameters = record {
  rises = tt;
  below = λ asked found is. subst (λ d. AllBelow (length nodes) (decl_nodes d)) (sym (only name decl found asked is)) below;
  proper = λ asked found is. subst (λ d. IsProperDecl (decl_of nodes d)) (sym (only name decl found asked is)) proper;
  parameters = λ asked found is. subst (λ d. HoldsParameters path ((name, decl) ∷ []) asked (decl_of nodes d)) (sym (only name decl found asked is)) (parameters asked);
}

pub alias_stands : (nodes : List Node) (whole : Package) (name : Text) (pos : Pos) (tparams : List ℕ) (type : ℕ) (basic : Basic) → whole.imports.items ≡ [] → whole.files.items ≡ []
    → whole.decls.items ≡ (name, Alias pos tparams type) ∷ [] → tparams ≡ [] → type < length nodes → tree nodes type ≡ predeclared basic → PackageStands nodes whole
alias_stands nodes whole name pos tparams type basic imports files decls no_tparams below is =
    let own : whole.decls.items ≡ (name, Alias pos [] type) ∷ [] = decls ∙ ap (λ (ts : List ℕ). (name, Alias pos ts type) ∷ []) no_tparams in
    record {
      imports = subst IsImports (sym imports) no_imports;
      files = subst (All IsSourceFile) (sym files) (All-nil IsSourceFile);
      decls = subst (DeclsStand nodes whole.path) (sym own)
          (one_stands nodes whole.path name (Alias pos [] type) (below, tt) (basic_alias pos basic (tree nodes type) is) (λ asked place own is. absurd cc));
    }
