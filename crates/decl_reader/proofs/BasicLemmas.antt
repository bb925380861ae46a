-- To which predeclared type the type of a descriptor comes down.
use Rattle.std.proofs.Common.{◌≡◌, ℕ, ◌-◌, ◌<◌, ◌≤◌, ◌⊎◌, inl, inr, true, Option, Some, None, refl, sym, ap, ◌∙◌}
use Rattle.std.proofs.lemmas.Bool.{cases_lt}
use Rattle.code_tables.specs.declared.predeclared.Basic.{Basic}
use Rattle.type_terms.specs.Shapes.{retype}
use Rattle.type_terms.specs.Trees.{tree_of}
use Rattle.decl_spelling.specs.Sections.{Sections, Basics}
use Rattle.decl_spelling.specs.Constants.{generic_basic, basic_type}
use Rattle.decl_spelling.specs.Descent.{is_generic}
use Rattle.decl_spelling.specs.KnownTypes.{Kept}
use Rattle.decl_spelling.specs.Tables.{Finished, Table, at, basic_tree, finished_tree, type_named}
use Rattle.decl_spelling.proofs.KnownTypeLemmas.{named_basic, named_block}
use Rattle.block_reader.specs.declared.descriptors.Flat.{Flat}
use Rattle.block_reader.specs.declared.descriptors.Flat.TheVariants as parts
use Rattle.decl_reader.specs.Meant.{IsGenericFlat}
use Rattle.decl_reader.specs.Shapes.{flat_shape}

-- a predeclared type is no generic one
pub generic_none : (basics : Basics) (a : Option Basic) → generic_basic basics (basic_tree a) ≡ None
generic_none basics (Some basic) = refl
generic_none basics None = refl

module _ (src : Sections) (before known : Table) (base : ℕ) (kept : Kept before known) where
  by_found : (a : Option Finished) → 32 ≤ base → at before (base - 32) ≡ a → is_generic (finished_tree a) ≡ true → type_named src.version known base ≡ type_named src.version before base
  by_found (Some f) large is generic =
      named_block src known base large ∙ ap finished_tree (kept (base - 32) f is ∙ sym is) ∙ sym (named_block src before base large)
  by_found None large is generic = absurd (cc)

  -- a generic type that is named was found, and stays
  pub base_stays : is_generic (type_named src.version before base) ≡ true → type_named src.version known base ≡ type_named src.version before base
  base_stays generic = by (cases_lt base 32)
    where
      by : (base < 32) ⊎ (32 ≤ base) → type_named src.version known base ≡ type_named src.version before base
      by (inl small) = named_basic src known base small ∙ sym (named_basic src before base small)
      by (inr large) = by_found (at before (base - 32)) large refl (ap is_generic (sym (named_block src before base large)) ∙ generic)

module _ (src : Sections) (basics : Basics) (before known : Table) where
  pub basic_stays : (x : Flat) → Kept before known → IsGenericFlat src.version before (flat_shape x)
      → basic_type basics (tree_of (retype (type_named src.version known) (flat_shape x))) ≡ basic_type basics (tree_of (retype (type_named src.version before) (flat_shape x)))
  basic_stays (parts.Defined q) kept generic = refl
  basic_stays (parts.TypeParameter q) kept generic = refl
  basic_stays (parts.Alias q) kept generic = refl
  basic_stays (parts.Pointer ty) kept generic = refl
  basic_stays (parts.Slice ty) kept generic = refl
  basic_stays (parts.Array len ty) kept generic = refl
  basic_stays (parts.Chan dir ty) kept generic = refl
  basic_stays (parts.Map key ty) kept generic = refl
  basic_stays (parts.Func home sig) kept generic = refl
  basic_stays (parts.Struct home fields) kept generic = refl
  basic_stays (parts.Interface home embedded methods) kept generic = refl
  basic_stays (parts.Instance pos b args) kept generic = ap (generic_basic basics) (base_stays src before known b kept generic.0)
  basic_stays (parts.Union terms) kept generic = refl
