-- The basic type of a constant's type, as it is written.
use Rattle.std.proofs.Common.{◌≡◌, ℕ, zero, suc, ◌<◌, List, ◌∷◌, ◌++◌, map, length, Option, Some, None, refl, ap, sym, ◌∙◌, subst}
use Rattle.std.specs.Prelude.{◌↔◌, Bool, Ok}
use Rattle.std.specs.List.{Contains, flat_map}
use Rattle.code_tables.specs.declared.predeclared.Basic.{Basic}
use Rattle.go_values.specs.declared.qualified.QName.{QName}
use Rattle.type_terms.specs.declared.declarations.DeclNode.{DeclNode}
use Rattle.type_terms.specs.declared.declarations.DeclNode.TheVariants.{Defined}
use Rattle.type_terms.specs.declared.declarations.Method.{Method}
use Rattle.type_terms.specs.declared.descriptors.Node.{Node}
use Rattle.go_values.specs.declared.positions.Pos.{Pos}
use Rattle.type_terms.specs.Arenas.{Contents, AllBelow}
use Rattle.type_terms.specs.Declarations.{decl_nodes, decl_of, receiver_shape, receiver_types}
use Rattle.type_terms.specs.Replaced.{all_right}
use Rattle.type_terms.specs.Names.{basic_of}
use Rattle.type_terms.specs.Trees.{Tree, predeclared, named, alias, instance, Trees}
use Rattle.environments.specs.Environments.{Entry}
use Rattle.environments.specs.Kept.{World, Kept, OpensBehind}
use Rattle.environments.specs.OpenedTypes.{OutgrowsAmong}
use Rattle.basic_types.specs.BasicTypes.{Entries, head_name, side_behind, ComesDownTo, IsReached, by_name, comes_down_within, basic_type}
use Rattle.basic_types.specs.Calls.{IsBasicOf}
use Rattle.written_types.specs.Written.{full as full_file, written}
use Rattle.decl_spelling.specs.Constants.{basic_type as spelled_basic}
use Rattle.declared_blocks.specs.Telling.{basics_over, Asks}

-- ---- a declaration of one kind

pub underlying_there : (n : ℕ) (decl : DeclNode) (pos : Pos) (tparams : List ℕ) (underlying : ℕ) (methods : List Method) → decl ≡ Defined pos tparams underlying methods → AllBelow n (decl_nodes decl) → underlying < n
underlying_there n decl pos tparams underlying methods is all =
    let held : AllBelow n (tparams ++ underlying ∷ flat_map receiver_types (map receiver_shape methods)) = subst (λ (d : DeclNode). AllBelow n (decl_nodes d)) is all in
    (all_right (λ m. m < n) tparams (underlying ∷ flat_map receiver_types (map receiver_shape methods)) held).0

module _ (entries : Entries) (nodes : List Node) (decl other : DeclNode) (is : decl ≡ other) where
  pub kept_for : (old new : World) (before after : Contents) → Kept (Asks entries (decl_of nodes other)) (OpensBehind entries (Asks entries (decl_of nodes other))) old new before after
      → Kept (Asks entries (decl_of nodes decl)) (OpensBehind entries (Asks entries (decl_of nodes decl))) old new before after
  kept_for old new before after kept = subst (λ (d : DeclNode). Kept (Asks entries (decl_of nodes d)) (OpensBehind entries (Asks entries (decl_of nodes d))) old new before after) (sym is) kept

  pub outgrown_for : (arena : Contents) → OutgrowsAmong (OpensBehind entries (Asks entries (decl_of nodes other))) arena → OutgrowsAmong (OpensBehind entries (Asks entries (decl_of nodes decl))) arena
  outgrown_for arena outgrown = subst (λ (d : DeclNode). OutgrowsAmong (OpensBehind entries (Asks entries (decl_of nodes d))) arena) (sym is) outgrown

-- ---- the basic type

module _ (entries : Entries) where
  -- without a name at the head it is one itself, or none
  by_itself : (n : ℕ) (type : Tree) → head_name type ≡ None → comes_down_within entries n type ≡ basic_of type
  unfolding comes_down_within
  by_itself zero type none = refl
  by_itself (suc n) type none = ap (by_name entries (comes_down_within entries n) type) none

  -- with a name at the head it is what the name comes down to
  by_head : (n : ℕ) (type other : Tree) (q : QName) → head_name type ≡ Some q → head_name other ≡ Some q → basic_of type ≡ None → basic_of other ≡ None
      → comes_down_within entries n type ≡ comes_down_within entries n other
  unfolding comes_down_within
  by_head zero type other q first second none too = none ∙ sym too
  by_head (suc n) type other q first second none too =
      ap (by_name entries (comes_down_within entries n) type) first ∙ sym (ap (by_name entries (comes_down_within entries n) other) second)

  module _ (names : List QName) where
    instance_is : (base : Tree) (args : Trees) → spelled_basic (basics_over entries names) (written full_file (instance base args)) ≡ basic_type entries names (instance base args)
    instance_is (named q) args = by_head (length names) (named q) (instance (named q) args) q refl refl refl refl
    instance_is (alias q) args = by_head (length names) (named q) (instance (alias q) args) q refl refl refl refl
    instance_is base args = sym (by_itself (length names) (instance base args) refl)

    pub written_basic : (type : Tree) → spelled_basic (basics_over entries names) (written full_file type) ≡ basic_type entries names type
    written_basic (predeclared basic) = sym (by_itself (length names) (predeclared basic) refl)
    written_basic (named q) = refl
    written_basic (alias q) = by_head (length names) (named q) (alias q) q refl refl refl refl
    written_basic (instance base args) = instance_is base args
    written_basic type = sym (by_itself (length names) type refl)

    -- the law that as many heads as names are enough
    abbrev pub AreEnough : Type 0
    AreEnough = (type : Tree) (basic : Basic) → ((q : QName) (side : Tree) → IsReached entries type q → side_behind (entries q) ≡ Some side → Contains names q) → (basic_type entries names type ≡ Some basic) ↔ ComesDownTo entries basic type

    module _ (finite : (q : QName) (entry : Entry) → entries q ≡ Some entry → Contains names q) (enough : AreEnough) where
      listed : (q : QName) (entry : Option Entry) → entries q ≡ entry → (side : Tree) → side_behind entry ≡ Some side → Contains names q
      listed q (Some entry) is side held = finite q entry is
      listed q None is side held = absurd cc

      none_found : (type : Tree) (found : Option Basic) → basic_type entries names type ≡ found → ((basic : Basic) → ComesDownTo entries basic type → ⊥) → None ≡ found
      none_found type None is never = refl
      none_found type (Some basic) is never = absurd (never basic ((enough type basic (λ q side reached held. listed q (entries q) refl side held)).0 is))

      answered : (type : Tree) (arena : Contents) (full : Option Bool) (found : Option Basic) → IsBasicOf entries type arena full (Ok found) → found ≡ basic_type entries names type
      answered type arena full (Some basic) down = sym ((enough type basic (λ q side reached held. listed q (entries q) refl side held)).1 down)
      answered type arena full None never = none_found type (basic_type entries names type) refl never.0

      -- what was answered is the basic type of what is written
      pub told_basic : (type : Tree) (arena : Contents) (full : Option Bool) (found : Option Basic) → IsBasicOf entries type arena full (Ok found) → found ≡ spelled_basic (basics_over entries names) (written full_file type)
      told_basic type arena full found is = answered type arena full found is ∙ sym (written_basic type)
