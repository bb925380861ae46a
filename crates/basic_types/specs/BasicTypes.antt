-- The basic type of a type: the predeclared type to which it comes down over an environment's entries.
use Rattle.std.specs.Prelude.{◌≡◌, ℕ, zero, suc, List, length, Option, Some, None}
use Rattle.std.specs.Option.{option_and_then}
use Rattle.code_tables.specs.declared.predeclared.Basic.{Basic}
use Rattle.go_values.specs.declared.qualified.QName.{QName}
use Rattle.type_terms.specs.Names.{basic_of}
use Rattle.type_terms.specs.Trees.{Tree, predeclared, named, alias, instance}
use Rattle.type_terms.specs.Declarations.{Form, defined_of, renamed_of}
use Rattle.environments.specs.Environments.{Entry, declared, damaged}

-- what an environment has for each name
abbrev pub Entries : Type 0
Entries = QName → Option Entry

-- the name of a defined type or an alias
abbrev pub own_name : Tree → Option QName
own_name (named q) = Some q
own_name (alias q) = Some q
own_name _ = None

-- the name at the head of a type: its own, or that of the generic type of which it is an instance
abbrev pub head_name : Tree → Option QName
head_name (instance base args) = own_name base
head_name type = own_name type

-- the type behind the declaration of a type: its underlying type, or its right side
abbrev pub side_of : {P S R : Type 0} → Form P S R → Option R
side_of (defined_of pos tparams underlying methods) = Some underlying
side_of (renamed_of pos tparams type) = Some type
side_of _ = None

-- the type behind a name; none where no declaration of a type stands there
abbrev pub side_behind : Option Entry → Option Tree
side_behind (Some (declared decl)) = side_of decl
side_behind (Some (damaged fault read)) = None
side_behind None = None

module _ (entries : Entries) where
  -- A predeclared type is one itself; a name, or an instance of it, comes down to what stands behind the name,
  -- whatever the arguments are.
  pub data ComesDownTo (basic : Basic) : Tree → Type 0 where
    at_once : ComesDownTo basic (predeclared basic)
    onward : (type side : Tree) (q : QName) → head_name type ≡ Some q → side_behind (entries q) ≡ Some side
        → ComesDownTo basic side → ComesDownTo basic type

  -- the names to which one comes on the way
  pub data IsReached : Tree → QName → Type 0 where
    at_head : (type : Tree) (q : QName) → head_name type ≡ Some q → IsReached type q
    further : (type side : Tree) (head q : QName) → head_name type ≡ Some head
        → side_behind (entries head) ≡ Some side → IsReached side q → IsReached type q

  -- ---- the same, as a function

  abbrev pub by_name : (Tree → Option Basic) → Tree → Option QName → Option Basic
  by_name next type (Some q) = option_and_then next (side_behind (entries q))
  by_name next type None = basic_of type

  -- by at most so many names
  unfoldable pub comes_down_within : ℕ → Tree → Option Basic
  comes_down_within zero type = basic_of type
  comes_down_within (suc n) type = by_name (comes_down_within n) type (head_name type)

  -- A way through more names than there are goes round for ever.
  abbrev pub basic_type : List QName → Tree → Option Basic
  basic_type names type = comes_down_within (length names) type
