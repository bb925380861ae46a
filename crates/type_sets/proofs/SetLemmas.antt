-- Which interfaces have the flag, and equality of terms.
use Rattle.std.proofs.Common.{◌≡◌, ◌&&◌, Bool, true, false, Option, Some, ap, refl, sym, ◌∙◌}
use Rattle.go_values.specs.declared.qualified.QName.{QName}
use Rattle.code_tables.specs.declared.predeclared.Basic.{Basic}
use Rattle.code_tables.specs.declared.predeclared.Basic.TheVariants.{Any, Error, Comparable}
use Rattle.type_terms.specs.Trees.{Tree, predeclared, interface, union}
use Rattle.type_terms.specs.TreeEquality.{same_flag, same_tree, same_itself}
use Rattle.interface_opening.specs.Elements.{Term, Interface}
use Rattle.type_sets.specs.Interfaces.{SetMethod, predeclared_interface, interface_of}
use Rattle.type_sets.specs.TypeSets.{same_term}

flag_itself : (b : Bool) → same_flag b b ≡ true
flag_itself true = refl
flag_itself false = refl

pub term_itself : (x : Term Tree) → same_term x x ≡ true
term_itself x = ap (λ b. b && same_tree x.type x.type) (flag_itself x.tilde) ∙ same_itself x.type

-- the first way
flag_of_basic : (name : Option QName) (basic : Basic) (shown : Interface Tree QName SetMethod)
    → predeclared_interface name basic ≡ Some shown → shown.flag ≡ true → predeclared basic ≡ predeclared Comparable
flag_of_basic name Comparable shown is flag = refl
flag_of_basic name Any shown is flag = let e : shown.flag ≡ false = cc in absurd cc
flag_of_basic name Error shown is flag = let e : shown.flag ≡ false = cc in absurd cc
flag_of_basic name _ shown is flag = absurd cc

pub flag_told : (name : Option QName) (under : Tree) (shown : Interface Tree QName SetMethod)
    → interface_of name under ≡ Some shown → shown.flag ≡ true → under ≡ predeclared Comparable
flag_told name (predeclared basic) shown is flag = flag_of_basic name basic shown is flag
flag_told name (interface home embedded own) shown is flag = let e : shown.flag ≡ false = cc in absurd cc
flag_told name (union inner) shown is flag = let e : shown.flag ≡ false = cc in absurd cc
flag_told name _ shown is flag = absurd cc

-- the other way
pub flag_made : (name : Option QName) (under : Tree) (shown : Interface Tree QName SetMethod)
    → interface_of name under ≡ Some shown → under ≡ predeclared Comparable → shown.flag ≡ true
flag_made name under shown is same =
    let made : interface_of name (predeclared Comparable) ≡ Some shown = sym (ap (interface_of name) same) ∙ is in
    cc
