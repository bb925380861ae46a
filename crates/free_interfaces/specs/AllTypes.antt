-- Which interfaces have all types, by what came to their elements, with numbers of nodes for types.
use Rattle.std.specs.Prelude.{ℕ, List, [], ◌∷◌, ◌&&◌, ◌||◌, Bool, true, false, cond, nat_eq, Ok}
use Rattle.std.specs.Map.{lookup}
use Rattle.std.specs.Option.{unwrap_or}
use Rattle.interface_nodes.specs.declared.methods.SetMethod.{SetMethod as NodeMethod}
use Rattle.interface_opening.specs.Elements.{Event, has_term, has_interface, ends_element, Opened}
use Rattle.interface_opening.specs.Terms.{terms_of}
use Rattle.go_values.specs.declared.qualified.QName.{QName}
use Rattle.replacement.specs.Expansion.{Entries, then}
use Rattle.type_sets.specs.Covering.{Answer}
use Rattle.type_sets.specs.Interfaces.{SetMethod}
use Rattle.type_sets.specs.TypeSets.{same_term, has_nothing}
use Rattle.type_terms.specs.Trees.{Tree}
use Rattle.type_terms.specs.TreeEquality.{same_tree}
use Rattle.free_interfaces.specs.declared.all_types.Share.{Share}

-- what each interface has so far
abbrev pub Shares : Type 0
Shares = ℕ → Share

-- All types, and an empty union under way, where nothing came yet.
abbrev pub nothing : Share
nothing = record { whole = true; union = false }

abbrev pub none_yet : Shares
none_yet id = nothing

abbrev pub share_of : List (ℕ × Share) → Shares
share_of entries id = unwrap_or (lookup (nat_eq id) entries) nothing

abbrev pub put_share : ℕ → Share → Shares → Shares
put_share holder share shares id = cond (nat_eq holder id) share (shares id)

-- A term leaves a list a list. An interface with all types makes a union all types. What two elements leave is all
-- types where each is.
abbrev pub after : Event ℕ → Shares → Shares
after (has_term holder x) shares = shares
after (has_interface holder of) shares = put_share holder
    (record { whole = (shares holder).whole; union = (shares holder).union || (shares of).whole }) shares
after (ends_element holder) shares = put_share holder
    (record { whole = (shares holder).whole && (shares holder).union; union = false }) shares

abbrev pub all_after : List (Event ℕ) → Shares → Shares
all_after [] shares = shares
all_after (event ∷ events) shares = all_after events (after event shares)

-- whether a type has nothing, by what was opened for it
abbrev pub free_by : Entries → List QName → Opened Tree SetMethod → Tree → Answer
free_by entries names s type = then (terms_of same_tree same_term (λ x y. Ok false) s.events type)
    (λ terms. Ok (has_nothing entries names s.methods s.flag terms))

-- there are no methods
abbrev pub is_none : List NodeMethod → Bool
is_none [] = true
is_none (method ∷ rest) = false
