-- The first method of each key, as it is found.
use Rattle.std.specs.Prelude.{List, Option, Some, None}
use Rattle.std.specs.Cmp.Lexicographic.{slice_cmp}
use Rattle.std.specs.Ordering.{nat_cmp, ordering_then}
use Rattle.std.specs.BTreeMap.{insert_entry, is_at}
use Rattle.std.specs.Map.{lookup}
use Rattle.std.specs.declared.cmp.Ordering.{Ordering}
use Rattle.type_terms.specs.declared.literals.Sig.{Sig}
use Rattle.interface_nodes.specs.declared.methods.SetMethod.{SetMethod}
use Rattle.set_methods.specs.declared.keys.MethodKey.{MethodKey}
use Rattle.set_methods.specs.Pairs.{key_of}

abbrev pub key_order : MethodKey → MethodKey → Ordering
key_order x y = ordering_then (slice_cmp nat_cmp x.name y.name) (slice_cmp nat_cmp x.home y.home)

-- a method by its key and its signature
abbrev pub method_of : MethodKey × Sig → SetMethod
method_of entry = record { name = entry.0.name; home = entry.0.home; sig = entry.1 }

-- entries in order, with a method that comes in unless there is one of its key
abbrev pub unless_known : Option Sig → List (MethodKey × Sig) → SetMethod → List (MethodKey × Sig)
unless_known (Some first) entries method = entries
unless_known None entries method = insert_entry key_order entries (key_of method) method.sig

abbrev pub noted : List (MethodKey × Sig) → SetMethod → List (MethodKey × Sig)
noted entries method = unless_known (lookup (is_at (key_order (key_of method))) entries) entries method
