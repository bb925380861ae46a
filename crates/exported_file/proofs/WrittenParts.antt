-- The parts of what is written of a type are what is written of its parts.
use Rattle.std.proofs.Common.{◌≡◌, true, false, List, [], ◌∷◌, ◌++◌, map, refl, sym, subst, ◌∙◌, ◌⊎◌, inl, inr}
use Rattle.std.specs.List.{Contains, flat_map}
use Rattle.std.proofs.lemmas.List.Sorted.{All-permutation}
use Rattle.std.proofs.lemmas.List.Elements.{All-contains, All-contains_itself, Contains-append_left, Contains-append_right, Contains-append_cases}
use Rattle.go_values.specs.declared.positions.Pos.{Pos}
use Rattle.type_terms.specs.Shapes.{SigOf, MethodOf, predeclared_of, named_of, parameter_of, alias_of, pointer_of, slice_of, array_of, chan_of, map_of, func_of, struct_of, interface_of, instance_of, union_of, sig_types, field_types, method_types, term_types, shape_types}
use Rattle.type_terms.specs.ShapeLaws.{sig_types_map}
use Rattle.type_terms.specs.Replaced.{parts_of_map}
use Rattle.type_terms.specs.Trees.{Text, Tree, predeclared, named, parameter, alias, pointer, slice, array, chan, map_type, func, struct, interface, instance, union, no_terms, terms, Level, level_of}
use Rattle.type_terms.specs.Parts.{parts, Within, itself, inside, IsGeneric}
use Rattle.type_terms.specs.TreeSizes.{within_within}
use Rattle.type_terms.specs.DeclarationRules.{IsProperLevel, IsProper}
use Rattle.written_types.specs.ByName.{by_name}
use Rattle.written_types.specs.Written.{full, position_written, written}
use Rattle.written_types.proofs.ByNameLemmas.{all_methods}
use Rattle.file_layout.proofs.Risen.{first_in, member, none_in, map_from, flat_in, flat_from}
use Rattle.exported_file.proofs.WrittenLevels.{written_full, element_written, sig_written, field_written, method_written, term_written, level_written, level_is}

-- a part of the level, of which a type is what is written, or the element that is
pub record Source (types : List Tree) (type : Tree) : Type 0 where
  pub part : Tree
  pub there : Contains types part
  pub is : (type ≡ written full part) ⊎ (type ≡ element_written part)

from_map : (types : List Tree) (type : Tree) → Contains (map written_full types) type → Source types type
from_map types type has = let found = map_from written_full types type has in record { part = found.0; there = found.1; is = inl (sym found.2) }

one_of : (types all : List Tree) (type : Tree) → ((x : Tree) → Contains types x → Contains all x) → Source types type → Source all type
one_of types all type among source = record { part = source.part; there = among source.part source.there; is = source.is }

pub named_again : (xs : List (MethodOf Pos Text Text Tree)) (x : MethodOf Pos Text Text Tree) → Contains (by_name xs) x → Contains xs x
named_again xs x has = All-contains (Contains xs) (by_name xs) x (All-permutation (Contains xs) xs (by_name xs) (all_methods xs) (All-contains_itself xs)) has

sig_from : (sig : SigOf Pos Text Tree) (type : Tree) → Contains (sig_types (sig_written sig)) type → Source (sig_types sig) type
sig_from sig type has =
    from_map (sig_types sig) type (subst (λ (ts : List Tree). Contains ts type) (sig_types_map position_written (λ (s : Text). s) (λ (q : Text). q) written_full sig) has)

method_from : (methods : List (MethodOf Pos Text Text Tree)) (type : Tree) → Contains (flat_map method_types (by_name (map method_written methods))) type → Source (flat_map method_types methods) type
method_from methods type has =
    let found = flat_from method_types (by_name (map method_written methods)) type has in
    let made = map_from method_written methods found.0 (named_again (map method_written methods) found.0 found.1) in
    let inner = sig_from made.0.sig type (subst (λ (m : MethodOf Pos Text Text Tree). Contains (method_types m) type) (sym made.2) found.2) in
    record { part = inner.part; there = flat_in method_types methods made.0 inner.part made.1 inner.there; is = inner.is }

base_stays : (base : Tree) → IsGeneric base → base ≡ written full base
base_stays (named q) is = refl
base_stays (alias q) is = refl
base_stays (predeclared basic) is = elim is [ ]
base_stays (parameter q) is = elim is [ ]
base_stays (pointer type) is = elim is [ ]
base_stays (slice type) is = elim is [ ]
base_stays (array size type) is = elim is [ ]
base_stays (chan dir type) is = elim is [ ]
base_stays (map_type key type) is = elim is [ ]
base_stays (func home ins outs variadic) is = elim is [ ]
base_stays (struct home inner) is = elim is [ ]
base_stays (interface home embedded inner) is = elim is [ ]
base_stays (instance base args) is = elim is [ ]
base_stays (union inner) is = elim is [ ]

level_from : (level : Level) (type : Tree) → IsProperLevel level → Contains (shape_types (level_written level)) type → Source (shape_types level) type
level_from (predeclared_of basic) type proper has = absurd (none_in type has)
level_from (named_of name path) type proper has = absurd (none_in type has)
level_from (parameter_of name path) type proper has = absurd (none_in type has)
level_from (alias_of name path) type proper has = absurd (none_in type has)
level_from (pointer_of t) type proper has = from_map (t ∷ []) type has
level_from (slice_of t) type proper has = from_map (t ∷ []) type has
level_from (array_of size t) type proper has = from_map (t ∷ []) type has
level_from (chan_of dir t) type proper has = from_map (t ∷ []) type has
level_from (map_of key t) type proper has = from_map (key ∷ t ∷ []) type has
level_from (func_of home sig) type proper has = sig_from sig type has
level_from (struct_of home fields) type proper has =
    from_map (flat_map field_types fields) type (subst (λ (ts : List Tree). Contains ts type) (parts_of_map field_written written_full field_types field_types (λ x. refl) fields) has)
level_from (interface_of home embedded methods) type proper has = by (Contains-append_cases (map element_written embedded) (flat_map method_types (by_name (map method_written methods))) type has)
  where
    by : Contains (map element_written embedded) type ⊎ Contains (flat_map method_types (by_name (map method_written methods))) type → Source (embedded ++ flat_map method_types methods) type
    by (inl here) =
        let found = map_from element_written embedded type here in
        record { part = found.0; there = Contains-append_left embedded (flat_map method_types methods) found.0 found.1; is = inr (sym found.2) }
    by (inr here) = one_of (flat_map method_types methods) (embedded ++ flat_map method_types methods) type (Contains-append_right embedded (flat_map method_types methods)) (method_from methods type here)
level_from (instance_of base args) type proper has = by (Contains-append_cases (map written_full args) (base ∷ []) type has)
  where
    last : (base ≡ type) ⊎ Contains [] type → Source (args ++ base ∷ []) type
    last (inl is) = record { part = base; there = Contains-append_right args (base ∷ []) base (first_in base []); is = inl (sym is ∙ base_stays base proper.0) }
    last (inr here) = absurd (none_in type here)

    by : Contains (map written_full args) type ⊎ Contains (base ∷ []) type → Source (args ++ base ∷ []) type
    by (inl here) = one_of args (args ++ base ∷ []) type (Contains-append_left args (base ∷ [])) (from_map args type here)
    by (inr here) = last (member base [] type here)
level_from (union_of parts) type proper has =
    from_map (flat_map term_types parts) type (subst (λ (ts : List Tree). Contains ts type) (parts_of_map term_written written_full term_types term_types (λ x. refl) parts) has)

-- what is written as an element of a type is what is written of something in it
pub record InIt (type whole : Tree) : Type 0 where
  pub part : Tree
  pub within : Within whole part
  pub is : type ≡ written full part

element_in : (type : Tree) → InIt (element_written type) type
element_in (union (terms false t no_terms)) = record { part = t; within = inside (union (terms false t no_terms)) t t (first_in t []) (itself t); is = refl }
element_in (union no_terms) = record { part = union no_terms; within = itself (union no_terms); is = refl }
element_in (union (terms true t rest)) = record { part = union (terms true t rest); within = itself (union (terms true t rest)); is = refl }
element_in (union (terms false t (terms e u rest))) = record { part = union (terms false t (terms e u rest)); within = itself (union (terms false t (terms e u rest))); is = refl }
element_in (predeclared basic) = record { part = predeclared basic; within = itself (predeclared basic); is = refl }
element_in (named q) = record { part = named q; within = itself (named q); is = refl }
element_in (parameter q) = record { part = parameter q; within = itself (parameter q); is = refl }
element_in (alias q) = record { part = alias q; within = itself (alias q); is = refl }
element_in (pointer t) = record { part = pointer t; within = itself (pointer t); is = refl }
element_in (slice t) = record { part = slice t; within = itself (slice t); is = refl }
element_in (array size t) = record { part = array size t; within = itself (array size t); is = refl }
element_in (chan dir t) = record { part = chan dir t; within = itself (chan dir t); is = refl }
element_in (map_type key t) = record { part = map_type key t; within = itself (map_type key t); is = refl }
element_in (func home ins outs variadic) = record { part = func home ins outs variadic; within = itself (func home ins outs variadic); is = refl }
element_in (struct home inner) = record { part = struct home inner; within = itself (struct home inner); is = refl }
element_in (interface home embedded inner) = record { part = interface home embedded inner; within = itself (interface home embedded inner); is = refl }
element_in (instance base args) = record { part = instance base args; within = itself (instance base args); is = refl }

part_in : (type part : Tree) → IsProperLevel (level_of type) → Contains (parts (written full type)) part → InIt part type
part_in type part proper has = by source.is
  where
    source : Source (parts type) part
    source = level_from (level_of type) part proper (subst (λ (level : Level). Contains (shape_types level) part) (level_is type) has)

    by : (part ≡ written full source.part) ⊎ (part ≡ element_written source.part) → InIt part type
    by (inl is) = record { part = source.part; within = inside type source.part source.part source.there (itself source.part); is = is }
    by (inr is) =
        let inner = element_in source.part in
        record { part = inner.part; within = inside type source.part inner.part source.there inner.within; is = is ∙ inner.is }

pub within_written : (whole part : Tree) → Within whole part → (type : Tree) → whole ≡ written full type → IsProper type → InIt part type
within_written _ _ (itself whole) type is proper = record { part = type; within = itself type; is = is }
within_written _ _ (inside whole next below held rest) type is proper =
    let first = part_in type next (proper type (itself type)) (subst (λ (t : Tree). Contains (parts t) next) is held) in
    let later = within_written next below rest first.part first.is (λ x within. proper x (within_within type first.part x first.within within)) in
    record { part = later.part; within = within_within type first.part later.part first.within later.within; is = later.is }
