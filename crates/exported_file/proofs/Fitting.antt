-- What is written of a declaration that keeps the rules keeps them, and fits.
use Rattle.std.proofs.Common.{◌≡◌, ℕ, ◌<◌, Bool, List, [], ◌∷◌, ◌++◌, map, refl, sym, ap, subst, arith}
use Rattle.std.specs.List.{All, AllByRecursion, flat_map}
use Rattle.std.proofs.lemmas.List.{length-map}
use Rattle.std.proofs.lemmas.List.Sorted.{All-permutation}
use Rattle.std.proofs.lemmas.List.Elements.{All-from_recursion, recursion_from_All, All-map, All-weaker}
use Rattle.go_values.specs.declared.positions.Pos.{Pos}
use Rattle.position_codec.specs.Place.{place_of, pos_of}
use Rattle.position_codec.specs.Position.{IsPlace}
use Rattle.position_codec.proofs.PositionLemmas.{place_back}
use Rattle.type_terms.specs.Shapes.{ParamOf, SigOf, FieldOf, MethodOf, TermOf, predeclared_of, named_of, parameter_of, alias_of, pointer_of, slice_of, array_of, chan_of, map_of, func_of, struct_of, interface_of, instance_of, union_of}
use Rattle.type_terms.specs.Trees.{Text, Tree, Level, level_of}
use Rattle.type_terms.specs.Replaced.{all_left, all_right, all_append}
use Rattle.type_terms.specs.DeclarationRules.{HasLast, IsProperLevel, IsProper}
use Rattle.file_layout.specs.Items.{Item, a_position, a_type, list_items, type_items, param_items, variadic_items, sig_items, field_items, method_items, embedded_items, term_items, level_items}
use Rattle.file_layout.specs.Conditions.{no_origin, ItemFits, HasNoOrigin, LevelFits, TypeFits}
use Rattle.written_types.specs.ByName.{by_name}
use Rattle.written_types.specs.Written.{full, position_written, written}
use Rattle.written_types.proofs.ByNameLemmas.{all_methods}
use Rattle.exported_file.specs.Small.{IsSmall, IsSmallType}
use Rattle.exported_file.proofs.WrittenLevels.{written_full, element_written, param_written, sig_written, field_written, method_written, term_written, level_written, level_is}
use Rattle.exported_file.proofs.WrittenParts.{InIt, within_written}

abbrev pub Small : List Item → Type 0
Small = AllByRecursion IsSmall

abbrev pub Fit : List Item → Type 0
Fit = AllByRecursion ItemFits

pub position_fits : (pos : Pos) → IsPlace (place_of pos) → ItemFits (a_position (position_written pos))
position_fits pos place = (ap pos_of (sym (place_back (place_of pos))), subst IsPlace (sym (place_back (place_of pos))) place)

-- ---- lists

module _ {X : Type 0} (items : X → List Item) where
  small_each : (xs : List X) → Small (flat_map items xs) → AllByRecursion (λ x. Small (items x)) xs
  small_each [] all = tt
  small_each (x ∷ xs) all = (all_left IsSmall (items x) (flat_map items xs) all, small_each xs (all_right IsSmall (items x) (flat_map items xs) all))

  fit_flat : (xs : List X) → AllByRecursion (λ x. Fit (items x)) xs → Fit (flat_map items xs)
  fit_flat [] all = tt
  fit_flat (x ∷ xs) all = all_append ItemFits (items x) (flat_map items xs) all.0 (fit_flat xs all.1)

-- each is written as something that fits
module _ {X : Type 0} (items : X → List Item) (g : X → X) (each : (x : X) → Small (items x) → Fit (items (g x))) where
  fit_each : (xs : List X) → AllByRecursion (λ x. Small (items x)) xs → AllByRecursion (λ x. Fit (items x)) (map g xs)
  fit_each [] all = tt
  fit_each (x ∷ xs) all = (each x all.0, fit_each xs all.1)

  pub fit_list : (xs : List X) → Small (list_items items xs) → Fit (list_items items (map g xs))
  fit_list xs small = (tt, fit_flat items (map g xs) (fit_each xs (small_each items xs small.1)))

pub param_fits : (x : ParamOf Pos Text Tree) → Small (param_items x) → Fit (param_items (param_written x))
param_fits x small = (position_fits x.pos small.0, (tt, (tt, tt)))

variadic_fits : (params : List (ParamOf Pos Text Tree)) (variadic : Bool) → Fit (variadic_items params variadic)
variadic_fits [] variadic = tt
variadic_fits (x ∷ xs) variadic = (tt, tt)

pub sig_fits : (sig : SigOf Pos Text Tree) → Small (sig_items sig) → Fit (sig_items (sig_written sig))
sig_fits sig small =
    let ins = list_items param_items sig.params in
    let outs = list_items param_items sig.results in
    let rest = variadic_items sig.params sig.variadic in
    let behind = all_right IsSmall ins (outs ++ rest) small in
    all_append ItemFits (list_items param_items (map param_written sig.params)) (list_items param_items (map param_written sig.results) ++ variadic_items (map param_written sig.params) sig.variadic)
    (fit_list param_items param_written param_fits sig.params (all_left IsSmall ins (outs ++ rest) small))
    (all_append ItemFits (list_items param_items (map param_written sig.results)) (variadic_items (map param_written sig.params) sig.variadic)
    (fit_list param_items param_written param_fits sig.results (all_left IsSmall outs rest behind)) (variadic_fits (map param_written sig.params) sig.variadic))

field_fits : (x : FieldOf Pos Text Text Tree) → Small (field_items x) → Fit (field_items (field_written x))
field_fits x small = (position_fits x.pos small.0, (tt, (tt, (tt, (tt, tt)))))

method_fits : (x : MethodOf Pos Text Text Tree) → Small (method_items x) → Fit (method_items (method_written x))
method_fits x small = (position_fits x.pos small.0, (tt, sig_fits x.sig small.1.1))

pub type_fits : (x : Tree) → Small (type_items x) → Fit (type_items (written_full x))
type_fits x small = (tt, tt)

embedded_fits : (x : Tree) → Small (embedded_items x) → Fit (embedded_items (element_written x))
embedded_fits x small = ((refl, (omega arith, omega arith)), (tt, tt))

term_fits : (x : TermOf Tree) → Small (term_items x) → Fit (term_items (term_written x))
term_fits x small = (tt, (tt, tt))

-- methods in the order of their names
methods_fit : (xs : List (MethodOf Pos Text Text Tree)) → Small (list_items method_items xs) → Fit (list_items method_items (by_name (map method_written xs)))
methods_fit xs small =
    let made = map method_written xs in
    let each = fit_each method_items method_written method_fits xs (small_each method_items xs small.1) in
    let sorted = All-permutation (λ m. Fit (method_items m)) made (by_name made) (all_methods made) (All-from_recursion (λ m. Fit (method_items m)) made each) in
    (tt, fit_flat method_items (by_name made) (recursion_from_All (λ m. Fit (method_items m)) (by_name made) sorted))

items_fit : (level : Level) → Small (level_items level) → Fit (level_items (level_written level))
items_fit (predeclared_of basic) small = tt
items_fit (named_of name path) small = (tt, (tt, (tt, tt)))
items_fit (parameter_of name path) small = (tt, (tt, (tt, tt)))
items_fit (alias_of name path) small = (tt, (tt, (tt, tt)))
items_fit (pointer_of type) small = (tt, (tt, tt))
items_fit (slice_of type) small = (tt, (tt, tt))
items_fit (array_of size type) small = (tt, (tt, (tt, tt)))
items_fit (chan_of dir type) small = (tt, (tt, (tt, tt)))
items_fit (map_of key type) small = (tt, (tt, (tt, tt)))
items_fit (func_of home sig) small = (tt, (tt, sig_fits sig small.1.1))
items_fit (struct_of home fields) small = (tt, (tt, fit_list field_items field_written field_fits fields small.1.1))
items_fit (interface_of home embedded methods) small =
    let first = all_left IsSmall (list_items embedded_items embedded) (list_items method_items methods) small.1.1 in
    let rest = all_right IsSmall (list_items embedded_items embedded) (list_items method_items methods) small.1.1 in (
      tt,
      (
        tt,
        all_append ItemFits (list_items embedded_items (map element_written embedded)) (list_items method_items (by_name (map method_written methods)))
            (fit_list embedded_items element_written embedded_fits embedded first) (methods_fit methods rest),
      ),
    )
items_fit (instance_of base args) small =
    let first = all_left IsSmall (list_items type_items args) (a_type base ∷ []) small.1.1 in
    (tt, ((refl, (omega arith, omega arith)), all_append ItemFits (list_items type_items (map written_full args)) (a_type base ∷ []) (fit_list type_items written_full type_fits args first) (tt, tt)))
items_fit (union_of parts) small = (tt, fit_list term_items term_written term_fits parts small.1)

-- ---- the rules

pub last_kept : (sig : SigOf Pos Text Tree) → HasLast sig → HasLast (sig_written sig)
last_kept sig last is = subst (λ (n : ℕ). 0 < n) (sym (length-map sig.params param_written)) (last is)

methods_proper : (xs : List (MethodOf Pos Text Text Tree)) → All (λ m. HasLast m.sig) xs → All (λ m. HasLast m.sig) (by_name (map method_written xs))
methods_proper xs all =
    let made = map method_written xs in
    All-permutation (λ m. HasLast m.sig) made (by_name made) (all_methods made)
    (All-map (λ m. HasLast m.sig) method_written xs (All-weaker (λ m. HasLast m.sig) (λ m. HasLast (sig_written m.sig)) (λ m. last_kept m.sig) xs all))

proper_kept : (level : Level) → IsProperLevel level → IsProperLevel (level_written level)
proper_kept (predeclared_of basic) proper = tt
proper_kept (named_of name path) proper = tt
proper_kept (parameter_of name path) proper = tt
proper_kept (alias_of name path) proper = tt
proper_kept (pointer_of type) proper = tt
proper_kept (slice_of type) proper = tt
proper_kept (array_of size type) proper = proper
proper_kept (chan_of dir type) proper = tt
proper_kept (map_of key type) proper = tt
proper_kept (func_of home sig) proper = last_kept sig proper
proper_kept (struct_of home fields) proper = tt
proper_kept (interface_of home embedded methods) proper = methods_proper methods proper
proper_kept (instance_of base args) proper = (proper.0, subst (λ (n : ℕ). 0 < n) (sym (length-map args written_full)) proper.1)
proper_kept (union_of parts) proper = subst (λ (n : ℕ). 0 < n) (sym (length-map parts term_written)) proper

fields_clear : (xs : List (FieldOf Pos Text Text Tree)) → AllByRecursion (λ x. x.origin ≡ no_origin) (map field_written xs)
fields_clear [] = tt
fields_clear (x ∷ xs) = (refl, fields_clear xs)

methods_clear : (xs : List (MethodOf Pos Text Text Tree)) → AllByRecursion (λ x. x.origin ≡ no_origin) (map method_written xs)
methods_clear [] = tt
methods_clear (x ∷ xs) = (refl, methods_clear xs)

clear : (level : Level) → HasNoOrigin (level_written level)
clear (struct_of home fields) = fields_clear fields
clear (interface_of home embedded methods) =
    let made = map method_written methods in
    recursion_from_All (λ m. m.origin ≡ no_origin) (by_name made)
    (All-permutation (λ m. m.origin ≡ no_origin) made (by_name made) (all_methods made) (All-from_recursion (λ m. m.origin ≡ no_origin) made (methods_clear methods)))
clear (predeclared_of basic) = tt
clear (named_of name path) = tt
clear (parameter_of name path) = tt
clear (alias_of name path) = tt
clear (pointer_of type) = tt
clear (slice_of type) = tt
clear (array_of size type) = tt
clear (chan_of dir type) = tt
clear (map_of key type) = tt
clear (func_of home sig) = tt
clear (instance_of base args) = tt
clear (union_of parts) = tt

level_fits : (type : Tree) → IsProperLevel (level_of type) → Small (level_items (level_of type)) → LevelFits (level_of (written full type))
level_fits type proper small =
    subst LevelFits (sym (level_is type)) (record { proper = proper_kept (level_of type) proper; no_origin = clear (level_of type); items = items_fit (level_of type) small })

pub written_fits : (type : Tree) → IsProper type → IsSmallType type → TypeFits (written full type)
written_fits type proper small part within =
    let found : InIt part type = within_written (written full type) part within type refl proper in
    subst (λ (t : Tree). LevelFits (level_of t)) (sym found.is) (level_fits found.part (proper found.part found.within) (small found.part found.within))
