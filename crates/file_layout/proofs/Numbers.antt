-- The numbers of a block have 64 bits: a count is at most the number of items behind it, and each item has a byte.
use Rattle.std.proofs.Common.{ℕ, ◌^◌, ◌<◌, ◌≤◌, Bool, true, false, cond, List, [], ◌∷◌, ◌++◌, length, arith, length-append}
use Rattle.std.specs.Prelude.{◌==◌}
use Rattle.std.specs.List.{AllByRecursion, flat_map}
use Rattle.go_values.specs.declared.positions.Pos.{Pos}
use Rattle.go_values.specs.declared.constants.Const.{Const}
use Rattle.go_values.specs.declared.constants.Const.TheVariants.{Bool as truth, Int as whole, Str as chars}
use Rattle.type_terms.specs.declared.literals.Dir.{Dir}
use Rattle.type_terms.specs.declared.literals.Dir.TheVariants.{Receive, Send, Both}
use Rattle.wire_bytes.specs.Section.{spelling_of}
use Rattle.wire_bytes.specs.Varint.{number_of}
use Rattle.position_codec.specs.Place.{Place, place_of, delta}
use Rattle.type_terms.specs.Shapes.{ParamOf, SigOf, FieldOf, MethodOf, TermOf, predeclared_of, named_of, parameter_of, alias_of, pointer_of, slice_of, array_of, chan_of, map_of, func_of, struct_of, interface_of, instance_of, union_of}
use Rattle.type_terms.specs.Trees.{Text, Tree, Level}
use Rattle.type_terms.specs.Replaced.{all_append}
use Rattle.type_terms.specs.Declarations.{ReceiverOf, var_of, function_of, constant_of, defined_of, renamed_of, type_parameter_of, Decl}
use Rattle.type_terms.specs.DeclarationRules.{IsProperLevel}
use Rattle.decl_spelling.specs.Sections.{Basics}
use Rattle.decl_spelling.specs.Constants.{Spelling, flag, offset, number, Kind, spelled, floating, none, basic_type}
use Rattle.decl_spelling.specs.Declarations.{has_methods}
use Rattle.decl_spelling.specs.Grammar.{dir_number}
use Rattle.file_envelope.proofs.EnvelopeLemmas.{spelling_some}
use Rattle.file_layout.specs.Items.{Item, a_number, a_flag, a_text, a_path, a_position, a_type, a_whole, list_items, type_items, param_items, variadic_items, sig_items, field_items, method_items, embedded_items, term_items, level_items, generic_items, receiver_items, methods_items, constant_kind, spelled_items, value_items, decl_items}
use Rattle.file_layout.specs.Bytes.{flag_bytes, same_file, column_bytes, line_bytes, place_bytes, place_after, path_text, item_bytes, items_bytes}

abbrev pub NumberFits : Item → Type 0
NumberFits (a_number n) = n < 2 ^ 64
NumberFits _ = Unit {0}

abbrev pub NumbersFit : List Item → Type 0
NumbersFit = AllByRecursion NumberFits

-- ---- each item has a byte

front_some : (xs ys : List ℕ) → 0 < length xs → 0 < length (xs ++ ys)
front_some xs ys some = omega (arith, some, length-append xs ys)

either_some : (b : Bool) (xs ys : List ℕ) → 0 < length xs → 0 < length ys → 0 < length (cond b xs ys)
either_some true xs ys some other = some
either_some false xs ys some other = other

flag_some : (x : Bool) → 0 < length (flag_bytes x)
flag_some true = spelling_some 1
flag_some false = spelling_some 0

module _ (own : Text) (offset : Text → ℕ) (type_number : Tree → ℕ) where
  abbrev bytes_of : Place → Item → List ℕ
  bytes_of = item_bytes own offset type_number

  abbrev all_bytes_of : Place → List Item → List ℕ
  all_bytes_of = items_bytes own offset type_number

  place_some : (before now : Place) → 0 < length (place_bytes offset before now)
  place_some before now =
      let column = column_bytes before now in
      let lines = line_bytes before now in
      let more = spelling_some (number_of (delta before.column now.column true)) in
      let here = spelling_some (number_of (delta before.column now.column false)) in
      either_some (same_file before now) (cond (now.line == before.line) (column false) (column true ++ lines false)) (column true ++ (lines true ++ spelling_of (offset now.file)))
      (either_some (now.line == before.line) (column false) (column true ++ lines false) here (front_some (column true) (lines false) more))
      (front_some (column true) (lines true ++ spelling_of (offset now.file)) more)

  item_some : (before : Place) (x : Item) → 0 < length (bytes_of before x)
  item_some before (a_number n) = spelling_some n
  item_some before (a_flag x) = flag_some x
  item_some before (a_text text) = spelling_some (offset text)
  item_some before (a_path path) = spelling_some (offset (path_text own path))
  item_some before (a_position pos) = place_some before (place_of pos)
  item_some before (a_type type) = spelling_some (type_number type)
  item_some before (a_whole signed max v) = either_some _ (_ ∷ []) (_ ∷ _) (omega arith) (omega arith)

  pub each_item_has_a_byte : (before : Place) (xs : List Item) → length xs ≤ length (all_bytes_of before xs)
  each_item_has_a_byte before [] = omega arith
  each_item_has_a_byte before (x ∷ xs) =
      let next = place_after before x in
      omega (arith, item_some before x, each_item_has_a_byte next xs, length-append (bytes_of before x) (all_bytes_of next xs))

-- ---- where there are fewer than 2^64 items, their numbers fit

abbrev Counted : List Item → Type 0
Counted xs = length xs < 2 ^ 64 → NumbersFit xs

both : (xs ys : List Item) → Counted xs → Counted ys → Counted (xs ++ ys)
both xs ys first rest short =
    let size = length-append xs ys in
    all_append NumberFits xs ys (first (omega (arith, short, size))) (rest (omega (arith, short, size)))

-- Each element of a list has an item.
module _ {X : Type 0} (items : X → List Item) (some : (x : X) → 0 < length (items x)) (each : (x : X) → Counted (items x)) where
  count_small : (xs : List X) → length xs ≤ length (flat_map items xs)
  count_small [] = omega arith
  count_small (x ∷ xs) = omega (arith, some x, count_small xs, length-append (items x) (flat_map items xs))

  flat_counted : (xs : List X) → Counted (flat_map items xs)
  flat_counted [] short = tt
  flat_counted (x ∷ xs) short = both (items x) (flat_map items xs) (each x) (flat_counted xs) short

  list_counted : (xs : List X) → Counted (list_items items xs)
  list_counted xs short = (omega (arith, short, count_small xs), flat_counted xs (omega (arith, short)))

types_counted : (xs : List Tree) → Counted (list_items type_items xs)
types_counted = list_counted type_items (λ x. omega arith) (λ x short. (tt, tt))

params_counted : (xs : List (ParamOf Pos Text Tree)) → Counted (list_items param_items xs)
params_counted = list_counted param_items (λ x. omega arith) (λ x short. (tt, (tt, (tt, tt))))

variadic_counted : (params : List (ParamOf Pos Text Tree)) (variadic : Bool) → Counted (variadic_items params variadic)
variadic_counted [] variadic short = tt
variadic_counted (x ∷ xs) variadic short = (tt, tt)

sig_counted : (sig : SigOf Pos Text Tree) → Counted (sig_items sig)
sig_counted sig =
    let outs = list_items param_items sig.results in
    let rest = variadic_items sig.params sig.variadic in
    both (list_items param_items sig.params) (outs ++ rest) (params_counted sig.params)
    (both outs rest (params_counted sig.results) (variadic_counted sig.params sig.variadic))

fields_counted : (xs : List (FieldOf Pos Text Text Tree)) → Counted (list_items field_items xs)
fields_counted = list_counted field_items (λ x. omega arith) (λ x short. (tt, (tt, (tt, (tt, (tt, tt))))))

own_methods_counted : (xs : List (MethodOf Pos Text Text Tree)) → Counted (list_items method_items xs)
own_methods_counted = list_counted method_items (λ x. omega arith) (λ x short. (tt, (tt, sig_counted x.sig (omega (arith, short)))))

embedded_counted : (xs : List Tree) → Counted (list_items embedded_items xs)
embedded_counted = list_counted embedded_items (λ x. omega arith) (λ x short. (tt, (tt, tt)))

terms_counted : (xs : List (TermOf Tree)) → Counted (list_items term_items xs)
terms_counted = list_counted term_items (λ x. omega arith) (λ x short. (tt, (tt, tt)))

dir_small : (dir : Dir) → dir_number dir < 2 ^ 64
dir_small Receive = omega arith
dir_small Send = omega arith
dir_small Both = omega arith

pub level_numbers : (level : Level) → IsProperLevel level → Counted (level_items level)
level_numbers (predeclared_of basic) proper short = tt
level_numbers (named_of name path) proper short = (omega arith, (tt, (tt, tt)))
level_numbers (parameter_of name path) proper short = (omega arith, (tt, (tt, tt)))
level_numbers (alias_of name path) proper short = (omega arith, (tt, (tt, tt)))
level_numbers (pointer_of type) proper short = (omega arith, (tt, tt))
level_numbers (slice_of type) proper short = (omega arith, (tt, tt))
level_numbers (array_of size type) proper short = (omega arith, (omega (arith, proper), (tt, tt)))
level_numbers (chan_of dir type) proper short = (omega arith, (dir_small dir, (tt, tt)))
level_numbers (map_of key type) proper short = (omega arith, (tt, (tt, tt)))
level_numbers (func_of home sig) proper short = (omega arith, (tt, sig_counted sig (omega (arith, short))))
level_numbers (struct_of home fields) proper short = (omega arith, (tt, fields_counted fields (omega (arith, short))))
level_numbers (interface_of home embedded methods) proper short =
    let first = list_items embedded_items embedded in
    let rest = list_items method_items methods in
    (omega arith, (tt, both first rest (embedded_counted embedded) (own_methods_counted methods) (omega (arith, short))))
level_numbers (instance_of base args) proper short =
    (omega arith, (tt, both (list_items type_items args) (a_type base ∷ []) (types_counted args) (λ less. (tt, tt)) (omega (arith, short))))
level_numbers (union_of parts) proper short = (omega arith, terms_counted parts (omega (arith, short)))

-- ---- declarations

generic_counted : (xs : List Tree) → Counted (generic_items xs)
generic_counted [] short = tt
generic_counted (x ∷ xs) short = types_counted (x ∷ xs) short

receiver_counted : (x : ReceiverOf Pos Text Tree) → Counted (receiver_items x)
receiver_counted x short =
    (tt, (tt, both (param_items x.recv) (sig_items x.sig) (λ less. (tt, (tt, (tt, tt)))) (sig_counted x.sig) (omega (arith, short))))

methods_counted : (has : Bool) (xs : List (ReceiverOf Pos Text Tree)) → Counted (methods_items has xs)
methods_counted true xs short = list_counted receiver_items (λ x. omega arith) receiver_counted xs short
methods_counted false xs short = tt

value_spelled : (spelling : Spelling) (value : Const) → NumbersFit (spelled_items spelling value)
value_spelled flag (truth x) = (tt, tt)
value_spelled flag (whole x) = tt
value_spelled flag (chars x) = tt
value_spelled offset (truth x) = tt
value_spelled offset (whole x) = tt
value_spelled offset (chars x) = (tt, tt)
value_spelled (number signed max) (truth x) = tt
value_spelled (number signed max) (whole x) = (tt, tt)
value_spelled (number signed max) (chars x) = tt

value_numbers : (kind : Kind) (value : Const) → NumbersFit (value_items kind value)
value_numbers (spelled flag) value = (omega arith, value_spelled flag value)
value_numbers (spelled offset) value = (omega arith, value_spelled offset value)
value_numbers (spelled (number signed max)) value = (omega arith, value_spelled (number signed max) value)
value_numbers floating value = tt
value_numbers none value = tt

pub decl_numbers : (basics : Basics) (decl : Decl) → Counted (decl_items basics decl)
decl_numbers basics (var_of pos type) short = (tt, (tt, tt))
decl_numbers basics (function_of pos tparams sig) short =
    (tt, both (generic_items tparams) (sig_items sig) (generic_counted tparams) (sig_counted sig) (omega (arith, short)))
decl_numbers basics (constant_of pos type value) short = (tt, (tt, value_numbers (constant_kind (basic_type basics type)) value))
decl_numbers basics (defined_of pos tparams underlying methods) short =
    let own = methods_items (has_methods underlying) methods in
    (tt, both (generic_items tparams) (a_type underlying ∷ own) (generic_counted tparams) (λ less. (tt, methods_counted (has_methods underlying) methods (omega (arith, less)))) (omega (arith, short)))
decl_numbers basics (renamed_of pos tparams type) short =
    (tt, both (generic_items tparams) (a_type type ∷ []) (generic_counted tparams) (λ less. (tt, tt)) (omega (arith, short)))
decl_numbers basics (type_parameter_of pos implicit constraint) short = (tt, (tt, (tt, tt)))
