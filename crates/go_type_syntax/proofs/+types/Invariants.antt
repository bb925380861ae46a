use Rattle.std.proofs.Common.{◌≡◌, ◌+◌, ◌*◌, ◌++◌, [], length, min}
use Rattle.go_type_syntax.specs.declared.tree.TypeExpr.TheVariants as y
use Rattle.go_expr_syntax.specs.Reading.{series, with_fit}
use Rattle.go_type_syntax.specs.Params.{params_row, params_from}
use Rattle.go_type_syntax.specs.Elements.{type_list, terms_at, more_terms, elems_at}
use Rattle.go_type_syntax.specs.Types.{fields_at, type_at, lower_at}
use Rattle.go_expr_syntax.proofs.Turns.{through}
use Rattle.go_type_syntax.proofs.SmallFits.{Keeps}
use Rattle.go_type_syntax.proofs.+types.Given as goal

abbrev pub decreases-params::after_bare : goal.decreases-params::after_bare
decreases-params::after_bare l = 18 * l.left + 6

abbrev pub decreases-params::after_ident : goal.decreases-params::after_ident
decreases-params::after_ident l = 18 * l.left + 9

abbrev pub decreases-elements::after_tilde : goal.decreases-elements::after_tilde
decreases-elements::after_tilde l = 18 * l.left + 5

abbrev pub decreases-elements::after_type : goal.decreases-elements::after_type
decreases-elements::after_type l = 18 * l.left + 4

abbrev pub decreases-types::chan_type : goal.decreases-types::chan_type
decreases-types::chan_type l = 18 * l.left + 15

abbrev pub decreases-types::boxed_type : goal.decreases-types::boxed_type
decreases-types::boxed_type l = 18 * l.left + 1

abbrev pub decreases-types::pointer_type : goal.decreases-types::pointer_type
decreases-types::pointer_type l = 18 * l.left + 2

abbrev pub decreases-types::slice_type : goal.decreases-types::slice_type
decreases-types::slice_type l = 18 * l.left + 2

abbrev pub decreases-types::array_type : goal.decreases-types::array_type
decreases-types::array_type l = 18 * l.left + 2

abbrev pub decreases-types::chan_of : goal.decreases-types::chan_of
decreases-types::chan_of l = 18 * l.left + 2

abbrev pub decreases-elements::elems : goal.decreases-elements::elems
decreases-elements::elems l = 18 * l.left + 15

abbrev pub decreases-elements::embedded_elem : goal.decreases-elements::embedded_elem
decreases-elements::embedded_elem l = 18 * l.left + 8

abbrev pub decreases-types::fields : goal.decreases-types::fields
decreases-types::fields l = 18 * l.left + 6

abbrev pub decreases-types::first_field : goal.decreases-types::first_field
decreases-types::first_field l = 18 * l.left + 4

abbrev pub decreases-params::first_param : goal.decreases-params::first_param
decreases-params::first_param l = 18 * l.left + 3

abbrev pub decreases-types::func_type : goal.decreases-types::func_type
decreases-types::func_type l = 18 * l.left + 15

abbrev pub decreases-elements::interface_type : goal.decreases-elements::interface_type
decreases-elements::interface_type l = 18 * l.left + 16

abbrev pub decreases-params::lone_param : goal.decreases-params::lone_param
decreases-params::lone_param l = 18 * l.left + 2

abbrev pub decreases-types::lower_type : goal.decreases-types::lower_type
decreases-types::lower_type l = 18 * l.left + 1

abbrev pub decreases-types::map_type : goal.decreases-types::map_type
decreases-types::map_type l = 18 * l.left + 15

abbrev pub decreases-elements::more_terms : goal.decreases-elements::more_terms
decreases-elements::more_terms l = 18 * l.left + 3

abbrev pub decreases-elements::named_elem : goal.decreases-elements::named_elem
decreases-elements::named_elem l = 18 * l.left + 13

abbrev pub decreases-params::first_type : goal.decreases-params::first_type
decreases-params::first_type l = 18 * l.left + 7

abbrev pub decreases-params::named_params : goal.decreases-params::named_params
decreases-params::named_params l = 18 * l.left + 7

abbrev pub decreases-params::array_or_instance : goal.decreases-params::array_or_instance
decreases-params::array_or_instance l = 18 * l.left + 8

abbrev pub decreases-instances::arg_row : goal.decreases-instances::arg_row
decreases-instances::arg_row l = 18 * l.left + 1

abbrev pub decreases-instances::type_args : goal.decreases-instances::type_args
decreases-instances::type_args l = 18 * l.left + 2

abbrev pub decreases-instances::with_args : goal.decreases-instances::with_args
decreases-instances::with_args l = 18 * l.left + 3

abbrev pub decreases-instances::named_type : goal.decreases-instances::named_type
decreases-instances::named_type l = 18 * l.left + 4

abbrev pub decreases-instances::begun_type : goal.decreases-instances::begun_type
decreases-instances::begun_type l = 18 * l.left + 5

abbrev pub decreases-types::base_type : goal.decreases-types::base_type
decreases-types::base_type l = 18 * l.left + 1

abbrev pub decreases-types::embedded_name : goal.decreases-types::embedded_name
decreases-types::embedded_name l = 18 * l.left

abbrev pub decreases-types::embedded_pointer : goal.decreases-types::embedded_pointer
decreases-types::embedded_pointer l = 18 * l.left

abbrev pub decreases-types::only_field : goal.decreases-types::only_field
decreases-types::only_field l = 18 * l.left + 2

abbrev pub decreases-types::array_or_instance : goal.decreases-types::array_or_instance
decreases-types::array_or_instance l = 18 * l.left + 3

abbrev pub decreases-elements::one_elem : goal.decreases-elements::one_elem
decreases-elements::one_elem l = 18 * l.left + 14

abbrev pub decreases-types::one_field : goal.decreases-types::one_field
decreases-types::one_field l = 18 * l.left + 5

abbrev pub decreases-params::one_param : goal.decreases-params::one_param
decreases-params::one_param l = 18 * l.left + 4

abbrev pub decreases-elements::one_term : goal.decreases-elements::one_term
decreases-elements::one_term l = 18 * l.left + 2

abbrev pub decreases-params::param_end : goal.decreases-params::param_end
decreases-params::param_end l = 18 * l.left + 6

abbrev pub decreases-params::param_row : goal.decreases-params::param_row
decreases-params::param_row l = 18 * l.left + 5

abbrev pub decreases-params::param_type : goal.decreases-params::param_type
decreases-params::param_type l = 18 * l.left + 1

abbrev pub decreases-params::params : goal.decreases-params::params
decreases-params::params l = 18 * l.left + 10

abbrev pub decreases-types::paren_type : goal.decreases-types::paren_type
decreases-types::paren_type l = 18 * l.left + 15

abbrev pub decreases-types::receive_type : goal.decreases-types::receive_type
decreases-types::receive_type l = 18 * l.left + 15

abbrev pub decreases-params::results : goal.decreases-params::results
decreases-params::results l = 18 * l.left + 11

abbrev pub decreases-types::shared_field : goal.decreases-types::shared_field
decreases-types::shared_field l = 18 * l.left + 1

abbrev pub decreases-params::shared_param : goal.decreases-params::shared_param
decreases-params::shared_param l = 18 * l.left + 3

abbrev pub decreases-params::signature : goal.decreases-params::signature
decreases-params::signature l = 18 * l.left + 12

abbrev pub decreases-types::bracketed : goal.decreases-types::bracketed
decreases-types::bracketed l = 18 * l.left + 15

abbrev pub decreases-types::struct_type : goal.decreases-types::struct_type
decreases-types::struct_type l = 18 * l.left + 7

abbrev pub decreases-elements::tilde_type : goal.decreases-elements::tilde_type
decreases-elements::tilde_type l = 18 * l.left + 6

abbrev pub decreases-types::type_expr : goal.decreases-types::type_expr
decreases-types::type_expr l = 18 * l.left

abbrev pub decreases-types::type_inside : goal.decreases-types::type_inside
decreases-types::type_inside l = 18 * l.left + 17

abbrev pub decreases-params::type_param : goal.decreases-params::type_param
decreases-params::type_param l = 18 * l.left + 1

abbrev pub decreases-elements::union_type : goal.decreases-elements::union_type
decreases-elements::union_type l = 18 * l.left + 7

abbrev pub decreases-params::unnamed_param : goal.decreases-params::unnamed_param
decreases-params::unnamed_param l = 18 * l.left + 2

abbrev pub invariant-types::fields-loop-after : goal.invariant-types::fields-loop-after
invariant-types::fields-loop-after l = Keeps l.left l.fit (with_fit (l.found, l.fit) (fields_at l.left (type_at l.left) l.rest)) (fields_at l.left (type_at l.left) l.tokens)

abbrev pub decreases-types::fields-loop-after : goal.decreases-types::fields-loop-after
decreases-types::fields-loop-after l = length l.rest

abbrev pub invariant-instances::arg_row-loop-after : goal.invariant-instances::arg_row-loop-after
invariant-instances::arg_row-loop-after l = Keeps l.left l.fit (with_fit (l.args, l.fit) (series (type_list l.left) (type_at l.left) l.rest)) (with_fit l.fn.found (series (type_list l.left) (type_at l.left) l.tokens))

abbrev pub decreases-instances::arg_row-loop-after : goal.decreases-instances::arg_row-loop-after
decreases-instances::arg_row-loop-after l = length l.rest

abbrev pub invariant-elements::elems-loop-after : goal.invariant-elements::elems-loop-after
invariant-elements::elems-loop-after l = Keeps l.left l.fit (with_fit (l.found, l.fit) (elems_at l.left (type_at l.left) (lower_at l.left) l.rest)) (elems_at l.left (type_at l.left) (lower_at l.left) l.tokens)

abbrev pub decreases-elements::elems-loop-after : goal.decreases-elements::elems-loop-after
decreases-elements::elems-loop-after l = length l.rest

abbrev pub invariant-params::param_row-loop-after : goal.invariant-params::param_row-loop-after
invariant-params::param_row-loop-after l = Keeps l.left l.fit (with_fit (l.params, l.fit) (params_row l.named l.variadic l.left (type_at l.left) l.rest)) (with_fit l.fn.found (params_row l.named l.variadic l.left (type_at l.left) l.tokens))

abbrev pub decreases-params::param_row-loop-after : goal.decreases-params::param_row-loop-after
decreases-params::param_row-loop-after l = length l.rest

abbrev pub invariant-params::params-loop-name : goal.invariant-params::params-loop-name
invariant-params::params-loop-name l = params_from l.variadic l.left (type_at l.left) l.names l.rest ≡ params_from l.variadic l.left (type_at l.left) [] l.tokens

abbrev pub decreases-params::params-loop-name : goal.decreases-params::params-loop-name
decreases-params::params-loop-name l = length l.rest

abbrev pub invariant-elements::more_terms-loop-terms : goal.invariant-elements::more_terms-loop-terms
invariant-elements::more_terms-loop-terms l = through (λ xs. (y.Union (l.terms ++ xs.0) l.at, min l.fit xs.1)) (terms_at (lower_at l.left) l.rest) ≡ more_terms (lower_at l.left) l.fn.first l.at l.tokens

abbrev pub decreases-elements::more_terms-loop-terms : goal.decreases-elements::more_terms-loop-terms
decreases-elements::more_terms-loop-terms l = length l.rest
