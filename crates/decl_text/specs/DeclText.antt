-- The text of a declaration: its first line, a line for each number, and a line for each method.
use Rattle.std.specs.Prelude.{ℕ, ◌+◌, true, false, List, [], ◌∷◌, ◌++◌, codes, decimal, if◌then◌else◌}
use Rattle.std.specs.List.{flat_map}
use Rattle.std.specs.Fmt.{signed_decimal}
use Rattle.go_values.specs.declared.positions.Pos.{Pos}
use Rattle.go_values.specs.declared.qualified.QName.{QName}
use Rattle.go_values.specs.declared.constants.Const.{Const}
use Rattle.go_values.specs.declared.constants.Const.TheVariants.{Bool as Truth, Int, Str}
use Rattle.type_terms.specs.Trees.{Text}
use Rattle.type_terms.specs.Declarations.{ReceiverOf, Form, var_of, function_of, constant_of, defined_of, renamed_of}
use Rattle.type_terms.specs.Declarations.{type_parameter_of, form_map, form_types, Decl}
use Rattle.decl_text.specs.Printed.{printed, quoted}
use Rattle.decl_text.specs.TypeText.{pos_text, param_text, sig_text, bracketed}
use Rattle.decl_text.specs.Numbers.{Numbers, reference, number_all}

abbrev pub value_text : Const → Text
value_text (Truth true) = codes "true"
value_text (Truth false) = codes "false"
value_text (Int number) = signed_decimal number
value_text (Str text) = quoted text

-- Type parameters are printed where there are any.
abbrev pub tparams_text : List Text → Text
tparams_text [] = []
tparams_text (type ∷ types) = bracketed (type ∷ types)

-- what stands in a declaration, where each type is given by the text of its reference
abbrev pub Described : Type 0
Described = Form Pos Text Text

abbrev pub form_pos : Described → Pos
form_pos (var_of pos type) = pos
form_pos (function_of pos tparams sig) = pos
form_pos (constant_of pos type value) = pos
form_pos (defined_of pos tparams underlying methods) = pos
form_pos (renamed_of pos tparams type) = pos
form_pos (type_parameter_of pos implicit constraint) = pos

abbrev pub form_text : Described → Text
form_text (var_of pos type) = codes "var " ++ type
form_text (function_of pos tparams sig) = codes "func" ++ tparams_text tparams ++ sig_text sig
form_text (constant_of pos type value) = codes "const " ++ type ++ codes " = " ++ value_text value
form_text (defined_of pos tparams underlying methods) = codes "type" ++ tparams_text tparams ++ codes " " ++ underlying
form_text (renamed_of pos tparams type) = codes "alias" ++ tparams_text tparams ++ codes " " ++ type
form_text (type_parameter_of pos implicit constraint) = codes "param " ++ (if implicit then codes "implicit "
    else []) ++ constraint

abbrev pub form_methods : Described → List (ReceiverOf Pos Text Text)
form_methods (defined_of pos tparams underlying methods) = methods
form_methods _ = []

abbrev pub line : Text → Text
line text = text ++ codes "\n"

abbrev pub first_line : QName → Described → Text
first_line q form = line (printed q.path ++ codes ":" ++ printed q.name ++ codes " " ++ pos_text (form_pos form)
    ++ codes " " ++ form_text form)

abbrev pub number_line : ℕ → Text → Text
number_line number text = line (codes "  #" ++ decimal number ++ codes " " ++ text)

-- the lines of types, whose numbers go up from the first one
abbrev pub number_lines : ℕ → List Text → Text
number_lines first [] = []
number_lines first (text ∷ texts) = number_line first text ++ number_lines (first + 1) texts

abbrev pub method_line : ReceiverOf Pos Text Text → Text
method_line x = line (codes "  method " ++ pos_text x.pos ++ codes " " ++ printed x.name
    ++ codes " (" ++ param_text x.recv ++ codes ") " ++ sig_text x.sig)

abbrev pub numbers_of : Decl → Numbers
numbers_of decl = number_all (form_types decl)

abbrev pub described : Numbers → Decl → Described
described numbers decl = form_map (λ x. x) (λ x. x) (reference numbers.types) decl

abbrev pub text_with : Numbers → QName → Described → Text
text_with numbers q form = first_line q form ++ number_lines 0 numbers.lines ++ flat_map method_line (form_methods form)

-- the text, with its line feeds
abbrev pub decl_text : QName → Decl → Text
decl_text q decl = text_with (numbers_of decl) q (described (numbers_of decl) decl)
