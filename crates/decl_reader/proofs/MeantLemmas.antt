-- What is read means what it is spelled with, with less: the projection of `decl_spelling` is the one of the code's parts.
use Rattle.std.proofs.Common.{◌≡◌, ℕ, List, [], ◌∷◌, map, refl, ap, ap₂}
use Rattle.go_values.specs.declared.positions.Pos.{Pos}
use Rattle.type_terms.specs.Shapes.{ParamOf, SigOf, FieldOf, MethodOf, TermOf, func_of, struct_of, interface_of, instance_of, union_of, sig_map, field_map, method_map, retype}
use Rattle.type_terms.specs.Declarations.{function_of, defined_of, renamed_of, receiver_map, form_map, ReceiverOf}
use Rattle.type_terms.specs.Trees.{Text, Tree, tree_of}
use Rattle.decl_spelling.specs.Spelled.{SpelledText, SpelledPath, SpelledPos, SpelledType, without_pos, pos_meant, text_meant, path_meant, meant, form_meant}
use Rattle.decl_spelling.specs.Tables.{Table, type_named, tree_spelled}
use Rattle.block_reader.specs.declared.params.Param.{Param}
use Rattle.block_reader.specs.declared.params.Signature.{Signature}
use Rattle.block_reader.specs.declared.spelled.Embedded.{Embedded}
use Rattle.block_reader.specs.declared.members.FieldParts.{FieldParts}
use Rattle.block_reader.specs.declared.members.TermParts.{TermParts}
use Rattle.block_reader.specs.declared.members.MethodParts.{MethodParts}
use Rattle.block_reader.specs.declared.descriptors.Flat.{Flat}
use Rattle.block_reader.specs.declared.descriptors.Flat.TheVariants.{Func, Struct, Interface, Instance, Union}
use Rattle.block_reader.specs.declared.declarations.ReceiverParts.{ReceiverParts}
use Rattle.block_reader.specs.declared.declarations.DeclParts.{DeclParts}
use Rattle.block_reader.specs.declared.declarations.DeclParts.TheVariants as decls
use Rattle.block_reader.specs.Spelled.{embedded_spelled}
use Rattle.block_reader.specs.Parts.{types_spelled, param_spelled, sig_spelled, field_spelled, method_spelled, term_spelled, flat_spelled, receiver_spelled, form_spelled}
use Rattle.decl_reader.specs.Shapes.{param_shape, sig_shape, field_shape, method_shape, term_shape, element_type, flat_shape}
use Rattle.decl_reader.specs.Forms.{receiver_shape, decl_form}

-- lists that are mapped three times, and once or twice
thrice : {A B C D : Type 0} (f : A → B) (g : B → C) (h : C → D) (l : A → D) → ((x : A) → h (g (f x)) ≡ l x) → (xs : List A) → map h (map g (map f xs)) ≡ map l xs
thrice f g h l each [] = refl
thrice f g h l each (x ∷ xs) = ap₂ (λ y ys. y ∷ ys) (each x) (thrice f g h l each xs)

both : {A B C D E : Type 0} (f : A → B) (g : B → C) (h : C → D) (k : A → E) (l : E → D) → ((x : A) → h (g (f x)) ≡ l (k x)) → (xs : List A) → map h (map g (map f xs)) ≡ map l (map k xs)
both f g h k l each [] = refl
both f g h k l each (x ∷ xs) = ap₂ (λ y ys. y ∷ ys) (each x) (both f g h k l each xs)

module _ (t : ℕ → Tree) where
  abbrev of_type : SpelledType → Tree
  of_type type = t type.number

  types_meant : (numbers : List ℕ) → map (λ (x : Tree). x) (map of_type (types_spelled numbers)) ≡ map t numbers
  types_meant numbers = thrice without_pos of_type (λ (x : Tree). x) t (λ n. refl) numbers

  abbrev param_typed : ParamOf SpelledPos SpelledText SpelledType → ParamOf SpelledPos SpelledText Tree
  param_typed x = record { pos = x.pos; name = x.name; type = t x.type.number }

  abbrev param_bare : ParamOf SpelledPos SpelledText Tree → ParamOf Pos Text Tree
  param_bare x = record { pos = x.pos.pos; name = x.name.text; type = x.type }

  abbrev param_named : ParamOf Pos Text ℕ → ParamOf Pos Text Tree
  param_named x = record { pos = x.pos; name = x.name; type = t x.type }

  params_meant : (xs : List Param) → map param_bare (map param_typed (map param_spelled xs)) ≡ map param_named (map param_shape xs)
  params_meant xs = both param_spelled param_typed param_bare param_shape param_named (λ x. refl) xs

  abbrev sig_typed : SigOf SpelledPos SpelledText SpelledType → SigOf SpelledPos SpelledText Tree
  sig_typed x = sig_map (λ (p : SpelledPos). p) (λ (s : SpelledText). s) (λ (s : SpelledText). s) of_type x

  abbrev sig_bare : SigOf SpelledPos SpelledText Tree → SigOf Pos Text Tree
  sig_bare x = sig_map pos_meant text_meant text_meant (λ (x : Tree). x) x

  abbrev sig_named : SigOf Pos Text ℕ → SigOf Pos Text Tree
  sig_named x = sig_map (λ (p : Pos). p) (λ (s : Text). s) (λ (s : Text). s) t x

  sig_meant : (x : Signature) → sig_bare (sig_typed (sig_spelled x)) ≡ sig_named (sig_shape x)
  sig_meant x =
      let params = params_meant x.params.items in
      let results = params_meant x.results.items in
      λ i. record { params = params i; results = results i; variadic = x.variadic }

  abbrev field_typed : FieldOf SpelledPos SpelledText SpelledPath SpelledType → FieldOf SpelledPos SpelledText SpelledPath Tree
  field_typed x = field_map (λ (p : SpelledPos). p) (λ (s : SpelledText). s) (λ (p : SpelledPath). p) of_type x

  abbrev field_bare : FieldOf SpelledPos SpelledText SpelledPath Tree → FieldOf Pos Text Text Tree
  field_bare x = field_map pos_meant text_meant path_meant (λ (x : Tree). x) x

  abbrev field_named : FieldOf Pos Text Text ℕ → FieldOf Pos Text Text Tree
  field_named x = field_map (λ (p : Pos). p) (λ (s : Text). s) (λ (s : Text). s) t x

  fields_meant : (xs : List FieldParts) → map field_bare (map field_typed (map field_spelled xs)) ≡ map field_named (map field_shape xs)
  fields_meant xs = both field_spelled field_typed field_bare field_shape field_named (λ x. refl) xs

  abbrev method_typed : MethodOf SpelledPos SpelledText SpelledPath SpelledType → MethodOf SpelledPos SpelledText SpelledPath Tree
  method_typed x = method_map (λ (p : SpelledPos). p) (λ (s : SpelledText). s) (λ (p : SpelledPath). p) of_type x

  abbrev method_bare : MethodOf SpelledPos SpelledText SpelledPath Tree → MethodOf Pos Text Text Tree
  method_bare x = method_map pos_meant text_meant path_meant (λ (x : Tree). x) x

  abbrev method_named : MethodOf Pos Text Text ℕ → MethodOf Pos Text Text Tree
  method_named x = method_map (λ (p : Pos). p) (λ (s : Text). s) (λ (s : Text). s) t x

  method_meant : (x : MethodParts) → method_bare (method_typed (method_spelled x)) ≡ method_named (method_shape x)
  method_meant x = let sig = sig_meant x.signature in λ i. record { origin = record { text = []; path = [] }; pos = x.pos.pos; name = x.name.text; sig = sig i }

  methods_meant : (xs : List MethodParts) → map method_bare (map method_typed (map method_spelled xs)) ≡ map method_named (map method_shape xs)
  methods_meant xs = both method_spelled method_typed method_bare method_shape method_named method_meant xs

  abbrev term_typed : TermOf SpelledType → TermOf Tree
  term_typed x = record { tilde = x.tilde; type = t x.type.number }

  abbrev term_bare : TermOf Tree → TermOf Tree
  term_bare x = record { tilde = x.tilde; type = x.type }

  abbrev term_named : TermOf ℕ → TermOf Tree
  term_named x = record { tilde = x.tilde; type = t x.type }

  terms_meant : (xs : List TermParts) → map term_bare (map term_typed (map term_spelled xs)) ≡ map term_named (map term_shape xs)
  terms_meant xs = both term_spelled term_typed term_bare term_shape term_named (λ x. refl) xs

  elements_meant : (xs : List Embedded) → map (λ (x : Tree). x) (map of_type (map embedded_spelled xs)) ≡ map t (map element_type xs)
  elements_meant xs = both embedded_spelled of_type (λ (x : Tree). x) element_type t (λ x. refl) xs

  pub level_is : (x : Flat) → meant (retype of_type (flat_spelled x)) ≡ retype t (flat_shape x)
  level_is (Func home signature) = let sig = sig_meant signature in λ i. func_of home.path (sig i)
  level_is (Struct home fields) = let fields = fields_meant fields.items in λ i. struct_of home.path (fields i)
  level_is (Interface home embedded methods) =
      let elements = elements_meant embedded.items in
      let own = methods_meant methods.items in
      λ i. interface_of home.path (elements i) (own i)
  level_is (Instance pos base arguments) = let types = types_meant arguments.items in λ i. instance_of (t base) (types i)
  level_is (Union terms) = let terms = terms_meant terms.items in λ i. union_of (terms i)
  level_is _ = refl

  abbrev receiver_typed : ReceiverOf SpelledPos SpelledText SpelledType → ReceiverOf SpelledPos SpelledText Tree
  receiver_typed x = receiver_map (λ (p : SpelledPos). p) (λ (s : SpelledText). s) of_type x

  abbrev receiver_bare : ReceiverOf SpelledPos SpelledText Tree → ReceiverOf Pos Text Tree
  receiver_bare x = receiver_map pos_meant text_meant (λ (x : Tree). x) x

  abbrev receiver_named : ReceiverOf Pos Text ℕ → ReceiverOf Pos Text Tree
  receiver_named x = receiver_map (λ (p : Pos). p) (λ (s : Text). s) t x

  receiver_meant : (x : ReceiverParts) → receiver_bare (receiver_typed (receiver_spelled x)) ≡ receiver_named (receiver_shape x)
  receiver_meant x =
      let sig = sig_meant x.signature in
      λ i. record { pos = x.pos.pos; name = x.name.text; recv = record { pos = x.recv.pos.pos; name = x.recv.name.text; type = t x.recv.ty }; sig = sig i }

  receivers_meant : (xs : List ReceiverParts) → map receiver_bare (map receiver_typed (map receiver_spelled xs)) ≡ map receiver_named (map receiver_shape xs)
  receivers_meant xs = both receiver_spelled receiver_typed receiver_bare receiver_shape receiver_named receiver_meant xs

  pub form_is : (parts : DeclParts) → form_meant (form_map (λ pos. pos) (λ text. text) of_type (form_spelled parts)) ≡ form_map (λ (p : Pos). p) (λ (s : Text). s) t (decl_form parts)
  form_is (decls.Func pos tparams signature) =
      let types = types_meant tparams.items in
      let sig = sig_meant signature in
      λ i. function_of pos.pos (types i) (sig i)
  form_is (decls.Defined pos tparams underlying methods) =
      let types = types_meant tparams.items in
      let own = receivers_meant methods.items in
      λ i. defined_of pos.pos (types i) (t underlying) (own i)
  form_is (decls.Alias pos tparams ty) = let types = types_meant tparams.items in λ i. renamed_of pos.pos (types i) (t ty)
  form_is _ = refl

-- the type that a descriptor spells
pub tree_is : (version : ℕ) (done : Table) (x : Flat) → tree_spelled version done (flat_spelled x) ≡ tree_of (retype (type_named version done) (flat_shape x))
tree_is version done x = ap tree_of (level_is (type_named version done) x)
