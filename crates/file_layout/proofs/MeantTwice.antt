-- What is meant, where types are put in place first.
use Rattle.std.proofs.Common.{◌≡◌, List, map, refl, ap, ap₂}
use Rattle.type_terms.specs.Shapes.{ParamOf, SigOf, MethodOf, func_of, struct_of, interface_of, instance_of, union_of, param_map, sig_map, method_map, shape_map, retype}
use Rattle.type_terms.specs.Declarations.{ReceiverOf, function_of, defined_of, renamed_of, receiver_map, form_map}
use Rattle.decl_spelling.specs.Spelled.{SpelledText, SpelledPath, SpelledPos, SpelledShape, SpelledForm, pos_meant, text_meant, path_meant, meant, form_meant}
use Rattle.decl_spelling.proofs.MapLemmas.{map_twice}

module _ {R R' : Type 0} (f : R → R') where
  module _ {Q Q' : Type 0} (q : Q → Q') where
    params_twice : (xs : List (ParamOf SpelledPos SpelledText R))
        → map (param_map pos_meant text_meant q (λ (t : R'). t)) (map (param_map (λ (p : SpelledPos). p) (λ (s : SpelledText). s) (λ (x : Q). x) f) xs) ≡ map (param_map pos_meant text_meant q f) xs
    params_twice = map_twice _ _ _ (λ x. refl)

    sig_twice : (x : SigOf SpelledPos SpelledText R)
        → sig_map pos_meant text_meant q (λ (t : R'). t) (sig_map (λ (p : SpelledPos). p) (λ (s : SpelledText). s) (λ (x : Q). x) f x) ≡ sig_map pos_meant text_meant q f x
    sig_twice x =
        let params = params_twice x.params in
        let results = params_twice x.results in
        λ i. record { params = params i; results = results i; variadic = x.variadic }

  method_twice : (x : MethodOf SpelledPos SpelledText SpelledPath R)
      → method_map pos_meant text_meant path_meant (λ (t : R'). t) (method_map (λ (p : SpelledPos). p) (λ (s : SpelledText). s) (λ (x : SpelledPath). x) f x) ≡ method_map pos_meant text_meant path_meant f x
  method_twice x =
      let sig = sig_twice path_meant x.sig in
      λ i. record { origin = record { text = text_meant x.origin.text; path = path_meant x.origin.path }; pos = pos_meant x.pos; name = text_meant x.name; sig = sig i }

  pub meant_twice : (shape : SpelledShape R) → meant (retype f shape) ≡ shape_map pos_meant text_meant path_meant f shape
  meant_twice (func_of home sig) = ap (func_of home.path) (sig_twice path_meant sig)
  meant_twice (struct_of home fields) = ap (struct_of home.path) (map_twice _ _ _ (λ x. refl) fields)
  meant_twice (interface_of home embedded methods) = ap₂ (interface_of home.path) (map_twice _ _ _ (λ x. refl) embedded) (map_twice _ _ _ method_twice methods)
  meant_twice (instance_of base args) = ap (instance_of (f base)) (map_twice _ _ _ (λ x. refl) args)
  meant_twice (union_of terms) = ap union_of (map_twice _ _ _ (λ x. refl) terms)
  meant_twice _ = refl

  receiver_twice : (x : ReceiverOf SpelledPos SpelledText R)
      → receiver_map pos_meant text_meant (λ (t : R'). t) (receiver_map (λ (p : SpelledPos). p) (λ (s : SpelledText). s) f x) ≡ receiver_map pos_meant text_meant f x
  receiver_twice x =
      let sig = sig_twice text_meant x.sig in
      λ i. record { pos = pos_meant x.pos; name = text_meant x.name; recv = record { pos = pos_meant x.recv.pos; name = text_meant x.recv.name; type = f x.recv.type }; sig = sig i }

  pub form_twice : (form : SpelledForm R) → form_meant (form_map (λ (p : SpelledPos). p) (λ (s : SpelledText). s) f form) ≡ form_map pos_meant text_meant f form
  form_twice (function_of pos tparams sig) = ap₂ (function_of pos.pos) (map_twice _ _ _ (λ x. refl) tparams) (sig_twice text_meant sig)
  form_twice (defined_of pos tparams underlying methods) = ap₂ (λ ts ms. defined_of pos.pos ts (f underlying) ms) (map_twice _ _ _ (λ x. refl) tparams) (map_twice _ _ _ receiver_twice methods)
  form_twice (renamed_of pos tparams type) = ap (λ ts. renamed_of pos.pos ts (f type)) (map_twice _ _ _ (λ x. refl) tparams)
  form_twice _ = refl
