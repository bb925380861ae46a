-- Shapes and declarations whose types are replaced, and replaced again.
use Rattle.std.proofs.Common.{◌≡◌, List, map, refl, ap, ap₂}
use Rattle.type_terms.specs.Shapes.{ParamOf, SigOf, MethodOf, Shape, func_of, struct_of, interface_of, instance_of, union_of, param_map, sig_map, method_map, retype}
use Rattle.type_terms.specs.Declarations.{ReceiverOf, Form, function_of, defined_of, renamed_of, receiver_map, form_map}
use Rattle.decl_spelling.proofs.MapLemmas.{map_twice, map_same}

-- twice
module _ {R R' R'' : Type 0} (f : R → R') (g : R' → R'') (P S Q : Type 0) where
  params_twice : (xs : List (ParamOf P S R)) → map (param_map (λ (x : P). x) (λ (x : S). x) (λ (x : Q). x) g) (map (param_map (λ (x : P). x) (λ (x : S). x) (λ (x : Q). x) f) xs) ≡ map (param_map (λ (x : P). x) (λ (x : S). x) (λ (x : Q). x) (λ (x : R). g (f x))) xs
  params_twice = map_twice _ _ _ (λ x. refl)

  pub sig_twice : (x : SigOf P S R) → sig_map (λ (x : P). x) (λ (x : S). x) (λ (x : Q). x) g (sig_map (λ (x : P). x) (λ (x : S). x) (λ (x : Q). x) f x) ≡ sig_map (λ (x : P). x) (λ (x : S). x) (λ (x : Q). x) (λ (x : R). g (f x)) x
  sig_twice x = λ i. record { params = params_twice x.params i; results = params_twice x.results i; variadic = x.variadic }

  method_twice : (x : MethodOf P S Q R) → method_map (λ (x : P). x) (λ (x : S). x) (λ (x : Q). x) g (method_map (λ (x : P). x) (λ (x : S). x) (λ (x : Q). x) f x) ≡ method_map (λ (x : P). x) (λ (x : S). x) (λ (x : Q). x) (λ (x : R). g (f x)) x
  method_twice x = λ i. record { origin = x.origin; pos = x.pos; name = x.name; sig = sig_twice x.sig i }

  pub retype_twice : (shape : Shape P S Q R) → retype g (retype f shape) ≡ retype (λ (x : R). g (f x)) shape
  retype_twice (func_of home sig) = ap (func_of home) (sig_twice sig)
  retype_twice (struct_of home fields) = ap (struct_of home) (map_twice _ _ _ (λ x. refl) fields)
  retype_twice (interface_of home embedded methods) = ap₂ (interface_of home) (map_twice _ _ _ (λ x. refl) embedded) (map_twice _ _ _ method_twice methods)
  retype_twice (instance_of base args) = ap (instance_of (g (f base))) (map_twice _ _ _ (λ x. refl) args)
  retype_twice (union_of terms) = ap union_of (map_twice _ _ _ (λ x. refl) terms)
  retype_twice _ = refl

-- not at all
module _ {R : Type 0} (P S Q : Type 0) where
  params_same : (xs : List (ParamOf P S R)) → map (param_map (λ (x : P). x) (λ (x : S). x) (λ (x : Q). x) (λ (x : R). x)) xs ≡ xs
  params_same = map_same _ (λ x. refl)

  pub sig_same : (x : SigOf P S R) → sig_map (λ (x : P). x) (λ (x : S). x) (λ (x : Q). x) (λ (x : R). x) x ≡ x
  sig_same x = λ i. record { params = params_same x.params i; results = params_same x.results i; variadic = x.variadic }

  method_same : (x : MethodOf P S Q R) → method_map (λ (x : P). x) (λ (x : S). x) (λ (x : Q). x) (λ (x : R). x) x ≡ x
  method_same x = λ i. record { origin = x.origin; pos = x.pos; name = x.name; sig = sig_same x.sig i }

  pub retype_same : (shape : Shape P S Q R) → retype (λ (x : R). x) shape ≡ shape
  retype_same (func_of home sig) = ap (func_of home) (sig_same sig)
  retype_same (struct_of home fields) = ap (struct_of home) (map_same _ (λ x. refl) fields)
  retype_same (interface_of home embedded methods) = ap₂ (interface_of home) (map_same _ (λ x. refl) embedded) (map_same _ method_same methods)
  retype_same (instance_of base args) = ap (instance_of base) (map_same _ (λ x. refl) args)
  retype_same (union_of terms) = ap union_of (map_same _ (λ x. refl) terms)
  retype_same _ = refl

-- ---- declarations

module _ {R R' R'' : Type 0} (f : R → R') (g : R' → R'') (P S : Type 0) where
  pub receiver_twice : (x : ReceiverOf P S R) → receiver_map (λ (x : P). x) (λ (x : S). x) g (receiver_map (λ (x : P). x) (λ (x : S). x) f x) ≡ receiver_map (λ (x : P). x) (λ (x : S). x) (λ (x : R). g (f x)) x
  receiver_twice x = λ i. record { pos = x.pos; name = x.name; recv = record { pos = x.recv.pos; name = x.recv.name; type = g (f x.recv.type) }; sig = sig_twice f g P S S x.sig i }

  pub form_twice : (form : Form P S R) → form_map (λ (x : P). x) (λ (x : S). x) g (form_map (λ (x : P). x) (λ (x : S). x) f form) ≡ form_map (λ (x : P). x) (λ (x : S). x) (λ (x : R). g (f x)) form
  form_twice (function_of pos tparams sig) = ap₂ (function_of pos) (map_twice _ _ _ (λ x. refl) tparams) (sig_twice f g P S S sig)
  form_twice (defined_of pos tparams underlying methods) = ap₂ (λ ts ms. defined_of pos ts (g (f underlying)) ms) (map_twice _ _ _ (λ x. refl) tparams) (map_twice _ _ _ receiver_twice methods)
  form_twice (renamed_of pos tparams type) = ap (λ ts. renamed_of pos ts (g (f type))) (map_twice _ _ _ (λ x. refl) tparams)
  form_twice _ = refl

module _ {R : Type 0} (P S : Type 0) where
  pub receiver_same : (x : ReceiverOf P S R) → receiver_map (λ (x : P). x) (λ (x : S). x) (λ (x : R). x) x ≡ x
  receiver_same x = λ i. record { pos = x.pos; name = x.name; recv = x.recv; sig = sig_same P S S x.sig i }

  pub form_same : (form : Form P S R) → form_map (λ (x : P). x) (λ (x : S). x) (λ (x : R). x) form ≡ form
  form_same (function_of pos tparams sig) = ap₂ (function_of pos) (map_same _ (λ x. refl) tparams) (sig_same P S S sig)
  form_same (defined_of pos tparams underlying methods) = ap₂ (λ ts ms. defined_of pos ts underlying ms) (map_same _ (λ x. refl) tparams) (map_same _ receiver_same methods)
  form_same (renamed_of pos tparams type) = ap (λ ts. renamed_of pos ts type) (map_same _ (λ x. refl) tparams)
  form_same _ = refl
