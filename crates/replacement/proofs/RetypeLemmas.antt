-- A shape whose types are moved twice.
use Rattle.std.proofs.Common.{◌≡◌, List, [], ◌∷◌, map, refl, ap}
use Rattle.type_terms.specs.Shapes.{ParamOf, SigOf, MethodOf, Shape, func_of, struct_of, interface_of, instance_of, union_of, param_map, sig_map, method_map, retype}

pub map_twice : {A B C : Type 0} (f : A → B) (g : B → C) (h : A → C) → ((x : A) → g (f x) ≡ h x) → (xs : List A) → map g (map f xs) ≡ map h xs
map_twice f g h each [] = refl
map_twice f g h each (x ∷ xs) = λ i. each x i ∷ map_twice f g h each xs i

module _ {R R' R'' : Type 0} (f : R → R') (g : R' → R'') (P S Q : Type 0) where
  pub params_twice : (xs : List (ParamOf P S R)) → map (param_map (λ (x : P). x) (λ (x : S). x) (λ (x : Q). x) g) (map (param_map (λ (x : P). x) (λ (x : S). x) (λ (x : Q). x) f) xs) ≡ map (param_map (λ (x : P). x) (λ (x : S). x) (λ (x : Q). x) (λ x. g (f x))) xs
  params_twice = map_twice (param_map (λ (x : P). x) (λ (x : S). x) (λ (x : Q). x) f) (param_map (λ (x : P). x) (λ (x : S). x) (λ (x : Q). x) g) (param_map (λ (x : P). x) (λ (x : S). x) (λ (x : Q). x) (λ x. g (f x))) (λ x. refl)

  pub sig_twice : (x : SigOf P S R) → sig_map (λ (x : P). x) (λ (x : S). x) (λ (x : Q). x) g (sig_map (λ (x : P). x) (λ (x : S). x) (λ (x : Q). x) f x) ≡ sig_map (λ (x : P). x) (λ (x : S). x) (λ (x : Q). x) (λ x. g (f x)) x
  sig_twice x = λ i. record { params = params_twice x.params i; results = params_twice x.results i; variadic = x.variadic }

  method_twice : (x : MethodOf P S Q R) → method_map (λ (x : P). x) (λ (x : S). x) (λ (x : Q). x) g (method_map (λ (x : P). x) (λ (x : S). x) (λ (x : Q). x) f x) ≡ method_map (λ (x : P). x) (λ (x : S). x) (λ (x : Q). x) (λ x. g (f x)) x
  method_twice x = λ i. record { origin = x.origin; pos = x.pos; name = x.name; sig = sig_twice x.sig i }

  pub retype_twice : (shape : Shape P S Q R) → retype g (retype f shape) ≡ retype (λ x. g (f x)) shape
  retype_twice (func_of home sig) = ap (func_of home) (sig_twice sig)
  retype_twice (struct_of home fields) = ap (struct_of home) (map_twice _ _ _ (λ x. refl) fields)
  retype_twice (interface_of home embedded methods) =
      let types : map g (map f embedded) ≡ map (λ x. g (f x)) embedded = map_twice f g (λ x. g (f x)) (λ x. refl) embedded in
      let rest = map_twice (method_map (λ (x : P). x) (λ (x : S). x) (λ (x : Q). x) f) (method_map (λ (x : P). x) (λ (x : S). x) (λ (x : Q). x) g) (method_map (λ (x : P). x) (λ (x : S). x) (λ (x : Q). x) (λ x. g (f x))) method_twice methods in
      λ i. interface_of home (types i) (rest i)
  retype_twice (instance_of base args) = ap (instance_of (g (f base))) (map_twice f g (λ x. g (f x)) (λ x. refl) args)
  retype_twice (union_of terms) = ap union_of (map_twice _ _ _ (λ x. refl) terms)
  retype_twice _ = refl
