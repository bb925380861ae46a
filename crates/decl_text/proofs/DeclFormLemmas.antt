-- A declaration whose types are replaced.
use Rattle.std.proofs.Common.{◌≡◌, map, refl, ap}
use Rattle.type_terms.specs.Shapes.{param_map}
use Rattle.type_terms.specs.Declarations.{ReceiverOf, Form, function_of, defined_of, renamed_of, receiver_map, form_map}
use Rattle.decl_text.proofs.RetypeLemmas.{map_twice, sig_twice}

module _ {R R' R'' : Type 0} (f : R → R') (g : R' → R'') (P S : Type 0) where
  receiver_twice : (x : ReceiverOf P S R) → receiver_map (λ (x : P). x) (λ (x : S). x) g (receiver_map (λ (x : P). x) (λ (x : S). x) f x) ≡ receiver_map (λ (x : P). x) (λ (x : S). x) (λ x. g (f x)) x
  receiver_twice x = λ i. record { pos = x.pos; name = x.name; recv = param_map (λ (x : P). x) (λ (x : S). x) (λ (x : S). x) (λ x. g (f x)) x.recv; sig = sig_twice f g P S S x.sig i }

  -- replaced twice
  pub form_twice : (form : Form P S R) → form_map (λ (x : P). x) (λ (x : S). x) g (form_map (λ (x : P). x) (λ (x : S). x) f form) ≡ form_map (λ (x : P). x) (λ (x : S). x) (λ x. g (f x)) form
  form_twice (function_of pos tparams sig) =
      let types : map g (map f tparams) ≡ map (λ x. g (f x)) tparams = map_twice f g (λ x. g (f x)) (λ x. refl) tparams in
      let parts = sig_twice f g P S S sig in
      λ i. function_of pos (types i) (parts i)
  form_twice (defined_of pos tparams underlying methods) =
      let types : map g (map f tparams) ≡ map (λ x. g (f x)) tparams = map_twice f g (λ x. g (f x)) (λ x. refl) tparams in
      let parts = map_twice (receiver_map (λ (x : P). x) (λ (x : S). x) f) (receiver_map (λ (x : P). x) (λ (x : S). x) g) (receiver_map (λ (x : P). x) (λ (x : S). x) (λ x. g (f x))) receiver_twice methods in
      λ i. defined_of pos (types i) (g (f underlying)) (parts i)
  form_twice (renamed_of pos tparams type) = ap (λ types. renamed_of pos types (g (f type))) (map_twice f g (λ x. g (f x)) (λ x. refl) tparams)
  form_twice _ = refl
