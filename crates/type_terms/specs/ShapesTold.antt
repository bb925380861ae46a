-- A replacement of the types that tells apart what stands in two shapes tells the shapes apart.
use Rattle.std.proofs.Common.{◌≡◌, List, [], ◌∷◌, map, refl, ap}
use Rattle.std.specs.List.{flat_map, AllByRecursion}
use Rattle.type_terms.specs.Shapes.{ParamOf, SigOf, FieldOf, MethodOf, TermOf, Shape, predeclared_of, named_of}
use Rattle.type_terms.specs.Shapes.{parameter_of, alias_of, pointer_of, slice_of, array_of, chan_of, map_of, func_of}
use Rattle.type_terms.specs.Shapes.{struct_of, interface_of, instance_of, union_of, param_map, sig_map, field_map}
use Rattle.type_terms.specs.Shapes.{method_map, term_map, param_types, sig_types, field_types, method_types, term_types}
use Rattle.type_terms.specs.Shapes.{shape_types, retype}
use Rattle.type_terms.specs.Replaced.{all_left, all_right, map_told}

module _ {R T : Type 0} (f : R → T) (L M : R → Type 0) (tells : (x y : R) → L x → M y → f x ≡ f y
    → x ≡ y) (P S Q : Type 0) where
  types_told : (xs ys : List R) → AllByRecursion L xs → AllByRecursion M ys → map f xs ≡ map f ys → xs ≡ ys
  types_told [] [] l m e = refl
  types_told [] (y ∷ ys) l m e = (cc)
  types_told (x ∷ xs) [] l m e = (cc)
  types_told (x ∷ xs) (y ∷ ys) l m e =
      let heads : f x ≡ f y = (cc) in
      let tails : map f xs ≡ map f ys = (cc) in
      let head : x ≡ y = tells x y l.0 m.0 heads in
      let tail : xs ≡ ys = types_told xs ys l.1 m.1 tails in
      (cc)

  params_told : (xs ys : List (ParamOf P S R)) → AllByRecursion L (flat_map param_types xs)
      → AllByRecursion M (flat_map param_types ys)
      → map (param_map (λ (x : P). x) (λ (x : S). x) (λ (x : Q). x) f) xs
      ≡ map (param_map (λ (x : P). x) (λ (x : S). x) (λ (x : Q). x) f) ys → xs ≡ ys
  params_told =
      map_told (param_map (λ (x : P). x) (λ (x : S). x) (λ (x : Q). x) f) param_types L M
      (λ x y l m e.
      let type = tells x.type y.type l.0 m.0 (ap (λ (a : ParamOf P S T). a.type) e) in
      λ i. record { pos = (e i).pos; name = (e i).name; type = type i })

  sig_told : (x y : SigOf P S R) → AllByRecursion L (sig_types x) → AllByRecursion M (sig_types y)
      → sig_map (λ (x : P). x) (λ (x : S). x) (λ (x : Q). x) f x
      ≡ sig_map (λ (x : P). x) (λ (x : S). x) (λ (x : Q). x) f y → x ≡ y
  sig_told x y l m e =
      let params = params_told x.params y.params
      (all_left L (flat_map param_types x.params) (flat_map param_types x.results) l)
      (all_left M (flat_map param_types y.params) (flat_map param_types y.results) m)
      (ap (λ (a : SigOf P S T). a.params) e) in
      let results = params_told x.results y.results
      (all_right L (flat_map param_types x.params) (flat_map param_types x.results) l)
      (all_right M (flat_map param_types y.params) (flat_map param_types y.results) m)
      (ap (λ (a : SigOf P S T). a.results) e) in
      λ i. record { params = params i; results = results i; variadic = (e i).variadic }

  fields_told : (xs ys : List (FieldOf P S Q R)) → AllByRecursion L (flat_map field_types xs)
      → AllByRecursion M (flat_map field_types ys)
      → map (field_map (λ x. x) (λ x. x) (λ x. x) f) xs ≡ map (field_map (λ x. x) (λ x. x) (λ x. x) f) ys → xs ≡ ys
  fields_told =
      map_told (field_map (λ x. x) (λ x. x) (λ x. x) f) field_types L M
      (λ x y l m e.
      let type = tells x.type y.type l.0 m.0 (ap (λ (a : FieldOf P S Q T). a.type) e) in
      λ i. record {
        origin = (e i).origin;
        pos = (e i).pos;
        name = (e i).name;
        type = type i;
        embedded =
            (e i).embedded;
        tag = (e i).tag;
      })

  methods_told : (xs ys : List (MethodOf P S Q R)) → AllByRecursion L (flat_map method_types xs)
      → AllByRecursion M (flat_map method_types ys)
      → map (method_map (λ x. x) (λ x. x) (λ x. x) f) xs ≡ map (method_map (λ x. x) (λ x. x) (λ x. x) f) ys → xs ≡ ys
  methods_told =
      map_told (method_map (λ x. x) (λ x. x) (λ x. x) f) method_types L M
      (λ x y l m e.
      let sig = sig_told x.sig y.sig l m (ap (λ (a : MethodOf P S Q T). a.sig) e) in
      λ i. record { origin = (e i).origin; pos = (e i).pos; name = (e i).name; sig = sig i })

  terms_told : (xs ys : List (TermOf R)) → AllByRecursion L (flat_map term_types xs)
      → AllByRecursion M (flat_map term_types ys)
      → map (term_map (λ (x : P). x) (λ (x : S). x) (λ (x : Q). x) f) xs
      ≡ map (term_map (λ (x : P). x) (λ (x : S). x) (λ (x : Q). x) f) ys → xs ≡ ys
  terms_told =
      map_told (term_map (λ (x : P). x) (λ (x : S). x) (λ (x : Q). x) f) term_types L M
      (λ x y l m e.
      let type = tells x.type y.type l.0 m.0 (ap (λ (a : TermOf T). a.type) e) in
      λ i. record { tilde = (e i).tilde; type = type i })

  pub retype_told : (x y : Shape P S Q R) → AllByRecursion L (shape_types x) → AllByRecursion M (shape_types y)
      → retype f x ≡ retype f y → x ≡ y
  retype_told (predeclared_of x) (predeclared_of y) l m e = (cc)
  retype_told (named_of x h) (named_of y g) l m e = (cc)
  retype_told (parameter_of x h) (parameter_of y g) l m e = (cc)
  retype_told (alias_of x h) (alias_of y g) l m e = (cc)
  retype_told (pointer_of x) (pointer_of y) l m e = let a : f x ≡ f y = (cc) in ap pointer_of (tells x y l.0 m.0 a)
  retype_told (slice_of x) (slice_of y) l m e = let a : f x ≡ f y = (cc) in ap slice_of (tells x y l.0 m.0 a)
  retype_told (array_of n x) (array_of k y) l m e = let a : f x ≡ f y = (cc) in let b : x
      ≡ y = tells x y l.0 m.0 a in (cc)
  retype_told (chan_of d x) (chan_of c y) l m e = let a : f x ≡ f y = (cc) in let b : x
      ≡ y = tells x y l.0 m.0 a in (cc)
  retype_told (map_of k x) (map_of j y) l m e =
      let a : f x ≡ f y = (cc) in
      let b : f k ≡ f j = (cc) in
      let c : x ≡ y = tells x y l.1.0 m.1.0 a in
      let d : k ≡ j = tells k j l.0 m.0 b in
      (cc)
  retype_told (func_of h x) (func_of g y) l m e =
      let a : sig_map (λ (x : P). x) (λ (x : S). x) (λ (x : Q). x) f x
      ≡ sig_map (λ (x : P). x) (λ (x : S). x) (λ (x : Q). x) f y = (cc) in
      let b : x ≡ y = sig_told x y l m a in
      let c : h ≡ g = (cc) in
      λ i. func_of (c i) (b i)
  retype_told (struct_of h x) (struct_of g y) l m e =
      let a : map (field_map (λ (x : P). x) (λ (x : S). x) (λ (x : Q). x) f) x
      ≡ map (field_map (λ (x : P). x) (λ (x : S). x) (λ (x : Q). x) f) y = (cc) in
      let b : x ≡ y = fields_told x y l m a in
      let c : h ≡ g = (cc) in
      λ i. struct_of (c i) (b i)
  retype_told (interface_of h ts x) (interface_of g us y) l m e =
      let a : map (method_map (λ (x : P). x) (λ (x : S). x) (λ (x : Q). x) f) x
      ≡ map (method_map (λ (x : P). x) (λ (x : S). x) (λ (x : Q). x) f) y = (cc) in
      let b : map f ts ≡ map f us = (cc) in
      let c : h ≡ g = (cc) in
      let d : ts ≡ us = types_told ts us (all_left L ts (flat_map method_types x) l)
      (all_left M us (flat_map method_types y) m) b in
      let k : x ≡ y = methods_told x y (all_right L ts (flat_map method_types x) l)
      (all_right M us (flat_map method_types y) m) a in
      λ i. interface_of (c i) (d i) (k i)
  retype_told (instance_of x ts) (instance_of y us) l m e =
      let a : f x ≡ f y = (cc) in
      let b : map f ts ≡ map f us = (cc) in
      let c : ts ≡ us = types_told ts us (all_left L ts (x ∷ []) l) (all_left M us (y ∷ []) m) b in
      let d : x ≡ y = tells x y (all_right L ts (x ∷ []) l).0 (all_right M us (y ∷ []) m).0 a in
      (cc)
  retype_told (union_of x) (union_of y) l m e =
      let a : map (term_map (λ (x : P). x) (λ (x : S). x) (λ (x : Q). x) f) x
      ≡ map (term_map (λ (x : P). x) (λ (x : S). x) (λ (x : Q). x) f) y = (cc) in
      ap union_of (terms_told x y l m a)
  retype_told _ _ l m e = (cc)
