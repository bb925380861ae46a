-- Identity of types (the Go specification, Type identity), which knows no order of comparing: down to a depth, by cases
-- on the types that stand at the heads. Types that lead to themselves are identical where they are down to every depth.
use Rattle.std.specs.Prelude.{◌≡◌, ◌⊎◌, ℕ, zero, suc, List, [], ◌∷◌, true, Ok, IsOkAnd}
use Rattle.go_values.specs.declared.positions.Pos.{Pos}
use Rattle.code_tables.specs.declared.predeclared.Basic.TheVariants.{Any}
use Rattle.type_terms.specs.Shapes.{ParamOf, SigOf, FieldOf}
use Rattle.type_terms.specs.Trees.{Text, Tree, predeclared, named, parameter, pointer, slice, array, chan, map_type}
use Rattle.type_terms.specs.Trees.{func, struct, interface, instance, union, type_list, param_list, field_list}
use Rattle.environments.specs.Exported.{exported}
use Rattle.type_sets.specs.Interfaces.{SetMethod}
use Rattle.type_sets.specs.Covering.{aliased}
use Rattle.type_sets.specs.TypeSets.{TypeSet}
use Rattle.type_alike.specs.Sides.{Sides, expanded_in}
use Rattle.type_alike.specs.Sets.{signature, terms_alike, set_in}

-- as many on each side, and this holds of each two in the same place
abbrev pub InStep : {X : Type 0} → (X → X → Type 0) → List X → List X → Type 0
InStep Holds [] [] = Unit {0}
InStep Holds (x ∷ xs) (y ∷ ys) = Holds x y × InStep Holds xs ys
InStep Holds _ _ = ⊥

-- instances are of one defined type
abbrev pub SameBase : Tree → Tree → Type 0
SameBase (named p) (named q) = p ≡ q
SameBase _ _ = ⊥

-- S is what holds of the parts.
module _ (S : Tree → Tree → Type 0) where
  -- as many parameters and results, and both variadic or neither; names don't count
  pub record IsSameSig (x y : SigOf Pos Text Tree) : Type 0 where
    pub params : InStep (λ (p q : ParamOf Pos Text Tree). S p.type q.type) x.params y.params
    pub results : InStep (λ (p q : ParamOf Pos Text Tree). S p.type q.type) x.results y.results
    pub variadic : x.variadic ≡ y.variadic

  -- the same name, embedding and tag, and for a name that isn't exported the same home of the struct
  pub record IsSameField (home other : Text) (x y : FieldOf Pos Text Text Tree) : Type 0 where
    pub name : x.name ≡ y.name
    pub embedded : x.embedded ≡ y.embedded
    pub tag : x.tag ≡ y.tag
    pub homes : (exported x.name ≡ true) ⊎ (home ≡ other)
    pub type : S x.type y.type

  -- the same key, and signatures that are the same as types
  pub record IsSameMethod (x y : SetMethod) : Type 0 where
    pub name : x.name ≡ y.name
    pub home : x.home ≡ y.home
    pub sig : S (signature x.sig) (signature y.sig)

  -- The methods of a type set stand in the order of their keys, each once.
  pub record IsSameSet (sides : Sides) (s t : TypeSet) : Type 0 where
    pub methods : InStep IsSameMethod s.methods t.methods
    pub flag : s.flag ≡ t.flag
    pub terms : terms_alike sides s.terms t.terms ≡ Ok true

  -- both types have a type set, and these are the same
  abbrev pub SameSets : Sides → Tree → Tree → Type 0
  SameSets sides x y = IsOkAnd (set_in sides.left x) (λ s. IsOkAnd (set_in sides.right y) (IsSameSet sides s))

  -- Two types with no alias at the head. The empty interface may be written as `any`.
  abbrev pub Cases : Sides → Tree → Tree → Type 0
  Cases sides (predeclared x) (predeclared y) = aliased x ≡ aliased y
  Cases sides (predeclared x) (interface home embedded own) =
      (x ≡ Any) × SameSets sides (predeclared x) (interface home embedded own)
  Cases sides (interface home embedded own) (predeclared y) =
      (y ≡ Any) × SameSets sides (interface home embedded own) (predeclared y)
  Cases sides (interface home embedded own) (interface home' embedded' own') =
      SameSets sides (interface home embedded own) (interface home' embedded' own')
  Cases sides (union xs) (union ys) = SameSets sides (union xs) (union ys)
  Cases sides (named p) (named q) = p ≡ q
  Cases sides (parameter p) (parameter q) = p ≡ q
  Cases sides (pointer x) (pointer y) = S x y
  Cases sides (slice x) (slice y) = S x y
  Cases sides (array n x) (array m y) = (n ≡ m) × S x y
  Cases sides (chan d x) (chan e y) = (d ≡ e) × S x y
  Cases sides (map_type k x) (map_type l y) = S k l × S x y
  Cases sides (func home ins outs flag) (func home' ins' outs' flag') =
      IsSameSig (record { params = param_list ins; results = param_list outs; variadic = flag })
      (record { params = param_list ins'; results = param_list outs'; variadic = flag' })
  Cases sides (struct home xs) (struct other ys) = InStep (IsSameField home other) (field_list xs) (field_list ys)
  Cases sides (instance base xs) (instance other ys) = SameBase base other × InStep S (type_list xs) (type_list ys)
  Cases sides _ _ = ⊥

-- down to a depth, on the types that aliases at the heads stand for
abbrev pub Id : Sides → ℕ → Tree → Tree → Type 0
Id sides zero a b = Unit {0}
Id sides (suc n) a b =
    IsOkAnd (expanded_in sides.left a) (λ x. IsOkAnd (expanded_in sides.right b) (Cases (Id sides n) sides x))

abbrev pub Identical : Sides → Tree → Tree → Type 0
Identical sides a b = (n : ℕ) → Id sides n a b
