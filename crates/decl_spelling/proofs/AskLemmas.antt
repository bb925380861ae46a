-- What the types that a block asks for say of the shape in which they stand.
use Rattle.std.proofs.Common.{◌≡◌, ℕ, List, [], ◌∷◌, ◌++◌, map, true, refl, sym, ◌∙◌, ap, subst}
use Rattle.std.specs.List.{AllByRecursion}
use Rattle.type_terms.specs.Shapes.{predeclared_of, named_of, parameter_of, alias_of, pointer_of, slice_of, array_of, chan_of, map_of, func_of, struct_of, interface_of, instance_of, union_of, shape_types, retype}
use Rattle.type_terms.specs.ShapeLaws.{shape_types_map}
use Rattle.type_terms.specs.Replaced.{all_left, all_right, all_append}
use Rattle.decl_spelling.specs.declared.mention.Mention.{Mention}
use Rattle.decl_spelling.specs.declared.mention.Demand.{Demand}
use Rattle.decl_spelling.specs.declared.mention.Demand.TheVariants.{Any, Base}
use Rattle.decl_spelling.specs.Sections.{Sections}
use Rattle.decl_spelling.specs.Spelled.{SpelledText, SpelledPath, SpelledPos, SpelledType, SpelledShape}
use Rattle.decl_spelling.specs.Reading.{Ahead}
use Rattle.decl_spelling.specs.Descriptors.{Flat}
use Rattle.decl_spelling.specs.Tables.{Table, type_named}
use Rattle.decl_spelling.specs.Descent.{meets}
use Rattle.decl_spelling.specs.Spelling.{Block, Known, Names, IsInstanceOf, number_of}
use Rattle.decl_spelling.specs.Asks.{Ask, ask_of, asking, shape_asks}
use Rattle.decl_spelling.proofs.Took.{Went, meets_unplaced}
use Rattle.decl_spelling.specs.KnownTypes.{IsKnown, IsAnswered}
use Rattle.decl_spelling.proofs.KnownTypeLemmas.{known_as}
use Rattle.decl_spelling.proofs.MapLemmas.{all_weaker, all_map, all_unmap}

-- what was read from the start of a block, and nothing before
pub asks_from : (a b : Ahead) (asks : List Ask) → a.mentions ≡ [] → Went a asks b → map ask_of b.mentions ≡ asks
asks_from a b asks none went = ap (map ask_of) (went.mentions ∙ ap (λ (ms : List Mention). ms ++ went.added) none) ∙ went.asked

-- ---- in a table

abbrev pub IsMet : Sections → Table → ℕ → Ask → Type 0
IsMet src done holder ask = IsKnown src done holder ask.0 × (meets ask.1 (type_named src.version done ask.0) ≡ true)

pub mentions_met : (src : Sections) (done : Table) (holder : ℕ) (ms : List Mention) (asks : List Ask) → map ask_of ms ≡ asks → AllByRecursion (IsAnswered src done holder) ms → AllByRecursion (IsMet src done holder) asks
mentions_met src done holder ms asks same all =
    let each : AllByRecursion (λ m. IsMet src done holder (ask_of m)) ms
    = all_weaker (IsAnswered src done holder) (λ m. IsMet src done holder (ask_of m)) (λ m answered. (answered.0, meets_unplaced m.asked (type_named src.version done m.value) ∙ answered.1)) ms all in
    subst (AllByRecursion (IsMet src done holder)) same (all_map (IsMet src done holder) ask_of ms each)

module _ (P : Ask → Type 0) (Q : SpelledType → Type 0) (each : (type : SpelledType) (asked : Demand) → P (type.number, asked) → Q type) where
  pub all_asking : (asked : Demand) (types : List SpelledType) → AllByRecursion P (asking asked types) → AllByRecursion Q types
  all_asking asked types all = all_weaker (λ type. P (type.number, asked)) Q (λ type. each type asked) types (all_unmap P (λ (type : SpelledType). (type.number, asked)) types all)

  pub shape_all : (x : Flat) → AllByRecursion P (shape_asks x) → AllByRecursion Q (shape_types x)
  shape_all (predeclared_of basic) all = tt
  shape_all (named_of name path) all = tt
  shape_all (parameter_of name path) all = tt
  shape_all (alias_of name path) all = tt
  shape_all (pointer_of type) all = (each type Any all.0, tt)
  shape_all (slice_of type) all = (each type Any all.0, tt)
  shape_all (array_of size type) all = (each type Any all.0, tt)
  shape_all (chan_of dir type) all = (each type Any all.0, tt)
  shape_all (map_of key type) all = (each key Any all.0, (each type Any all.1.0, tt))
  shape_all (func_of home sig) all = all_asking Any (shape_types (func_of home sig)) all
  shape_all (struct_of home fields) all = all_asking Any (shape_types (struct_of home fields)) all
  shape_all (interface_of home embedded methods) all = all_asking Any (shape_types (interface_of home embedded methods)) all
  shape_all (instance_of base args) all =
      all_append Q args (base ∷ []) (all_asking Any args (all_left P (asking Any args) ((base.number, Base) ∷ []) all)) (each base Base (all_right P (asking Any args) ((base.number, Base) ∷ []) all).0, tt)
  shape_all (union_of terms) all = let x : Flat = union_of terms in all_asking Any (shape_types x) all

-- the base of an instance is generic
pub base_met : (src : Sections) (done : Table) (holder : ℕ) (x : Flat) → AllByRecursion (IsMet src done holder) (shape_asks x) → IsInstanceOf (retype (known_as src done) x)
base_met src done holder (instance_of base args) all = (all_right (IsMet src done holder) (asking Any args) ((base.number, Base) ∷ []) all).0.1
base_met src done holder _ all = tt

-- ---- in a relation's table

-- the block's holder may name a type that it asks for
abbrev pub IsNamed : Sections → List Block → ℕ → Ask → Type 0
IsNamed src all holder ask = (x : Known) × Names src all holder x × (x.number ≡ ask.0) × (meets ask.1 x.tree ≡ true)

module _ (src : Sections) (all : List Block) (holder : ℕ) where
  pub asking_named : (asked : Demand) (xs : List Known) → AllByRecursion (λ x. Names src all holder x × (meets asked x.tree ≡ true)) xs → AllByRecursion (IsNamed src all holder) (asking asked (map number_of xs))
  asking_named asked xs named =
      let N : Ask → Type 0 = IsNamed src all holder in
      let each : AllByRecursion (λ (x : Known). N (x.number, asked)) xs
      = all_weaker (λ x. Names src all holder x × (meets asked x.tree ≡ true)) (λ (x : Known). N (x.number, asked)) (λ x known. (x, known.0, refl, known.1)) xs named in
      all_map N (λ (type : SpelledType). (type.number, asked)) (map number_of xs) (all_map (λ (type : SpelledType). N (type.number, asked)) number_of xs each)

  pub any_named : (xs : List Known) → AllByRecursion (Names src all holder) xs → AllByRecursion (IsNamed src all holder) (asking Any (map number_of xs))
  any_named xs named = asking_named Any xs (all_weaker (Names src all holder) (λ x. Names src all holder x × (meets Any x.tree ≡ true)) (λ x known. (known, refl)) xs named)

  of_types : (x : SpelledShape Known) → AllByRecursion (Names src all holder) (shape_types x) → AllByRecursion (IsNamed src all holder) (asking Any (shape_types (retype number_of x)))
  of_types x named =
      let types : shape_types (retype number_of x) ≡ map number_of (shape_types x) = shape_types_map (λ (x : SpelledPos). x) (λ (x : SpelledText). x) (λ (x : SpelledPath). x) number_of x in
      subst (λ (types : List SpelledType). AllByRecursion (IsNamed src all holder) (asking Any types)) (sym types) (any_named (shape_types x) named)

  pub shape_named : (x : SpelledShape Known) → AllByRecursion (Names src all holder) (shape_types x) → IsInstanceOf x → AllByRecursion (IsNamed src all holder) (shape_asks (retype number_of x))
  shape_named (predeclared_of basic) named generic = tt
  shape_named (named_of name path) named generic = tt
  shape_named (parameter_of name path) named generic = tt
  shape_named (alias_of name path) named generic = tt
  shape_named (pointer_of type) named generic = any_named (type ∷ []) named
  shape_named (slice_of type) named generic = any_named (type ∷ []) named
  shape_named (array_of size type) named generic = any_named (type ∷ []) named
  shape_named (chan_of dir type) named generic = any_named (type ∷ []) named
  shape_named (map_of key type) named generic = any_named (key ∷ type ∷ []) named
  shape_named (func_of home sig) named generic = of_types (func_of home sig) named
  shape_named (struct_of home fields) named generic = of_types (struct_of home fields) named
  shape_named (interface_of home embedded methods) named generic = of_types (interface_of home embedded methods) named
  shape_named (instance_of base args) named generic =
      all_append (IsNamed src all holder) (asking Any (map number_of args)) ((base.number, Base) ∷ [])
      (any_named args (all_left (Names src all holder) args (base ∷ []) named)) ((base, (all_right (Names src all holder) args (base ∷ []) named).0, refl, generic), tt)
  shape_named (union_of terms) named generic = of_types (union_of terms) named
