-- Types whose aliases come to an end, once they are replaced by their right sides.
use Rattle.std.specs.Prelude.{◌≡◌, ℕ, zero, suc, Ok}
use Rattle.go_values.specs.declared.qualified.QName.{QName}
use Rattle.replacement.specs.Expansion.{Entries}
use Rattle.term_tests.specs.Mentions.{declared_right}
use Rattle.type_terms.specs.Trees.{Tree, named, alias, pointer, slice, array, chan, map_type, func, struct, instance}
use Rattle.type_terms.specs.Trees.{union, Trees, no_types, types, Params, no_params, params, Fields, no_fields, fields}
use Rattle.type_terms.specs.Trees.{Terms, no_terms, terms}

-- Each alias that stands in a type, but in no interface of it, is one of these, and each instance is of a defined type
-- or of one of these.
module _ (IsOne : QName → Type 0) where
  abbrev pub IsSoundBase : Tree → Type 0
  IsSoundBase (named q) = Unit {0}
  IsSoundBase (alias q) = IsOne q
  IsSoundBase _ = ⊥

  abbrev mutual
    pub IsSound : Tree → Type 0
    IsSound (alias q) = IsOne q
    IsSound (pointer type) = IsSound type
    IsSound (slice type) = IsSound type
    IsSound (array size type) = IsSound type
    IsSound (chan dir type) = IsSound type
    IsSound (map_type key type) = IsSound key × IsSound type
    IsSound (func home ins outs variadic) = AreSoundParams ins × AreSoundParams outs
    IsSound (struct home inner) = AreSoundFields inner
    IsSound (instance base args) = IsSoundBase base × AreSound args
    IsSound (union inner) = AreSoundTerms inner
    IsSound _ = Unit {0}

    pub AreSound : Trees → Type 0
    AreSound no_types = Unit {0}
    AreSound (types type rest) = IsSound type × AreSound rest

    pub AreSoundParams : Params → Type 0
    AreSoundParams no_params = Unit {0}
    AreSoundParams (params pos name type rest) = IsSound type × AreSoundParams rest

    pub AreSoundFields : Fields → Type 0
    AreSoundFields no_fields = Unit {0}
    AreSoundFields (fields origin pos name type embedded tag rest) = IsSound type × AreSoundFields rest

    pub AreSoundTerms : Terms → Type 0
    AreSoundTerms no_terms = Unit {0}
    AreSoundTerms (terms tilde type rest) = IsSound type × AreSoundTerms rest

module _ (entries : Entries) where
  -- fewer than so many right sides stand in one another
  abbrev pub Ends : ℕ → QName → Type 0
  Ends zero q = ⊥
  Ends (suc n) q = (right : Tree) → declared_right entries q ≡ Ok right → IsSound (Ends n) right
