-- The tests of a term: no alias in it mentions itself, and it holds no interface but the empty one, once aliases are
-- replaced.
use Rattle.std.specs.Prelude.{ℕ, zero, suc, List, [], ◌∷◌, ◌++◌, cond, length, Result, Ok, Err}
use Rattle.std.specs.List.{list_any, flat_map}
use Rattle.go_values.specs.declared.qualified.QName.{QName}
use Rattle.type_terms.specs.Trees.{Tree, predeclared, named, parameter, alias, pointer, slice, array, chan, map_type}
use Rattle.type_terms.specs.Trees.{func, struct, interface, instance, union, Trees, no_types, types, Params, no_params}
use Rattle.type_terms.specs.Trees.{params, Fields, no_fields, fields, no_methods, Terms, no_terms}
use Rattle.type_terms.specs.Trees.{terms}
use Rattle.type_terms.specs.TreeEquality.{same_name}
use Rattle.type_terms.specs.Declarations.{Decl, renamed_of}
use Rattle.environments.specs.declared.mentions.Role.{Role}
use Rattle.environments.specs.declared.mentions.Role.TheVariants.{Alias, AliasBase}
use Rattle.environments.specs.References.{tree_references}
use Rattle.replacement.specs.declared.faults.SetFault.{SetFault}
use Rattle.replacement.specs.declared.faults.SetFault.TheVariants.{AliasCycle, Kind, TermInterface}
use Rattle.replacement.specs.Expansion.{Entries, then, known}
use Rattle.type_sets.specs.RightSides.{by_right}

-- what a test answers
abbrev pub Tested : Type 0
Tested = Result (Unit {0}) SetFault

abbrev pub fine : Tested
fine = Ok tt

-- the first answer, or else the second
abbrev pub both : Tested → Tested → Tested
both first second = then first (λ u. second)

-- the aliases that a type mentions, in reading order
abbrev pub alias_in : Role → QName → List QName
alias_in Alias q = q ∷ []
alias_in (AliasBase count) q = q ∷ []
alias_in _ q = []

abbrev pub mentioned : Tree → List QName
mentioned type = flat_map (λ reference. alias_in reference.role reference.name) (tree_references type)

-- the right side of an alias, as it is declared
abbrev pub right_of : QName → Decl → Result Tree SetFault
right_of q (renamed_of pos tparams right) = Ok right
right_of q _ = Err (Kind q)

module _ (entries : Entries) where
  -- None of these aliases is one of those on the way to it, nor is one that their right sides mention.
  abbrev pub each_mention : (List QName → List QName → Tested) → List QName → List QName → Tested
  each_mention more way [] = fine
  each_mention more way (q ∷ qs) =
      both (cond (list_any (same_name q) way) (Err (AliasCycle q))
      (then (then (known (entries q) q) (right_of q)) (λ right. more (way ++ q ∷ []) (mentioned right))))
      (each_mention more way qs)

  -- where at most n right sides mention one another
  unfoldable pub mentions : ℕ → List QName → List QName → Tested
  mentions zero = each_mention (λ way qs. fine)
  mentions (suc n) = each_mention (mentions n)

  -- No alias in a type mentions itself, through right sides as they are declared.
  abbrev pub no_cycle : List QName → Tree → Tested
  no_cycle names type = mentions (length names) [] (mentioned type)

abbrev pub all_fine : List Tested → Tested
all_fine [] = fine
all_fine (answer ∷ answers) = both answer (all_fine answers)

-- an instance of an alias answers as the alias does, and another one as its arguments do
abbrev pub on_base : (QName → List Tested → Tested) → Tree → List Tested → Tested
on_base expand (alias q) args = expand q args
on_base expand _ args = all_fine args

-- A type by its parts: the first breach in reading order. An alias answers by its right side, in which a parameter
-- answers what its argument did. So what an alias doesn't use of its arguments isn't looked at.
module _ (expand : QName → List Tested → Tested) (given : QName → Tested) where
  abbrev mutual
    pub holds : Tree → Tested
    holds (parameter q) = given q
    holds (alias q) = expand q []
    holds (instance base args) = on_base expand base (all_hold args)
    holds (interface home no_types no_methods) = fine
    holds (interface home embedded own) = Err TermInterface
    holds (pointer type) = holds type
    holds (slice type) = holds type
    holds (array size type) = holds type
    holds (chan dir type) = holds type
    holds (map_type key type) = both (holds key) (holds type)
    holds (func home ins outs variadic) = both (params_hold ins) (params_hold outs)
    holds (struct home inner) = fields_hold inner
    holds (union inner) = terms_hold inner
    holds (predeclared basic) = fine
    holds (named q) = fine

    pub all_hold : Trees → List Tested
    all_hold no_types = []
    all_hold (types type rest) = holds type ∷ all_hold rest

    pub params_hold : Params → Tested
    params_hold no_params = fine
    params_hold (params pos name type rest) = both (holds type) (params_hold rest)

    pub fields_hold : Fields → Tested
    fields_hold no_fields = fine
    fields_hold (fields origin pos name type embedded tag rest) = both (holds type) (fields_hold rest)

    pub terms_hold : Terms → Tested
    terms_hold no_terms = fine
    terms_hold (terms tilde type rest) = both (holds type) (terms_hold rest)

module _ (entries : Entries) where
  -- where at most n right sides stand in one another
  unfoldable pub expands : ℕ → QName → List Tested → Tested
  expands zero q answers = Err (AliasCycle q)
  expands (suc n) q answers =
      by_right Err (λ p. fine) (λ right given. holds (expands n) given right) q answers (known (entries q) q)

  -- A type holds no interface but the empty one, once its aliases are replaced.
  abbrev pub holds_none : List QName → Tree → Tested
  holds_none names type = holds (expands (length names)) (λ q. fine) type
