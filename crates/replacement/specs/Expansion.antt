-- Aliases at the head of a type, and underlying types.
use Rattle.std.specs.Prelude.{◌≡◌, ℕ, zero, suc, ◌-◌, ◌^◌, ◌==◌, true, cond, min, List, [], ◌∷◌, ◌++◌, length}
use Rattle.std.specs.Prelude.{Option, Some, None, Result, Ok, Err}
use Rattle.std.specs.List.{list_any}
use Rattle.go_values.specs.declared.qualified.QName.{QName}
use Rattle.environments.specs.declared.declaring.EnvError.TheVariants.{Unknown, Damaged}
use Rattle.environments.specs.Environments.{Entry, declared, damaged}
use Rattle.type_terms.specs.Declarations.{Decl, defined_of, renamed_of}
use Rattle.type_terms.specs.Trees.{Tree, named, parameter, alias, instance, type_list}
use Rattle.type_terms.specs.TreeEquality.{same_name}
use Rattle.replacement.specs.declared.faults.SetFault.{SetFault}
use Rattle.replacement.specs.declared.faults.SetFault.TheVariants.{Env, AliasCycle, Arity, Kind}
use Rattle.replacement.specs.Substitution.{substituted}

-- what an environment has for each name
abbrev pub Entries : Type 0
Entries = QName → Option Entry

-- what a fault passes over
abbrev pub then : {X Y : Type 0} → Result X SetFault → (X → Result Y SetFault) → Result Y SetFault
then (Ok x) next = next x
then (Err fault) next = Err fault

-- the declaration of a name, or why there is none
abbrev pub known : Option Entry → QName → Result Decl SetFault
known (Some (declared decl)) q = Ok decl
known (Some (damaged fault read)) q = Err (Env (Damaged q fault))
known None q = Err (Env (Unknown q))

-- A name with its arguments, of which there are none where it stands alone: an instance has one at least.
pub record Applied : Type 0 where
  pub name : QName
  pub args : List Tree

-- the alias at the head of a type
abbrev pub alias_use : Tree → Option Applied
alias_use (alias q) = Some (record { name = q; args = [] })
alias_use (instance (alias q) args) = Some (record { name = q; args = type_list args })
alias_use _ = None

-- the defined type that it is
abbrev pub defined_use : Tree → Option Applied
defined_use (named q) = Some (record { name = q; args = [] })
defined_use (instance (named q) args) = Some (record { name = q; args = type_list args })
defined_use _ = None

-- the names of type parameters, in order
abbrev pub parameter_names : List Tree → List QName
parameter_names [] = []
parameter_names (parameter q ∷ rest) = q ∷ parameter_names rest
parameter_names (type ∷ rest) = parameter_names rest

-- A number above 2^32 - 1 is given as that.
unfoldable pub capped : ℕ → ℕ
capped n = min n (2 ^ 32 - 1)

abbrev pub wrong_number : Applied → List Tree → SetFault
wrong_number head tparams = Arity head.name (capped (length tparams)) (capped (length head.args))

-- A right side with the arguments put in: as many as there are parameters, and none where there are none.
abbrev pub put_each : Applied → List Tree → List Tree → Tree → Result Tree SetFault
put_each head [] [] right = Ok right
put_each head [] (arg ∷ args) right = Err (Kind head.name)
put_each head (type ∷ types) [] right = Err (wrong_number head (type ∷ types))
put_each head (type ∷ types) (arg ∷ args) right = cond (length types == length args)
    (Ok (substituted (parameter_names (type ∷ types)) (arg ∷ args) right)) (Err (wrong_number head (type ∷ types)))

-- the right side of an alias, and that of a defined type
abbrev pub alias_side : Applied → Decl → Result Tree SetFault
alias_side head (renamed_of pos tparams right) = put_each head tparams head.args right
alias_side head _ = Err (Kind head.name)

abbrev pub defined_side : Applied → Decl → Result Tree SetFault
defined_side head (defined_of pos tparams right own) = put_each head tparams head.args right
defined_side head _ = Err (Kind head.name)

module _ (entries : Entries) where
  abbrev pub alias_right : Applied → Result Tree SetFault
  alias_right head = then (known (entries head.name) head.name) (alias_side head)

  abbrev pub defined_right : Applied → Result Tree SetFault
  defined_right head = then (known (entries head.name) head.name) (defined_side head)

  -- the rest of an expansion from the alias at the head, where these names were met before
  abbrev pub led : (List QName → Tree → Result Tree SetFault) → List QName → Tree → Option Applied
      → Result Tree SetFault
  led more met type None = Ok type
  led more met type (Some head) = cond (list_any (same_name head.name) met) (Err (AliasCycle head.name))
      (then (alias_right head) (more (met ++ head.name ∷ [])))

  -- an expansion in which at most n names more are met
  unfoldable pub expanded_from : ℕ → List QName → Tree → Result Tree SetFault
  expanded_from zero met type = led (λ _ type. Ok type) met type (alias_use type)
  expanded_from (suc n) met type = led (expanded_from n) met type (alias_use type)

  -- the right side in place of an alias at the head, until the head is no alias
  abbrev pub expanded : List QName → Tree → Result Tree SetFault
  expanded names type = expanded_from (length names) [] type

  -- the right side of a defined type, or the type itself
  abbrev pub beneath : Tree → Option Applied → Result Tree SetFault
  beneath type None = Ok type
  beneath type (Some head) = defined_right head

  -- the underlying type
  abbrev pub underlying : List QName → Tree → Result Tree SetFault
  underlying names type = then (expanded names type) (λ found. beneath found (defined_use found))

-- all names behind which something stands are among these
abbrev pub AreNames : Entries → List QName → Type 0
AreNames entries names = (q : QName) (entry : Entry) → entries q ≡ Some entry → list_any (same_name q) names ≡ true
