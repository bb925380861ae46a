-- What interfaces have in a table, as numbers of nodes have it.
use Rattle.std.specs.Prelude.{ℕ, List, [], ◌++◌, cond, nat_eq, Option, Some, None, option_map, Vec}
use Rattle.std.specs.Map.{lookup}
use Rattle.std.specs.Option.{unwrap_or}
use Rattle.type_terms.specs.declared.literals.Term.{Term as Code}

-- a list of terms, or all types
abbrev pub Codes : Type 0
Codes = Option (List Code)

abbrev pub listed : {A : Type 0} → Option (Vec Code A) → Codes
listed c = option_map (λ terms. terms.items) c

-- all terms of both, or all types where one has them
abbrev pub joined : Codes → Codes → Codes
joined (Some xs) (Some ys) = Some (xs ++ ys)
joined _ _ = None

-- What elements leave that ended: all types, unless there is an entry. Under way is an empty union, unless there is one.
abbrev pub wholes_of : {A : Type 0} → List (ℕ × Vec Code A) → ℕ → Codes
wholes_of entries id = listed (lookup (nat_eq id) entries)

abbrev pub unions_of : {A : Type 0} → List (ℕ × Option (Vec Code A)) → ℕ → Codes
unions_of entries id = unwrap_or (option_map listed (lookup (nat_eq id) entries)) (Some [])

abbrev pub put : ℕ → Codes → (ℕ → Codes) → ℕ → Codes
put holder codes table id = cond (nat_eq holder id) codes (table id)
