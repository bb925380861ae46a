-- Walks put parts first, so that each type is finished behind its parts.
use Rattle.std.proofs.Common.{◌≡◌, ℕ, ◌<◌, List, [], ◌∷◌, ◌++◌, refl, ap, sym, subst, ◌∙◌, arith, zero, suc, append_assoc}
use Rattle.std.specs.List.{flat_map, AllByRecursion, Contains}
use Rattle.std.proofs.lemmas.List.Elements.{Contains-append_right, Contains-get_or}
use Rattle.type_terms.specs.Trees.{Tree}
use Rattle.type_terms.specs.Parts.{parts, tree_size}
use Rattle.type_terms.specs.TreeSizes.{part_falls}
use Rattle.decl_text.specs.Walks.{walk}
use Rattle.decl_text.specs.Numbers.{Numbers, finish, finish_all}
use Rattle.decl_text.proofs.WalkLevelLemmas.{walk_of_level}
use Rattle.decl_text.proofs.FinishLemmas.{Settled, AllSettled, IsClosed, finish_settled, finish_settles, finish_closes, finish_all_keeps, finish_all_append}

-- as the types are finished one after the other, the parts of each are settled before
abbrev pub PartsFirst : Numbers → List Tree → Type 0
PartsFirst numbers [] = Unit {0}
PartsFirst numbers (type ∷ types) = AllSettled numbers.types (parts type) × PartsFirst (finish numbers type) types

pub parts_first_later : (numbers : Numbers) (first then : List Tree) → PartsFirst numbers (first ++ then) → PartsFirst (finish_all numbers first) then
parts_first_later numbers [] then ordered = ordered
parts_first_later numbers (type ∷ types) then ordered = parts_first_later (finish numbers type) types then ordered.1

pub finish_all_closes : (numbers : Numbers) (types : List Tree) → IsClosed numbers.types → PartsFirst numbers types → IsClosed (finish_all numbers types).types
finish_all_closes numbers [] closed ordered = closed
finish_all_closes numbers (type ∷ types) closed ordered = finish_all_closes (finish numbers type) types (finish_closes numbers type closed ordered.0) ordered.1

-- A type is settled after a walk through it, and so are all types of a list.
pub walk_settles : (numbers : Numbers) (type : Tree) → Settled (finish_all numbers (walk type)).types type
walk_settles numbers type =
    let inner = flat_map walk (parts type) in
    let last : finish_all numbers (walk type) ≡ finish (finish_all numbers inner) type =
    ap (finish_all numbers) (walk_of_level type) ∙ finish_all_append numbers inner (type ∷ [])
    in
    subst (λ n. Settled n.types type) (sym last) (finish_settles (finish_all numbers inner) type)

all_keep : (numbers : Numbers) (more types : List Tree) → AllSettled numbers.types types → AllSettled (finish_all numbers more).types types
all_keep numbers more [] all = tt
all_keep numbers more (type ∷ types) all = (finish_all_keeps numbers more type all.0, all_keep numbers more types all.1)

pub walks_settle : (numbers : Numbers) (types : List Tree) → AllSettled (finish_all numbers (flat_map walk types)).types types
walks_settle numbers [] = tt
walks_settle numbers (type ∷ types) =
    let after = finish_all numbers (walk type) in
    let joined = finish_all_append numbers (walk type) (flat_map walk types) in
    subst (λ n. AllSettled n.types (type ∷ types)) (sym joined)
    (finish_all_keeps after (flat_map walk types) type (walk_settles numbers type), walks_settle after types)

-- the parts of a type are below any number that its size doesn't reach
abbrev Small : ℕ → List Tree → Type 0
Small bound types = AllByRecursion (λ type. tree_size type < bound) types

small_if : (bound : ℕ) (types : List Tree) → ((type : Tree) → Contains types type → tree_size type < bound) → Small bound types
small_if bound [] each = tt
small_if bound (type ∷ types) each =
    (each type (Contains-get_or (type ∷ types) 0 type (omega arith)), small_if bound types (λ other held. each other (Contains-append_right (type ∷ []) types other held)))

small_parts : (bound : ℕ) (type : Tree) → tree_size type < suc bound → Small bound (parts type)
small_parts bound type below = small_if bound (parts type) (λ part held. let less = part_falls type part held in omega (arith, less))

-- walks through types, once walks through each of them are known
walks_first : (bound : ℕ) → ((numbers : Numbers) (type : Tree) (rest : List Tree) → tree_size type < bound → PartsFirst (finish_all numbers (walk type)) rest → PartsFirst numbers (walk type ++ rest))
    → (numbers : Numbers) (types rest : List Tree) → Small bound types → PartsFirst (finish_all numbers (flat_map walk types)) rest → PartsFirst numbers (flat_map walk types ++ rest)
walks_first bound one numbers [] rest small ordered = ordered
walks_first bound one numbers (type ∷ types) rest small ordered =
    let later : PartsFirst (finish_all (finish_all numbers (walk type)) (flat_map walk types)) rest =
    subst (λ n. PartsFirst n rest) (finish_all_append numbers (walk type) (flat_map walk types)) ordered
    in
    subst (PartsFirst numbers) (sym (append_assoc (walk type) (flat_map walk types) rest))
    (one numbers type (flat_map walk types ++ rest) small.0 (walks_first bound one (finish_all numbers (walk type)) types rest small.1 later))

walk_first : (bound : ℕ) (numbers : Numbers) (type : Tree) (rest : List Tree) → tree_size type < bound → PartsFirst (finish_all numbers (walk type)) rest → PartsFirst numbers (walk type ++ rest)
walk_first zero numbers type rest below ordered = absurd (omega arith)
walk_first (suc bound) numbers type rest below ordered =
    let inner = flat_map walk (parts type) in
    let last : finish_all numbers (walk type) ≡ finish (finish_all numbers inner) type =
    ap (finish_all numbers) (walk_of_level type) ∙ finish_all_append numbers inner (type ∷ [])
    in
    let whole : walk type ++ rest ≡ inner ++ (type ∷ rest) = ap (λ w. w ++ rest) (walk_of_level type) ∙ append_assoc inner (type ∷ []) rest in
    subst (PartsFirst numbers) (sym whole)
    (walks_first bound (walk_first bound) numbers (parts type) (type ∷ rest) (small_parts bound type below)
    (walks_settle numbers (parts type), subst (λ n. PartsFirst n rest) last ordered))

-- all that walks through types finish is finished behind its parts
pub walks_are_ordered : (numbers : Numbers) (types : List Tree) → PartsFirst numbers (flat_map walk types)
walks_are_ordered numbers [] = tt
walks_are_ordered numbers (type ∷ types) =
    walk_first (suc (tree_size type)) numbers type (flat_map walk types) (omega arith) (walks_are_ordered (finish_all numbers (walk type)) types)

-- A walk through what is settled changes nothing.
walks_known : (bound : ℕ) (numbers : Numbers) → ((type : Tree) → tree_size type < bound → Settled numbers.types type → finish_all numbers (walk type) ≡ numbers)
    → (types : List Tree) → Small bound types → AllSettled numbers.types types → finish_all numbers (flat_map walk types) ≡ numbers
walks_known bound numbers one [] small all = refl
walks_known bound numbers one (type ∷ types) small all =
    finish_all_append numbers (walk type) (flat_map walk types)
    ∙ ap (λ n. finish_all n (flat_map walk types)) (one type small.0 all.0)
    ∙ walks_known bound numbers one types small.1 all.1

walk_known : (bound : ℕ) (numbers : Numbers) → IsClosed numbers.types → (type : Tree) → tree_size type < bound → Settled numbers.types type → finish_all numbers (walk type) ≡ numbers
walk_known zero numbers closed type below settled = absurd (omega arith)
walk_known (suc bound) numbers closed type below settled =
    let inner = flat_map walk (parts type) in
    let before : finish_all numbers inner ≡ numbers = walks_known bound numbers (walk_known bound numbers closed) (parts type) (small_parts bound type below) (closed type settled) in
    ap (finish_all numbers) (walk_of_level type) ∙ finish_all_append numbers inner (type ∷ []) ∙ ap (λ n. finish n type) before ∙ finish_settled numbers type settled

pub settled_adds_nothing : (numbers : Numbers) → IsClosed numbers.types → (type : Tree) → Settled numbers.types type → finish_all numbers (walk type) ≡ numbers
settled_adds_nothing numbers closed type settled = walk_known (suc (tree_size type)) numbers closed type (omega arith) settled
