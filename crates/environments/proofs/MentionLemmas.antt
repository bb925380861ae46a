-- Lists of first mentions, and what an insertion into a set of references does.
use Rattle.std.proofs.Common.{◌≡◌, ◌⊎◌, inl, inr, Bool, true, false, List, [], ◌∷◌, ◌++◌, refl, ap, sym, ◌∙◌, subst, true≢false, zero, suc, arith}
use Rattle.std.specs.Prelude.{IsTrue, Option, Some, None, if◌then◌else◌}
use Rattle.std.specs.List.{Contains, list_any}
use Rattle.std.proofs.lemmas.Bool.{and_parts, eqb-true}
use Rattle.std.proofs.lemmas.List.Elements.{Contains-append_left, Contains-append_right, Contains-append_cases}
use Rattle.std.proofs.lemmas.Map.Views.{Contains-from_any, list_any-from_Contains}
use Rattle.go_values.specs.Exact.{exact_qname}
use Rattle.indexmap.specs.IndexSet.{insert_key}
use Rattle.environments.specs.declared.mentions.Role.{Role}
use Rattle.environments.specs.declared.mentions.Role.TheVariants.{Defined, Parameter, Alias, DefinedBase, AliasBase}
use Rattle.environments.specs.declared.mentions.Reference.{Reference}
use Rattle.environments.specs.contracts.mentions.RolePartialEq.TheImpl as role_eq
use Rattle.environments.specs.contracts.mentions.ReferencePartialEq.TheImpl as reference_eq
use Rattle.environments.specs.contracts.mentions.ReferenceEq.TheImpl.Laws.{laws-law}
use Rattle.environments.specs.contracts.mentions.RoleEq.TheImpl.Laws.{laws-law as role_laws}
use Rattle.environments.specs.References.{IsFirstMentions, all_seen, again, first}
use Rattle.environments.specs.ReferenceTasks.{IsNoted}

exact_role : (x y : Role) → role_eq.ghosts.eq x y ≡ true → x ≡ y
exact_role Defined Defined h = refl
exact_role Parameter Parameter h = refl
exact_role Alias Alias h = refl
exact_role (DefinedBase m) (DefinedBase n) h = ap DefinedBase (eqb-true m n h)
exact_role (AliasBase m) (AliasBase n) h = ap AliasBase (eqb-true m n h)
exact_role _ _ h = (cc)

exact_reference : (x y : Reference) → reference_eq.ghosts.eq x y ≡ true → x ≡ y
exact_reference x y h =
    let parts = and_parts _ (role_eq.ghosts.eq x.role y.role) h in
    let name = exact_qname x.name y.name parts.0 in
    let role = exact_role x.role y.role parts.1 in
    λ i. record { name = name i; role = role i }

abbrev pub same : Reference → Reference → Bool
same = reference_eq.ghosts.eq

pub noted_by_insertion : (seen found : List Reference) (reference : Reference)
    → found ≡ insert_key same seen reference → IsNoted seen reference found
noted_by_insertion seen found reference keys = by (list_any (same reference) seen) refl
  where
    by : (b : Bool) → list_any (same reference) seen ≡ b → IsNoted seen reference found
    by true e = inl (Contains-from_any exact_reference reference seen e, keys ∙ ap (λ c. if c then seen else seen ++ reference ∷ []) e)
    by false e = inr (λ held. true≢false (sym (list_any-from_Contains laws-law reference seen held) ∙ e), keys ∙ ap (λ c. if c then seen else seen ++ reference ∷ []) e)

-- one of a list of one is that one
single_of : {X : Type 0} (x y : X) → Contains (x ∷ []) y → y ≡ x
single_of x y (zero, within, is) = sym is
single_of x y (suc k, within, is) = absurd (omega arith)

pub first_mentions_append : (seen middle all xs ys : List Reference) → IsFirstMentions seen xs middle
    → IsFirstMentions middle ys all → IsFirstMentions seen (xs ++ ys) all
first_mentions_append _ _ all _ ys (all_seen seen) rest = rest
first_mentions_append _ middle all _ ys (again seen next xs _ held before) rest =
    again seen next (xs ++ ys) all held (first_mentions_append seen middle all xs ys before rest)
first_mentions_append _ middle all _ ys (first seen next xs _ new before) rest =
    first seen next (xs ++ ys) all new (first_mentions_append (seen ++ next ∷ []) middle all xs ys before rest)

-- what was seen before adds nothing
pub seen_adds_nothing : (seen xs : List Reference) → ((r : Reference) → Contains xs r → Contains seen r)
    → IsFirstMentions seen xs seen
seen_adds_nothing seen [] each = all_seen seen
seen_adds_nothing seen (x ∷ xs) each =
    again seen x xs seen (each x (Contains-append_left (x ∷ []) xs x (has x)))
    (seen_adds_nothing seen xs (λ r held. each r (Contains-append_right (x ∷ []) xs r held)))
  where
    has : (x : Reference) → Contains (x ∷ []) x
    has x = (0, omega arith, refl)

-- one of a list is its first, or one of the others
head_or_tail : (next : Reference) (rest : List Reference) (r : Reference) → Contains (next ∷ rest) r
    → (r ≡ next) ⊎ Contains rest r
head_or_tail next rest r held = by (Contains-append_cases (next ∷ []) rest r held)
  where
    by : Contains (next ∷ []) r ⊎ Contains rest r → (r ≡ next) ⊎ Contains rest r
    by (inl here) = inl (single_of next r here)
    by (inr below) = inr below

-- what was seen or is mentioned behind a first one that was seen
seen_or_later : (seen : List Reference) (next : Reference) (rest : List Reference) (r : Reference)
    → Contains seen next → Contains seen r ⊎ Contains (next ∷ rest) r → Contains seen r ⊎ Contains rest r
seen_or_later seen next rest r there (inl held) = inl held
seen_or_later seen next rest r there (inr held) = by (head_or_tail next rest r held)
  where
    by : (r ≡ next) ⊎ Contains rest r → Contains seen r ⊎ Contains rest r
    by (inl here) = inl (subst (Contains seen) (sym here) there)
    by (inr below) = inr below

-- all that was seen and all that is mentioned is listed
pub first_mentions_have : (seen xs all : List Reference) → IsFirstMentions seen xs all → (r : Reference)
    → Contains seen r ⊎ Contains xs r → Contains all r
first_mentions_have _ _ _ (all_seen seen) r (inl held) = held
first_mentions_have _ _ _ (all_seen seen) r (inr held) = absurd (omega (arith, held.1))
first_mentions_have _ _ all (again seen next rest _ there later) r held =
    first_mentions_have seen rest all later r (seen_or_later seen next rest r there held)
first_mentions_have _ _ all (first seen next rest _ new later) r held =
    first_mentions_have (seen ++ next ∷ []) rest all later r
    (seen_or_later (seen ++ next ∷ []) next rest r (Contains-append_right seen (next ∷ []) next (0, omega arith, refl))
    (longer held))
  where
    longer : Contains seen r ⊎ Contains (next ∷ rest) r → Contains (seen ++ next ∷ []) r ⊎ Contains (next ∷ rest) r
    longer (inl before) = inl (Contains-append_left seen (next ∷ []) r before)
    longer (inr from) = inr from

-- a reference that was noted is the one that is mentioned
pub noted_mentions : (seen found : List Reference) (reference : Reference) → IsNoted seen reference found
    → IsFirstMentions seen (reference ∷ []) found
noted_mentions seen found reference (inl (held, same)) =
    subst (IsFirstMentions seen (reference ∷ [])) (sym same) (again seen reference [] seen held (all_seen seen))
noted_mentions seen found reference (inr (new, same)) =
    subst (IsFirstMentions seen (reference ∷ [])) (sym same)
    (first seen reference [] (seen ++ reference ∷ []) new (all_seen (seen ++ reference ∷ [])))

-- a test of roles tells whether a declaration's one role is the one
pub role_decides : (found : Option Role) (own role : Role) (answer : Bool) → found ≡ Some own
    → answer ≡ role_eq.ghosts.eq own role
    → (IsTrue answer → found ≡ Some role) × (found ≡ Some role → IsTrue answer)
role_decides found own role answer is tested = (
  λ yes. is ∙ ap Some (exact_role own role (sym tested ∙ yes)),
  λ met.
      let some : Some own ≡ Some role = sym is ∙ met in
      let same_one : own ≡ role = (cc) in
      tested ∙ subst (λ other. role_eq.ghosts.eq own other ≡ true) same_one (role_laws.refl own),
)

pub no_role_decides : (found : Option Role) (role : Role) → found ≡ None
    → (IsTrue false → found ≡ Some role) × (found ≡ Some role → IsTrue false)
no_role_decides found role none = (λ yes. absurd (true≢false (sym yes)), λ met. let no : None ≡ Some role = sym none ∙ met in (cc))
