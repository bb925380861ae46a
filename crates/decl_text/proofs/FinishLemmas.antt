-- What finishing a type does: types that have numbers keep them, and where each has its parts before it, it adds nothing to
-- finish again what has a number.
use Rattle.std.proofs.Common.{◌≡◌, ℕ, Bool, true, false, cond, ◌||◌, List, [], ◌∷◌, ◌++◌, Some, None, refl, ap, sym, subst, ◌∙◌, true≢false}
use Rattle.std.specs.List.{AllByRecursion}
use Rattle.std.specs.Option.{is_some}
use Rattle.std.proofs.lemmas.List.Sums.{fold-append}
use Rattle.type_terms.specs.Trees.{Tree, predeclared, named, parameter, alias}
use Rattle.type_terms.specs.TreeEquality.{same_tree, same_told, same_itself}
use Rattle.type_terms.specs.Parts.{parts}
use Rattle.decl_text.specs.Numbers.{Numbered, Numbers, number_of, line_of, goes_by_name, is_settled, give, finish, finish_all}

abbrev pub Settled : Numbered → Tree → Type 0
Settled numbered type = is_settled numbered type ≡ true

abbrev pub AllSettled : Numbered → List Tree → Type 0
AllSettled numbered types = AllByRecursion (Settled numbered) types

-- with a type the types that stand in it are settled
abbrev pub IsClosed : Numbered → Type 0
IsClosed numbered = (type : Tree) → Settled numbered type → AllSettled numbered (parts type)

or_right : (a b c : Bool) → (b ≡ true → c ≡ true) → (a || b) ≡ true → (a || c) ≡ true
or_right true b c more h = refl
or_right false b c more h = more h

or_second : (a b : Bool) → b ≡ true → (a || b) ≡ true
or_second true b h = refl
or_second false b h = h

-- what has a number keeps it as types are added
pub number_stays : (numbered more : Numbered) (type : Tree) → is_some (number_of numbered type) ≡ true → number_of (numbered ++ more) type ≡ number_of numbered type
number_stays [] more type h = absurd (true≢false (sym h))
number_stays (x ∷ xs) more type h = by (same_tree type x.0) h (number_stays xs more type)
  where
    by : (b : Bool) → is_some (cond b (Some x.1) (number_of xs type)) ≡ true
        → (is_some (number_of xs type) ≡ true → number_of (xs ++ more) type ≡ number_of xs type)
        → cond b (Some x.1) (number_of (xs ++ more) type) ≡ cond b (Some x.1) (number_of xs type)
    by true h rest = refl
    by false h rest = rest h

pub settled_stays : (numbered more : Numbered) (type : Tree) → Settled numbered type → Settled (numbered ++ more) type
settled_stays numbered more type h =
    or_right (goes_by_name type) _ _ (λ some. ap is_some (number_stays numbered more type some) ∙ some) h

pub all_settled_stays : (numbered more : Numbered) (types : List Tree) → AllSettled numbered types → AllSettled (numbered ++ more) types
all_settled_stays numbered more [] all = tt
all_settled_stays numbered more (type ∷ types) all = (settled_stays numbered more type all.0, all_settled_stays numbered more types all.1)

-- the type that was added has a number
last_has : (numbered : Numbered) (type : Tree) (number : ℕ) → is_some (number_of (numbered ++ (type, number) ∷ []) type) ≡ true
last_has [] type number = ap (λ b. is_some (cond b (Some number) None)) (same_itself type)
last_has (x ∷ xs) type number = by (same_tree type x.0) (last_has xs type number)
  where
    by : (b : Bool) → is_some (number_of (xs ++ (type, number) ∷ []) type) ≡ true → is_some (cond b (Some x.1) (number_of (xs ++ (type, number) ∷ []) type)) ≡ true
    by true h = refl
    by false h = h

-- and no other has one that had none
none_other : (numbered : Numbered) (new : Tree) (number : ℕ) (type : Tree) → is_some (number_of (numbered ++ (new, number) ∷ []) type) ≡ true → same_tree type new ≡ false → is_some (number_of numbered type) ≡ true
none_other [] new number type h other = sym (ap (λ b. is_some (cond b (Some number) None)) other) ∙ h
none_other (x ∷ xs) new number type h other = by (same_tree type x.0) h (none_other xs new number type)
  where
    by : (b : Bool) → is_some (cond b (Some x.1) (number_of (xs ++ (new, number) ∷ []) type)) ≡ true
        → (is_some (number_of (xs ++ (new, number) ∷ []) type) ≡ true → same_tree type new ≡ false → is_some (number_of xs type) ≡ true)
        → is_some (cond b (Some x.1) (number_of xs type)) ≡ true
    by true h rest = refl
    by false h rest = rest h other

settled_before : (numbered : Numbered) (new : Tree) (number : ℕ) (type : Tree) → Settled (numbered ++ (new, number) ∷ []) type → same_tree type new ≡ false → Settled numbered type
settled_before numbered new number type h other = or_right (goes_by_name type) _ _ (λ some. none_other numbered new number type some other) h

closed_more : (numbered : Numbered) (new : Tree) (number : ℕ) → IsClosed numbered → AllSettled numbered (parts new) → IsClosed (numbered ++ (new, number) ∷ [])
closed_more numbered new number closed inner type h = by (same_tree type new) refl
  where
    by : (b : Bool) → same_tree type new ≡ b → AllSettled (numbered ++ (new, number) ∷ []) (parts type)
    by true same =
        let is : new ≡ type = sym (same_told type new same) in
        all_settled_stays numbered ((new, number) ∷ []) (parts type) (subst (λ t. AllSettled numbered (parts t)) is inner)
    by false other = all_settled_stays numbered ((new, number) ∷ []) (parts type) (closed type (settled_before numbered new number type h other))

-- finishing a settled type changes nothing, and any other gets a number
pub finish_settled : (numbers : Numbers) (type : Tree) → Settled numbers.types type → finish numbers type ≡ numbers
finish_settled numbers type h = ap (λ b. cond b numbers (give numbers type (line_of numbers.types type))) h

pub finish_new : (numbers : Numbers) (type : Tree) → is_settled numbers.types type ≡ false → finish numbers type ≡ give numbers type (line_of numbers.types type)
finish_new numbers type h = ap (λ b. cond b numbers (give numbers type (line_of numbers.types type))) h

-- What finishing a type leaves is what was there, or one more type.
pub finish_cases : (numbers : Numbers) (type : Tree) (P : Numbers → Type 0) → (is_settled numbers.types type ≡ true → P numbers) → (is_settled numbers.types type ≡ false → P (give numbers type (line_of numbers.types type))) → P (finish numbers type)
finish_cases numbers type P stays grows = by (is_settled numbers.types type) refl
  where
    by : (b : Bool) → is_settled numbers.types type ≡ b → P (finish numbers type)
    by true h = subst P (sym (finish_settled numbers type h)) (stays h)
    by false h = subst P (sym (finish_new numbers type h)) (grows h)

pub finish_keeps : (numbers : Numbers) (type other : Tree) → Settled numbers.types other → Settled (finish numbers type).types other
finish_keeps numbers type other h =
    finish_cases numbers type (λ n. Settled n.types other) (λ _. h) (λ _. settled_stays numbers.types _ other h)

pub finish_settles : (numbers : Numbers) (type : Tree) → Settled (finish numbers type).types type
finish_settles numbers type =
    finish_cases numbers type (λ n. Settled n.types type) (λ h. h) (λ _. or_second (goes_by_name type) _ (last_has numbers.types type _))

pub finish_closes : (numbers : Numbers) (type : Tree) → IsClosed numbers.types → AllSettled numbers.types (parts type) → IsClosed (finish numbers type).types
finish_closes numbers type closed inner =
    finish_cases numbers type (λ n. IsClosed n.types) (λ _. closed) (λ _. closed_more numbers.types type _ closed inner)

pub finish_all_keeps : (numbers : Numbers) (types : List Tree) (other : Tree) → Settled numbers.types other → Settled (finish_all numbers types).types other
finish_all_keeps numbers [] other h = h
finish_all_keeps numbers (type ∷ types) other h = finish_all_keeps (finish numbers type) types other (finish_keeps numbers type other h)

pub finish_all_append : (numbers : Numbers) (first then : List Tree) → finish_all numbers (first ++ then) ≡ finish_all (finish_all numbers first) then
finish_all_append numbers first then = fold-append finish numbers first then

pub no_numbers_closed : IsClosed []
no_numbers_closed (predeclared basic) h = tt
no_numbers_closed (named q) h = tt
no_numbers_closed (parameter q) h = tt
no_numbers_closed (alias q) h = tt
no_numbers_closed _ h = absurd (true≢false (sym h))
