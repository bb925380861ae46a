-- A number is that of one line, which is the line of each type with the number.
use Rattle.std.proofs.Common.{◌≡◌, ℕ, ◌+◌, Bool, true, false, cond, ◌||◌, List, [], ◌∷◌, ◌++◌, Option, Some, None, refl, ap, sym, subst, ◌∙◌, arith, zero, suc, true≢false, codes, decimal}
use Rattle.std.specs.Prelude.{slice_get}
use Rattle.std.specs.List.{flat_map, AllByRecursion, list_any, position_or_len}
use Rattle.std.specs.Option.{is_some, unwrap_or}
use Rattle.go_values.specs.declared.positions.Pos.{Pos}
use Rattle.go_values.specs.Exact.{exact_bytes}
use Rattle.type_terms.specs.ShapeLaws.{retype_agrees}
use Rattle.type_terms.specs.Trees.{Text, Tree, predeclared, named, parameter, alias, level_of}
use Rattle.type_terms.specs.TreeEquality.{same_text, same_tree, same_told}
use Rattle.type_terms.specs.Parts.{parts}
use Rattle.decl_text.specs.TypeText.{type_text}
use Rattle.decl_text.specs.Walks.{walk}
use Rattle.decl_text.specs.Numbers.{Numbered, Numbers, no_numbers, number_of, reference, line_of, is_settled, give, finish, finish_all, number_all}
use Rattle.decl_text.proofs.FinishLemmas.{Settled, AllSettled, IsClosed, number_stays, no_numbers_closed, finish_cases, finish_closes}
use Rattle.decl_text.proofs.WalkOrderLemmas.{PartsFirst, walks_are_ordered, finish_all_closes, settled_adds_nothing}

pub nothing_added : (types : List Tree) (type : Tree) → is_settled (number_all types).types type ≡ true → finish_all (number_all types) (walk type) ≡ number_all types
nothing_added types type settled =
    settled_adds_nothing (number_all types) (finish_all_closes no_numbers (flat_map walk types) no_numbers_closed (walks_are_ordered no_numbers types)) type settled

-- each type with a number has the line of the number
abbrev pub HaveLines : Numbers → Type 0
HaveLines numbers = (type : Tree) (number : ℕ) → number_of numbers.types type ≡ Some number → slice_get numbers.lines number ≡ Some (line_of numbers.types type)

reference_stays : (numbered more : Numbered) (type : Tree) → Settled numbered type → reference (numbered ++ more) type ≡ reference numbered type
reference_stays numbered more (predeclared basic) h = refl
reference_stays numbered more (named q) h = refl
reference_stays numbered more (parameter q) h = refl
reference_stays numbered more (alias q) h = refl
reference_stays numbered more type h = ap (λ (n : Option ℕ). codes "#" ++ decimal (unwrap_or n 0)) (number_stays numbered more type h)

references_stay : (numbered more : Numbered) (types : List Tree) → AllSettled numbered types → AllByRecursion (λ type. reference (numbered ++ more) type ≡ reference numbered type) types
references_stay numbered more [] all = tt
references_stay numbered more (type ∷ types) all = (reference_stays numbered more type all.0, references_stay numbered more types all.1)

line_stays : (numbered more : Numbered) (type : Tree) → AllSettled numbered (parts type) → line_of (numbered ++ more) type ≡ line_of numbered type
line_stays numbered more type settled =
    ap type_text (retype_agrees (reference (numbered ++ more)) (reference numbered) Pos Text Text (level_of type) (references_stay numbered more (parts type) settled))

stands_behind : {X : Type 0} (xs ys : List X) (k : ℕ) (x : X) → slice_get xs k ≡ Some x → slice_get (xs ++ ys) k ≡ Some x
stands_behind [] ys k x h = (cc)
stands_behind (y ∷ xs) ys zero x h = h
stands_behind (y ∷ xs) ys (suc k) x h = stands_behind xs ys k x h

stands_still : (b : Bool) (lines : List Text) (line : Text) (k : ℕ) (x : Text) → slice_get lines k ≡ Some x → slice_get (cond b lines (lines ++ line ∷ [])) k ≡ Some x
stands_still true lines line k x h = h
stands_still false lines line k x h = stands_behind lines (line ∷ []) k x h

-- a line stands at the place that it is given
line_there : (line : Text) (lines : List Text) → slice_get (cond (list_any (same_text line) lines) lines (lines ++ line ∷ [])) (position_or_len (same_text line) lines) ≡ Some line
line_there line [] = refl
line_there line (first ∷ lines) = by (same_text line first) refl (line_there line lines)
  where
    later : (b : Bool) (place : ℕ) → slice_get (cond b lines (lines ++ line ∷ [])) place ≡ Some line → slice_get (cond b (first ∷ lines) (first ∷ (lines ++ line ∷ []))) (1 + place) ≡ Some line
    later true place h = let e : suc place ≡ 1 + place = omega arith in subst (λ k. slice_get (first ∷ lines) k ≡ Some line) e h
    later false place h = let e : suc place ≡ 1 + place = omega arith in subst (λ k. slice_get (first ∷ (lines ++ line ∷ [])) k ≡ Some line) e h

    by : (b : Bool) → same_text line first ≡ b → slice_get (cond (list_any (same_text line) lines) lines (lines ++ line ∷ [])) (position_or_len (same_text line) lines) ≡ Some line
        → slice_get (cond (list_any (same_text line) (first ∷ lines)) (first ∷ lines) ((first ∷ lines) ++ line ∷ [])) (position_or_len (same_text line) (first ∷ lines)) ≡ Some line
    by true e h = rw e (ap Some (sym (exact_bytes line first e)))
    by false e h = rw e (later (list_any (same_text line) lines) (position_or_len (same_text line) lines) h)

-- of a type that had no number and has one now, the type is the new one, and so is the number
the_new : (numbered : Numbered) (new : Tree) (given : ℕ) (type : Tree) (number : ℕ) → is_some (number_of numbered type) ≡ false → number_of (numbered ++ (new, given) ∷ []) type ≡ Some number → (type ≡ new) × (given ≡ number)
the_new [] new given type number none is = by (same_tree type new) refl is
  where
    by : (b : Bool) → same_tree type new ≡ b → cond b (Some given) None ≡ Some number → (type ≡ new) × (given ≡ number)
    by true e h = (same_told type new e, (cc))
    by false e h = (cc)
the_new (x ∷ xs) new given type number none is = by (same_tree type x.0) none is (the_new xs new given type number)
  where
    by : (b : Bool) → is_some (cond b (Some x.1) (number_of xs type)) ≡ false → cond b (Some x.1) (number_of (xs ++ (new, given) ∷ []) type) ≡ Some number
        → (is_some (number_of xs type) ≡ false → number_of (xs ++ (new, given) ∷ []) type ≡ Some number → (type ≡ new) × (given ≡ number)) → (type ≡ new) × (given ≡ number)
    by true none is rest = absurd (true≢false none)
    by false none is rest = rest none is

or_second : (a b : Bool) → b ≡ true → (a || b) ≡ true
or_second true b h = refl
or_second false b h = h

give_has : (numbers : Numbers) (new : Tree) → HaveLines numbers → IsClosed numbers.types → AllSettled numbers.types (parts new) → HaveLines (give numbers new (line_of numbers.types new))
give_has numbers new have closed inner type number is = by (is_some (number_of numbers.types type)) refl
  where
    by : (b : Bool) → is_some (number_of numbers.types type) ≡ b → slice_get (give numbers new (line_of numbers.types new)).lines number ≡ Some (line_of (give numbers new (line_of numbers.types new)).types type)
    by true some =
        let before : number_of numbers.types type ≡ Some number = sym (number_stays numbers.types _ type some) ∙ is in
        stands_still _ numbers.lines _ number _ (have type number before)
        ∙ ap Some (sym (line_stays numbers.types _ type (closed type (or_second _ _ some))))
    by false none =
        let told = the_new numbers.types new _ type number none is in
        let line = line_of numbers.types new in
        subst (λ k. slice_get (give numbers new line).lines k ≡ Some (line_of (give numbers new line).types type)) told.1
        (line_there line numbers.lines ∙ ap Some (sym (line_stays numbers.types _ new inner) ∙ ap (line_of (give numbers new line).types) (sym told.0)))

finish_has : (numbers : Numbers) (type : Tree) → HaveLines numbers → IsClosed numbers.types → AllSettled numbers.types (parts type) → HaveLines (finish numbers type)
finish_has numbers type have closed inner = finish_cases numbers type HaveLines (λ _. have) (λ _. give_has numbers type have closed inner)

finish_all_has : (numbers : Numbers) (types : List Tree) → HaveLines numbers → IsClosed numbers.types → PartsFirst numbers types → HaveLines (finish_all numbers types)
finish_all_has numbers [] have closed ordered = have
finish_all_has numbers (type ∷ types) have closed ordered =
    finish_all_has (finish numbers type) types (finish_has numbers type have closed ordered.0) (finish_closes numbers type closed ordered.0) ordered.1

none_has : HaveLines no_numbers
none_has type number is = (cc)

pub numbers_have_lines : (types : List Tree) → HaveLines (number_all types)
numbers_have_lines types = finish_all_has no_numbers (flat_map walk types) none_has no_numbers_closed (walks_are_ordered no_numbers types)
