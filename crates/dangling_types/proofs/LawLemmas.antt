-- The function gives what the definition of a first dangling reference says.
use Rattle.std.proofs.Common.{◌≡◌, zero, suc, List, [], ◌∷◌, ◌++◌, cond, Bool, true, false, Option, Some, None, refl, sym, ap, ◌∙◌, subst, arith, append_assoc}
use Rattle.std.specs.List.{Contains}
use Rattle.std.proofs.lemmas.Bool.{eqb-true}
use Rattle.std.proofs.lemmas.Cmp.{nat_eq_equiv}
use Rattle.type_terms.specs.Declarations.{Decl}
use Rattle.environments.specs.Environments.{Entry, declared, damaged}
use Rattle.environments.specs.Roles.{role_of}
use Rattle.environments.specs.References.{references, IsFirstMentions, all_seen, again, first}
use Rattle.environments.specs.declared.mentions.Role.{Role}
use Rattle.environments.specs.declared.mentions.Role.TheVariants.{Defined, Parameter, Alias, DefinedBase, AliasBase}
use Rattle.environments.specs.declared.mentions.Reference.{Reference}
use Rattle.dangling_references.specs.Dangling.{Entries, DanglesAs, Dangles, NoneDangles, IsFirstIfAny, IsFirstOf}
use Rattle.dangling_types.specs.FirstDangling.{role_behind, is_role, fits, first_dangling, dangling_in}
use Rattle.dangling_types.proofs.FirstLemmas.{none_then, some_then}

-- ---- roles

role_fits : (role : Role) → is_role (Some role) role ≡ true
role_fits Defined = refl
role_fits Parameter = refl
role_fits Alias = refl
role_fits (DefinedBase n) = nat_eq_equiv.refl n
role_fits (AliasBase n) = nat_eq_equiv.refl n

fits_role : (own : Option Role) (role : Role) → is_role own role ≡ true → own ≡ Some role
fits_role (Some Defined) Defined e = refl
fits_role (Some Parameter) Parameter e = refl
fits_role (Some Alias) Alias e = refl
fits_role (Some (DefinedBase m)) (DefinedBase n) e = ap (λ k. Some (DefinedBase k)) (eqb-true m n e)
fits_role (Some (AliasBase m)) (AliasBase n) e = ap (λ k. Some (AliasBase k)) (eqb-true m n e)
fits_role _ _ e = absurd cc

sound_entry : (role : Role) (entry : Option Entry) → is_role (role_behind entry) role ≡ true → DanglesAs role entry → ⊥
sound_entry role None e d = cc
sound_entry role (Some (damaged fault read)) e d = cc
sound_entry role (Some (declared decl)) e d = d (fits_role (role_of decl) role e)

bad_entry : (role : Role) (entry : Option Entry) → is_role (role_behind entry) role ≡ false → DanglesAs role entry
bad_entry role None e = tt
bad_entry role (Some (damaged fault read)) e = tt
bad_entry role (Some (declared decl)) e = λ same. let fits = ap (λ o. is_role o role) same ∙ role_fits role in cc

module _ (entries : Entries) where
  sound_if : (r : Reference) → fits entries r ≡ true → Dangles entries r → ⊥
  sound_if r e = sound_entry r.role (entries r.name) e

  dangles_if : (r : Reference) → fits entries r ≡ false → Dangles entries r
  dangles_if r e = bad_entry r.role (entries r.name) e

  fits_if : (r : Reference) → (Dangles entries r → ⊥) → fits entries r ≡ true
  fits_if r sound = by (fits entries r) refl
    where
      by : (b : Bool) → fits entries r ≡ b → b ≡ true
      by true e = refl
      by false e = absurd (sound (dangles_if r e))

  bad_if : (r : Reference) → Dangles entries r → fits entries r ≡ false
  bad_if r d = by (fits entries r) refl
    where
      by : (b : Bool) → fits entries r ≡ b → b ≡ false
      by true e = absurd (sound_if r e d)
      by false e = refl

  pub first_is : (all : List Reference) → IsFirstIfAny entries all (first_dangling entries all)
  first_is [] = tt
  first_is (x ∷ xs) = by (fits entries x) refl (first_is xs)
    where
      later : (found : Option Reference) → fits entries x ≡ true → IsFirstIfAny entries xs found → IsFirstIfAny entries (x ∷ xs) found
      later None e none = (sound_if x e, none)
      later (Some r) e is = record { front = x ∷ is.front; rest = is.rest; stands = ap (λ l. x ∷ l) is.stands; before = (sound_if x e, is.before); dangles = is.dangles }

      by : (b : Bool) → fits entries x ≡ b → IsFirstIfAny entries xs (first_dangling entries xs) → IsFirstIfAny entries (x ∷ xs) (cond b (first_dangling entries xs) (Some x))
      by true e rest = later (first_dangling entries xs) e rest
      by false e rest = record { front = []; rest = xs; stands = refl; before = tt; dangles = dangles_if x e }

  none_is : (xs : List Reference) → NoneDangles entries xs → first_dangling entries xs ≡ None
  none_is [] none = refl
  none_is (x ∷ xs) none = ap (λ b. cond b (first_dangling entries xs) (Some x)) (fits_if x none.0) ∙ none_is xs none.1

  is_first : (all : List Reference) (found : Option Reference) → IsFirstIfAny entries all found → first_dangling entries all ≡ found
  is_first all None none = none_is all none
  is_first all (Some r) is =
      ap (first_dangling entries) is.stands ∙ none_then entries is.front (r ∷ is.rest) (none_is is.front is.before)
      ∙ ap (λ b. cond b (first_dangling entries is.rest) (Some r)) (bad_if r is.dangles)

  -- one of some that all fit does
  held_fits : (xs : List Reference) (r : Reference) → first_dangling entries xs ≡ None → Contains xs r → fits entries r ≡ true
  held_fits [] r none held = absurd (omega (arith, held.1))
  held_fits (x ∷ xs) r none (zero, within, is) = by (fits entries x) refl none
    where
      by : (b : Bool) → fits entries x ≡ b → cond b (first_dangling entries xs) (Some x) ≡ None → fits entries r ≡ true
      by true e n = subst (λ r. fits entries r ≡ true) is e
      by false e n = absurd cc
  held_fits (x ∷ xs) r none (suc k, within, is) = by (fits entries x) (λ n. held_fits xs r n (k, omega (arith, within), is)) none
    where
      by : (b : Bool) → (first_dangling entries xs ≡ None → fits entries r ≡ true) → cond b (first_dangling entries xs) (Some x) ≡ None → fits entries r ≡ true
      by true later n = later n
      by false later n = absurd cc

  -- what was seen stands at the front
  seen_front : (seen xs all : List Reference) → IsFirstMentions seen xs all → (more : List Reference) × (all ≡ seen ++ more)
  seen_front _ _ _ (all_seen seen) = ([], grown seen)
    where
      grown : (l : List Reference) → l ≡ l ++ []
      grown [] = refl
      grown (x ∷ l) = ap (λ rest. x ∷ rest) (grown l)
  seen_front _ _ _ (again seen next rest all held later) = seen_front seen rest all later
  seen_front _ _ _ (first seen next rest all new later) =
      let front = seen_front (seen ++ next ∷ []) rest all later in
      (next ∷ front.0, front.1 ∙ append_assoc seen (next ∷ []) front.0)

  mentions_same : (seen xs all : List Reference) → IsFirstMentions seen xs all → first_dangling entries seen ≡ None → first_dangling entries all ≡ first_dangling entries xs
  mentions_same _ _ _ (all_seen seen) none = none
  mentions_same _ _ _ (again seen next rest all held later) none =
      mentions_same seen rest all later none ∙ sym (ap (λ b. cond b (first_dangling entries rest) (Some next)) (held_fits seen next none held))
  mentions_same _ _ _ (first seen next rest all new later) none = by (fits entries next) refl (mentions_same (seen ++ next ∷ []) rest all later)
    where
      here : first_dangling entries (seen ++ next ∷ []) ≡ first_dangling entries (next ∷ [])
      here = none_then entries seen (next ∷ []) none

      by : (b : Bool) → fits entries next ≡ b → (first_dangling entries (seen ++ next ∷ []) ≡ None → first_dangling entries all ≡ first_dangling entries rest)
          → first_dangling entries all ≡ cond b (first_dangling entries rest) (Some next)
      by true e same = same (here ∙ ap (λ b. cond b None (Some next)) e)
      by false e same =
          let front = seen_front (seen ++ next ∷ []) rest all later in
          ap (first_dangling entries) front.1 ∙ some_then entries (seen ++ next ∷ []) front.0 next (here ∙ ap (λ b. cond b None (Some next)) e)

  pub mentioned_first : (decl : Decl) (found : Option Reference) → IsFirstOf entries decl found → found ≡ dangling_in entries decl
  mentioned_first decl found is = sym (is_first is.all found is.is) ∙ mentions_same [] (references decl) is.all is.mentions refl
