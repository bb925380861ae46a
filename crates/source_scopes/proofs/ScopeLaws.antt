-- What is found from the innermost scope outwards is what a name means.
use Rattle.std.proofs.Common.{◌≡◌, ◌≢◌, ℕ, suc, Bool, true, false, cond, List, [], ◌∷◌, ◌++◌, length, Option, Some, None, option_map, refl, sym, ap, subst, ◌∙◌, bytes_eq}
use Rattle.std.specs.Cmp.Lexicographic.{bytes_decides}
use Rattle.universe_names.specs.Universe.{standing_for, universe}
use Rattle.universe_names.specs.declared.names.Predeclared.{Predeclared}
use Rattle.source_scopes.specs.declared.looking.Meaning.{Meaning}
use Rattle.source_scopes.specs.declared.looking.Meaning.TheVariants.{Parameter as a_parameter, Object as an_object, Package as a_package, Predeclared as predeclared}
use Rattle.source_scopes.specs.Scopes.{Scopes, Means, IsNone, StandsFirst, parameter_names, object_names, import_names}
use Rattle.source_scopes.specs.Scopes.{by_parameter, by_object, by_import, by_universe}
use Rattle.source_scopes.specs.Scopes.{blank, position, in_universe, or_universe, or_import, or_object, meaning}

-- ---- equal texts

same_is : (a : List ℕ) → bytes_eq a a ≡ true
same_is a = (bytes_decides a a).1 refl

differs : (a b : List ℕ) → bytes_eq a b ≡ false → a ≢ b
differs a b f same = let t : bytes_eq a b ≡ true = (bytes_decides a b).1 same in absurd cc

differ_by : (a b : List ℕ) → a ≢ b → (c : Bool) → bytes_eq a b ≡ c → bytes_eq a b ≡ false
differ_by a b differ true t = absurd (differ ((bytes_decides a b).0 t))
differ_by a b differ false f = f

differ_is : (a b : List ℕ) → a ≢ b → bytes_eq a b ≡ false
differ_is a b differ = differ_by a b differ (bytes_eq a b) refl

-- ---- the first of some names

there : (text : List ℕ) (front rest : List (List ℕ)) → IsNone text front → position text (front ++ text ∷ rest) ≡ Some (length front)
there text [] rest h = ap (λ c. cond c (Some 0) (option_map (λ i. suc i) (position text rest))) (same_is text)
there text (x ∷ front) rest h =
    ap (λ c. cond c (Some 0) (option_map (λ i. suc i) (position text (front ++ text ∷ rest)))) (differ_is text x h.0)
    ∙ ap (option_map (λ i. suc i)) (there text front rest h.1)

position_is : (text : List ℕ) (names : List (List ℕ)) (i : ℕ) → StandsFirst text names i → position text names ≡ Some i
position_is text names i h = ap (position text) h.split ∙ there text h.front h.rest h.before ∙ sym (ap Some h.at)

none_is : (text : List ℕ) (names : List (List ℕ)) → IsNone text names → position text names ≡ None
none_is text [] h = refl
none_is text (x ∷ names) h =
    ap (λ c. cond c (Some 0) (option_map (λ i. suc i) (position text names))) (differ_is text x h.0) ∙ ap (option_map (λ i. suc i)) (none_is text names h.1)

at_front : (text x : List ℕ) (names : List (List ℕ)) (i : ℕ) → text ≡ x → 0 ≡ i → StandsFirst text (x ∷ names) i
at_front text x names i same is = record { front = []; rest = names; split = ap (λ y. y ∷ names) (sym same); at = sym is; before = tt }

behind : (text x : List ℕ) (names : List (List ℕ)) (i j : ℕ) → text ≢ x → suc j ≡ i → StandsFirst text names j → StandsFirst text (x ∷ names) i
behind text x names i j differ is h = record {
  front = x ∷ h.front;
  rest = h.rest;
  split = ap (λ ys. x ∷ ys) h.split;
  at = sym is ∙ ap (λ k. suc k) h.at;
  before = (differ, h.before);
}

same_number : (i j : ℕ) → Some i ≡ Some j → i ≡ j
same_number i j e = cc

first_by : (text x : List ℕ) (names : List (List ℕ)) (i : ℕ) (c : Bool) (r : Option ℕ) → bytes_eq text x ≡ c → ((j : ℕ) → r ≡ Some j → StandsFirst text names j)
    → cond c (Some 0) (option_map (λ k. suc k) r) ≡ Some i → StandsFirst text (x ∷ names) i
first_by text x names i true r t rest e = at_front text x names i ((bytes_decides text x).0 t) (same_number 0 i e)
first_by text x names i false (Some j) f rest e = behind text x names i j (differs text x f) (same_number (suc j) i e) (rest j refl)
first_by text x names i false None f rest e = absurd cc

stands : (text : List ℕ) (names : List (List ℕ)) (i : ℕ) → position text names ≡ Some i → StandsFirst text names i
stands text [] i e = absurd cc
stands text (x ∷ names) i e = first_by text x names i (bytes_eq text x) (position text names) refl (stands text names) e

none_by : (text x : List ℕ) (names : List (List ℕ)) (c : Bool) (r : Option ℕ) → bytes_eq text x ≡ c → (r ≡ None → IsNone text names)
    → cond c (Some 0) (option_map (λ k. suc k) r) ≡ None → IsNone text (x ∷ names)
none_by text x names true r t rest e = absurd cc
none_by text x names false (Some j) f rest e = absurd cc
none_by text x names false None f rest e = (differs text x f, rest refl)

none : (text : List ℕ) (names : List (List ℕ)) → position text names ≡ None → IsNone text names
none text [] e = tt
none text (x ∷ names) e = none_by text x names (bytes_eq text x) (position text names) refl (none text names) e

-- ---- what a name means is found

not_blank : (s : Scopes) (text : List ℕ) → text ≢ blank → meaning s text ≡ or_object s text (position text (parameter_names s))
not_blank s text h = ap (λ c. cond c None (or_object s text (position text (parameter_names s)))) (differ_is text blank h)

no_parameter : (s : Scopes) (text : List ℕ) → text ≢ blank → IsNone text (parameter_names s) → meaning s text ≡ or_import s text (position text (object_names s))
no_parameter s text h p = not_blank s text h ∙ ap (or_object s text) (none_is text (parameter_names s) p)

no_object : (s : Scopes) (text : List ℕ) → text ≢ blank → IsNone text (parameter_names s) → IsNone text (object_names s) → meaning s text ≡ or_universe text (position text (import_names s))
no_object s text h p o = no_parameter s text h p ∙ ap (or_import s text) (none_is text (object_names s) o)

pub only : (s : Scopes) (text : List ℕ) (m : Meaning) → Means s text m → meaning s text ≡ Some m
only s text m (by_parameter i h at) = not_blank s text h ∙ ap (or_object s text) (position_is text (parameter_names s) i at)
only s text m (by_object i h p at) = no_parameter s text h p ∙ ap (or_import s text) (position_is text (object_names s) i at)
only s text m (by_import i h p o at) = no_object s text h p o ∙ ap (or_universe text) (position_is text (import_names s) i at)
only s text m (by_universe u h p o n is) = no_object s text h p o ∙ ap (or_universe text) (none_is text (import_names s) n) ∙ ap in_universe is

-- ---- what is found is what a name means

same_meaning : (m n : Meaning) → Some m ≡ Some n → m ≡ n
same_meaning m n e = cc

in_the_universe : (s : Scopes) (text : List ℕ) (m : Meaning) → text ≢ blank → IsNone text (parameter_names s) → IsNone text (object_names s) → IsNone text (import_names s)
    → (r : Option Predeclared) → standing_for text universe ≡ r → in_universe r ≡ Some m → Means s text m
in_the_universe s text m h p o n (Some u) is e = subst (Means s text) (same_meaning (predeclared u) m e) (by_universe u h p o n is)
in_the_universe s text m h p o n None is e = absurd cc

among_imports : (s : Scopes) (text : List ℕ) (m : Meaning) → text ≢ blank → IsNone text (parameter_names s) → IsNone text (object_names s)
    → (r : Option ℕ) → position text (import_names s) ≡ r → or_universe text r ≡ Some m → Means s text m
among_imports s text m h p o (Some i) is e = subst (Means s text) (same_meaning (a_package i) m e) (by_import i h p o (stands text (import_names s) i is))
among_imports s text m h p o None is e = in_the_universe s text m h p o (none text (import_names s) is) (standing_for text universe) refl e

among_objects : (s : Scopes) (text : List ℕ) (m : Meaning) → text ≢ blank → IsNone text (parameter_names s)
    → (r : Option ℕ) → position text (object_names s) ≡ r → or_import s text r ≡ Some m → Means s text m
among_objects s text m h p (Some i) is e = subst (Means s text) (same_meaning (an_object i) m e) (by_object i h p (stands text (object_names s) i is))
among_objects s text m h p None is e = among_imports s text m h p (none text (object_names s) is) (position text (import_names s)) refl e

among_parameters : (s : Scopes) (text : List ℕ) (m : Meaning) → text ≢ blank → (r : Option ℕ) → position text (parameter_names s) ≡ r → or_object s text r ≡ Some m → Means s text m
among_parameters s text m h (Some i) is e = subst (Means s text) (same_meaning (a_parameter i) m e) (by_parameter i h (stands text (parameter_names s) i is))
among_parameters s text m h None is e = among_objects s text m h (none text (parameter_names s) is) (position text (object_names s)) refl e

found_by : (s : Scopes) (text : List ℕ) (m : Meaning) (c : Bool) → bytes_eq text blank ≡ c → cond c None (or_object s text (position text (parameter_names s))) ≡ Some m → Means s text m
found_by s text m true t e = absurd cc
found_by s text m false f e = among_parameters s text m (differs text blank f) (position text (parameter_names s)) refl e

pub found : (s : Scopes) (text : List ℕ) (m : Meaning) → meaning s text ≡ Some m → Means s text m
found s text m e = found_by s text m (bytes_eq text blank) refl e

pub one : (s : Scopes) (text : List ℕ) (m n : Meaning) → Means s text m → Means s text n → m ≡ n
one s text m n h k = same_meaning m n (sym (only s text m h) ∙ only s text n k)
