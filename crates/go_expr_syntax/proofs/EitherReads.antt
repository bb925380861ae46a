-- What a choice between two readings does, where both do so.
use Rattle.std.proofs.lemmas.List.{append-nil}
use Rattle.std.proofs.Common.{Option, Some, None, ◌==◌, ◌≡◌, ℕ, ◌+◌, ◌≤◌, ◌<◌, nat_le, Bool, true, false, if◌then◌else◌, List, [], ◌∷◌, ◌++◌, length, Ok, Err, refl, sym, ap, subst, ◌∙◌, append_assoc, arith, length-append}
use Rattle.std.proofs.lemmas.Bool.{leb-true, leb-false, le-leb, eqb-true, eq-eqb}
use Rattle.go_expr_syntax.specs.declared.symbols.Symbol.{Symbol}
use Rattle.go_expr_syntax.specs.declared.faults.Fault.{Fault}
use Rattle.go_expr_syntax.specs.declared.faults.Fault.TheVariants.{Unexpected, Deep, DotImport, Call}
use Rattle.go_expr_syntax.specs.Reading.{Reply}
use Rattle.go_expr_syntax.specs.Either.{needed, began_here, or_at, instead_of, after_fault, either}
use Rattle.go_expr_syntax.proofs.Viable.{ahead, ahead_along, moved, going, ReadNotOn, ReadsOn, ReadsAt}

-- of two beginnings of a list, the one that leaves less goes on with the other
pub goes_further : (a b c d : List Symbol) → a ++ b ≡ c ++ d → length d ≤ length b → (mid : List Symbol) × (c ≡ a ++ mid) × (b ≡ mid ++ d)
goes_further [] b c d e l = (c, refl, e)
goes_further (x ∷ a) b [] d e l =
    let n : length (x ∷ (a ++ b)) ≡ length d = ap length e in
    let m : length (a ++ b) ≡ length a + length b = length-append {A = Symbol} a b in
    absurd (omega (arith, n, m, l))
goes_further (x ∷ a) b (y ∷ c) d e l =
    let same : x ≡ y = cc in
    let tail : a ++ b ≡ c ++ d = cc in
    let o = goes_further a b c d tail l in
    (o.0, ap (λ (us : List Symbol). y ∷ us) o.1 ∙ ap (λ z. z ∷ (a ++ o.0)) (sym same), o.2)

-- the same reply, where other tokens are left
abbrev pub with_rest : {X : Type 0} → Reply X → List Symbol → Reply X
with_rest (Ok z) r = Ok (z.0, r)
with_rest (Err f) r = Err (moved f (length r))

-- what is needed beyond the tokens that are left
abbrev extra : {X : Type 0} → Reply X → ℕ
extra (Err (Unexpected k)) = 1
extra _ = 0

extra_small : {X : Type 0} (reply : Reply X) → extra reply ≤ 1
extra_small (Ok z) = omega arith
extra_small (Err (Unexpected k)) = omega arith
extra_small (Err (Deep k began)) = omega arith
extra_small (Err (DotImport k)) = omega arith
extra_small (Err (Call k at)) = omega arith

needed_with : {X : Type 0} (reply : Reply X) (r : List Symbol) → needed (with_rest reply r) ≡ extra reply + length r
needed_with (Ok z) r = omega arith
needed_with (Err (Unexpected k)) r = omega arith
needed_with (Err (Deep k began)) r = omega arith
needed_with (Err (DotImport k)) r = omega arith
needed_with (Err (Call k at)) r = omega arith

module _ {X : Type 0} (F W : List Symbol → X → List Symbol → Type 0) (p : List Symbol → Reply X) (ts : List Symbol) where
  abbrev front_of : (reply : Reply X) → ReadsOn F W p ts reply → List Symbol
  front_of (Ok z) h = h.front
  front_of (Err f) h = h.front

  abbrev rest_of : (reply : Reply X) → ReadsOn F W p ts reply → List Symbol
  rest_of (Ok z) h = z.1
  rest_of (Err f) h = h.rest

  split_of : (reply : Reply X) (h : ReadsOn F W p ts reply) → ts ≡ front_of reply h ++ rest_of reply h
  split_of (Ok z) h = h.split
  split_of (Err f) h = h.split

  stays_of : (reply : Reply X) (h : ReadsOn F W p ts reply) (r : List Symbol) → ahead (rest_of reply h) ≡ ahead r → p (front_of reply h ++ r) ≡ with_rest reply r
  stays_of (Ok z) h r e = h.stays r e
  stays_of (Err f) h r e = h.stays r e

  needed_of : (reply : Reply X) (h : ReadsOn F W p ts reply) → needed reply ≡ extra reply + length (rest_of reply h)
  needed_of (Ok z) h = omega arith
  needed_of (Err (Unexpected k)) h = let place : Unexpected k ≡ Unexpected (length h.rest) = h.place in let e : k ≡ length h.rest = cc in omega (arith, e)
  needed_of (Err (Deep k began)) h = let place : Deep k began ≡ Deep (length h.rest) began = h.place in let e : k ≡ length h.rest = cc in omega (arith, e)
  needed_of (Err (DotImport k)) h = let place : DotImport k ≡ DotImport (length h.rest) = h.place in let e : k ≡ length h.rest = cc in omega (arith, e)
  needed_of (Err (Call k at)) h = let place : Call k at ≡ Call (length h.rest) at = h.place in let e : k ≡ length h.rest = cc in omega (arith, e)

  -- another reader that answers so, whatever follows
  same_reads : (other : List Symbol → Reply X) (reply : Reply X) (h : ReadsOn F W p ts reply) → ((r : List Symbol) → ahead (rest_of reply h) ≡ ahead r → other (front_of reply h ++ r) ≡ with_rest reply r) → ReadsOn F W other ts reply
  same_reads other (Ok z) h same = record { front = h.front; split = h.split; stands = h.stands; stays = same }
  same_reads other (Err f) h same = record { front = h.front; rest = h.rest; split = h.split; place = h.place; stays = same; more = h.more; made = h.made; completes = h.completes; met = h.met }

abbrev pub either_then : {X : Type 0} → (List Symbol → Reply X) → (List Symbol → Reply X) → List Symbol → Reply X
either_then p q ts = either (p ts) (q ts)

-- a fault that the second reading may outlast
abbrev Yields : (X : Type 0) → Fault → Type 0
Yields X f = (n : ℕ) (second : Reply X) → after_fault (moved f n) second ≡ instead_of (moved f n) n second

module _ {X : Type 0} (F W : List Symbol → X → List Symbol → Type 0) (p q : List Symbol → Reply X) (ts : List Symbol) (f : Fault) (h : ReadNotOn F (going W) p ts f) (yields : Yields X f) where
  -- what both answer, where both are known
  answer_is : (us : List Symbol) (n : ℕ) (second : Reply X) → p us ≡ Err (moved f n) → q us ≡ second → either_then p q us ≡ instead_of (moved f n) n second
  answer_is us n second a b = rw (a, b) (yields n second)

  taken : (n : ℕ) (second : Reply X) → needed second ≤ n → instead_of (moved f n) n second ≡ second
  taken n second le = rw (le-leb (needed second) n le) refl

  kept : (n : ℕ) (second : Reply X) → n < needed second → instead_of (moved f n) n second ≡ Err (moved f n)
  kept n second lt =
      let no : nat_le (needed second) n ≡ false = leb-not (needed second) n lt in
      rw no refl
    where
      leb-not : (a b : ℕ) → b < a → nat_le a b ≡ false
      leb-not a b l = below (nat_le a b) refl
        where
          below : (c : Bool) → nat_le a b ≡ c → c ≡ false
          below true e = let le : a ≤ b = leb-true a b e in absurd (omega (arith, le, l))
          below false e = refl

  second_reads : (reply : Reply X) (k : ReadsOn F W q ts reply) → needed reply ≤ length h.rest → ReadsOn F W (either_then p q) ts reply
  second_reads reply k le =
      let n = needed_of F W q ts reply k in
      let o = goes_further h.front h.rest (front_of F W q ts reply k) (rest_of F W q ts reply k) (sym h.split ∙ split_of F W q ts reply k) (omega (arith, n, le)) in
      let long : length h.rest ≡ length o.0 + length (rest_of F W q ts reply k) = ap length o.2 ∙ length-append {A = Symbol} o.0 (rest_of F W q ts reply k) in
      same_reads F W q ts (either_then p q) reply k (λ r e.
      let far : length (o.0 ++ r) ≡ length o.0 + length r = length-append {A = Symbol} o.0 r in
      let m = needed_with reply r in
      answer_is (front_of F W q ts reply k ++ r) (length (o.0 ++ r)) (with_rest reply r)
      (subst (λ (us : List Symbol). p (us ++ r) ≡ Err (moved f (length (o.0 ++ r)))) (sym o.1)
      (ap p (append_assoc h.front o.0 r) ∙ h.stays (o.0 ++ r) (ap ahead o.2 ∙ ahead_along o.0 (rest_of F W q ts reply k) r e)))
      (stays_of F W q ts reply k r e)
      ∙ taken (length (o.0 ++ r)) (with_rest reply r) (omega (arith, far, m, n, le, long)))

  first_reads : (reply : Reply X) (k : ReadsOn F W q ts reply) → length h.rest < needed reply → ReadsOn F W (either_then p q) ts (Err f)
  first_reads reply k lt =
      let n = needed_of F W q ts reply k in
      let small = extra_small reply in
      let o = goes_further (front_of F W q ts reply k) (rest_of F W q ts reply k) h.front h.rest (sym (split_of F W q ts reply k) ∙ h.split) (omega (arith, n, lt, small)) in
      let long : length (rest_of F W q ts reply k) ≡ length o.0 + length h.rest = ap length o.2 ∙ length-append {A = Symbol} o.0 h.rest in
      same_reads F W p ts (either_then p q) (Err f) h (λ r e.
      let far : length (o.0 ++ r) ≡ length o.0 + length r = length-append {A = Symbol} o.0 r in
      let m = needed_with reply (o.0 ++ r) in
      answer_is (h.front ++ r) (length r) (with_rest reply (o.0 ++ r)) (h.stays r e)
      (subst (λ (us : List Symbol). q (us ++ r) ≡ with_rest reply (o.0 ++ r)) (sym o.1)
      (ap q (append_assoc (front_of F W q ts reply k) o.0 r) ∙ stays_of F W q ts reply k (o.0 ++ r) (ap ahead o.2 ∙ ahead_along o.0 h.rest r e)))
      ∙ kept (length r) (with_rest reply (o.0 ++ r)) (omega (arith, far, m, n, lt, long)))

  chosen : (reply : Reply X) → ReadsOn F W q ts reply → (b : Bool) → nat_le (needed reply) (length h.rest) ≡ b → ReadsOn F W (either_then p q) ts (if b then reply else Err f)
  chosen reply k true e = second_reads reply k (leb-true (needed reply) (length h.rest) e)
  chosen reply k false e = first_reads reply k (leb-false (needed reply) (length h.rest) e)

  -- where the fault is told by its place
  fault_reads : (reply : Reply X) → ReadsOn F W q ts reply → (n : ℕ) → n ≡ length h.rest → ReadsOn F W (either_then p q) ts (instead_of f n reply)
  fault_reads reply k n e = rw e (chosen reply k (nat_le (needed reply) (length h.rest)) refl)

-- ---- a path that is too long in the first reading

same_length : (a b c d : List Symbol) → a ++ b ≡ c ++ d → length b ≡ length d → (c ≡ a) × (d ≡ b)
same_length a b c d e l =
    let o = goes_further a b c d e (omega (arith, l)) in
    let long : length b ≡ length o.0 + length d = ap length o.2 ∙ length-append {A = Symbol} o.0 d in
    ends o.0 o.1 o.2 (omega (arith, l, long))
  where
    ends : (mid : List Symbol) → c ≡ a ++ mid → b ≡ mid ++ d → length mid ≡ 0 → (c ≡ a) × (d ≡ b)
    ends [] f g z = (f ∙ append-nil a, sym g)
    ends (k ∷ mid) f g z = absurd (omega (arith, z))

module _ {X : Type 0} (F W : List Symbol → X → List Symbol → Type 0) (q : List Symbol → Reply X) (front : List Symbol) where
  -- where a path is too long with the next token, it is so whatever follows
  stays_deep : (a b : List Symbol) (at : ℕ) (f : Fault) → f ≡ Deep (length a) at → ReadNotOn F (going W) q (front ++ a) f → ahead a ≡ ahead b → q (front ++ b) ≡ Err (Deep (length b) at)
  stays_deep a b at (Deep k began) is h e =
      let place : Deep k began ≡ Deep (length h.rest) began = h.place in
      let left : k ≡ length h.rest = cc in
      let here : k ≡ length a = cc in
      let from : began ≡ at = cc in
      let o = same_length front a h.front h.rest h.split (sym here ∙ left) in
      subst (λ (us : List Symbol). q (us ++ b) ≡ Err (Deep (length b) at)) o.0 (h.stays b (ap ahead o.1 ∙ e) ∙ ap (λ (n : ℕ). Err (Deep (length b) n)) from)
  stays_deep a b at (Unexpected k) is h e = absurd cc
  stays_deep a b at (DotImport k) is h e = absurd cc
  stays_deep a b at (Call k c) is h e = absurd cc

  abbrev deep_as : ℕ → ℕ → Reply X
  deep_as k c = Err (Deep k c)

  deep_so : (n k c at : ℕ) (b : Bool) → (k == n) ≡ b → (if b then Some c else None) ≡ Some at → deep_as k c ≡ deep_as n at
  deep_so n k c at true is e = let one : k ≡ n = eqb-true k n is in let two : c ≡ at = cc in rw (one, two) refl
  deep_so n k c at false is e = absurd cc

  too : (n : ℕ) (reply : Reply X) (at : ℕ) → began_here n reply ≡ Some at → reply ≡ Err (Deep n at)
  too n (Ok z) at e = absurd cc
  too n (Err (Unexpected k)) at e = absurd cc
  too n (Err (DotImport k)) at e = absurd cc
  too n (Err (Call k c)) at e = absurd cc
  too n (Err (Deep k c)) at e = deep_so n k c at (k == n) refl e

  so : (n at : ℕ) (reply : Reply X) → reply ≡ Err (Deep n at) → began_here n reply ≡ Some at
  so n at reply e = rw (e, eq-eqb n n refl) refl

  over_to : (a b : List Symbol) (at : ℕ) (reply : Reply X) → q (front ++ a) ≡ reply → ReadsOn F W q (front ++ a) reply → ahead a ≡ ahead b → began_here (length a) reply ≡ Some at → began_here (length b) (q (front ++ b)) ≡ Some at
  over_to a b at (Ok z) same h e is = absurd cc
  over_to a b at (Err f) same h e is =
      let one : Err f ≡ Err (Deep (length a) at) = too (length a) (Err f) at is in
      let two : f ≡ Deep (length a) at = cc in
      so (length b) at (q (front ++ b)) (stays_deep a b at f two h e)

  agree : (a b : List Symbol) (x y : Option ℕ) → ((at : ℕ) → x ≡ Some at → y ≡ Some at) → ((at : ℕ) → y ≡ Some at → x ≡ Some at) → x ≡ y
  agree a b None None f g = refl
  agree a b (Some n) y f g = sym (f n refl)
  agree a b None (Some n) f g = g n refl

  same_began : (a b : List Symbol) → ahead a ≡ ahead b → ReadsOn F W q (front ++ a) (q (front ++ a)) → ReadsOn F W q (front ++ b) (q (front ++ b)) → began_here (length a) (q (front ++ a)) ≡ began_here (length b) (q (front ++ b))
  same_began a b e h g =
      agree a b (began_here (length a) (q (front ++ a))) (began_here (length b) (q (front ++ b)))
      (λ at is. over_to a b at (q (front ++ a)) refl h e is)
      (λ at is. over_to b a at (q (front ++ b)) refl g (sym e) is)

module _ {X : Type 0} (F W : List Symbol → X → List Symbol → Type 0) (p q : List Symbol → Reply X) (ts : List Symbol) where
  deep_read : (j began : ℕ) (second : Reply X) → ReadNotOn F (going W) p ts (Deep j began) → q ts ≡ second → ((us : List Symbol) → ahead ts ≡ ahead us → ReadsOn F W q us (q us)) → ReadsOn F W (either_then p q) ts (Err (Deep j (or_at began (began_here j second))))
  deep_read j began second h same all =
      let place : Deep j began ≡ Deep (length h.rest) began = h.place in
      let left : j ≡ length h.rest = cc in
      let at = or_at began (began_here j second) in
      record {
        front = h.front;
        rest = h.rest;
        split = h.split;
        place = ap (λ (n : ℕ). Deep n (or_at began (began_here j second))) left;
        stays = λ r e.
            ap (λ (m : Reply X). either m (q (h.front ++ r))) (h.stays r e)
            ∙ ap (λ (o : Option ℕ). Err (Deep (length r) (or_at began o)))
            (sym (same_began F W q h.front h.rest r e (all (h.front ++ h.rest) (ap ahead h.split)) (all (h.front ++ r) (ap ahead h.split ∙ ahead_along h.front h.rest r e))) ∙ ap (λ (us : List Symbol). began_here (length h.rest) (q us)) (sym h.split) ∙ ap (λ (n : ℕ). began_here n (q ts)) (sym left) ∙ ap (began_here j) same);
        more = h.more;
        made = h.made;
        completes = h.completes;
        met = h.met;
      }

  either_read : (first second : Reply X) → ReadsOn F W p ts first → ReadsOn F W q ts second → q ts ≡ second → ((us : List Symbol) → ahead ts ≡ ahead us → ReadsOn F W q us (q us)) → ReadsOn F W (either_then p q) ts (either first second)
  either_read (Ok z) second h k same all = same_reads F W p ts (either_then p q) (Ok z) h (λ r e. ap (λ (m : Reply X). either m (q (h.front ++ r))) (h.stays r e))
  either_read (Err (Deep j began)) second h k same all = deep_read j began second h same all
  either_read (Err (Unexpected j)) second h k same all = let place : Unexpected j ≡ Unexpected (length h.rest) = h.place in let e : j ≡ length h.rest = cc in fault_reads F W p q ts (Unexpected j) h (λ n s. refl) second k j e
  either_read (Err (DotImport j)) second h k same all = let place : DotImport j ≡ DotImport (length h.rest) = h.place in let e : j ≡ length h.rest = cc in fault_reads F W p q ts (DotImport j) h (λ n s. refl) second k j e
  either_read (Err (Call j at)) second h k same all = let place : Call j at ≡ Call (length h.rest) at = h.place in let e : j ≡ length h.rest = cc in fault_reads F W p q ts (Call j at) h (λ n s. refl) second k j e

  pub either_on : ReadsOn F W p ts (p ts) → ((us : List Symbol) → ahead ts ≡ ahead us → ReadsOn F W q us (q us)) → ReadsOn F W (either_then p q) ts (either_then p q ts)
  either_on h all = either_read (p ts) (q ts) h (all ts refl) refl all

pub either_reads : {X : Type 0} (F : List Symbol → X → List Symbol → Type 0) (p q : List Symbol → Reply X) (ts : List Symbol) → ReadsAt F p ts (p ts) → ((us : List Symbol) → ReadsAt F q us (q us)) → ReadsAt F (either_then p q) ts (either_then p q ts)
either_reads F p q ts h all = either_on F F p q ts h (λ us e. all us)
