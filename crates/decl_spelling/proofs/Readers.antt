-- A property of readers that is closed under the ways in which readers are built: what is read stands there whatever follows, what
-- stands there is read again, and the types that were named are logged.
use Rattle.std.proofs.Common.{◌≡◌, ℕ, ◌≤◌, Bool, true, false, List, [], ◌++◌, length, Option, Some, None, Result, Ok, Err, refl, sym, ap, subst, ◌∙◌, append_assoc, arith, length-append}
use Rattle.std.proofs.lemmas.List.{append-nil, map-append}
use Rattle.wire_bytes.specs.declared.fault.ByteFault.{ByteFault}
use Rattle.wire_bytes.specs.Reading.{◌>>=◌}
use Rattle.decl_spelling.specs.declared.mention.Mention.{Mention}
use Rattle.decl_spelling.specs.Reading.{Ahead, Reader, Stopped, ask, or_stop}
use Rattle.decl_spelling.specs.Grammar.{Here}
use Rattle.decl_spelling.specs.Asks.{Ask, ask_of}
use Rattle.decl_spelling.proofs.Took.{seen_from, Fits, Went, Took, Few, Again}

-- ---- from one place to the next

pub went_nowhere : (a : Ahead) → Fits a → Went a [] a
went_nowhere a fits = record { added = []; mentions = sym (append-nil a.mentions); asked = refl; frugal = omega arith; same_end = refl; fits = fits }

pub went_on : (a b c : Ahead) (first second : List Ask) → Went a first b → Went b second c → Went a (first ++ second) c
went_on a b c first second v w = record {
  added = v.added ++ w.added;
  mentions = w.mentions ∙ ap (λ (ms : List Mention). ms ++ w.added) v.mentions ∙ append_assoc a.mentions v.added w.added;
  asked = map-append ask_of v.added w.added ∙ (λ i. v.asked i ++ w.asked i);
  frugal = omega (arith, v.frugal, w.frugal, length-append v.added w.added);
  same_end = w.same_end ∙ v.same_end;
  fits = w.fits;
}

few_later : (a b : Ahead) (asks : List Ask) (s : Stopped) → Went a asks b → Few b s → Few a s
few_later a b asks s v few = omega (arith, few, v.frugal, ap (λ (ms : List Mention). length ms) v.mentions, length-append a.mentions v.added)

-- ---- the property

abbrev pub Answered : {X : Type 0} → (Here → X → Here → Type 0) → (X → List Ask) → Ahead → Result (X × Ahead) Stopped → Type 0
Answered F asks a (Ok y) = Took F asks a y.0 y.1
Answered F asks a (Err s) = Few a s

-- The reader is one of what stands by F, and of each value it names the types that are asked. That what it reads stands there rests on
-- what is given, as that the strings are bytes; that it reads what stands there rests on nothing.
pub record Reads {X : Type 0} (Given : Type 0) (p : Reader X) (F : Here → X → Here → Type 0) (asks : X → List Ask) : Type 0 where
  pub takes : Given → (a : Ahead) → Fits a → Answered F asks a (p a)
  pub again : (a : Ahead) (tail : List ℕ) (x : X) (after : Here) → F (seen_from a tail) x after → length tail ≤ length after.left → Again p a x tail after
  pub shrinks : (a : Here) (x : X) (b : Here) → F a x b → length b.left ≤ length a.left

pub took : {X : Type 0} (F : Here → X → Here → Type 0) (asks : X → List Ask) (a : Ahead) (r : Result (X × Ahead) Stopped) (x : X) (b : Ahead) → Answered F asks a r → r ≡ Ok (x, b) → Took F asks a x b
took F asks a r x b h e = let there : Answered F asks a (Ok (x, b)) = subst (Answered F asks a) e h in there

pub few : {X : Type 0} (F : Here → X → Here → Type 0) (asks : X → List Ask) (a : Ahead) (r : Result (X × Ahead) Stopped) (s : Stopped) → Answered F asks a r → r ≡ Err s → Few a s
few F asks a r s h e = let there : Answered F asks a (Err s) = subst (Answered F asks a) e h in there

-- a step from b on, of a reader that started at a
pub then_answers : {Y Z : Type 0} (F : Here → Y → Here → Type 0) (asks : Y → List Ask) (G : Here → Z → Here → Type 0) (all : Z → List Ask) (a b : Ahead) (before : List Ask) (r : Result (Y × Ahead) Stopped) (f : Y × Ahead → Result (Z × Ahead) Stopped)
    → Went a before b → Answered F asks b r → ((y : Y) (c : Ahead) → Took F asks b y c → Answered G all a (f (y, c))) → Answered G all a (r >>= f)
then_answers F asks G all a b before (Ok y) f went h next = next y.0 y.1 h
then_answers F asks G all a b before (Err s) f went h next = few_later a b before s went h

-- the rest of a reader that started at a and named no type up to b
pub onward_answers : {Z : Type 0} (F : Here → Z → Here → Type 0) (all : Z → List Ask) (T : Here → Z → Here → Type 0) (a b : Ahead) (r : Result (Z × Ahead) Stopped)
    → Went a [] b → Answered F all b r → ((z : Z) (c : Ahead) → Took F all b z c → (tail : List ℕ) → T (seen_from a tail) z (seen_from c tail)) → Answered T all a r
onward_answers F all T a b (Ok z) went h stands = record { stands = stands z.0 z.1 h; went = went_on a b z.1 [] (all z.0) went h.went }
onward_answers F all T a b (Err s) went h stands = few_later a b [] s went h

-- a check behind a reader that named no type
pub judged_answers : {V Z : Type 0} (G : Here → Z → Here → Type 0) (all : Z → List Ask) (a : Ahead) (fault : ByteFault) (o : Option V) (f : V → Result (Z × Ahead) Stopped)
    → ((v : V) → o ≡ Some v → Answered G all a (f v)) → Answered G all a (or_stop a fault o >>= f)
judged_answers G all a fault (Some v) f next = next v refl
judged_answers G all a fault None f next = omega arith

pub asked_answers : {Z : Type 0} (G : Here → Z → Here → Type 0) (all : Z → List Ask) (a : Ahead) (fault : ByteFault) (test : Bool) (f : Unit {0} → Result (Z × Ahead) Stopped)
    → (test ≡ true → Answered G all a (f tt)) → Answered G all a (ask a test fault >>= f)
asked_answers G all a fault true f next = next refl
asked_answers G all a fault false f next = omega arith

-- ---- nothing is read

abbrev pub Stays : {X : Type 0} → X → Here → X → Here → Type 0
Stays x a y b = (y ≡ x) × (b ≡ a)

abbrev pub nothing : {X : Type 0} → X → List Ask
nothing x = []

abbrev pub give : {X : Type 0} → X → Reader X
give x a = Ok (x, a)

pub give_reads : {X : Type 0} (Given : Type 0) (x : X) → Reads Given (give x) (Stays x) nothing
give_reads Given x = record {
  takes = λ given a fits. record { stands = λ tail. (refl, refl); went = went_nowhere a fits };
  again = λ a tail y after same le. (a, ap (λ z. Ok (z, a)) (sym same.0), same.1);
  shrinks = λ a y b same. omega (arith, ap (λ (h : Here). length h.left) same.1);
}

-- ---- the same readings, seen as another relation

pub as_reads : {X Given : Type 0} (p : Reader X) (F G : Here → X → Here → Type 0) (asks : X → List Ask) → Reads Given p F asks
    → ((a : Here) (x : X) (b : Here) → F a x b → G a x b) → ((a : Here) (x : X) (b : Here) → G a x b → F a x b) → Reads Given p G asks
as_reads p F G asks r join split = record {
  takes = λ given a fits. by a (p a) (r.takes given a fits);
  again = λ a tail x after g le. r.again a tail x after (split (seen_from a tail) x after g) le;
  shrinks = λ a x b g. r.shrinks a x b (split a x b g);
}
  where
    by : (a : Ahead) (result : Result _ Stopped) → Answered F asks a result → Answered G asks a result
    by a (Ok y) h = record { stands = λ tail. join _ _ _ (h.stands tail); went = h.went }
    by a (Err s) h = h

pub ask_reads : {X Given : Type 0} (p : Reader X) (F : Here → X → Here → Type 0) (asks others : X → List Ask) → Reads Given p F asks → ((x : X) → asks x ≡ others x) → Reads Given p F others
ask_reads p F asks others r same = record {
  takes = λ given a fits. by a (p a) (r.takes given a fits);
  again = r.again;
  shrinks = r.shrinks;
}
  where
    by : (a : Ahead) (result : Result _ Stopped) → Answered F asks a result → Answered F others a result
    by a (Ok y) h = record { stands = h.stands; went = subst (λ ks. Went a ks y.1) (same y.0) h.went }
    by a (Err s) h = h

-- ---- steps, and what is made of them. T is what stands by all of them: made of the parts, and split into them again.

module _ {X W : Type 0} (p : Reader X) (F : Here → X → Here → Type 0) (asks : X → List Ask) (make : X → W) (T : Here → W → Here → Type 0) (all : W → List Ask) where
  pub record One (a : Here) (w : W) (b : Here) : Type 0 where
    pub x : X
    pub first : F a x b
    pub made : w ≡ make x

  pub one_reads : {Given : Type 0} → Reads Given p F asks → ((x : X) → asks x ≡ all (make x))
      → ((a : Here) (x : X) (b : Here) → F a x b → T a (make x) b) → ((a : Here) (w : W) (b : Here) → T a w b → One a w b)
      → Reads Given (λ a. p a >>= λ x. Ok (make x.0, x.1)) T all
  one_reads rp same join split = record {
    takes = λ given a fits. then_answers F asks T all a a [] (p a) (λ x. Ok (make x.0, x.1)) (went_nowhere a fits) (rp.takes given a fits)
        (λ x b took. record { stands = λ tail. join _ _ _ (took.stands tail); went = subst (λ ks. Went a ks b) (same x) took.went });
    again = λ a tail w after t le.
        let s = split (seen_from a tail) w after t in
        let first = rp.again a tail s.x after s.first le in
        (first.0, rw first.1 (ap (λ w. Ok (w, first.0)) (sym s.made)), first.2);
    shrinks = λ a w b t. let s = split a w b t in rp.shrinks a s.x b s.first;
  }

module _ {X Y W : Type 0} (p : Reader X) (q : Reader Y) (F : Here → X → Here → Type 0) (G : Here → Y → Here → Type 0) (asks_x : X → List Ask) (asks_y : Y → List Ask)
    (make : X → Y → W) (T : Here → W → Here → Type 0) (all : W → List Ask) where
  pub record Two (a : Here) (w : W) (b : Here) : Type 0 where
    pub x : X
    pub y : Y
    pub at_y : Here
    pub first : F a x at_y
    pub second : G at_y y b
    pub made : w ≡ make x y

  pub two_reads : {Given : Type 0} → Reads Given p F asks_x → Reads Given q G asks_y → ((x : X) (y : Y) → asks_x x ++ asks_y y ≡ all (make x y))
      → ((a : Here) (x : X) (b : Here) (y : Y) (c : Here) → F a x b → G b y c → T a (make x y) c) → ((a : Here) (w : W) (b : Here) → T a w b → Two a w b)
      → Reads Given (λ a. p a >>= λ x. q x.1 >>= λ y. Ok (make x.0 y.0, y.1)) T all
  two_reads rp rq same join split = record {
    takes = λ given a fits. then_answers F asks_x T all a a [] (p a) (λ x. q x.1 >>= λ y. Ok (make x.0 y.0, y.1)) (went_nowhere a fits) (rp.takes given a fits)
        (λ x b tx. then_answers G asks_y T all a b (asks_x x) (q b) (λ y. Ok (make x y.0, y.1)) tx.went (rq.takes given b tx.went.fits)
        (λ y c ty. record { stands = λ tail. join _ _ _ _ _ (tx.stands tail) (ty.stands tail); went = subst (λ ks. Went a ks c) (same x y) (went_on a b c (asks_x x) (asks_y y) tx.went ty.went) }));
    again = λ a tail w after t le.
        let s = split (seen_from a tail) w after t in
        let first = rp.again a tail s.x s.at_y s.first (omega (arith, le, rq.shrinks s.at_y s.y after s.second)) in
        let second = rq.again first.0 tail s.y after (subst (λ m. G m s.y after) first.2 s.second) le in
        (second.0, rw (first.1, second.1) (ap (λ w. Ok (w, second.0)) (sym s.made)), second.2);
    shrinks = λ a w b t. let s = split a w b t in omega (arith, rp.shrinks a s.x s.at_y s.first, rq.shrinks s.at_y s.y b s.second);
  }

-- ---- one reader, and then another that depends on what the first one read

module _ {X Z : Type 0} (p : Reader X) (q : X → Reader Z) (F : Here → X → Here → Type 0) (G : X → Here → Z → Here → Type 0) (all : Z → List Ask) (T : Here → Z → Here → Type 0) where
  pub record Then (a : Here) (z : Z) (b : Here) : Type 0 where
    pub x : X
    pub next : Here
    pub first : F a x next
    pub second : G x next z b

  pub bind_reads : {Given : Type 0} → Reads Given p F nothing → ((x : X) → Reads Given (q x) (G x) all)
      → ((a : Here) (x : X) (b : Here) (z : Z) (c : Here) → F a x b → G x b z c → T a z c) → ((a : Here) (z : Z) (b : Here) → T a z b → Then a z b)
      → Reads Given (λ a. p a >>= λ x. q x.0 x.1) T all
  bind_reads rp rq join split = record {
    takes = λ given a fits. then_answers F nothing T all a a [] (p a) (λ x. q x.0 x.1) (went_nowhere a fits) (rp.takes given a fits)
        (λ x b tx. onward_answers (G x) all T a b (q x b) tx.went ((rq x).takes given b tx.went.fits) (λ z c tz tail. join _ _ _ _ _ (tx.stands tail) (tz.stands tail)));
    again = λ a tail z after t le.
        let s = split (seen_from a tail) z after t in
        let first = rp.again a tail s.x s.next s.first (omega (arith, le, (rq s.x).shrinks s.next z after s.second)) in
        let second = (rq s.x).again first.0 tail z after (subst (λ m. G s.x m z after) first.2 s.second) le in
        (second.0, rw first.1 second.1, second.2);
    shrinks = λ a z b t. let s = split a z b t in omega (arith, rp.shrinks a s.x s.next s.first, (rq s.x).shrinks s.next z b s.second);
  }

-- a value that has to be there, for the number that was read, and what is read for it
module _ {X V Z : Type 0} (p : Reader X) (fault : Ahead → X → ByteFault) (judge : X → Option V) (q : X → V → Reader Z) (F : Here → X → Here → Type 0) (G : X → V → Here → Z → Here → Type 0) (all : Z → List Ask) (T : Here → Z → Here → Type 0) where
  pub record Judged (a : Here) (z : Z) (b : Here) : Type 0 where
    pub x : X
    pub v : V
    pub next : Here
    pub first : F a x next
    pub judged : judge x ≡ Some v
    pub second : G x v next z b

  pub judged_reads : {Given : Type 0} → Reads Given p F nothing → ((x : X) (v : V) → Reads Given (q x v) (G x v) all)
      → (Given → (a : Here) (x : X) (b : Here) (v : V) (z : Z) (c : Here) → F a x b → judge x ≡ Some v → G x v b z c → T a z c) → ((a : Here) (z : Z) (b : Here) → T a z b → Judged a z b)
      → Reads Given (λ a. p a >>= λ x. or_stop a (fault a x.0) (judge x.0) >>= λ v. q x.0 v x.1) T all
  judged_reads rp rq join split = record {
    takes = λ given a fits. then_answers F nothing T all a a [] (p a) (λ x. or_stop a (fault a x.0) (judge x.0) >>= λ v. q x.0 v x.1) (went_nowhere a fits) (rp.takes given a fits)
        (λ x b tx. judged_answers T all a (fault a x) (judge x) (λ v. q x v b)
        (λ v e. onward_answers (G x v) all T a b (q x v b) tx.went ((rq x v).takes given b tx.went.fits) (λ z c tz tail. join given _ _ _ _ _ _ (tx.stands tail) e (tz.stands tail))));
    again = λ a tail z after t le.
        let s = split (seen_from a tail) z after t in
        let first = rp.again a tail s.x s.next s.first (omega (arith, le, (rq s.x s.v).shrinks s.next z after s.second)) in
        let second = (rq s.x s.v).again first.0 tail z after (subst (λ m. G s.x s.v m z after) first.2 s.second) le in
        (second.0, rw (first.1, s.judged) second.1, second.2);
    shrinks = λ a z b t. let s = split a z b t in omega (arith, rp.shrinks a s.x s.next s.first, (rq s.x s.v).shrinks s.next z b s.second);
  }

-- the same, where a test has to hold
module _ {X Z : Type 0} (p : Reader X) (fault : Ahead → X → ByteFault) (test : X → Bool) (q : X → Reader Z) (F : Here → X → Here → Type 0) (G : X → Here → Z → Here → Type 0) (all : Z → List Ask) (T : Here → Z → Here → Type 0) where
  pub record Tested (a : Here) (z : Z) (b : Here) : Type 0 where
    pub x : X
    pub next : Here
    pub first : F a x next
    pub holds : test x ≡ true
    pub second : G x next z b

  pub tested_reads : {Given : Type 0} → Reads Given p F nothing → ((x : X) → Reads Given (q x) (G x) all)
      → ((a : Here) (x : X) (b : Here) (z : Z) (c : Here) → F a x b → test x ≡ true → G x b z c → T a z c) → ((a : Here) (z : Z) (b : Here) → T a z b → Tested a z b)
      → Reads Given (λ a. p a >>= λ x. ask a (test x.0) (fault a x.0) >>= λ u. q x.0 x.1) T all
  tested_reads rp rq join split = record {
    takes = λ given a fits. then_answers F nothing T all a a [] (p a) (λ x. ask a (test x.0) (fault a x.0) >>= λ u. q x.0 x.1) (went_nowhere a fits) (rp.takes given a fits)
        (λ x b tx. asked_answers T all a (fault a x) (test x) (λ u. q x b)
        (λ e. onward_answers (G x) all T a b (q x b) tx.went ((rq x).takes given b tx.went.fits) (λ z c tz tail. join _ _ _ _ _ (tx.stands tail) e (tz.stands tail))));
    again = λ a tail z after t le.
        let s = split (seen_from a tail) z after t in
        let first = rp.again a tail s.x s.next s.first (omega (arith, le, (rq s.x).shrinks s.next z after s.second)) in
        let second = (rq s.x).again first.0 tail z after (subst (λ m. G s.x m z after) first.2 s.second) le in
        (second.0, rw (first.1, s.holds) second.1, second.2);
    shrinks = λ a z b t. let s = split a z b t in omega (arith, rp.shrinks a s.x s.next s.first, (rq s.x).shrinks s.next z b s.second);
  }
