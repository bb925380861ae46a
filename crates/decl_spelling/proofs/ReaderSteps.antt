-- Readers of three steps and more.
use Rattle.std.proofs.Common.{◌≡◌, ◌≤◌, List, [], ◌++◌, length, Ok, sym, ap, subst, arith}
use Rattle.wire_bytes.specs.Reading.{◌>>=◌}
use Rattle.decl_spelling.specs.Reading.{Ahead, Reader}
use Rattle.decl_spelling.specs.Grammar.{Here}
use Rattle.decl_spelling.specs.Asks.{Ask}
use Rattle.decl_spelling.proofs.Took.{seen_from, Went}
use Rattle.decl_spelling.proofs.Readers.{went_nowhere, went_on, Reads, then_answers}

-- The third reader may depend on what was read before it, and on where the second one began.
module _ {X Y Z W : Type 0} (p : Reader X) (q : Reader Y) (r : X → Ahead → Y → Reader Z) (F : Here → X → Here → Type 0) (G : Here → Y → Here → Type 0) (H : X → Y → Here → Z → Here → Type 0)
    (asks_x : X → List Ask) (asks_y : Y → List Ask) (asks_z : X → Y → Z → List Ask) (make : X → Y → Z → W) (T : Here → W → Here → Type 0) (all : W → List Ask) where
  pub record Three (a : Here) (w : W) (b : Here) : Type 0 where
    pub x : X
    pub y : Y
    pub z : Z
    pub at_y : Here
    pub at_z : Here
    pub first : F a x at_y
    pub second : G at_y y at_z
    pub third : H x y at_z z b
    pub made : w ≡ make x y z

  -- What is asked may rest on what the second reader found.
  pub three_reads_where : {Given : Type 0} → Reads Given p F asks_x → Reads Given q G asks_y → ((x : X) (b : Ahead) (y : Y) → Reads Given (r x b y) (H x y) (asks_z x y))
      → ((x : X) (b c : Here) (y : Y) (z : Z) → G b y c → asks_x x ++ (asks_y y ++ asks_z x y z) ≡ all (make x y z))
      → ((a : Here) (x : X) (b : Here) (y : Y) (c : Here) (z : Z) (d : Here) → F a x b → G b y c → H x y c z d → T a (make x y z) d) → ((a : Here) (w : W) (b : Here) → T a w b → Three a w b)
      → Reads Given (λ a. p a >>= λ x. q x.1 >>= λ y. r x.0 x.1 y.0 y.1 >>= λ z. Ok (make x.0 y.0 z.0, z.1)) T all
  three_reads_where rp rq rr same join split = record {
    takes = λ given a fits. then_answers F asks_x T all a a [] (p a) (λ x. q x.1 >>= λ y. r x.0 x.1 y.0 y.1 >>= λ z. Ok (make x.0 y.0 z.0, z.1)) (went_nowhere a fits) (rp.takes given a fits)
        (λ x b tx. then_answers G asks_y T all a b (asks_x x) (q b) (λ y. r x b y.0 y.1 >>= λ z. Ok (make x y.0 z.0, z.1)) tx.went (rq.takes given b tx.went.fits)
        (λ y c ty.
        let two = went_on a b c (asks_x x) (asks_y y) tx.went ty.went in
        then_answers (H x y) (asks_z x y) T all a c (asks_x x ++ asks_y y) (r x b y c) (λ z. Ok (make x y z.0, z.1)) two ((rr x b y).takes given c two.fits)
        (λ z d tz. record {
          stands = λ tail. join _ _ _ _ _ _ _ (tx.stands tail) (ty.stands tail) (tz.stands tail);
          went = subst (λ ks. Went a ks d) (same x _ _ y z (ty.stands [])) (went_on a b d (asks_x x) (asks_y y ++ asks_z x y z) tx.went (went_on b c d (asks_y y) (asks_z x y z) ty.went tz.went));
        })));
    again = λ a tail w after t le.
        let s = split (seen_from a tail) w after t in
        let le_z : length tail ≤ length s.at_z.left = omega (arith, le, (rr s.x a s.y).shrinks s.at_z s.z after s.third) in
        let first = rp.again a tail s.x s.at_y s.first (omega (arith, le_z, rq.shrinks s.at_y s.y s.at_z s.second)) in
        let second = rq.again first.0 tail s.y s.at_z (subst (λ m. G m s.y s.at_z) first.2 s.second) le_z in
        let third = (rr s.x first.0 s.y).again second.0 tail s.z after (subst (λ m. H s.x s.y m s.z after) second.2 s.third) le in
        (third.0, rw (first.1, second.1, third.1) (ap (λ w. Ok (w, third.0)) (sym s.made)), third.2);
    shrinks = λ a w b t.
        let s = split a w b t in
        omega (arith, rp.shrinks a s.x s.at_y s.first, rq.shrinks s.at_y s.y s.at_z s.second, (rr s.x (nowhere s.at_z) s.y).shrinks s.at_z s.z b s.third);
  }
    where
      -- somewhere, since what stands doesn't depend on it
      nowhere : Here → Ahead
      nowhere h = record { spot = record { end = 0; left = h.left }; before = h.before; mentions = [] }

  pub three_reads : {Given : Type 0} → Reads Given p F asks_x → Reads Given q G asks_y → ((x : X) (b : Ahead) (y : Y) → Reads Given (r x b y) (H x y) (asks_z x y))
      → ((x : X) (y : Y) (z : Z) → asks_x x ++ (asks_y y ++ asks_z x y z) ≡ all (make x y z))
      → ((a : Here) (x : X) (b : Here) (y : Y) (c : Here) (z : Z) (d : Here) → F a x b → G b y c → H x y c z d → T a (make x y z) d) → ((a : Here) (w : W) (b : Here) → T a w b → Three a w b)
      → Reads Given (λ a. p a >>= λ x. q x.1 >>= λ y. r x.0 x.1 y.0 y.1 >>= λ z. Ok (make x.0 y.0 z.0, z.1)) T all
  three_reads rp rq rr same = three_reads_where rp rq rr (λ x b c y z found. same x y z)

module _ {X Y Z V W : Type 0} (p : Reader X) (q : Reader Y) (r : Reader Z) (s : Reader V) (F : Here → X → Here → Type 0) (G : Here → Y → Here → Type 0) (H : Here → Z → Here → Type 0) (I : Here → V → Here → Type 0)
    (asks_x : X → List Ask) (asks_y : Y → List Ask) (asks_z : Z → List Ask) (asks_v : V → List Ask) (make : X → Y → Z → V → W) (T : Here → W → Here → Type 0) (all : W → List Ask) where
  pub record Four (a : Here) (w : W) (b : Here) : Type 0 where
    pub x : X
    pub y : Y
    pub z : Z
    pub v : V
    pub at_y : Here
    pub at_z : Here
    pub at_v : Here
    pub first : F a x at_y
    pub second : G at_y y at_z
    pub third : H at_z z at_v
    pub fourth : I at_v v b
    pub made : w ≡ make x y z v

  pub four_reads : {Given : Type 0} → Reads Given p F asks_x → Reads Given q G asks_y → Reads Given r H asks_z → Reads Given s I asks_v
      → ((x : X) (y : Y) (z : Z) (v : V) → asks_x x ++ (asks_y y ++ (asks_z z ++ asks_v v)) ≡ all (make x y z v))
      → ((a : Here) (x : X) (b : Here) (y : Y) (c : Here) (z : Z) (d : Here) (v : V) (e : Here) → F a x b → G b y c → H c z d → I d v e → T a (make x y z v) e)
      → ((a : Here) (w : W) (b : Here) → T a w b → Four a w b)
      → Reads Given (λ a. p a >>= λ x. q x.1 >>= λ y. r y.1 >>= λ z. s z.1 >>= λ v. Ok (make x.0 y.0 z.0 v.0, v.1)) T all
  four_reads rp rq rr rs same join split = record {
    takes = λ given a fits. then_answers F asks_x T all a a [] (p a) (λ x. q x.1 >>= λ y. r y.1 >>= λ z. s z.1 >>= λ v. Ok (make x.0 y.0 z.0 v.0, v.1)) (went_nowhere a fits) (rp.takes given a fits)
        (λ x b tx. then_answers G asks_y T all a b (asks_x x) (q b) (λ y. r y.1 >>= λ z. s z.1 >>= λ v. Ok (make x y.0 z.0 v.0, v.1)) tx.went (rq.takes given b tx.went.fits)
        (λ y c ty.
        let two = went_on a b c (asks_x x) (asks_y y) tx.went ty.went in
        then_answers H asks_z T all a c (asks_x x ++ asks_y y) (r c) (λ z. s z.1 >>= λ v. Ok (make x y z.0 v.0, v.1)) two (rr.takes given c two.fits)
        (λ z d tz.
        let three = went_on a c d (asks_x x ++ asks_y y) (asks_z z) two tz.went in
        then_answers I asks_v T all a d ((asks_x x ++ asks_y y) ++ asks_z z) (s d) (λ v. Ok (make x y z v.0, v.1)) three (rs.takes given d three.fits)
        (λ v e tv. record {
          stands = λ tail. join _ _ _ _ _ _ _ _ _ (tx.stands tail) (ty.stands tail) (tz.stands tail) (tv.stands tail);
          went = subst (λ ks. Went a ks e) (same x y z v)
              (went_on a b e (asks_x x) (asks_y y ++ (asks_z z ++ asks_v v)) tx.went (went_on b c e (asks_y y) (asks_z z ++ asks_v v) ty.went (went_on c d e (asks_z z) (asks_v v) tz.went tv.went)));
        }))));
    again = λ a tail w after t le.
        let k = split (seen_from a tail) w after t in
        let le_v : length tail ≤ length k.at_v.left = omega (arith, le, rs.shrinks k.at_v k.v after k.fourth) in
        let le_z : length tail ≤ length k.at_z.left = omega (arith, le_v, rr.shrinks k.at_z k.z k.at_v k.third) in
        let first = rp.again a tail k.x k.at_y k.first (omega (arith, le_z, rq.shrinks k.at_y k.y k.at_z k.second)) in
        let second = rq.again first.0 tail k.y k.at_z (subst (λ m. G m k.y k.at_z) first.2 k.second) le_z in
        let third = rr.again second.0 tail k.z k.at_v (subst (λ m. H m k.z k.at_v) second.2 k.third) le_v in
        let fourth = rs.again third.0 tail k.v after (subst (λ m. I m k.v after) third.2 k.fourth) le in
        (fourth.0, rw (first.1, second.1, third.1, fourth.1) (ap (λ w. Ok (w, fourth.0)) (sym k.made)), fourth.2);
    shrinks = λ a w b t.
        let k = split a w b t in
        omega (arith, rp.shrinks a k.x k.at_y k.first, rq.shrinks k.at_y k.y k.at_z k.second, rr.shrinks k.at_z k.z k.at_v k.third, rs.shrinks k.at_v k.v b k.fourth);
  }

module _ {X Y Z V U W : Type 0} (p : Reader X) (q : Reader Y) (r : Reader Z) (s : Reader V) (t : Reader U)
    (F : Here → X → Here → Type 0) (G : Here → Y → Here → Type 0) (H : Here → Z → Here → Type 0) (I : Here → V → Here → Type 0) (J : Here → U → Here → Type 0)
    (asks_x : X → List Ask) (asks_y : Y → List Ask) (asks_z : Z → List Ask) (asks_v : V → List Ask) (asks_u : U → List Ask) (make : X → Y → Z → V → U → W) (T : Here → W → Here → Type 0) (all : W → List Ask) where
  pub record Five (a : Here) (w : W) (b : Here) : Type 0 where
    pub x : X
    pub y : Y
    pub z : Z
    pub v : V
    pub u : U
    pub at_y : Here
    pub at_z : Here
    pub at_v : Here
    pub at_u : Here
    pub first : F a x at_y
    pub second : G at_y y at_z
    pub third : H at_z z at_v
    pub fourth : I at_v v at_u
    pub fifth : J at_u u b
    pub made : w ≡ make x y z v u

  pub five_reads : {Given : Type 0} → Reads Given p F asks_x → Reads Given q G asks_y → Reads Given r H asks_z → Reads Given s I asks_v → Reads Given t J asks_u
      → ((x : X) (y : Y) (z : Z) (v : V) (u : U) → asks_x x ++ (asks_y y ++ (asks_z z ++ (asks_v v ++ asks_u u))) ≡ all (make x y z v u))
      → ((a : Here) (x : X) (b : Here) (y : Y) (c : Here) (z : Z) (d : Here) (v : V) (e : Here) (u : U) (f : Here) → F a x b → G b y c → H c z d → I d v e → J e u f → T a (make x y z v u) f)
      → ((a : Here) (w : W) (b : Here) → T a w b → Five a w b)
      → Reads Given (λ a. p a >>= λ x. q x.1 >>= λ y. r y.1 >>= λ z. s z.1 >>= λ v. t v.1 >>= λ u. Ok (make x.0 y.0 z.0 v.0 u.0, u.1)) T all
  five_reads rp rq rr rs rt same join split = record {
    takes = λ given a fits. then_answers F asks_x T all a a [] (p a) (λ x. q x.1 >>= λ y. r y.1 >>= λ z. s z.1 >>= λ v. t v.1 >>= λ u. Ok (make x.0 y.0 z.0 v.0 u.0, u.1)) (went_nowhere a fits) (rp.takes given a fits)
        (λ x b tx. then_answers G asks_y T all a b (asks_x x) (q b) (λ y. r y.1 >>= λ z. s z.1 >>= λ v. t v.1 >>= λ u. Ok (make x y.0 z.0 v.0 u.0, u.1)) tx.went (rq.takes given b tx.went.fits)
        (λ y c ty.
        let two = went_on a b c (asks_x x) (asks_y y) tx.went ty.went in
        then_answers H asks_z T all a c (asks_x x ++ asks_y y) (r c) (λ z. s z.1 >>= λ v. t v.1 >>= λ u. Ok (make x y z.0 v.0 u.0, u.1)) two (rr.takes given c two.fits)
        (λ z d tz.
        let three = went_on a c d (asks_x x ++ asks_y y) (asks_z z) two tz.went in
        then_answers I asks_v T all a d ((asks_x x ++ asks_y y) ++ asks_z z) (s d) (λ v. t v.1 >>= λ u. Ok (make x y z v.0 u.0, u.1)) three (rs.takes given d three.fits)
        (λ v e tv.
        let four = went_on a d e ((asks_x x ++ asks_y y) ++ asks_z z) (asks_v v) three tv.went in
        then_answers J asks_u T all a e (((asks_x x ++ asks_y y) ++ asks_z z) ++ asks_v v) (t e) (λ u. Ok (make x y z v u.0, u.1)) four (rt.takes given e four.fits)
        (λ u f tu. record {
          stands = λ tail. join _ _ _ _ _ _ _ _ _ _ _ (tx.stands tail) (ty.stands tail) (tz.stands tail) (tv.stands tail) (tu.stands tail);
          went = subst (λ ks. Went a ks f) (same x y z v u)
              (went_on a b f (asks_x x) (asks_y y ++ (asks_z z ++ (asks_v v ++ asks_u u))) tx.went
              (went_on b c f (asks_y y) (asks_z z ++ (asks_v v ++ asks_u u)) ty.went
              (went_on c d f (asks_z z) (asks_v v ++ asks_u u) tz.went (went_on d e f (asks_v v) (asks_u u) tv.went tu.went))));
        })))));
    again = λ a tail w after stands le.
        let k = split (seen_from a tail) w after stands in
        let le_u : length tail ≤ length k.at_u.left = omega (arith, le, rt.shrinks k.at_u k.u after k.fifth) in
        let le_v : length tail ≤ length k.at_v.left = omega (arith, le_u, rs.shrinks k.at_v k.v k.at_u k.fourth) in
        let le_z : length tail ≤ length k.at_z.left = omega (arith, le_v, rr.shrinks k.at_z k.z k.at_v k.third) in
        let first = rp.again a tail k.x k.at_y k.first (omega (arith, le_z, rq.shrinks k.at_y k.y k.at_z k.second)) in
        let second = rq.again first.0 tail k.y k.at_z (subst (λ m. G m k.y k.at_z) first.2 k.second) le_z in
        let third = rr.again second.0 tail k.z k.at_v (subst (λ m. H m k.z k.at_v) second.2 k.third) le_v in
        let fourth = rs.again third.0 tail k.v k.at_u (subst (λ m. I m k.v k.at_u) third.2 k.fourth) le_u in
        let fifth = rt.again fourth.0 tail k.u after (subst (λ m. J m k.u after) fourth.2 k.fifth) le in
        (fifth.0, rw (first.1, second.1, third.1, fourth.1, fifth.1) (ap (λ w. Ok (w, fifth.0)) (sym k.made)), fifth.2);
    shrinks = λ a w b stands.
        let k = split a w b stands in
        omega (arith, rp.shrinks a k.x k.at_y k.first, rq.shrinks k.at_y k.y k.at_z k.second, rr.shrinks k.at_z k.z k.at_v k.third, rs.shrinks k.at_v k.v k.at_u k.fourth, rt.shrinks k.at_u k.u b k.fifth);
  }
