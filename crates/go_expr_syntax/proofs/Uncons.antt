-- A reader that takes a known token, after that token.
use Rattle.std.proofs.Common.{◌≡◌, ℕ, List, [], ◌∷◌, ◌++◌, length, Ok, Err, sym, ap, subst}
use Rattle.go_expr_syntax.specs.declared.symbols.Symbol.{Symbol}
use Rattle.go_expr_syntax.specs.declared.symbols.Symbol.TheVariants as t
use Rattle.go_lexer.specs.declared.token_kinds.Token.{Token}
use Rattle.go_expr_syntax.specs.Calls.{Called}
use Rattle.go_expr_syntax.specs.declared.faults.Fault.TheVariants.{Unexpected, Deep, DotImport, Call}
use Rattle.go_expr_syntax.specs.declared.faults.Fault.{Fault}
use Rattle.go_expr_syntax.specs.Reading.{Reply}
use Rattle.go_expr_syntax.proofs.Viable.{ahead, moved, ReadOk, going, Goes, ReadNotOn, ReadsBy, ReadsAt, as_by, carry, Behind}

module _ {X : Type 0} (F : List Symbol → X → List Symbol → Type 0) (p : List Symbol → Reply X) (k : Symbol) (ts : List Symbol) where
  taken_ok : (x : X) (rest front : List Symbol) → ((us : List Symbol) → F [] x us → ⊥) → k ∷ ts ≡ front ++ rest → ((tail : List Symbol) → F (front ++ tail) x tail) → ((r : List Symbol) → ahead rest ≡ ahead r → p (front ++ r) ≡ Ok (x, r))
      → ReadOk (Behind k F) (λ us. p (k ∷ us)) ts x rest
  taken_ok x rest [] never e stands stays = absurd (never [] (stands []))
  taken_ok x rest (j ∷ front) never e stands stays =
      let same : j ≡ k = cc in
      let tail : ts ≡ front ++ rest = cc in
      record { front = front; split = tail; stands = λ us. subst (λ i. F (i ∷ front ++ us) x us) same (stands us); stays = λ r h. subst (λ i. p (i ∷ front ++ r) ≡ Ok (x, r)) same (stays r h) }

  taken_not : (f : Fault) (rest front more : List Symbol) (made : X) (s : List Symbol) (z : X × List Symbol) → p (k ∷ s) ≡ Ok z → k ∷ ts ≡ front ++ rest → f ≡ moved f (length rest)
      → ((r : List Symbol) → ahead rest ≡ ahead r → p (front ++ r) ≡ Err (moved f (length r))) → ((tail : List Symbol) → F (front ++ (more ++ tail)) made tail) → Goes f (going F) front rest
      → ReadNotOn (Behind k F) (λ g. Behind k (going F g)) (λ us. p (k ∷ us)) ts f
  taken_not f rest [] more made s z o e place stays completes met =
      let next : ahead rest ≡ ahead (k ∷ s) = ap ahead (sym e) in
      let never : p (k ∷ s) ≡ Err (moved f (length (k ∷ s))) = stays (k ∷ s) next in
      absurd cc
  taken_not f rest (j ∷ front) more made s z o e place stays completes met =
      let same : j ≡ k = cc in
      let tail : ts ≡ front ++ rest = cc in
      record {
        front = front;
        rest = rest;
        split = tail;
        place = place;
        stays = λ r h. subst (λ i. p (i ∷ front ++ r) ≡ Err (moved f (length r))) same (stays r h);
        more = more;
        made = made;
        completes = λ us. subst (λ i. F (i ∷ front ++ (more ++ us)) made us) same (completes us);
        met = carry (going F) (λ g. Behind k (going F g)) (j ∷ front) front rest (λ g us x r w. subst (λ i. going F g (i ∷ front ++ us) x r) same w) f met;
      }

  -- it takes the token, since it reads something that begins so, and its relation doesn't hold of no tokens
  pub uncons_by : ((x : X) (us : List Symbol) → F [] x us → ⊥) → (s : List Symbol) (z : X × List Symbol) → p (k ∷ s) ≡ Ok z → (reply : Reply X) → ReadsAt F p (k ∷ ts) reply → ReadsBy (Behind k F) (λ f. Behind k (going F f)) (λ us. p (k ∷ us)) ts reply
  uncons_by never s z o (Ok y) h = taken_ok y.0 y.1 h.front (never y.0) h.split h.stands h.stays
  uncons_by never s z o (Err f) h = taken_not f h.rest h.front h.more h.made s z o h.split h.place h.stays h.completes h.met

  abbrev Literally : Type 0
  Literally = (token : Token) (us : List Symbol) (x : X) (rest : List Symbol) → F (t.Literal token ∷ us) x rest → ⊥

  -- a call begins behind the token, where none of F begins with a literal
  called_behind : Literally → (at : ℕ) (us : List Symbol) (x : X) (r : List Symbol) → Called F at (k ∷ us) x r → Called (Behind k F) at us x r
  called_behind literally at us x r h = at_front h.before h.split h.stands
    where
      at_front : (before : List Symbol) → k ∷ us ≡ before ++ h.call → F (before ++ t.Literal h.literal ∷ h.after) x r → Called (Behind k F) at us x r
      at_front [] split w = absurd (literally h.literal h.after x r w)
      at_front (j ∷ before) split w =
          let same : j ≡ k = cc in
          let tail : us ≡ before ++ h.call = cc in
          record { before = before; call = h.call; after = h.after; literal = h.literal; split = tail; calls = h.calls; stands = subst (λ i. F (i ∷ before ++ t.Literal h.literal ∷ h.after) x r) same w }

  behind_goes : Literally → (f : Fault) (us : List Symbol) (x : X) (r : List Symbol) → going F f (k ∷ us) x r → going (Behind k F) f us x r
  behind_goes literally (Unexpected n) us x r h = h
  behind_goes literally (Deep n began) us x r h = h
  behind_goes literally (DotImport n) us x r h = h
  behind_goes literally (Call n at) us x r h = called_behind literally at us x r h

  pub uncons_reads : ((x : X) (us : List Symbol) → F [] x us → ⊥) → Literally → (s : List Symbol) (z : X × List Symbol) → p (k ∷ s) ≡ Ok z → (reply : Reply X) → ReadsAt F p (k ∷ ts) reply → ReadsAt (Behind k F) (λ us. p (k ∷ us)) ts reply
  uncons_reads never literally s z o reply h =
      as_by (Behind k F) (Behind k F) (λ f. Behind k (going F f)) (going (Behind k F)) (λ us. p (k ∷ us)) ts reply (λ us x r w. w) (λ f us x r w. behind_goes literally f us x r w) (uncons_by never s z o reply h)
