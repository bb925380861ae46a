-- What a reader does, whichever tokens follow: what it reads stands there, it looks no further than the token at which it stops,
-- and what stands before a token that it refuses can be completed.
use Rattle.std.proofs.Common.{◌≡◌, ℕ, ◌<◌, Bool, true, false, if◌then◌else◌, List, [], ◌∷◌, ◌++◌, length, Option, Some, None, Ok, Err, refl, sym, ap, subst, ◌∙◌, append_assoc, arith, length-append}
use Rattle.go_expr_syntax.specs.declared.symbols.Symbol.{Symbol}
use Rattle.go_expr_syntax.specs.declared.symbols.Symbol.TheVariants as t
use Rattle.go_lexer.specs.declared.token_kinds.Token.{Token}
use Rattle.go_expr_syntax.specs.Calls.{Called}
use Rattle.go_expr_syntax.specs.declared.faults.Fault.{Fault}
use Rattle.go_expr_syntax.specs.declared.faults.Fault.TheVariants.{Unexpected, Deep, DotImport, Call}
use Rattle.go_expr_syntax.specs.Reading.{Reply, ◌>>=◌, symbol_start, start_of, told_at, from_start, unexpected, too_deep, past, choose, starts, peek}

abbrev pub ahead : List Symbol → Option Symbol
ahead [] = None
ahead (k ∷ ts) = Some k

-- the same fault at another place
abbrev pub moved : Fault → ℕ → Fault
moved (Unexpected k) n = Unexpected n
moved (Deep k began) n = Deep n began
moved (DotImport k) n = DotImport n
moved (Call k at) n = Call n at

-- tokens that stand for something
pub record Sample {X : Type 0} (F : List Symbol → X → List Symbol → Type 0) : Type 0 where
  pub tokens : List Symbol
  pub made : X
  pub stands : (tail : List Symbol) → F (tokens ++ tail) made tail

pub record ReadOk {X : Type 0} (F : List Symbol → X → List Symbol → Type 0) (p : List Symbol → Reply X) (ts : List Symbol) (x : X) (rest : List Symbol) : Type 0 where
  pub front : List Symbol
  pub split : ts ≡ front ++ rest
  pub stands : (tail : List Symbol) → F (front ++ tail) x tail
  pub stays : (r : List Symbol) → ahead rest ≡ ahead r → p (front ++ r) ≡ Ok (x, r)

-- the front goes on to something of W with the next token
pub record Meets {X : Type 0} (W : List Symbol → X → List Symbol → Type 0) (front rest : List Symbol) : Type 0 where
  pub next : Symbol
  pub comes : ahead rest ≡ Some next
  pub beyond : List Symbol
  pub formed : X
  pub goes : (tail : List Symbol) → W (front ++ (next ∷ (beyond ++ tail))) formed tail

-- what a fault goes on to with the next token, where it is met in something of F: one of F, or one with a call
abbrev pub going : {X : Type 0} → (List Symbol → X → List Symbol → Type 0) → Fault → List Symbol → X → List Symbol → Type 0
going F (Unexpected k) us x rest = F us x rest
going F (Deep k began) us x rest = F us x rest
going F (DotImport k) us x rest = F us x rest
going F (Call k at) us x rest = Called F at us x rest

-- what a fault says of the next token
abbrev pub Goes : {X : Type 0} → Fault → (Fault → List Symbol → X → List Symbol → Type 0) → List Symbol → List Symbol → Type 0
Goes (Unexpected k) W front rest = Unit {0}
Goes (Deep k began) W front rest = Meets (W (Deep k began)) front rest
Goes (DotImport k) W front rest = Meets (W (DotImport k)) front rest
Goes (Call k at) W front rest = Meets (W (Call k at)) front rest

pub record ReadNotOn {X : Type 0} (F : List Symbol → X → List Symbol → Type 0) (W : Fault → List Symbol → X → List Symbol → Type 0) (p : List Symbol → Reply X) (ts : List Symbol) (f : Fault) : Type 0 where
  pub front : List Symbol
  pub rest : List Symbol
  pub split : ts ≡ front ++ rest
  pub place : f ≡ moved f (length rest)
  pub stays : (r : List Symbol) → ahead rest ≡ ahead r → p (front ++ r) ≡ Err (moved f (length r))
  pub more : List Symbol
  pub made : X
  pub completes : (tail : List Symbol) → F (front ++ (more ++ tail)) made tail
  pub met : Goes f W front rest

-- where each fault goes on to something of its own
abbrev pub ReadsBy : {X : Type 0} → (List Symbol → X → List Symbol → Type 0) → (Fault → List Symbol → X → List Symbol → Type 0) → (List Symbol → Reply X) → List Symbol → Reply X → Type 0
ReadsBy F W p ts (Ok y) = ReadOk F p ts y.0 y.1
ReadsBy F W p ts (Err f) = ReadNotOn F W p ts f

-- where a fault goes on to something of W
abbrev pub ReadsOn : {X : Type 0} → (List Symbol → X → List Symbol → Type 0) → (List Symbol → X → List Symbol → Type 0) → (List Symbol → Reply X) → List Symbol → Reply X → Type 0
ReadsOn F W p ts reply = ReadsBy F (going W) p ts reply

abbrev pub ReadNot : {X : Type 0} → (List Symbol → X → List Symbol → Type 0) → (List Symbol → Reply X) → List Symbol → Fault → Type 0
ReadNot F p ts f = ReadNotOn F (going F) p ts f

abbrev pub ReadsAt : {X : Type 0} → (List Symbol → X → List Symbol → Type 0) → (List Symbol → Reply X) → List Symbol → Reply X → Type 0
ReadsAt F p ts reply = ReadsBy F (going F) p ts reply

-- ---- what a fault goes on to, behind other tokens and with others behind it

pub turned : {A B : Type 0} (V : List Symbol → A → List Symbol → Type 0) (W : List Symbol → B → List Symbol → Type 0) (pre : List Symbol) (a : A) (b : B) (r s : List Symbol)
    → ((us : List Symbol) → V us a r → W (pre ++ us) b s) → (f : Fault) (us : List Symbol) → going V f us a r → going W f (pre ++ us) b s
turned V W pre a b r s join (Unexpected k) us h = join us h
turned V W pre a b r s join (Deep k began) us h = join us h
turned V W pre a b r s join (DotImport k) us h = join us h
turned V W pre a b r s join (Call k at) us h = record {
  before = pre ++ h.before;
  call = h.call;
  after = h.after;
  literal = h.literal;
  split = ap (λ (vs : List Symbol). pre ++ vs) h.split ∙ sym (append_assoc pre h.before h.call);
  calls = h.calls;
  stands = subst (λ vs. W vs b s) (sym (append_assoc pre h.before (t.Literal h.literal ∷ h.after))) (join (h.before ++ t.Literal h.literal ∷ h.after) h.stands);
}

meets_as : {A B : Type 0} (V : List Symbol → A → List Symbol → Type 0) (W : List Symbol → B → List Symbol → Type 0) (front other rest : List Symbol) (end : A → List Symbol) (make : A → B)
    → ((us : List Symbol) (a : A) (r : List Symbol) → V (front ++ us) a (end a ++ r) → W (other ++ us) (make a) r) → Meets V front rest → Meets W other rest
meets_as V W front other rest end make join h = record {
  next = h.next;
  comes = h.comes;
  beyond = h.beyond ++ end h.formed;
  formed = make h.formed;
  goes = λ tail.
      subst (λ us. W (other ++ (h.next ∷ us)) (make h.formed) tail) (sym (append_assoc h.beyond (end h.formed) tail))
      (join (h.next ∷ (h.beyond ++ (end h.formed ++ tail))) h.formed tail (h.goes (end h.formed ++ tail)));
}

pub goes_as : {A B : Type 0} (V : Fault → List Symbol → A → List Symbol → Type 0) (W : Fault → List Symbol → B → List Symbol → Type 0) (front other rest : List Symbol) (end : A → List Symbol) (make : A → B)
    → ((f : Fault) (us : List Symbol) (a : A) (r : List Symbol) → V f (front ++ us) a (end a ++ r) → W f (other ++ us) (make a) r) → (f : Fault) → Goes f V front rest → Goes f W other rest
goes_as V W front other rest end make join (Unexpected k) h = tt
goes_as V W front other rest end make join (Deep k began) h = meets_as (V (Deep k began)) (W (Deep k began)) front other rest end make (join (Deep k began)) h
goes_as V W front other rest end make join (DotImport k) h = meets_as (V (DotImport k)) (W (DotImport k)) front other rest end make (join (DotImport k)) h
goes_as V W front other rest end make join (Call k at) h = meets_as (V (Call k at)) (W (Call k at)) front other rest end make (join (Call k at)) h

-- what goes on to V behind one front goes on to W behind another
pub carry : {X : Type 0} (V W : Fault → List Symbol → X → List Symbol → Type 0) (front other rest : List Symbol) → ((f : Fault) (us : List Symbol) (x : X) (r : List Symbol) → V f (front ++ us) x r → W f (other ++ us) x r) → (f : Fault) → Goes f V front rest → Goes f W other rest
carry V W front other rest join f h = goes_as V W front other rest (λ x. []) (λ x. x) join f h

-- ---- what stands next

pub next_is : (P : List Symbol → Type 0) (k : Symbol) → ((r : List Symbol) → P (k ∷ r)) → (r : List Symbol) → Some k ≡ ahead r → P r
next_is P k h [] e = absurd cc
next_is P k h (j ∷ r) e = let same : k ≡ j = cc in subst (λ i. P (i ∷ r)) same (h r)

pub ends_so : (P : List Symbol → Type 0) → P [] → (r : List Symbol) → None ≡ ahead r → P r
ends_so P h [] e = h
ends_so P h (j ∷ r) e = absurd cc

pub start_same : (ts r : List Symbol) → ahead ts ≡ ahead r → start_of ts ≡ start_of r
start_same [] [] e = refl
start_same [] (k ∷ r) e = absurd cc
start_same (k ∷ ts) [] e = absurd cc
start_same (k ∷ ts) (j ∷ r) e = let same : k ≡ j = cc in ap symbol_start same

pub ahead_along : (front us r : List Symbol) → ahead us ≡ ahead r → ahead (front ++ us) ≡ ahead (front ++ r)
ahead_along [] us r e = e
ahead_along (k ∷ front) us r e = refl

-- ---- no token

pub done_reads : {X : Type 0} (F : List Symbol → X → List Symbol → Type 0) (p : List Symbol → Reply X) (ts : List Symbol) (x : X) → ((tail : List Symbol) → F tail x tail)
    → ((r : List Symbol) → ahead ts ≡ ahead r → p r ≡ Ok (x, r)) → ReadOk F p ts x ts
done_reads F p ts x h e = record { front = []; split = refl; stands = h; stays = e }

pub refuse_by : {X : Type 0} (F : List Symbol → X → List Symbol → Type 0) (W : Fault → List Symbol → X → List Symbol → Type 0) (p : List Symbol → Reply X) (ts : List Symbol) (f : Fault) → Sample F → f ≡ moved f (length ts)
    → ((r : List Symbol) → ahead ts ≡ ahead r → p r ≡ Err (moved f (length r))) → Goes f W [] ts → ReadNotOn F W p ts f
refuse_by F W p ts f s e same met = record { front = []; rest = ts; split = refl; place = e; stays = same; more = s.tokens; made = s.made; completes = s.stands; met = met }

pub refuse_reads : {X : Type 0} (F : List Symbol → X → List Symbol → Type 0) (p : List Symbol → Reply X) (ts : List Symbol) (f : Fault) → Sample F → f ≡ moved f (length ts)
    → ((r : List Symbol) → ahead ts ≡ ahead r → p r ≡ Err (moved f (length r))) → Goes f (going F) [] ts → ReadNot F p ts f
refuse_reads F p ts f s e same met = refuse_by F (going F) p ts f s e same met

-- a token that begins nothing here, and the end
pub refuse_next_by : {X : Type 0} (F : List Symbol → X → List Symbol → Type 0) (W : Fault → List Symbol → X → List Symbol → Type 0) (p : List Symbol → Reply X) (k : Symbol) (ts : List Symbol) → Sample F
    → ((r : List Symbol) → p (k ∷ r) ≡ unexpected (k ∷ r)) → ReadNotOn F W p (k ∷ ts) (Unexpected (length (k ∷ ts)))
refuse_next_by F W p k ts s e = refuse_by F W p (k ∷ ts) _ s refl (next_is (λ r. p r ≡ unexpected r) k e) tt

pub refuse_next : {X : Type 0} (F : List Symbol → X → List Symbol → Type 0) (p : List Symbol → Reply X) (k : Symbol) (ts : List Symbol) → Sample F
    → ((r : List Symbol) → p (k ∷ r) ≡ unexpected (k ∷ r)) → ReadNot F p (k ∷ ts) (Unexpected (length (k ∷ ts)))
refuse_next F p k ts s e = refuse_next_by F (going F) p k ts s e

pub refuse_end_by : {X : Type 0} (F : List Symbol → X → List Symbol → Type 0) (W : Fault → List Symbol → X → List Symbol → Type 0) (p : List Symbol → Reply X) → Sample F
    → p [] ≡ unexpected [] → ReadNotOn F W p [] (Unexpected (length {A = Symbol} []))
refuse_end_by F W p s e = refuse_by F W p [] _ s refl (ends_so (λ r. p r ≡ unexpected r) e) tt

pub refuse_end : {X : Type 0} (F : List Symbol → X → List Symbol → Type 0) (p : List Symbol → Reply X) → Sample F
    → p [] ≡ unexpected [] → ReadNot F p [] (Unexpected (length {A = Symbol} []))
refuse_end F p s e = refuse_end_by F (going F) p s e

abbrev pub Behind : {X : Type 0} → Symbol → (List Symbol → X → List Symbol → Type 0) → List Symbol → X → List Symbol → Type 0
Behind k H us x rest = H (k ∷ us) x rest

-- the next token and a sample behind it
pub meets_next : {X : Type 0} (W : List Symbol → X → List Symbol → Type 0) (k : Symbol) (ts : List Symbol) → Sample (Behind k W) → Meets W [] (k ∷ ts)
meets_next W k ts s = record { next = k; comes = refl; beyond = s.tokens; formed = s.made; goes = s.stands }

abbrev whole_sample : {X : Type 0} (W : List Symbol → X → List Symbol → Type 0) (k : Symbol) → Sample (Behind k W) → Sample W
whole_sample W k s = record { tokens = k ∷ s.tokens; made = s.made; stands = s.stands }

pub deep_next : {X : Type 0} (F : List Symbol → X → List Symbol → Type 0) (p : List Symbol → Reply X) (k : Symbol) (ts : List Symbol) → Sample (Behind k F)
    → ((r : List Symbol) → p (k ∷ r) ≡ too_deep (k ∷ r)) → ReadNot F p (k ∷ ts) (Deep (length (k ∷ ts)) (symbol_start k))
deep_next F p k ts s e = refuse_reads F p (k ∷ ts) _ (whole_sample F k s) refl (next_is (λ r. p r ≡ Err (Deep (length r) (symbol_start k))) k e) (meets_next F k ts s)

-- ---- another reader, another relation

-- p is q wherever the next token is this one
pub like_by : {X : Type 0} (F : List Symbol → X → List Symbol → Type 0) (W : Fault → List Symbol → X → List Symbol → Type 0) (p q : List Symbol → Reply X) (ts : List Symbol) (reply : Reply X)
    → ((r : List Symbol) → ahead ts ≡ ahead r → p r ≡ q r) → ReadsBy F W q ts reply → ReadsBy F W p ts reply
like_by F W p q ts (Ok y) same h = record {
  front = h.front;
  split = h.split;
  stands = h.stands;
  stays = λ r e. same (h.front ++ r) (ap ahead h.split ∙ ahead_along h.front y.1 r e) ∙ h.stays r e;
}
like_by F W p q ts (Err f) same h = record {
  front = h.front;
  rest = h.rest;
  split = h.split;
  place = h.place;
  stays = λ r e. same (h.front ++ r) (ap ahead h.split ∙ ahead_along h.front h.rest r e) ∙ h.stays r e;
  more = h.more;
  made = h.made;
  completes = h.completes;
  met = h.met;
}

pub like_on : {X : Type 0} (F W : List Symbol → X → List Symbol → Type 0) (p q : List Symbol → Reply X) (ts : List Symbol) (reply : Reply X)
    → ((r : List Symbol) → ahead ts ≡ ahead r → p r ≡ q r) → ReadsOn F W q ts reply → ReadsOn F W p ts reply
like_on F W p q ts reply same h = like_by F (going W) p q ts reply same h

pub like_reads : {X : Type 0} (F : List Symbol → X → List Symbol → Type 0) (p q : List Symbol → Reply X) (ts : List Symbol) (reply : Reply X)
    → ((r : List Symbol) → ahead ts ≡ ahead r → p r ≡ q r) → ReadsAt F q ts reply → ReadsAt F p ts reply
like_reads F p q ts reply same h = like_by F (going F) p q ts reply same h

pub as_by : {X : Type 0} (F G : List Symbol → X → List Symbol → Type 0) (V W : Fault → List Symbol → X → List Symbol → Type 0) (p : List Symbol → Reply X) (ts : List Symbol) (reply : Reply X)
    → ((us : List Symbol) (x : X) (rest : List Symbol) → F us x rest → G us x rest) → ((f : Fault) (us : List Symbol) (x : X) (rest : List Symbol) → V f us x rest → W f us x rest) → ReadsBy F V p ts reply → ReadsBy G W p ts reply
as_by F G V W p ts (Ok y) join also h = record { front = h.front; split = h.split; stands = λ tail. join _ _ _ (h.stands tail); stays = h.stays }
as_by F G V W p ts (Err f) join also h = record {
  front = h.front;
  rest = h.rest;
  split = h.split;
  place = h.place;
  stays = h.stays;
  more = h.more;
  made = h.made;
  completes = λ tail. join _ _ _ (h.completes tail);
  met = carry V W h.front h.front h.rest (λ e us x r w. also e (h.front ++ us) x r w) f h.met;
}

pub as_on : {X : Type 0} (F G V W : List Symbol → X → List Symbol → Type 0) (p : List Symbol → Reply X) (ts : List Symbol) (reply : Reply X)
    → ((us : List Symbol) (x : X) (rest : List Symbol) → F us x rest → G us x rest) → ((us : List Symbol) (x : X) (rest : List Symbol) → V us x rest → W us x rest) → ReadsOn F V p ts reply → ReadsOn G W p ts reply
as_on F G V W p ts reply join also h = as_by F G (going V) (going W) p ts reply join (λ f us x rest w. turned V W [] x x rest rest (λ vs v. also vs x rest v) f us w) h

pub as_reads : {X : Type 0} (F G : List Symbol → X → List Symbol → Type 0) (p : List Symbol → Reply X) (ts : List Symbol) (reply : Reply X)
    → ((us : List Symbol) (x : X) (rest : List Symbol) → F us x rest → G us x rest) → ReadsAt F p ts reply → ReadsAt G p ts reply
as_reads F G p ts reply join h = as_on F G F G p ts reply join join h

-- ---- a token, and then q

pub cons_by : {X : Type 0} (H : List Symbol → X → List Symbol → Type 0) (W : Fault → List Symbol → X → List Symbol → Type 0) (p q : List Symbol → Reply X) (k : Symbol) (ts : List Symbol) (reply : Reply X)
    → ((r : List Symbol) → p (k ∷ r) ≡ q r) → ReadsBy (Behind k H) (λ f. Behind k (W f)) q ts reply → ReadsBy H W p (k ∷ ts) reply
cons_by H W p q k ts (Ok y) same h = record {
  front = k ∷ h.front;
  split = ap (λ (us : List Symbol). k ∷ us) h.split;
  stands = h.stands;
  stays = λ r e. same (h.front ++ r) ∙ h.stays r e;
}
cons_by H W p q k ts (Err f) same h = record {
  front = k ∷ h.front;
  rest = h.rest;
  split = ap (λ (us : List Symbol). k ∷ us) h.split;
  place = h.place;
  stays = λ r e. same (h.front ++ r) ∙ h.stays r e;
  more = h.more;
  made = h.made;
  completes = h.completes;
  met = carry (λ e. Behind k (W e)) W h.front (k ∷ h.front) h.rest (λ e us x r w. w) f h.met;
}

pub cons_on : {X : Type 0} (H W : List Symbol → X → List Symbol → Type 0) (p q : List Symbol → Reply X) (k : Symbol) (ts : List Symbol) (reply : Reply X)
    → ((r : List Symbol) → p (k ∷ r) ≡ q r) → ReadsOn (Behind k H) (Behind k W) q ts reply → ReadsOn H W p (k ∷ ts) reply
cons_on H W p q k ts reply same h =
    cons_by H (going W) p q k ts reply same
    (as_by (Behind k H) (Behind k H) (going (Behind k W)) (λ f. Behind k (going W f)) q ts reply (λ us x rest w. w) (λ f us x rest w. turned (Behind k W) W (k ∷ []) x x rest rest (λ vs v. v) f us w) h)

pub cons_reads : {X : Type 0} (H : List Symbol → X → List Symbol → Type 0) (p q : List Symbol → Reply X) (k : Symbol) (ts : List Symbol) (reply : Reply X)
    → ((r : List Symbol) → p (k ∷ r) ≡ q r) → ReadsAt (Behind k H) q ts reply → ReadsAt H p (k ∷ ts) reply
cons_reads H p q k ts reply same h = cons_on H H p q k ts reply same h

-- a kind of token
pub record Kind (is : Symbol → Bool) : Type 0 where
  pub make : ℕ → Symbol
  pub holds : (at : ℕ) → is (make at) ≡ true
  pub only : (k : Symbol) → is k ≡ true → (at : ℕ) × (k ≡ make at)

abbrev pub Past : {X : Type 0} {is : Symbol → Bool} → Kind is → (List Symbol → X → List Symbol → Type 0) → List Symbol → X → List Symbol → Type 0
Past K H us x rest = (at : ℕ) → H (K.make at ∷ us) x rest

abbrev pub past_then : {X : Type 0} → (Symbol → Bool) → (List Symbol → Reply X) → List Symbol → Reply X
past_then is q ts = past is ts >>= q

past_end : {X : Type 0} (is : Symbol → Bool) (H : List Symbol → X → List Symbol → Type 0) (W : Fault → List Symbol → X → List Symbol → Type 0) (K : Kind is) (q : List Symbol → Reply X) → Sample (Past K H) → ReadsBy H W (past_then is q) [] (past_then is q [])
past_end is H W K q s = refuse_end_by H W (past_then is q) (record { tokens = K.make 0 ∷ s.tokens; made = s.made; stands = λ tail. s.stands tail 0 }) refl

abbrev behind_if : {X : Type 0} → Bool → Symbol → List Symbol → (List Symbol → Reply X) → Reply X
behind_if b k ts q = (if b then Ok ts else unexpected (k ∷ ts)) >>= q

past_next : {X : Type 0} (is : Symbol → Bool) (H : List Symbol → X → List Symbol → Type 0) (W : Fault → List Symbol → X → List Symbol → Type 0) (K : Kind is) (q : List Symbol → Reply X) (k : Symbol) (ts : List Symbol) (b : Bool) → is k ≡ b
    → Sample (Past K H) → ReadsBy (Past K H) (λ f. Past K (W f)) q ts (q ts) → ReadsBy H W (past_then is q) (k ∷ ts) (behind_if b k ts q)
past_next is H W K q k ts true e s h =
    let o = K.only k e in
    cons_by H W (past_then is q) q k ts (q ts) (λ r. rw e refl)
    (as_by (Past K H) (Behind k H) (λ f. Past K (W f)) (λ f. Behind k (W f)) q ts (q ts) (λ us x rest w. subst (λ j. H (j ∷ us) x rest) (sym o.1) (w o.0)) (λ f us x rest w. subst (λ j. W f (j ∷ us) x rest) (sym o.1) (w o.0)) h)
past_next is H W K q k ts false e s h =
    refuse_next_by H W (past_then is q) k ts (record { tokens = K.make 0 ∷ s.tokens; made = s.made; stands = λ tail. s.stands tail 0 }) (λ r. rw e refl)

pub past_by : {X : Type 0} (is : Symbol → Bool) (H : List Symbol → X → List Symbol → Type 0) (W : Fault → List Symbol → X → List Symbol → Type 0) (K : Kind is) (q : List Symbol → Reply X) (ts : List Symbol) → Sample (Past K H)
    → ((k : Symbol) (us : List Symbol) → ts ≡ k ∷ us → ReadsBy (Past K H) (λ f. Past K (W f)) q us (q us)) → ReadsBy H W (past_then is q) ts (past_then is q ts)
past_by is H W K q [] s h = past_end is H W K q s
past_by is H W K q (k ∷ ts) s h = past_next is H W K q k ts (is k) refl s (h k ts refl)

-- with the token in each case of the fault
pasts : {X : Type 0} (is : Symbol → Bool) (H W : List Symbol → X → List Symbol → Type 0) (K : Kind is) (q : List Symbol → Reply X) (us : List Symbol) (reply : Reply X) → ReadsOn (Past K H) (Past K W) q us reply → ReadsBy (Past K H) (λ f. Past K (going W f)) q us reply
pasts is H W K q us reply h = as_by (Past K H) (Past K H) (going (Past K W)) (λ f. Past K (going W f)) q us reply (λ vs x rest w. w) (λ f vs x rest w at. turned (Past K W) W (K.make at ∷ []) x x rest rest (λ ws v. v at) f vs w) h

pub past_reads : {X : Type 0} (is : Symbol → Bool) (H : List Symbol → X → List Symbol → Type 0) (K : Kind is) (q : List Symbol → Reply X) (ts : List Symbol) → Sample (Past K H)
    → ((k : Symbol) (us : List Symbol) → ts ≡ k ∷ us → ReadsAt (Past K H) q us (q us)) → ReadsAt H (past_then is q) ts (past_then is q ts)
past_reads is H K q ts s h = past_by is H (going H) K q ts s (λ k us e. pasts is H H K q us (q us) (h k us e))

-- ---- p, and then q

abbrev pub After : {A B : Type 0} → (List Symbol → A → List Symbol → Type 0) → (List Symbol → B → List Symbol → Type 0) → A → List Symbol → B → List Symbol → Type 0
After F H a us b rest = (ts : List Symbol) → F ts a us → H ts b rest

abbrev pub bound : {A B : Type 0} → (List Symbol → Reply A) → (A → List Symbol → Reply B) → List Symbol → Reply B
bound p q ts = p ts >>= λ z. q z.0 z.1

then_by : {A B : Type 0} (F : List Symbol → A → List Symbol → Type 0) (H : List Symbol → B → List Symbol → Type 0) (V W : Fault → List Symbol → B → List Symbol → Type 0) (p : List Symbol → Reply A) (q : A → List Symbol → Reply B) (ts : List Symbol)
    (a : A) (us : List Symbol) (h : ReadOk F p ts a us) → ((f : Fault) (vs : List Symbol) (b : B) (r : List Symbol) → V f vs b r → W f (h.front ++ vs) b r) → (reply : Reply B) → ReadsBy (After F H a) V (q a) us reply → ReadsBy H W (bound p q) ts reply
then_by F H V W p q ts a us h join (Ok z) g = record {
  front = h.front ++ g.front;
  split = h.split ∙ ap (λ (vs : List Symbol). h.front ++ vs) g.split ∙ sym (append_assoc h.front g.front z.1);
  stands = λ tail. rw append_assoc (g.stands tail (h.front ++ (g.front ++ tail)) (h.stands (g.front ++ tail)));
  stays = λ r e. ap (bound p q) (append_assoc h.front g.front r) ∙ ap (λ (m : Reply _). m >>= λ z. q z.0 z.1) (h.stays (g.front ++ r) (ap ahead g.split ∙ ahead_along g.front z.1 r e)) ∙ g.stays r e;
}
then_by F H V W p q ts a us h join (Err f) g = record {
  front = h.front ++ g.front;
  rest = g.rest;
  split = h.split ∙ ap (λ (vs : List Symbol). h.front ++ vs) g.split ∙ sym (append_assoc h.front g.front g.rest);
  place = g.place;
  stays = λ r e. ap (bound p q) (append_assoc h.front g.front r) ∙ ap (λ (m : Reply _). m >>= λ z. q z.0 z.1) (h.stays (g.front ++ r) (ap ahead g.split ∙ ahead_along g.front g.rest r e)) ∙ g.stays r e;
  more = g.more;
  made = g.made;
  completes = λ tail. rw append_assoc (g.completes tail (h.front ++ (g.front ++ (g.more ++ tail))) (h.stands (g.front ++ (g.more ++ tail))));
  met = carry V W g.front (h.front ++ g.front) g.rest (λ e vs b r w. subst (λ ws. W e ws b r) (sym (append_assoc h.front g.front vs)) (join e (g.front ++ vs) b r w)) f g.met;
}

-- Where p itself is refused, what it goes on to is whole with these tokens behind it. What q goes on to stands behind what p read.
pub bind_front : {A B : Type 0} (F : List Symbol → A → List Symbol → Type 0) (V : Fault → List Symbol → A → List Symbol → Type 0) (H : List Symbol → B → List Symbol → Type 0) (W : Fault → List Symbol → B → List Symbol → Type 0)
    (p : List Symbol → Reply A) (q : A → List Symbol → Reply B) (ts : List Symbol) → ((a : A) → Sample (After F H a)) → (end : A → List Symbol) (whole : A → B)
    → ((f : Fault) (us : List Symbol) (a : A) (r : List Symbol) → V f us a (end a ++ r) → W f us (whole a) r)
    → ((a : A) (us : List Symbol) (o : ReadOk F p ts a us) → ReadsBy (After F H a) (λ f vs b r. W f (o.front ++ vs) b r) (q a) us (q a us))
    → (reply : Reply A) → ReadsBy F V p ts reply → ReadsBy H W (bound p q) ts (reply >>= λ z. q z.0 z.1)
bind_front F V H W p q ts s end whole turn g (Ok z) h = then_by F H (λ f vs b r. W f (h.front ++ vs) b r) W p q ts z.0 z.1 h (λ f vs b r w. w) (q z.0 z.1) (g z.0 z.1 h)
bind_front F V H W p q ts s end whole turn g (Err f) h =
    let more = s h.made in
    record {
      front = h.front;
      rest = h.rest;
      split = h.split;
      place = h.place;
      stays = λ r e. ap (λ (m : Reply _). m >>= λ z. q z.0 z.1) (h.stays r e);
      more = h.more ++ more.tokens;
      made = more.made;
      completes = λ tail. rw append_assoc (more.stands tail (h.front ++ (h.more ++ (more.tokens ++ tail))) (h.completes (more.tokens ++ tail)));
      met = goes_as V W h.front h.front h.rest end whole (λ e us a r w. turn e (h.front ++ us) a r w) f h.met;
    }

pub bind_by : {A B : Type 0} (F : List Symbol → A → List Symbol → Type 0) (V : Fault → List Symbol → A → List Symbol → Type 0) (H : List Symbol → B → List Symbol → Type 0) (U : A → Fault → List Symbol → B → List Symbol → Type 0) (W : Fault → List Symbol → B → List Symbol → Type 0)
    (p : List Symbol → Reply A) (q : A → List Symbol → Reply B) (ts : List Symbol) → ((a : A) → Sample (After F H a)) → (end : A → List Symbol) (whole : A → B)
    → ((f : Fault) (us : List Symbol) (a : A) (r : List Symbol) → V f us a (end a ++ r) → W f us (whole a) r)
    → ((a : A) (us : List Symbol) → ReadOk F p ts a us → ReadsBy (After F H a) (U a) (q a) us (q a us))
    → ((a : A) (us : List Symbol) (o : ReadOk F p ts a us) (f : Fault) (vs : List Symbol) (b : B) (r : List Symbol) → U a f vs b r → W f (o.front ++ vs) b r)
    → (reply : Reply A) → ReadsBy F V p ts reply → ReadsBy H W (bound p q) ts (reply >>= λ z. q z.0 z.1)
bind_by F V H U W p q ts s end whole turn g join reply h =
    bind_front F V H W p q ts s end whole turn
    (λ a us o. as_by (After F H a) (After F H a) (U a) (λ f vs b r. W f (o.front ++ vs) b r) (q a) us (q a us) (λ vs b r w. w) (join a us o) (g a us o)) reply h

-- p, and then a value made of what it read
pub value_by : {A B : Type 0} (F : List Symbol → A → List Symbol → Type 0) (V : Fault → List Symbol → A → List Symbol → Type 0) (H : List Symbol → B → List Symbol → Type 0) (W : Fault → List Symbol → B → List Symbol → Type 0) (p : List Symbol → Reply A) (v : A → B) (ts : List Symbol)
    → ((us : List Symbol) (a : A) (rest : List Symbol) → F us a rest → H us (v a) rest) → ((f : Fault) (us : List Symbol) (a : A) (rest : List Symbol) → V f us a rest → W f us (v a) rest)
    → (reply : Reply A) → ReadsBy F V p ts reply → ReadsBy H W (λ us. p us >>= λ z. Ok (v z.0, z.1)) ts (reply >>= λ z. Ok (v z.0, z.1))
value_by F V H W p v ts join turn reply h =
    bind_front F V H W p (λ a us. Ok (v a, us)) ts (λ a. record { tokens = []; made = v a; stands = λ tail us w. join us a tail w }) (λ a. []) v turn
    (λ a us o. done_reads (After F H a) (λ r. Ok (v a, r)) us (v a) (λ tail vs w. join vs a tail w) (λ r e. refl)) reply h

-- what follows a reader goes on behind what that reads
behind_read : {A B : Type 0} (F : List Symbol → A → List Symbol → Type 0) (H : List Symbol → B → List Symbol → Type 0) (p : List Symbol → Reply A) (ts : List Symbol) (a : A) (us : List Symbol) (o : ReadOk F p ts a us) (f : Fault) (vs : List Symbol) (b : B) (r : List Symbol) → going (After F H a) f vs b r → going H f (o.front ++ vs) b r
behind_read F H p ts a us o f vs b r w = turned (After F H a) H o.front b b r r (λ ws v. v (o.front ++ ws) (o.stands ws)) f vs w

pub bind_reads : {A B : Type 0} (F : List Symbol → A → List Symbol → Type 0) (H : List Symbol → B → List Symbol → Type 0) (p : List Symbol → Reply A) (q : A → List Symbol → Reply B) (ts : List Symbol)
    → ((a : A) → Sample (After F H a)) → ((a : A) (us : List Symbol) → ReadOk F p ts a us → ReadsAt (After F H a) (q a) us (q a us))
    → (reply : Reply A) → ReadsAt F p ts reply → ReadsAt H (bound p q) ts (reply >>= λ z. q z.0 z.1)
bind_reads F H p q ts s g reply h =
    bind_by F (going F) H (λ a. going (After F H a)) (going H) p q ts s (λ a. (s a).tokens) (λ a. (s a).made)
    (λ f us a r w. turned F H [] a (s a).made ((s a).tokens ++ r) r (λ vs v. (s a).stands r vs v) f us w) g (behind_read F H p ts) reply h

-- where a path of the first that is too long goes on to something of W, which stands for something of H
pub bind_on : {A B : Type 0} (F W : List Symbol → A → List Symbol → Type 0) (H : List Symbol → B → List Symbol → Type 0) (p : List Symbol → Reply A) (q : A → List Symbol → Reply B) (ts : List Symbol)
    → ((a : A) → Sample (After F H a)) → (whole : A → B) → ((us : List Symbol) (a : A) (rest : List Symbol) → W us a rest → H us (whole a) rest)
    → ((a : A) (us : List Symbol) → ReadOk F p ts a us → ReadsAt (After F H a) (q a) us (q a us))
    → (reply : Reply A) → ReadsOn F W p ts reply → ReadsAt H (bound p q) ts (reply >>= λ z. q z.0 z.1)
bind_on F W H p q ts s whole join g reply h =
    bind_by F (going W) H (λ a. going (After F H a)) (going H) p q ts s (λ a. []) whole (λ f us a r w. turned W H [] a (whole a) r r (λ vs v. join vs a r v) f us w) g (behind_read F H p ts) reply h

-- something of F that is followed by these tokens is something of W
pub ended_on : {X : Type 0} (F W : List Symbol → X → List Symbol → Type 0) (end : List Symbol) (p : List Symbol → Reply X) (ts : List Symbol) (reply : Reply X) → ((us : List Symbol) (x : X) (r : List Symbol) → F us x (end ++ r) → W us x r) → ReadsAt F p ts reply → ReadsOn F W p ts reply
ended_on F W end p ts (Ok y) join h = h
ended_on F W end p ts (Err f) join h = record {
  front = h.front;
  rest = h.rest;
  split = h.split;
  place = h.place;
  stays = h.stays;
  more = h.more;
  made = h.made;
  completes = h.completes;
  met = goes_as (going F) (going W) h.front h.front h.rest (λ x. end) (λ x. x) (λ e us x r w. turned F W [] x x (end ++ r) r (λ vs v. join vs x r v) e (h.front ++ us) w) f h.met;
}

-- p, and then a value made of what it read
pub value_reads : {A B : Type 0} (F : List Symbol → A → List Symbol → Type 0) (H : List Symbol → B → List Symbol → Type 0) (p : List Symbol → Reply A) (v : A → B) (ts : List Symbol)
    → ((us : List Symbol) (a : A) (rest : List Symbol) → F us a rest → H us (v a) rest) → (reply : Reply A) → ReadsAt F p ts reply → ReadsAt H (λ us. p us >>= λ z. Ok (v z.0, z.1)) ts (reply >>= λ z. Ok (v z.0, z.1))
value_reads F H p v ts join reply h =
    bind_reads F H p (λ a us. Ok (v a, us)) ts
    (λ a. record { tokens = []; made = v a; stands = λ tail us w. join us a tail w })
    (λ a us o. done_reads (After F H a) (λ r. Ok (v a, r)) us (v a) (λ tail vs w. join vs a tail w) (λ r e. refl))
    reply h

-- ---- a choice by the next token

pub stuck_reads : {X : Type 0} (F : List Symbol → X → List Symbol → Type 0) (ts : List Symbol) → Sample F → ReadsAt F unexpected ts (unexpected ts)
stuck_reads F ts s = refuse_reads F unexpected ts _ s refl (λ r e. refl) tt

-- some next token that shows it, and for each such token what may stand behind it
pub deep_on : {X : Type 0} (F W : List Symbol → X → List Symbol → Type 0) (is : Symbol → Bool) (ts : List Symbol) → Sample F → ((k : Symbol) → is k ≡ true → Sample (Behind k W)) → starts is ts ≡ true → ReadsOn F W too_deep ts (too_deep ts)
deep_on F W is [] s next e = absurd cc
deep_on F W is (k ∷ ts) s next e =
    refuse_by F (going W) too_deep (k ∷ ts) _ s refl (λ r e'. ap (λ (at : ℕ). Err (Deep (length r) at)) (sym (start_same (k ∷ ts) r e'))) (meets_next W k ts (next k e))

pub deep_reads : {X : Type 0} (F : List Symbol → X → List Symbol → Type 0) (is : Symbol → Bool) (ts : List Symbol) → Sample F → ((k : Symbol) → is k ≡ true → Sample (Behind k F)) → starts is ts ≡ true → ReadsAt F too_deep ts (too_deep ts)
deep_reads F is ts s next e = deep_on F F is ts s next e

-- ---- a path that is too long, told at the first token

-- another reader that answers so at one place, whatever follows
abbrev Tells : {X : Type 0} → (List Symbol → Reply X) → (List Symbol → Reply X) → List Symbol → ℕ → Type 0
Tells {X} p other ts at = (front rest r : List Symbol) (reply : Reply X) → ts ≡ front ++ rest → ahead rest ≡ ahead r → p (front ++ r) ≡ reply → other (front ++ r) ≡ told_at at reply

told_not : {X : Type 0} (F : List Symbol → X → List Symbol → Type 0) (p other : List Symbol → Reply X) (ts : List Symbol) (at : ℕ) → Tells p other ts at → (f g : Fault) → (h : ReadNot F p ts f) → g ≡ moved g (length h.rest) → (Goes f (going F) h.front h.rest → Goes g (going F) h.front h.rest)
    → ((n : ℕ) → told_at {X = X} at (Err (moved f n)) ≡ Err (moved g n)) → ReadNot F other ts g
told_not F p other ts at tells f g h place goes same = record {
  front = h.front;
  rest = h.rest;
  split = h.split;
  place = place;
  stays = λ r e. tells h.front h.rest r (Err (moved f (length r))) h.split e (h.stays r e) ∙ same (length r);
  more = h.more;
  made = h.made;
  completes = h.completes;
  met = goes h.met;
}

told_reads : {X : Type 0} (F : List Symbol → X → List Symbol → Type 0) (p other : List Symbol → Reply X) (ts : List Symbol) (at : ℕ) → Tells p other ts at → (reply : Reply X) → ReadsAt F p ts reply → ReadsAt F other ts (told_at at reply)
told_reads F p other ts at tells (Ok z) h = record { front = h.front; split = h.split; stands = h.stands; stays = λ r e. tells h.front z.1 r (Ok (z.0, r)) h.split e (h.stays r e) }
told_reads F p other ts at tells (Err (Unexpected k)) h = told_not F p other ts at tells (Unexpected k) (Unexpected k) h h.place (λ w. w) (λ n. refl)
told_reads F p other ts at tells (Err (Deep k began)) h =
    let place : Deep k began ≡ Deep (length h.rest) began = h.place in
    let e : k ≡ length h.rest = cc in
    told_not F p other ts at tells (Deep k began) (Deep k at) h (ap (λ (n : ℕ). Deep n at) e) (λ w. w) (λ n. refl)
told_reads F p other ts at tells (Err (DotImport k)) h = told_not F p other ts at tells (DotImport k) (DotImport k) h h.place (λ w. w) (λ n. refl)
told_reads F p other ts at tells (Err (Call k c)) h = told_not F p other ts at tells (Call k c) (Call k c) h h.place (λ w. w) (λ n. refl)

abbrev pub told_by : {X : Type 0} → ℕ → (List Symbol → Reply X) → List Symbol → Reply X
told_by at p us = told_at at (p us)

pub told_by_reads : {X : Type 0} (F : List Symbol → X → List Symbol → Type 0) (p : List Symbol → Reply X) (ts : List Symbol) (at : ℕ) (reply : Reply X) → ReadsAt F p ts reply → ReadsAt F (told_by at p) ts (told_at at reply)
told_by_reads F p ts at reply h = told_reads F p (told_by at p) ts at (λ front rest r reply' split e same. ap (told_at at) same) reply h

pub from_start_reads : {X : Type 0} (F : List Symbol → X → List Symbol → Type 0) (p : List Symbol → Reply X) (ts : List Symbol) (reply : Reply X) → ReadsAt F p ts reply → ReadsAt F (from_start p) ts (told_at (start_of ts) reply)
from_start_reads F p ts reply h =
    told_reads F p (from_start p) ts (start_of ts)
    (λ front rest r reply' split e same. ap (told_at (start_of (front ++ r))) same ∙ ap (λ (at : ℕ). told_at at reply') (sym (start_same ts (front ++ r) (ap ahead split ∙ ahead_along front rest r e))))
    reply h

pub starts_same : (is : Symbol → Bool) (ts r : List Symbol) → ahead ts ≡ ahead r → starts is ts ≡ starts is r
starts_same is [] [] e = refl
starts_same is [] (k ∷ r) e = absurd cc
starts_same is (k ∷ ts) [] e = absurd cc
starts_same is (k ∷ ts) (j ∷ r) e = let same : k ≡ j = cc in ap is same

abbrev pub peek_then : {X : Type 0} → (Symbol → Bool) → (List Symbol → Reply X) → (List Symbol → Reply X) → List Symbol → Reply X
peek_then is q other ts = peek is ts (q ts) (other ts)

peek_so : {X : Type 0} (F : List Symbol → X → List Symbol → Type 0) (W : Fault → List Symbol → X → List Symbol → Type 0) (is : Symbol → Bool) (q other : List Symbol → Reply X) (ts : List Symbol) (b : Bool) → starts is ts ≡ b
    → (b ≡ true → ReadsBy F W q ts (q ts)) → (b ≡ false → ReadsBy F W other ts (other ts)) → ReadsBy F W (peek_then is q other) ts (if b then q ts else other ts)
peek_so F W is q other ts true e found otherwise = like_by F W (peek_then is q other) q ts (q ts) (λ r h. let here : starts is r ≡ true = sym (starts_same is ts r h) ∙ e in rw here refl) (found refl)
peek_so F W is q other ts false e found otherwise = like_by F W (peek_then is q other) other ts (other ts) (λ r h. let here : starts is r ≡ false = sym (starts_same is ts r h) ∙ e in rw here refl) (otherwise refl)

pub peek_by : {X : Type 0} (F : List Symbol → X → List Symbol → Type 0) (W : Fault → List Symbol → X → List Symbol → Type 0) (is : Symbol → Bool) (q other : List Symbol → Reply X) (ts : List Symbol)
    → (starts is ts ≡ true → ReadsBy F W q ts (q ts)) → (starts is ts ≡ false → ReadsBy F W other ts (other ts)) → ReadsBy F W (peek_then is q other) ts (peek_then is q other ts)
peek_by F W is q other ts found otherwise = peek_so F W is q other ts (starts is ts) refl found otherwise

pub peek_on : {X : Type 0} (F W : List Symbol → X → List Symbol → Type 0) (is : Symbol → Bool) (q other : List Symbol → Reply X) (ts : List Symbol)
    → (starts is ts ≡ true → ReadsOn F W q ts (q ts)) → (starts is ts ≡ false → ReadsOn F W other ts (other ts)) → ReadsOn F W (peek_then is q other) ts (peek_then is q other ts)
peek_on F W is q other ts found otherwise = peek_by F (going W) is q other ts found otherwise

pub peek_reads : {X : Type 0} (F : List Symbol → X → List Symbol → Type 0) (is : Symbol → Bool) (q other : List Symbol → Reply X) (ts : List Symbol)
    → (starts is ts ≡ true → ReadsAt F q ts (q ts)) → (starts is ts ≡ false → ReadsAt F other ts (other ts)) → ReadsAt F (peek_then is q other) ts (peek_then is q other ts)
peek_reads F is q other ts found otherwise = peek_on F F is q other ts found otherwise

abbrev pub choose_then : {X : Type 0} → (Symbol → Bool) → (List Symbol → Reply X) → (List Symbol → Reply X) → List Symbol → Reply X
choose_then is q other ts = choose (past is ts) q (other ts)

-- the token comes next, or it doesn't
choose_next : {X : Type 0} (is : Symbol → Bool) (H : List Symbol → X → List Symbol → Type 0) (W : Fault → List Symbol → X → List Symbol → Type 0) (K : Kind is) (q other : List Symbol → Reply X) (k : Symbol) (ts : List Symbol) (b : Bool) → is k ≡ b
    → ReadsBy (Past K H) (λ f. Past K (W f)) q ts (q ts) → (b ≡ false → ReadsBy H W other (k ∷ ts) (other (k ∷ ts)))
    → ReadsBy H W (choose_then is q other) (k ∷ ts) (choose (if b then Ok ts else unexpected (k ∷ ts)) q (other (k ∷ ts)))
choose_next is H W K q other k ts true e found otherwise =
    let o = K.only k e in
    cons_by H W (choose_then is q other) q k ts (q ts) (λ r. rw e refl)
    (as_by (Past K H) (Behind k H) (λ f. Past K (W f)) (λ f. Behind k (W f)) q ts (q ts) (λ us x rest w. subst (λ j. H (j ∷ us) x rest) (sym o.1) (w o.0)) (λ f us x rest w. subst (λ j. W f (j ∷ us) x rest) (sym o.1) (w o.0)) found)
choose_next is H W K q other k ts false e found otherwise =
    like_by H W (choose_then is q other) other (k ∷ ts) (other (k ∷ ts)) (next_is (λ r. choose_then is q other r ≡ other r) k (λ r. rw e refl)) (otherwise refl)

pub choose_by_at : {X : Type 0} (is : Symbol → Bool) (H : List Symbol → X → List Symbol → Type 0) (W : Fault → List Symbol → X → List Symbol → Type 0) (K : Kind is) (q other : List Symbol → Reply X) (ts : List Symbol)
    → ((us : List Symbol) → length us < length ts → ReadsBy (Past K H) (λ f. Past K (W f)) q us (q us)) → (starts is ts ≡ false → ReadsBy H W other ts (other ts))
    → ReadsBy H W (choose_then is q other) ts (choose_then is q other ts)
choose_by_at is H W K q other [] found otherwise = like_by H W (choose_then is q other) other [] (other []) (ends_so (λ r. choose_then is q other r ≡ other r) refl) (otherwise refl)
choose_by_at is H W K q other (k ∷ ts) found otherwise = choose_next is H W K q other k ts (is k) refl (found ts (omega arith)) otherwise

pub choose_by : {X : Type 0} (is : Symbol → Bool) (H : List Symbol → X → List Symbol → Type 0) (W : Fault → List Symbol → X → List Symbol → Type 0) (K : Kind is) (q other : List Symbol → Reply X) (ts : List Symbol)
    → ((us : List Symbol) → ReadsBy (Past K H) (λ f. Past K (W f)) q us (q us)) → (starts is ts ≡ false → ReadsBy H W other ts (other ts))
    → ReadsBy H W (choose_then is q other) ts (choose_then is q other ts)
choose_by is H W K q other ts found otherwise = choose_by_at is H W K q other ts (λ us less. found us) otherwise

pub choose_on : {X : Type 0} (is : Symbol → Bool) (H W : List Symbol → X → List Symbol → Type 0) (K : Kind is) (q other : List Symbol → Reply X) (ts : List Symbol)
    → ((us : List Symbol) → ReadsOn (Past K H) (Past K W) q us (q us)) → (starts is ts ≡ false → ReadsOn H W other ts (other ts))
    → ReadsOn H W (choose_then is q other) ts (choose_then is q other ts)
choose_on is H W K q other ts found otherwise = choose_by_at is H (going W) K q other ts (λ us less. pasts is H W K q us (q us) (found us)) otherwise

pub choose_reads_on : {X : Type 0} (is : Symbol → Bool) (H : List Symbol → X → List Symbol → Type 0) (K : Kind is) (q other : List Symbol → Reply X) (ts : List Symbol)
    → ((us : List Symbol) → length us < length ts → ReadsAt (Past K H) q us (q us)) → (starts is ts ≡ false → ReadsAt H other ts (other ts))
    → ReadsAt H (choose_then is q other) ts (choose_then is q other ts)
choose_reads_on is H K q other ts found otherwise = choose_by_at is H (going H) K q other ts (λ us less. pasts is H H K q us (q us) (found us less)) otherwise

pub choose_reads : {X : Type 0} (is : Symbol → Bool) (H : List Symbol → X → List Symbol → Type 0) (K : Kind is) (q other : List Symbol → Reply X) (ts : List Symbol)
    → ((us : List Symbol) → ReadsAt (Past K H) q us (q us)) → (starts is ts ≡ false → ReadsAt H other ts (other ts))
    → ReadsAt H (choose_then is q other) ts (choose_then is q other ts)
choose_reads is H K q other ts found otherwise = choose_reads_on is H K q other ts (λ us less. found us) otherwise

-- ---- a reader whose relation doesn't hold of no tokens takes one

eats_front : {X : Type 0} (F : List Symbol → X → List Symbol → Type 0) (x : X) (ts front rest : List Symbol) → ((us : List Symbol) → F [] x us → ⊥) → ts ≡ front ++ rest → ((tail : List Symbol) → F (front ++ tail) x tail) → length rest < length ts
eats_front F x ts [] rest never e h = absurd (never [] (h []))
eats_front F x ts (k ∷ front) rest never e h = rw (e, length-append {A = Symbol}) (omega arith)

pub eats : {X : Type 0} (F : List Symbol → X → List Symbol → Type 0) (p : List Symbol → Reply X) (ts : List Symbol) (x : X) (rest : List Symbol) → ((us : List Symbol) → F [] x us → ⊥) → ReadOk F p ts x rest → length rest < length ts
eats F p ts x rest never h = eats_front F x ts h.front rest never h.split h.stands

-- ---- a relation that holds of fewer trees, where the next token shows it

abbrev only_front : {X : Type 0} → (List Symbol → X → List Symbol → Type 0) → List Symbol → Type 0
only_front {X} G front = (more : List Symbol) × (made : X) × ((tail : List Symbol) → G (front ++ (more ++ tail)) made tail)

only_done : {X : Type 0} (F G : List Symbol → X → List Symbol → Type 0) (ts front rest : List Symbol) (x : X) → ((k : Symbol) (us : List Symbol) (z : X) (vs : List Symbol) → ahead ts ≡ Some k → F (k ∷ us) z vs → G (k ∷ us) z vs)
    → ((z : X) (us : List Symbol) → F [] z us → ⊥) → ts ≡ front ++ rest → ((tail : List Symbol) → F (front ++ tail) x tail) → (tail : List Symbol) → G (front ++ tail) x tail
only_done F G ts [] rest x join never e h tail = absurd (never x [] (h []))
only_done F G ts (k ∷ front) rest x join never e h tail = join k (front ++ tail) x tail (ap ahead e) (h tail)

only_not : {X : Type 0} (F G : List Symbol → X → List Symbol → Type 0) (ts front rest more : List Symbol) (x : X) → ((k : Symbol) (us : List Symbol) (z : X) (vs : List Symbol) → ahead ts ≡ Some k → F (k ∷ us) z vs → G (k ∷ us) z vs)
    → Sample G → ts ≡ front ++ rest → ((tail : List Symbol) → F (front ++ (more ++ tail)) x tail) → only_front G front
only_not F G ts [] rest more x join s e h = (s.tokens, s.made, s.stands)
only_not F G ts (k ∷ front) rest more x join s e h = (more, x, λ tail. join k (front ++ (more ++ tail)) x tail (ap ahead e) (h tail))

only_met : {X : Type 0} (F G : List Symbol → X → List Symbol → Type 0) (ts front rest : List Symbol) → ((k : Symbol) (us : List Symbol) (z : X) (vs : List Symbol) → ahead ts ≡ Some k → F (k ∷ us) z vs → G (k ∷ us) z vs)
    → ts ≡ front ++ rest → Meets F front rest → Meets G front rest
only_met F G ts [] rest join e h = record { next = h.next; comes = h.comes; beyond = h.beyond; formed = h.formed; goes = λ tail. join h.next (h.beyond ++ tail) h.formed tail (ap ahead e ∙ h.comes) (h.goes tail) }
only_met F G ts (k ∷ front) rest join e h =
    record { next = h.next; comes = h.comes; beyond = h.beyond; formed = h.formed; goes = λ tail. join k (front ++ (h.next ∷ (h.beyond ++ tail))) h.formed tail (ap ahead e) (h.goes tail) }

-- a call begins no earlier than behind the token that shows it
only_called : {X : Type 0} (F G : List Symbol → X → List Symbol → Type 0) (ts : List Symbol) (at : ℕ) → ((k : Symbol) (us : List Symbol) (z : X) (vs : List Symbol) → ahead ts ≡ Some k → F (k ∷ us) z vs → G (k ∷ us) z vs)
    → ((token : Token) (us : List Symbol) (z : X) (vs : List Symbol) → F (t.Literal token ∷ us) z vs → ⊥) → (k : Symbol) (us : List Symbol) (z : X) (vs : List Symbol) → ahead ts ≡ Some k → Called F at (k ∷ us) z vs → Called G at (k ∷ us) z vs
only_called F G ts at join literally k us z vs e h = behind_some h.before h.split h.stands
  where
    behind_some : (before : List Symbol) → k ∷ us ≡ before ++ h.call → F (before ++ t.Literal h.literal ∷ h.after) z vs → Called G at (k ∷ us) z vs
    behind_some [] split w = absurd (literally h.literal h.after z vs w)
    behind_some (j ∷ before) split w =
        let same : j ≡ k = cc in
        record {
          before = j ∷ before;
          call = h.call;
          after = h.after;
          literal = h.literal;
          split = split;
          calls = h.calls;
          stands = join j (before ++ t.Literal h.literal ∷ h.after) z vs (e ∙ ap (λ (i : Symbol). Some i) (sym same)) w;
        }

only_goes : {X : Type 0} (F G : List Symbol → X → List Symbol → Type 0) (ts front rest : List Symbol) → ((k : Symbol) (us : List Symbol) (z : X) (vs : List Symbol) → ahead ts ≡ Some k → F (k ∷ us) z vs → G (k ∷ us) z vs)
    → ((token : Token) (us : List Symbol) (z : X) (vs : List Symbol) → F (t.Literal token ∷ us) z vs → ⊥) → ts ≡ front ++ rest → (f : Fault) → Goes f (going F) front rest → Goes f (going G) front rest
only_goes F G ts front rest join literally e (Unexpected k) h = tt
only_goes F G ts front rest join literally e (Deep k began) h = only_met F G ts front rest join e h
only_goes F G ts front rest join literally e (DotImport k) h = only_met F G ts front rest join e h
only_goes F G ts front rest join literally e (Call k at) h = only_met (Called F at) (Called G at) ts front rest (only_called F G ts at join literally) e h

pub only_reads : {X : Type 0} (F G : List Symbol → X → List Symbol → Type 0) (p : List Symbol → Reply X) (ts : List Symbol) → ((k : Symbol) (us : List Symbol) (z : X) (vs : List Symbol) → ahead ts ≡ Some k → F (k ∷ us) z vs → G (k ∷ us) z vs)
    → ((z : X) (us : List Symbol) → F [] z us → ⊥) → ((token : Token) (us : List Symbol) (z : X) (vs : List Symbol) → F (t.Literal token ∷ us) z vs → ⊥) → Sample G → (reply : Reply X) → ReadsAt F p ts reply → ReadsAt G p ts reply
only_reads F G p ts join never literally s (Ok y) h = record { front = h.front; split = h.split; stands = only_done F G ts h.front y.1 y.0 join never h.split h.stands; stays = h.stays }
only_reads F G p ts join never literally s (Err f) h =
    let o = only_not F G ts h.front h.rest h.more h.made join s h.split h.completes in
    record { front = h.front; rest = h.rest; split = h.split; place = h.place; stays = h.stays; more = o.0; made = o.1; completes = o.2; met = only_goes F G ts h.front h.rest join literally h.split f h.met }
