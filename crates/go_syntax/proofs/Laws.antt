-- What a whole reading says of the tokens.
use Rattle.std.proofs.Common.{◌≡◌, ℕ, ◌<◌, ◌≤◌, List, [], ◌∷◌, ◌++◌, length, Some, None, Result, Ok, Err, refl, sym, ap, subst, ◌∙◌, append_assoc, arith}
use Rattle.std.proofs.lemmas.List.{append-nil}
use Rattle.go_expr_syntax.specs.declared.symbols.Symbol.{Symbol}
use Rattle.go_syntax.specs.declared.tree.SourceFile.{SourceFile}
use Rattle.go_expr_syntax.specs.declared.faults.Fault.{Fault}
use Rattle.go_expr_syntax.specs.declared.faults.Fault.TheVariants.{Unexpected, Deep, DotImport, Call}
use Rattle.go_expr_syntax.specs.Reading.{Reply, ◌>>=◌}
use Rattle.go_expr_syntax.specs.Calls.{Called}
use Rattle.go_syntax.specs.Decls.{IsFileOf}
use Rattle.go_syntax.specs.Files.{file_front, at_end, file_at}
use Rattle.go_syntax.specs.Outcomes.{IsFile, BeginsFile, Stops, IsUnexpected, Deepens, GoesOnTo, IsTooDeep, IsFileWithDots, IsFileWithCall, IsLeftOut, Explains}
use Rattle.go_expr_syntax.proofs.Viable.{Meets, ReadOk, ReadNotOn, ReadsBy, ahead}
use Rattle.go_syntax.proofs.ImportReads.{Wide}
use Rattle.go_syntax.proofs.FileReads.{FileAt, WideFile, file_reads}
use Rattle.go_syntax.proofs.FileAgain.{file_again}
use Rattle.go_syntax.proofs.DeepParts.{deep_part}
use Rattle.go_expr_syntax.proofs.Agreeing.{Agrees}

again : (n m : ℕ) → 2 ≤ n → (ts : List Symbol) (f : SourceFile) → IsFileOf m ts f [] → Agrees n m f [] (file_front n ts)
again n m two ts f w = file_again n m two ts f [] w refl (record { no_var_word = refl; no_type_word = refl; no_const_word = refl; no_func_word = refl })

-- ---- a file is found

found_in : (n : ℕ) (ts : List Symbol) (f : SourceFile) (z : SourceFile × List Symbol) → ReadOk FileAt (file_front n) ts z.0 z.1 → at_end z.0 z.1 ≡ Ok f → IsFile ts f
found_in n ts f z h e = at_rest z.1 h e
  where
    at_rest : (rest : List Symbol) → ReadOk FileAt (file_front n) ts z.0 rest → at_end z.0 rest ≡ Ok f → IsFile ts f
    at_rest [] h e = let same : z.0 ≡ f = cc in subst (λ x. IsFile ts x) same (subst (λ us. IsFile us z.0) (sym h.split) (h.stands []))
    at_rest (k ∷ us) h e = absurd cc

pub is_found : (n : ℕ) → 2 ≤ n → (ts : List Symbol) (f : SourceFile) → file_at n ts ≡ Ok f → IsFile ts f
is_found n two ts f e = go (file_front n ts) (file_reads n two ts) e
  where
    go : (r : Reply SourceFile) → ReadsBy FileAt (Wide FileAt WideFile) (file_front n) ts r → (r >>= λ z. at_end z.0 z.1) ≡ Ok f → IsFile ts f
    go (Ok z) h e = found_in n ts f z h e
    go (Err g) h e = absurd cc

-- ---- no other is

abbrev ended : Reply SourceFile → Result SourceFile Fault
ended r = r >>= λ z. at_end z.0 z.1

only_one : (n m : ℕ) (f : SourceFile) (r : Reply SourceFile) → m ≤ n → Agrees n m f [] r → ended r ≡ Ok f
only_one n m f (Ok z) le h = ap (λ (us : List Symbol). at_end z.0 us) h.1 ∙ ap (λ (x : SourceFile). at_end x []) h.0
only_one n m f (Err (Deep k began)) le h = absurd (omega arith)
only_one n m f (Err (Unexpected k)) le h = absurd h
only_one n m f (Err (DotImport k)) le h = absurd h
only_one n m f (Err (Call k at)) le h = absurd h

pub is_only : (n m : ℕ) → 2 ≤ n → (ts : List Symbol) (f : SourceFile) → IsFileOf m ts f [] → m ≤ n → file_at n ts ≡ Ok f
is_only n m two ts f w le = only_one n m f (file_front n ts) le (again n m two ts f w)

within : (n m : ℕ) (f : SourceFile) (r : Reply SourceFile) (x : SourceFile) → ended r ≡ Ok x → Agrees n m f [] r → m ≤ n
within n m f (Ok z) x e h = h.2
within n m f (Err g) x e h = absurd cc

-- each file that the tokens are has no path that is too long, where one is found
pub is_within : (n m : ℕ) → 2 ≤ n → (ts : List Symbol) (f x : SourceFile) → file_at n ts ≡ Ok x → IsFileOf m ts f [] → m ≤ n
is_within n m two ts f x e w = within n m f (file_front n ts) x e (again n m two ts f w)

-- ---- the place of a fault

clash_unexpected : (n m k : ℕ) (f : SourceFile) (r : Reply SourceFile) → r ≡ Err (Unexpected k) → Agrees n m f [] r → ⊥
clash_unexpected n m k f r e h = subst (Agrees n m f []) e h

clash_dot : (n m k : ℕ) (f : SourceFile) (r : Reply SourceFile) → r ≡ Err (DotImport k) → Agrees n m f [] r → ⊥
clash_dot n m k f r e h = subst (Agrees n m f []) e h

clash_call : (n m k at : ℕ) (f : SourceFile) (r : Reply SourceFile) → r ≡ Err (Call k at) → Agrees n m f [] r → ⊥
clash_call n m k at f r e h = subst (Agrees n m f []) e h

clash_deep : (n m k began : ℕ) (f : SourceFile) (r : Reply SourceFile) → r ≡ Err (Deep k began) → Agrees n m f [] r → n < m
clash_deep n m k began f r e h = subst (Agrees n m f []) e h

begins_of : (n : ℕ) (ts : List Symbol) (f : Fault) → (h : ReadNotOn FileAt (Wide FileAt WideFile) (file_front n) ts f) → BeginsFile h.front
begins_of n ts f h = (h.more, h.made, subst (λ us. IsFile us h.made) (ap (λ (us : List Symbol). h.front ++ us) (append-nil h.more)) (h.completes []))

-- where a front stops, whatever follows the next token, it begins no file
stops_if : (n : ℕ) (front rest : List Symbol) → ((r : List Symbol) (f : SourceFile) (m : ℕ) → ahead rest ≡ ahead r → IsFileOf m (front ++ r) f [] → ⊥) → Stops front rest
stops_if n front [] h = λ f w. h [] f w.0 refl (subst (λ us. IsFileOf w.0 us f []) (sym (append-nil front)) w.1)
stops_if n front (k ∷ ts) h = λ b. h (k ∷ b.0) b.1 b.2.0 refl (subst (λ us. IsFileOf b.2.0 us b.1 []) (append_assoc front (k ∷ []) b.0) b.2.1)

unexpected_at : (n : ℕ) → 2 ≤ n → (ts : List Symbol) (k : ℕ) → ReadNotOn FileAt (Wide FileAt WideFile) (file_front n) ts (Unexpected k) → IsUnexpected ts k
unexpected_at n two ts k h = record {
  front = h.front;
  rest = h.rest;
  split = h.split;
  place = let e : Unexpected k ≡ Unexpected (length h.rest) = h.place in cc;
  begins = begins_of n ts (Unexpected k) h;
  ends = stops_if n h.front h.rest (λ r f m e w. clash_unexpected n m (length r) f (file_front n (h.front ++ r)) (h.stays r e) (again n m two (h.front ++ r) f w));
}

goes_if : (G : List Symbol → SourceFile → Type 0) (W : List Symbol → SourceFile → List Symbol → Type 0) → ((us : List Symbol) (f : SourceFile) → W us f [] → G us f) → (front rest : List Symbol) → Meets W front rest → GoesOnTo G front rest
goes_if G W join front [] h = let c : None ≡ Some h.next = h.comes in absurd cc
goes_if G W join front (k ∷ ts) h =
    let c : Some k ≡ Some h.next = h.comes in
    let same : h.next ≡ k = cc in
    (h.beyond ++ [], h.formed, subst (λ us. G us h.formed) (ap (λ (j : Symbol). front ++ j ∷ (h.beyond ++ [])) same ∙ sym (append_assoc front (k ∷ []) (h.beyond ++ []))) (join (front ++ (h.next ∷ (h.beyond ++ []))) h.formed (h.goes [])))

dot_at : (n : ℕ) → 2 ≤ n → (ts : List Symbol) (k : ℕ) → ReadNotOn FileAt (Wide FileAt WideFile) (file_front n) ts (DotImport k) → IsLeftOut IsFileWithDots ts k
dot_at n two ts k h = record {
  front = h.front;
  rest = h.rest;
  split = h.split;
  place = let e : DotImport k ≡ DotImport (length h.rest) = h.place in cc;
  begins = begins_of n ts (DotImport k) h;
  ends = stops_if n h.front h.rest (λ r f m e w. clash_dot n m (length r) f (file_front n (h.front ++ r)) (h.stays r e) (again n m two (h.front ++ r) f w));
  goes = goes_if IsFileWithDots WideFile (λ us f w. w) h.front h.rest h.met;
}

call_at : (n : ℕ) → 2 ≤ n → (ts : List Symbol) (k at : ℕ) → ReadNotOn FileAt (Wide FileAt WideFile) (file_front n) ts (Call k at) → IsLeftOut (IsFileWithCall at) ts k
call_at n two ts k at h = record {
  front = h.front;
  rest = h.rest;
  split = h.split;
  place = let e : Call k at ≡ Call (length h.rest) at = h.place in cc;
  begins = begins_of n ts (Call k at) h;
  ends = stops_if n h.front h.rest (λ r f m e w. clash_call n m (length r) at f (file_front n (h.front ++ r)) (h.stays r e) (again n m two (h.front ++ r) f w));
  goes = goes_if (IsFileWithCall at) (Called FileAt at) (λ us f w. w) h.front h.rest h.met;
}

deepens_if : (n : ℕ) (front rest : List Symbol) → ((r : List Symbol) (f : SourceFile) (m : ℕ) → ahead rest ≡ ahead r → IsFileOf m (front ++ r) f [] → n < m) → Deepens n front rest
deepens_if n front [] h = λ f m w. h [] f m refl (subst (λ us. IsFileOf m us f []) (sym (append-nil front)) w)
deepens_if n front (k ∷ ts) h = λ more f m w. h (k ∷ more) f m refl w

deep_at : (n : ℕ) → 2 ≤ n → (ts : List Symbol) (k began : ℕ) → ReadNotOn FileAt (Wide FileAt WideFile) (file_front n) ts (Deep k began) → IsTooDeep n ts k
deep_at n two ts k began h = record {
  front = h.front;
  rest = h.rest;
  split = h.split;
  place = let e : Deep k began ≡ Deep (length h.rest) began = h.place in cc;
  begins = begins_of n ts (Deep k began) h;
  goes = goes_if IsFile FileAt (λ us f w. w) h.front h.rest h.met;
  deeper = deepens_if n h.front h.rest (λ r f m e w. clash_deep n m (length r) began f (file_front n (h.front ++ r)) (h.stays r e) (again n m two (h.front ++ r) f w));
}

-- what is left after the last declaration
clash_rest : (n m : ℕ) (f g : SourceFile) (k : Symbol) (ts : List Symbol) (r : Reply SourceFile) → r ≡ Ok (g, k ∷ ts) → Agrees n m f [] r → ⊥
clash_rest n m f g k ts r e h = let a = subst (Agrees n m f []) e h in let b : k ∷ ts ≡ [] = a.1 in cc

left_at : (n : ℕ) → 2 ≤ n → (ts : List Symbol) (g : SourceFile) (k : Symbol) (us : List Symbol) → ReadOk FileAt (file_front n) ts g (k ∷ us) → IsUnexpected ts (length (k ∷ us))
left_at n two ts g k us h = record {
  front = h.front;
  rest = k ∷ us;
  split = h.split;
  place = refl;
  begins = ([], g, h.stands []);
  ends = stops_if n h.front (k ∷ us) (λ r f m e w. stop_left r f m e w);
}
  where
    stop_left : (r : List Symbol) (f : SourceFile) (m : ℕ) → ahead (k ∷ us) ≡ ahead r → IsFileOf m (h.front ++ r) f [] → ⊥
    stop_left [] f m e w = absurd cc
    stop_left (j ∷ r) f m e w = clash_rest n m f g j r (file_front n (h.front ++ j ∷ r)) (h.stays (j ∷ r) e) (again n m two (h.front ++ j ∷ r) f w)

-- what each fault says, but for the place of a path that is too long
abbrev Told : ℕ → List Symbol → Fault → Type 0
Told n ts (Unexpected k) = IsUnexpected ts k
Told n ts (Deep k began) = IsTooDeep n ts k
Told n ts (DotImport k) = IsLeftOut IsFileWithDots ts k
Told n ts (Call k at) = IsLeftOut (IsFileWithCall at) ts k

explains_not : (n : ℕ) → 2 ≤ n → (ts : List Symbol) (f : Fault) → ReadNotOn FileAt (Wide FileAt WideFile) (file_front n) ts f → Told n ts f
explains_not n two ts (Unexpected k) h = unexpected_at n two ts k h
explains_not n two ts (Deep k began) h = deep_at n two ts k began h
explains_not n two ts (DotImport k) h = dot_at n two ts k h
explains_not n two ts (Call k at) h = call_at n two ts k at h

explains_ok : (n : ℕ) → 2 ≤ n → (ts : List Symbol) (f : Fault) (g : SourceFile) (rest : List Symbol) → ReadOk FileAt (file_front n) ts g rest → at_end g rest ≡ Err f → Told n ts f
explains_ok n two ts f g [] h e = absurd cc
explains_ok n two ts f g (k ∷ us) h e = let same : Unexpected (length (k ∷ us)) ≡ f = cc in subst (Told n ts) same (left_at n two ts g k us h)

told : (n : ℕ) → 2 ≤ n → (ts : List Symbol) (f : Fault) → file_at n ts ≡ Err f → Told n ts f
told n two ts f e = go (file_front n ts) (file_reads n two ts) e
  where
    go : (r : Reply SourceFile) → ReadsBy FileAt (Wide FileAt WideFile) (file_front n) ts r → ended r ≡ Err f → Told n ts f
    go (Ok z) h e = explains_ok n two ts f z.0 z.1 h e
    go (Err g) h e = let same : g ≡ f = cc in subst (Told n ts) same (explains_not n two ts g h)

pub explains : (n : ℕ) → 2 ≤ n → (ts : List Symbol) (f : Fault) → file_at n ts ≡ Err f → Explains n ts f
explains n two ts (Unexpected k) e = told n two ts (Unexpected k) e
explains n two ts (Deep k began) e = (told n two ts (Deep k began) e, deep_part n two ts k began e)
explains n two ts (DotImport k) e = told n two ts (DotImport k) e
explains n two ts (Call k at) e = told n two ts (Call k at) e

pub as_unexpected : (G : List Symbol → SourceFile → Type 0) (ts : List Symbol) (left : ℕ) → IsLeftOut G ts left → IsUnexpected ts left
as_unexpected G ts left h = record { front = h.front; rest = h.rest; split = h.split; place = h.place; begins = h.begins; ends = h.ends }
