use Rattle.std.proofs.Common.{◌≡◌, ◌++◌, ◌-◌, ℕ, List, Option, None, Some, length, take, drop, sym, ap, ◌∙◌, append_assoc, subst}
use Rattle.std.proofs.lemmas.List.{take-append-drop, take_rest}
use Rattle.std.specs.Io.KnownBytes.{Appends, Keeps}
use Rattle.exportdata.proofs.host_files.write_all.Goals as goal
use Rattle.exportdata.proofs.host_files.write_all.Goals.{in-Ok, in-Err}

-- two writes, one after the other
appends_twice : (a b c : Option (List ℕ)) (xs ys : List ℕ) → Appends a b xs → Appends b c ys → Appends a c (xs ++ ys)
appends_twice None b c xs ys first second = tt
appends_twice (Some a) None c xs ys first second = elim first [ ]
appends_twice (Some a) (Some b) None xs ys first second = elim second [ ]
appends_twice (Some a) (Some b) (Some c) xs ys first second = second ∙ ap (λ l. l ++ ys) first ∙ append_assoc a xs ys

appends_none : (a b c : Option (List ℕ)) (xs : List ℕ) → Appends a b xs → Keeps b c → Appends a c xs
appends_none None b c xs first kept = tt
appends_none (Some a) None c xs first kept = elim first [ ]
appends_none (Some a) (Some b) None xs first kept = elim kept [ ]
appends_none (Some a) (Some b) (Some c) xs first kept = kept ∙ first

moves_front : (all done rest : List ℕ) (n : ℕ) → all ≡ done ++ rest → all ≡ (done ++ take n rest) ++ take (length rest - n) (drop n rest)
moves_front all done rest n e =
    e ∙ ap (λ l. done ++ l) (sym (take-append-drop n rest)) ∙ sym (append_assoc done (take n rest) (drop n rest)) ∙ ap (λ l. (done ++ take n rest) ++ l) (sym (take_rest rest n))

pub loop-preserved : goal.loop-preserved
loop-preserved g c =
    let (done, split, appended) = c.loop.invariant in
    let rest = c.loop.rest.now in
    elim c.match-write.branch [
      | in-Ok w ↦
          let n = w.in-Ok.count in
          (done ++ take n rest, moves_front _ done rest n split ∙ ap (λ b. (done ++ take n rest) ++ b.now) (sym w.rest-is), appends_twice _ _ _ done (take n rest) appended w.in-Ok.ensures.bytes)
      | in-Err w ↦
          (done, split ∙ ap (λ b. done ++ b.now) (sym w.rest-is), appends_none _ _ _ done appended w.in-Err.ensures.bytes)
    ]
