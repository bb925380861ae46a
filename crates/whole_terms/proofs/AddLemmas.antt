-- One alias is added to the table.
use Rattle.std.proofs.Common.{◌≡◌, ℕ, ◌<◌, Bool, true, false, cond, List, [], ◌∷◌, ◌++◌, length, Option, Some, None, Ok, Err, refl, ap, sym, subst, ◌∙◌}
use Rattle.std.specs.Prelude.{Result, option_map}
use Rattle.go_values.specs.declared.qualified.QName.{QName}
use Rattle.type_terms.specs.Additions.{Outgrows}
use Rattle.type_terms.specs.Arenas.{Contents, AllBelow}
use Rattle.type_terms.specs.Replaced.{all_left, all_right}
use Rattle.environments.specs.declared.declaring.EnvError.{EnvError}
use Rattle.environments.specs.declared.declaring.EnvError.TheVariants.{Unknown, Damaged, TableFull, Nodes as EnvNodes, OutOfMemory as EnvMemory}
use Rattle.environments.specs.Environments.{Entry, Answers, entry_types}
use Rattle.environments.specs.Kept.{OpensBehind}
use Rattle.environments.specs.KeptLaws.{outgrown_by_declare}
use Rattle.replacement.specs.declared.faults.SetFault.TheVariants.{Env}
use Rattle.replacement.specs.Expansion.{Entries, known}
use Rattle.replacement.specs.Calls.{Stops}
use Rattle.whole_terms.specs.declared.summaries.Summary.{Summary}
use Rattle.whole_terms.specs.Tables.{Told, told}

pub mapped_cond : (b : Bool) (x : Summary) (o : Option Summary) → option_map told (cond b (Some x) o) ≡ cond b (Some (told x)) (option_map told o)
mapped_cond true x o = refl
mapped_cond false x o = refl

pub ask_stops : (entries : Entries) (q : QName) (before after : Contents) (full : Option Bool) (e : EnvError) → Answers (entries q) q after full (Err e)
    → (e ≡ EnvNodes → Outgrows before (entry_types (entries q)))
    → Stops (OpensBehind entries (λ name. name ≡ q)) before full (Env e) (known (entries q) q ≡ Err (Env e))
ask_stops entries q before after full (Unknown name) answer full_by = ap (λ o. known o q) answer.0 ∙ ap (λ n. Err (Env (Unknown n))) (sym answer.1)
ask_stops entries q before after full (Damaged name fault) answer full_by = ap (λ o. known o q) answer.0.1 ∙ ap (λ n. Err (Env (Damaged n fault))) (sym answer.1)
ask_stops entries q before after full TableFull answer full_by = answer
ask_stops entries q before after full EnvNodes answer full_by = outgrown_by_declare entries q before (full_by refl)
ask_stops entries q before after full EnvMemory answer full_by = tt

pub right_below : (bound : ℕ) (tparams : List ℕ) (right : ℕ) → AllBelow bound (tparams ++ right ∷ []) → right < bound
right_below bound tparams right all = (all_right (λ n. n < bound) tparams (right ∷ []) all).0

pub tparams_below : (bound : ℕ) (tparams : List ℕ) (right : ℕ) → AllBelow bound (tparams ++ right ∷ []) → AllBelow bound tparams
tparams_below bound tparams right all = all_left (λ n. n < bound) tparams (right ∷ []) all
