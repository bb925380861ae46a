-- What an answer says where nothing was found.
use Rattle.std.proofs.Common.{◌≡◌, ◌⊎◌, inl, inr, Bool, Option, None, refl, sym, subst}
use Rattle.std.specs.Prelude.{Err}
use Rattle.go_values.specs.declared.qualified.QName.{QName}
use Rattle.type_terms.specs.Arenas.{Contents}
use Rattle.environments.specs.declared.declaring.EnvError.{EnvError}
use Rattle.environments.specs.declared.declaring.EnvError.TheVariants.{Unknown, OutOfMemory}
use Rattle.environments.specs.Environments.{Entry, Answers}

pub unknown_answers : (entry : Option Entry) (q : QName) (arena : Contents) (full : Option Bool) (error : EnvError)
    → (error ≡ OutOfMemory) ⊎ ((error ≡ Unknown q) × (entry ≡ None)) → Answers entry q arena full (Err error)
unknown_answers entry q arena full error (inl memory) = subst (λ e. Answers entry q arena full (Err e)) (sym memory) tt
unknown_answers entry q arena full error (inr (unknown, none)) =
    subst (λ e. Answers entry q arena full (Err e)) (sym unknown) (none, refl)
