-- What a name means where no type parameters are in scope, step by step.
use Rattle.std.proofs.Common.{◌≡◌, ℕ, Bool, true, false, cond, List, [], Option, Some, None, map, sym, ap, ◌∙◌, bytes_eq}
use Rattle.source_scopes.specs.declared.looking.Meaning.{Meaning}
use Rattle.source_scopes.specs.declared.looking.Meaning.TheVariants.{Object as an_object, Package as a_package}
use Rattle.source_scopes.specs.Scopes.{Scopes, Declared, scopes_in, object_names, import_names, parameter_names, blank, position, or_universe, or_import, or_object, meaning}

pub not_blank : (s : Scopes) (text : List ℕ) → bytes_eq text blank ≡ false → meaning s text ≡ or_object s text (position text (parameter_names s))
not_blank s text h = ap (λ b. cond b None (or_object s text (position text (parameter_names s)))) h

module _ (d : Declared) (file : ℕ) (text : List ℕ) (shown : bytes_eq text blank ≡ false) where
  pub is_object : (i : ℕ) → Some i ≡ position text (object_names (scopes_in d file [])) → Some (an_object i) ≡ meaning (scopes_in d file []) text
  is_object i h = sym (not_blank (scopes_in d file []) text shown ∙ ap (or_import (scopes_in d file []) text) (sym h))

  pub no_object : None ≡ position text (object_names (scopes_in d file [])) → or_universe text (position text (import_names (scopes_in d file []))) ≡ meaning (scopes_in d file []) text
  no_object h = sym (not_blank (scopes_in d file []) text shown ∙ ap (or_import (scopes_in d file []) text) (sym h))
