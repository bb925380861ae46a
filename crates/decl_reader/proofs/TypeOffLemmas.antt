-- What a typeOff of a descriptor names.
use Rattle.std.proofs.Common.{◌≡◌, ℕ, ◌+◌, ◌-◌, ◌<◌, false, cond, nat_lt, Some, None, ◌∙◌, sym, ap, arith}
use Rattle.std.specs.Prelude.{option_map}
use Rattle.std.proofs.lemmas.Bool.{le-ltb, lt-ltb}
use Rattle.code_tables.specs.declared.predeclared.Basic.TheVariants.{Bool as bool_type}
use Rattle.type_terms.specs.Trees.{predeclared}
use Rattle.decl_spelling.specs.Sections.{Sections}
use Rattle.decl_spelling.specs.Codes.{basic_of}
use Rattle.decl_spelling.specs.Tables.{Finished, Table, at, basic_tree, finished_tree, type_named}
use Rattle.decl_spelling.specs.Heads.{to_basic, lead_at, lead_of, name_at, base_of}

module _ (number offset : ℕ) (is : number ≡ 32 + offset) where
  is_large : nat_lt number 32 ≡ false
  is_large = le-ltb number 32 (omega (arith, is))

  less : number - 32 ≡ offset
  less = omega (arith, is)

  pub lead_is : (src : Sections) → lead_of src number ≡ lead_at src offset
  lead_is src = ap (λ b. cond b (option_map to_basic (basic_of src.version number)) (lead_at src (number - 32))) is_large ∙ ap (lead_at src) less

  pub base_is : (src : Sections) → base_of src number ≡ name_at src offset
  base_is src = ap (λ (b : _). cond b None (name_at src (number - 32))) is_large ∙ ap (name_at src) less

  pub type_is : (version : ℕ) (done : Table) → type_named version done number ≡ finished_tree (at done offset)
  type_is version done = ap (λ b. cond b (basic_tree (basic_of version number)) (finished_tree (at done (number - 32)))) is_large ∙ ap (λ o. finished_tree (at done o)) less

  pub finished_is : (version : ℕ) (done : Table) (f : Finished) → Some f ≡ at done offset → type_named version done number ≡ f.tree
  finished_is version done f found = type_is version done ∙ ap finished_tree (sym found)

  -- a number of a descriptor that isn't there names some type
  pub none_is : (version : ℕ) (done : Table) → None ≡ at done offset → type_named version done number ≡ predeclared bool_type
  none_is version done none = type_is version done ∙ ap finished_tree (sym none)

-- the number of a predeclared type
pub basic_is : (number code version : ℕ) (done : Table) → number ≡ code → code < 32 → basic_tree (basic_of version code) ≡ type_named version done number
basic_is number code version done is small =
    ap (λ (n : ℕ). basic_tree (basic_of version n)) (sym is) ∙ sym (ap (λ b. cond b (basic_tree (basic_of version number)) (finished_tree (at done (number - 32)))) (lt-ltb number 32 (omega (arith, is, small))))
