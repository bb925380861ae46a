-- The readers of a block's own bytes look at no other byte of the data section.
use Rattle.std.proofs.Common.{◌≡◌, ℕ, List, refl}
use Rattle.decl_spelling.specs.Sections.{Sections}
use Rattle.decl_spelling.specs.Reading.{text_at, path_at, list_at}
use Rattle.decl_spelling.specs.Descriptors.{param_at, sig_at, field_at, method_at, embedded_at, qualified_at, func_at, struct_at, interface_at, instance_at, flat_at}
use Rattle.decl_spelling.specs.Declarations.{var_at, func_decl_at, generic_func_at, constant_at, defined_at, generic_defined_at, alias_at, generic_alias_at, parameter_at, head_at, receiver_at}
use Rattle.decl_spelling.specs.Constants.{Spelling, value_at}
use Rattle.decl_locality.specs.LongerFiles.{with_behind}

module _ (src : Sections) (more : List ℕ) where
  pub flat_same : flat_at (with_behind src more) ≡ flat_at src
  unfolding text_at path_at param_at sig_at field_at method_at embedded_at qualified_at func_at struct_at interface_at instance_at flat_at
  flat_same = refl

  pub head_same : head_at (with_behind src more) ≡ head_at src
  unfolding text_at path_at param_at sig_at var_at func_decl_at generic_func_at constant_at defined_at generic_defined_at alias_at generic_alias_at parameter_at head_at
  head_same = refl

  pub receivers_same : list_at (receiver_at (with_behind src more)) ≡ list_at (receiver_at src)
  unfolding text_at param_at sig_at receiver_at
  receivers_same = refl

  pub value_same : (spelling : Spelling) → value_at (with_behind src more) spelling ≡ value_at src spelling
  unfolding text_at value_at
  value_same spelling = refl
