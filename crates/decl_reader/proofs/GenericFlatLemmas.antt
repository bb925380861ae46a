-- Instances have a generic type.
use Rattle.std.proofs.Common.{◌≡◌, ℕ, true, arith}
use Rattle.std.proofs.lemmas.List.{length-map}
use Rattle.type_terms.specs.Shapes.{instance_of, retype}
use Rattle.type_terms.specs.Trees.{Tree, named, alias}
use Rattle.type_terms.specs.Parts.{IsGeneric, MeetsBase}
use Rattle.decl_spelling.specs.Descent.{is_generic}
use Rattle.decl_reader.specs.Shapes.{Shape}
use Rattle.decl_spelling.specs.Tables.{Table, type_named}
use Rattle.decl_reader.specs.Meant.{IsGenericFlat}

pub generic_by_name : (tree : Tree) → is_generic tree ≡ true → IsGeneric tree
generic_by_name (named q) e = tt
generic_by_name (alias q) e = tt
generic_by_name _ e = absurd cc

pub meets_base : (version : ℕ) (done : Table) (shape : Shape) → IsGenericFlat version done shape → MeetsBase (retype (type_named version done) shape)
meets_base version done (instance_of base args) h = (generic_by_name (type_named version done base) h.0, omega (arith, length-map args (type_named version done), h.1))
meets_base version done _ h = tt
