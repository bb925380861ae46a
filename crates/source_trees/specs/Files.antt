-- Files as they are written, with texts and the values of literals. Constants without values have the type and the
-- values that they repeat.
use Rattle.std.specs.Prelude.{◌-◌, ℕ, suc, Bool, List, [], ◌∷◌, map, Option, Some, None, slice_get}
use Rattle.go_syntax.specs.declared.tree.ConstSpec.{ConstSpec}
use Rattle.go_syntax.specs.declared.tree.FuncDecl.{FuncDecl}
use Rattle.go_syntax.specs.declared.tree.Import.{Import}
use Rattle.go_syntax.specs.declared.tree.Receiver.{Receiver}
use Rattle.go_syntax.specs.declared.tree.SourceFile.{SourceFile}
use Rattle.go_syntax.specs.declared.tree.Top.{Top}
use Rattle.go_syntax.specs.declared.tree.Top.TheVariants as top
use Rattle.go_syntax.specs.declared.tree.TParam.{TParam}
use Rattle.go_syntax.specs.declared.tree.TypeSpec.{TypeSpec}
use Rattle.go_syntax.specs.declared.tree.VarSpec.{VarSpec}
use Rattle.source_trees.specs.Trees.{WrittenExpr, WrittenType, WrittenSig, written_expr, written_type, written_sig}
use Rattle.source_trees.specs.Trees.{type_if_any}
use Rattle.source_trees.specs.Words.{Word, word, word_if_any}

-- an import: the name that it gives the package, if it does, and the path, at the place of its literal
pub record WrittenImport : Type 0 where
  pub name : Option Word
  pub path : List ℕ
  pub at : ℕ

-- type parameters that share a constraint
pub record WrittenTParam : Type 0 where
  pub names : List Word
  pub constraint : WrittenType
  pub at : ℕ

-- constants that share a type and values, with the number of their specification in its group
pub record WrittenConst : Type 0 where
  pub names : List Word
  pub ty : Option WrittenType
  pub values : List WrittenExpr
  pub iota : ℕ

pub record WrittenVar : Type 0 where
  pub names : List Word
  pub ty : Option WrittenType

pub record WrittenTypeSpec : Type 0 where
  pub name : Word
  pub tparams : List WrittenTParam
  pub ty : WrittenType

-- the receiver of a method, with the names that it gives the parameters of its type
pub record WrittenReceiver : Type 0 where
  pub name : Option Word
  pub pointer : Bool
  pub base : Word
  pub args : List Word
  pub at : ℕ

pub record WrittenFunc : Type 0 where
  pub receiver : Option WrittenReceiver
  pub name : Word
  pub tparams : List WrittenTParam
  pub sig : WrittenSig

pub data WrittenTop : Type 0 where
  constants : WrittenConst → WrittenTop
  variables : WrittenVar → WrittenTop
  defined : WrittenTypeSpec → WrittenTop
  alias : WrittenTypeSpec → WrittenTop
  func : WrittenFunc → WrittenTop

pub record WrittenFile : Type 0 where
  pub name : Word
  pub imports : List WrittenImport
  pub tops : List WrittenTop

-- ---- what constants repeat

-- these constants, unless others are found
abbrev pub constants_or : ConstSpec → Option Top → ConstSpec
constants_or c (Some (top.Constant found)) = found
constants_or c _ = c

-- the specification whose type and values the constants have that are the declaration of this number
abbrev pub repeated : List Top → ℕ → ConstSpec → ConstSpec
repeated tops k c = constants_or c (slice_get tops (k - (c.iota - c.source)))

-- ---- of a source's trees

abbrev pub written_import : List ℕ → Import → WrittenImport
written_import source x = record { name = word_if_any source x.name; path = x.path; at = x.at }

abbrev pub written_tparam : List ℕ → TParam → WrittenTParam
written_tparam source x = record {
  names = map (word source) x.names;
  constraint = written_type source x.constraint;
  at = x.at;
}

-- constants, with the specification whose type and values they have
abbrev pub written_const : List ℕ → ConstSpec → ConstSpec → WrittenConst
written_const source c found = record {
  names = map (word source) c.names;
  ty = type_if_any source found.ty;
  values = map (written_expr source) found.values;
  iota = c.iota;
}

abbrev pub written_var : List ℕ → VarSpec → WrittenVar
written_var source x = record { names = map (word source) x.names; ty = type_if_any source x.ty }

abbrev pub written_type_spec : List ℕ → TypeSpec → WrittenTypeSpec
written_type_spec source x = record {
  name = word source x.name;
  tparams = map (written_tparam source) x.tparams;
  ty = written_type source x.ty;
}

abbrev pub written_receiver : List ℕ → Receiver → WrittenReceiver
written_receiver source x = record {
  name = word_if_any source x.name;
  pointer = x.pointer;
  base = word source x.base;
  args = map (word source) x.args;
  at = x.at;
}

abbrev pub receiver_if_any : List ℕ → Option Receiver → Option WrittenReceiver
receiver_if_any source (Some x) = Some (written_receiver source x)
receiver_if_any source None = None

abbrev pub written_func : List ℕ → FuncDecl → WrittenFunc
written_func source x = record {
  receiver = receiver_if_any source x.receiver;
  name = word source x.name;
  tparams = map (written_tparam source) x.tparams;
  sig = written_sig source x.sig;
}

-- the declaration of this number of a file's
abbrev pub written_top : List ℕ → List Top → ℕ → Top → WrittenTop
written_top source all k (top.Constant c) = constants (written_const source c (repeated all k c))
written_top source all k (top.Var x) = variables (written_var source x)
written_top source all k (top.Defined x) = defined (written_type_spec source x)
written_top source all k (top.Alias x) = alias (written_type_spec source x)
written_top source all k (top.Func x) = func (written_func source x)

-- declarations of a file, the first of which has this number
abbrev pub written_tops : List ℕ → List Top → ℕ → List Top → List WrittenTop
written_tops source all k [] = []
written_tops source all k (x ∷ xs) = written_top source all k x ∷ written_tops source all (suc k) xs

abbrev pub written_file : List ℕ → SourceFile → WrittenFile
written_file source f = record {
  name = word source f.name;
  imports = map (written_import source) f.imports;
  tops = written_tops source f.tops 0 f.tops;
}
