-- Files whose spans lie in a source and spell what they are, in which each list of declared names has some, and each
-- constant without values has those of one before it.
use Rattle.std.specs.Prelude.{◌≡◌, ◌≤◌, ◌-◌, ℕ, List, [], ◌∷◌, Option, Some, None, slice_get}
use Rattle.go_expr_syntax.specs.declared.symbols.Ident.{Ident}
use Rattle.go_expr_syntax.specs.declared.tree.Expr.{Expr}
use Rattle.go_expr_syntax.specs.PlainExprs.{spans_of_expr}
use Rattle.go_expr_syntax.specs.StandingExprs.{IdentStands, IdentsStand, QualifierStands, PlaceStands, ExprStands}
use Rattle.go_type_syntax.specs.declared.tree.TypeExpr.{TypeExpr}
use Rattle.go_type_syntax.specs.PlainTypes.{spans_of_type, spans_of_sig}
use Rattle.go_type_syntax.specs.StandingTypes.{TypeStands, SigStands}
use Rattle.go_syntax.specs.declared.tree.ConstSpec.{ConstSpec}
use Rattle.go_syntax.specs.declared.tree.FuncDecl.{FuncDecl}
use Rattle.go_syntax.specs.declared.tree.Import.{Import}
use Rattle.go_syntax.specs.declared.tree.Receiver.{Receiver}
use Rattle.go_syntax.specs.declared.tree.SourceFile.{SourceFile}
use Rattle.go_syntax.specs.declared.tree.Top.{Top}
use Rattle.go_syntax.specs.declared.tree.Top.TheVariants as top
use Rattle.go_syntax.specs.declared.tree.TParam.{TParam}
use Rattle.go_syntax.specs.declared.tree.TypeSpec.{TypeSpec}

-- each item of a list
abbrev pub Each : {X : Type 0} → (X → Type 0) → List X → Type 0
Each P [] = Unit {0}
Each P (x ∷ xs) = P x × Each P xs

-- names that are declared together: one at least
abbrev pub NamesStand : List ℕ → List Ident → Type 0
NamesStand src [] = ⊥
NamesStand src (i ∷ names) = IdentsStand src (i ∷ names)

abbrev pub TypeIfAny : List ℕ → Option TypeExpr → Type 0
TypeIfAny src (Some ty) = TypeStands src (spans_of_type ty)
TypeIfAny src None = Unit {0}

abbrev pub ValueStands : List ℕ → Expr → Type 0
ValueStands src x = ExprStands src (spans_of_expr x)

abbrev pub ImportStands : List ℕ → Import → Type 0
ImportStands src x = QualifierStands src x.name × PlaceStands src x.at

abbrev pub TParamStands : List ℕ → TParam → Type 0
TParamStands src x =
    NamesStand src x.names × TypeStands src (spans_of_type x.constraint) × PlaceStands src x.at

abbrev pub ReceiverStands : List ℕ → Receiver → Type 0
ReceiverStands src r =
    QualifierStands src r.name × IdentStands src r.base × IdentsStand src r.args × PlaceStands src r.at

abbrev pub ReceiverIfAny : List ℕ → Option Receiver → Type 0
ReceiverIfAny src (Some r) = ReceiverStands src r
ReceiverIfAny src None = Unit {0}

-- Constants with values have their own, and others those of no later specification.
abbrev pub HasValuesOf : List Expr → ℕ → ℕ → Type 0
HasValuesOf [] iota source = source ≤ iota
HasValuesOf (x ∷ xs) iota source = source ≡ iota

abbrev pub ConstStands : List ℕ → ConstSpec → Type 0
ConstStands src c =
    NamesStand src c.names × TypeIfAny src c.ty × Each (ValueStands src) c.values × HasValuesOf c.values c.iota c.source

abbrev pub TypeSpecStands : List ℕ → TypeSpec → Type 0
TypeSpecStands src s =
    IdentStands src s.name × Each (TParamStands src) s.tparams × TypeStands src (spans_of_type s.ty)

abbrev pub FuncStands : List ℕ → FuncDecl → Type 0
FuncStands src f =
    ReceiverIfAny src f.receiver × IdentStands src f.name × Each (TParamStands src) f.tparams
    × SigStands src (spans_of_sig f.sig)

abbrev pub TopStands : List ℕ → Top → Type 0
TopStands src (top.Constant c) = ConstStands src c
TopStands src (top.Var v) = NamesStand src v.names × TypeIfAny src v.ty
TopStands src (top.Defined s) = TypeSpecStands src s
TopStands src (top.Alias s) = TypeSpecStands src s
TopStands src (top.Func f) = FuncStands src f

-- The specification whose type and values these constants have, which are the declaration of this number, stands as
-- many declarations before them as their numbers in the group differ by, and has its own.
pub record IsRepeated (tops : List Top) (k : ℕ) (c : ConstSpec) : Type 0 where
  pub found : ConstSpec
  pub back : c.iota - c.source ≤ k
  pub stands : slice_get tops (k - (c.iota - c.source)) ≡ Some (top.Constant found)
  pub number : found.iota ≡ c.source
  pub own : found.source ≡ c.source

abbrev pub AreRepeated : List Top → Type 0
AreRepeated tops = (k : ℕ) (c : ConstSpec) → slice_get tops k ≡ Some (top.Constant c) → IsRepeated tops k c

pub record FileStands (src : List ℕ) (f : SourceFile) : Type 0 where
  pub name : IdentStands src f.name
  pub imports : Each (ImportStands src) f.imports
  pub tops : Each (TopStands src) f.tops
  pub repeated : AreRepeated f.tops
