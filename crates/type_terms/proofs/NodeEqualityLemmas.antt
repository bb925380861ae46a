-- `==` holds of equal nodes alone.
use Rattle.std.proofs.Common.{◌≡◌, Bool, List, [], ◌∷◌, true, ◌&&◌, refl, ap, rules}
use Rattle.std.specs.Prelude.{nat_eq}
use Rattle.std.specs.Cmp.{booleans_Decides}
use Rattle.std.specs.Cmp.Lexicographic.{pointwise}
use Rattle.std.proofs.lemmas.Bool.{and_parts, eqb-true}
use denote.Enum.Bare.{same_true}
use Rattle.go_values.specs.Exact.{exact_bytes, exact_qname, exact_pos}
use Rattle.code_tables.specs.Exact.{exact_basic}
use Rattle.go_values.specs.contracts.positions.PosPartialEq.TheImpl as pos_eq
use Rattle.type_terms.specs.declared.literals.Dir.{Dir}
use Rattle.type_terms.specs.declared.literals.Origin.{Origin}
use Rattle.type_terms.specs.declared.literals.ParamNode.{ParamNode}
use Rattle.type_terms.specs.declared.literals.Sig.{Sig}
use Rattle.type_terms.specs.declared.literals.Field.{Field}
use Rattle.type_terms.specs.declared.literals.IMethod.{IMethod}
use Rattle.type_terms.specs.declared.literals.Term.{Term}
use Rattle.type_terms.specs.declared.descriptors.Node.{Node}
use Rattle.type_terms.specs.declared.descriptors.Node.TheVariants.{Predeclared, Named, Param, AliasName, Pointer, Slice, Array, Chan, MapOf, FuncOf, StructOf, Iface, Instance, Union}
use Rattle.type_terms.specs.contracts.literals.Dir.{the_type as the_dir}
use Rattle.type_terms.specs.contracts.literals.DirPartialEq.TheImpl as dir_eq
use Rattle.type_terms.specs.contracts.literals.OriginPartialEq.TheImpl as origin_eq
use Rattle.type_terms.specs.contracts.literals.ParamNodePartialEq.TheImpl as param_eq
use Rattle.type_terms.specs.contracts.literals.SigPartialEq.TheImpl as sig_eq
use Rattle.type_terms.specs.contracts.literals.FieldPartialEq.TheImpl as field_eq
use Rattle.type_terms.specs.contracts.literals.IMethodPartialEq.TheImpl as method_eq
use Rattle.type_terms.specs.contracts.literals.TermPartialEq.TheImpl as term_eq
use Rattle.type_terms.specs.contracts.descriptors.NodePartialEq.TheImpl as node_eq

pub exact_list : {X : Type 0} (E : X → X → Bool) → ((x y : X) → E x y ≡ true → x ≡ y) → (xs ys : List X) → pointwise E xs ys ≡ true → xs ≡ ys
exact_list E exact [] [] h = refl
exact_list E exact [] (y ∷ ys) h = (cc)
exact_list E exact (x ∷ xs) [] h = (cc)
exact_list E exact (x ∷ xs) (y ∷ ys) h =
    let parts = and_parts (E x y) (pointwise E xs ys) h in
    let head = exact x y parts.0 in
    let tail = exact_list E exact xs ys parts.1 in
    λ i. head i ∷ tail i

exact_dir : (x y : Dir) → dir_eq.ghosts.eq x y ≡ true → x ≡ y
exact_dir x y h = same_true the_dir (search rules) x y h

exact_origin : (x y : Origin) → origin_eq.ghosts.eq x y ≡ true → x ≡ y
exact_origin x y h =
    let parts = and_parts (pointwise nat_eq x.text y.text) (pointwise nat_eq x.path y.path) h in
    let text = exact_bytes x.text y.text parts.0 in
    let path = exact_bytes x.path y.path parts.1 in
    λ i. record { text = text i; path = path i }

exact_param : (x y : ParamNode) → param_eq.ghosts.eq x y ≡ true → x ≡ y
exact_param x y h =
    let parts = and_parts (pos_eq.ghosts.eq x.pos y.pos) (pointwise nat_eq x.name y.name && nat_eq x.ty y.ty) h in
    let rest = and_parts (pointwise nat_eq x.name y.name) (nat_eq x.ty y.ty) parts.1 in
    let pos = exact_pos x.pos y.pos parts.0 in
    let name = exact_bytes x.name y.name rest.0 in
    let ty = eqb-true x.ty y.ty rest.1 in
    λ i. record { pos = pos i; name = name i; ty = ty i }

exact_params : (xs ys : List ParamNode) → pointwise param_eq.ghosts.eq xs ys ≡ true → xs ≡ ys
exact_params = exact_list param_eq.ghosts.eq exact_param

exact_sig : (x y : Sig) → sig_eq.ghosts.eq x y ≡ true → x ≡ y
exact_sig x y h =
    let parts = and_parts (pointwise param_eq.ghosts.eq x.params y.params) _ h in
    let rest = and_parts (pointwise param_eq.ghosts.eq x.results y.results) _ parts.1 in
    let params = exact_params x.params y.params parts.0 in
    let results = exact_params x.results y.results rest.0 in
    let variadic = (booleans_Decides x.variadic y.variadic).0 rest.1 in
    λ i. record { params = params i; results = results i; variadic = variadic i }

exact_field : (x y : Field) → field_eq.ghosts.eq x y ≡ true → x ≡ y
exact_field x y h =
    let a = and_parts (origin_eq.ghosts.eq x.origin y.origin) _ h in
    let b = and_parts (pos_eq.ghosts.eq x.pos y.pos) _ a.1 in
    let c = and_parts (pointwise nat_eq x.name y.name) _ b.1 in
    let d = and_parts (nat_eq x.ty y.ty) _ c.1 in
    let e = and_parts _ (pointwise nat_eq x.tag y.tag) d.1 in
    let origin = exact_origin x.origin y.origin a.0 in
    let pos = exact_pos x.pos y.pos b.0 in
    let name = exact_bytes x.name y.name c.0 in
    let ty = eqb-true x.ty y.ty d.0 in
    let embedded = (booleans_Decides x.embedded y.embedded).0 e.0 in
    let tag = exact_bytes x.tag y.tag e.1 in
    λ i. record { origin = origin i; pos = pos i; name = name i; ty = ty i; embedded = embedded i; tag = tag i }

exact_method : (x y : IMethod) → method_eq.ghosts.eq x y ≡ true → x ≡ y
exact_method x y h =
    let a = and_parts (origin_eq.ghosts.eq x.origin y.origin) _ h in
    let b = and_parts (pos_eq.ghosts.eq x.pos y.pos) _ a.1 in
    let c = and_parts (pointwise nat_eq x.name y.name) _ b.1 in
    let origin = exact_origin x.origin y.origin a.0 in
    let pos = exact_pos x.pos y.pos b.0 in
    let name = exact_bytes x.name y.name c.0 in
    let sig = exact_sig x.sig y.sig c.1 in
    λ i. record { origin = origin i; pos = pos i; name = name i; sig = sig i }

exact_term : (x y : Term) → term_eq.ghosts.eq x y ≡ true → x ≡ y
exact_term x y h =
    let a = and_parts _ (nat_eq x.ty y.ty) h in
    let tilde = (booleans_Decides x.tilde y.tilde).0 a.0 in
    let ty = eqb-true x.ty y.ty a.1 in
    λ i. record { tilde = tilde i; ty = ty i }

pub exact_node : (x y : Node) → node_eq.ghosts.eq x y ≡ true → x ≡ y
exact_node (Predeclared x) (Predeclared y) h = ap Predeclared (exact_basic x y h)
exact_node (Named x) (Named y) h = ap Named (exact_qname x y h)
exact_node (Param x) (Param y) h = ap Param (exact_qname x y h)
exact_node (AliasName x) (AliasName y) h = ap AliasName (exact_qname x y h)
exact_node (Pointer x) (Pointer y) h = ap Pointer (eqb-true x y h)
exact_node (Slice x) (Slice y) h = ap Slice (eqb-true x y h)
exact_node (Array n x) (Array m y) h =
    let parts = and_parts (nat_eq n m) (nat_eq x y) h in
    let size = eqb-true n m parts.0 in
    let id = eqb-true x y parts.1 in
    λ i. Array (size i) (id i)
exact_node (Chan d x) (Chan c y) h =
    let parts = and_parts (dir_eq.ghosts.eq d c) (nat_eq x y) h in
    let dir = exact_dir d c parts.0 in
    let id = eqb-true x y parts.1 in
    λ i. Chan (dir i) (id i)
exact_node (MapOf k x) (MapOf j y) h =
    let parts = and_parts (nat_eq k j) (nat_eq x y) h in
    let key = eqb-true k j parts.0 in
    let id = eqb-true x y parts.1 in
    λ i. MapOf (key i) (id i)
exact_node (FuncOf g x) (FuncOf h y) e =
    let parts = and_parts (pointwise nat_eq g h) (sig_eq.ghosts.eq x y) e in
    let home = exact_bytes g h parts.0 in
    let sig = exact_sig x y parts.1 in
    λ i. FuncOf (home i) (sig i)
exact_node (StructOf g x) (StructOf h y) e =
    let parts = and_parts (pointwise nat_eq g h) (pointwise field_eq.ghosts.eq x y) e in
    let home = exact_bytes g h parts.0 in
    let inner = exact_list field_eq.ghosts.eq exact_field x y parts.1 in
    λ i. StructOf (home i) (inner i)
exact_node (Iface g ts x) (Iface h us y) e =
    let parts = and_parts (pointwise nat_eq g h) (pointwise nat_eq ts us && pointwise method_eq.ghosts.eq x y) e in
    let rest = and_parts (pointwise nat_eq ts us) (pointwise method_eq.ghosts.eq x y) parts.1 in
    let home = exact_bytes g h parts.0 in
    let embedded = exact_bytes ts us rest.0 in
    let inner = exact_list method_eq.ghosts.eq exact_method x y rest.1 in
    λ i. Iface (home i) (embedded i) (inner i)
exact_node (Instance x ts) (Instance y us) e =
    let parts = and_parts (nat_eq x y) (pointwise nat_eq ts us) e in
    let base = eqb-true x y parts.0 in
    let args = exact_bytes ts us parts.1 in
    λ i. Instance (base i) (args i)
exact_node (Union x) (Union y) e = ap Union (exact_list term_eq.ghosts.eq exact_term x y e)
exact_node _ _ h = (cc)
