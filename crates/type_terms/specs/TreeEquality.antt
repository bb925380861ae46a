-- A test whether two trees are equal, which is exact.
use Rattle.std.proofs.Common.{◌≡◌, Bool, true, false, ◌&&◌, refl, ap}
use Rattle.std.specs.Prelude.{nat_eq}
use Rattle.std.specs.Cmp.Lexicographic.{pointwise}
use Rattle.std.proofs.lemmas.Bool.{and_parts, eqb-true}
use Rattle.std.proofs.lemmas.Cmp.{nat_list_eq_equiv, nat_eq_equiv}
use Rattle.go_values.specs.Exact.{exact_bytes, exact_qname, exact_pos}
use Rattle.code_tables.specs.Exact.{exact_basic}
use Rattle.go_values.specs.declared.qualified.QName.{QName}
use Rattle.go_values.specs.declared.positions.Pos.{Pos}
use Rattle.code_tables.specs.declared.predeclared.Basic.{Basic}
use Rattle.go_values.specs.contracts.qualified.QNamePartialEq.TheImpl as qname_eq
use Rattle.go_values.specs.contracts.positions.PosPartialEq.TheImpl as pos_eq
use Rattle.code_tables.specs.contracts.predeclared.BasicPartialEq.TheImpl as basic_eq
use Rattle.go_values.specs.contracts.qualified.QNameEq.TheImpl.Laws as qname_laws
use Rattle.go_values.specs.contracts.positions.PosEq.TheImpl.Laws as pos_laws
use Rattle.code_tables.specs.contracts.predeclared.BasicEq.TheImpl.Laws as basic_laws
use Rattle.type_terms.specs.declared.literals.Dir.{Dir}
use Rattle.type_terms.specs.declared.literals.Dir.TheVariants.{Receive, Send, Both}
use Rattle.type_terms.specs.Shapes.{OriginOf}
use Rattle.type_terms.specs.Trees.{Text, Tree, predeclared, named, parameter, alias, pointer, slice, array, chan}
use Rattle.type_terms.specs.Trees.{map_type, func, struct, interface, instance, union, Trees, no_types, types, Params}
use Rattle.type_terms.specs.Trees.{no_params, params, Fields, no_fields, fields, Methods, no_methods, methods, Terms}
use Rattle.type_terms.specs.Trees.{no_terms, terms}

abbrev pub same_text : Text → Text → Bool
same_text = pointwise nat_eq

abbrev pub same_basic : Basic → Basic → Bool
same_basic = basic_eq.ghosts.eq

abbrev pub same_name : QName → QName → Bool
same_name = qname_eq.ghosts.eq

abbrev pub same_pos : Pos → Pos → Bool
same_pos = pos_eq.ghosts.eq

abbrev pub same_flag : Bool → Bool → Bool
same_flag true true = true
same_flag false false = true
same_flag _ _ = false

abbrev pub same_dir : Dir → Dir → Bool
same_dir Receive Receive = true
same_dir Send Send = true
same_dir Both Both = true
same_dir _ _ = false

abbrev pub same_origin : OriginOf Text Text → OriginOf Text Text → Bool
same_origin x y = same_text x.text y.text && same_text x.path y.path

abbrev mutual
  pub same_tree : Tree → Tree → Bool
  same_tree (predeclared x) (predeclared y) = same_basic x y
  same_tree (named x) (named y) = same_name x y
  same_tree (parameter x) (parameter y) = same_name x y
  same_tree (alias x) (alias y) = same_name x y
  same_tree (pointer x) (pointer y) = same_tree x y
  same_tree (slice x) (slice y) = same_tree x y
  same_tree (array n x) (array m y) = nat_eq n m && same_tree x y
  same_tree (chan d x) (chan c y) = same_dir d c && same_tree x y
  same_tree (map_type k x) (map_type j y) = same_tree k j && same_tree x y
  same_tree (func h ins outs v) (func g ins' outs' w) = same_text h g
      && (same_params ins ins' && (same_params outs outs' && same_flag v w))
  same_tree (struct h x) (struct g y) = same_text h g && same_fields x y
  same_tree (interface h ts x) (interface g us y) = same_text h g && (same_types ts us && same_methods x y)
  same_tree (instance x ts) (instance y us) = same_tree x y && same_types ts us
  same_tree (union x) (union y) = same_terms x y
  same_tree _ _ = false

  pub same_types : Trees → Trees → Bool
  same_types no_types no_types = true
  same_types (types x xs) (types y ys) = same_tree x y && same_types xs ys
  same_types _ _ = false

  pub same_params : Params → Params → Bool
  same_params no_params no_params = true
  same_params (params p n x xs) (params q m y ys) = same_pos p q
      && (same_text n m && (same_tree x y && same_params xs ys))
  same_params _ _ = false

  pub same_fields : Fields → Fields → Bool
  same_fields no_fields no_fields = true
  same_fields (fields o p n x e t xs) (fields r q m y f u ys) = same_origin o r
      && (same_pos p q && (same_text n m && (same_tree x y && (same_flag e f && (same_text t u && same_fields xs ys)))))
  same_fields _ _ = false

  pub same_methods : Methods → Methods → Bool
  same_methods no_methods no_methods = true
  same_methods (methods o p n ins outs v xs) (methods r q m ins' outs' w ys) = same_origin o r
      && (same_pos p q
      && (same_text n m && (same_params ins ins' && (same_params outs outs' && (same_flag v w && same_methods xs ys)))))
  same_methods _ _ = false

  pub same_terms : Terms → Terms → Bool
  same_terms no_terms no_terms = true
  same_terms (terms e x xs) (terms f y ys) = same_flag e f && (same_tree x y && same_terms xs ys)
  same_terms _ _ = false

-- trees that pass are equal
flag_told : (x y : Bool) → same_flag x y ≡ true → x ≡ y
flag_told true true h = refl
flag_told false false h = refl
flag_told true false h = (cc)
flag_told false true h = (cc)

dir_told : (x y : Dir) → same_dir x y ≡ true → x ≡ y
dir_told Receive Receive h = refl
dir_told Send Send h = refl
dir_told Both Both h = refl
dir_told _ _ h = (cc)

origin_told : (x y : OriginOf Text Text) → same_origin x y ≡ true → x ≡ y
origin_told x y h =
    let a = and_parts (same_text x.text y.text) (same_text x.path y.path) h in
    let text = exact_bytes x.text y.text a.0 in
    let path = exact_bytes x.path y.path a.1 in
    λ i. record { text = text i; path = path i }

mutual
  pub same_told : (x y : Tree) → same_tree x y ≡ true → x ≡ y
  same_told (predeclared x) (predeclared y) h = ap predeclared (exact_basic x y h)
  same_told (named x) (named y) h = ap named (exact_qname x y h)
  same_told (parameter x) (parameter y) h = ap parameter (exact_qname x y h)
  same_told (alias x) (alias y) h = ap alias (exact_qname x y h)
  same_told (pointer x) (pointer y) h = ap pointer (same_told x y h)
  same_told (slice x) (slice y) h = ap slice (same_told x y h)
  same_told (array n x) (array m y) h =
      let a = and_parts (nat_eq n m) (same_tree x y) h in
      let size = eqb-true n m a.0 in
      let type = same_told x y a.1 in
      λ i. array (size i) (type i)
  same_told (chan d x) (chan c y) h =
      let a = and_parts (same_dir d c) (same_tree x y) h in
      let dir = dir_told d c a.0 in
      let type = same_told x y a.1 in
      λ i. chan (dir i) (type i)
  same_told (map_type k x) (map_type j y) h =
      let a = and_parts (same_tree k j) (same_tree x y) h in
      let key = same_told k j a.0 in
      let type = same_told x y a.1 in
      λ i. map_type (key i) (type i)
  same_told (func h ins outs v) (func g ins' outs' w) e =
      let a = and_parts (same_text h g) (same_params ins ins' && (same_params outs outs' && same_flag v w)) e in
      let b = and_parts (same_params ins ins') (same_params outs outs' && same_flag v w) a.1 in
      let c = and_parts (same_params outs outs') (same_flag v w) b.1 in
      let home = exact_bytes h g a.0 in
      let left = params_told ins ins' b.0 in
      let right = params_told outs outs' c.0 in
      let flag = flag_told v w c.1 in
      λ i. func (home i) (left i) (right i) (flag i)
  same_told (struct h x) (struct g y) e =
      let a = and_parts (same_text h g) (same_fields x y) e in
      let home = exact_bytes h g a.0 in
      let inner = fields_told x y a.1 in
      λ i. struct (home i) (inner i)
  same_told (interface h ts x) (interface g us y) e =
      let a = and_parts (same_text h g) (same_types ts us && same_methods x y) e in
      let b = and_parts (same_types ts us) (same_methods x y) a.1 in
      let home = exact_bytes h g a.0 in
      let embedded = types_told ts us b.0 in
      let inner = methods_told x y b.1 in
      λ i. interface (home i) (embedded i) (inner i)
  same_told (instance x ts) (instance y us) e =
      let a = and_parts (same_tree x y) (same_types ts us) e in
      let base = same_told x y a.0 in
      let args = types_told ts us a.1 in
      λ i. instance (base i) (args i)
  same_told (union x) (union y) h = ap union (terms_told x y h)
  same_told _ _ h = (cc)

  types_told : (x y : Trees) → same_types x y ≡ true → x ≡ y
  types_told no_types no_types h = refl
  types_told (types x xs) (types y ys) h =
      let a = and_parts (same_tree x y) (same_types xs ys) h in
      let type = same_told x y a.0 in
      let rest = types_told xs ys a.1 in
      λ i. types (type i) (rest i)
  types_told _ _ h = (cc)

  params_told : (x y : Params) → same_params x y ≡ true → x ≡ y
  params_told no_params no_params h = refl
  params_told (params p n x xs) (params q m y ys) h =
      let a = and_parts (same_pos p q) (same_text n m && (same_tree x y && same_params xs ys)) h in
      let b = and_parts (same_text n m) (same_tree x y && same_params xs ys) a.1 in
      let c = and_parts (same_tree x y) (same_params xs ys) b.1 in
      let pos = exact_pos p q a.0 in
      let name = exact_bytes n m b.0 in
      let type = same_told x y c.0 in
      let rest = params_told xs ys c.1 in
      λ i. params (pos i) (name i) (type i) (rest i)
  params_told _ _ h = (cc)

  fields_told : (x y : Fields) → same_fields x y ≡ true → x ≡ y
  fields_told no_fields no_fields h = refl
  fields_told (fields o p n x e t xs) (fields r q m y f u ys) h =
      let a = and_parts (same_origin o r) (same_pos p q
      && (same_text n m && (same_tree x y && (same_flag e f && (same_text t u && same_fields xs ys))))) h in
      let b = and_parts (same_pos p q) (same_text n m
      && (same_tree x y && (same_flag e f && (same_text t u && same_fields xs ys)))) a.1 in
      let c = and_parts (same_text n m) (same_tree x y && (same_flag e f && (same_text t u && same_fields xs ys))) b.1
      in
      let d = and_parts (same_tree x y) (same_flag e f && (same_text t u && same_fields xs ys)) c.1 in
      let k = and_parts (same_flag e f) (same_text t u && same_fields xs ys) d.1 in
      let l = and_parts (same_text t u) (same_fields xs ys) k.1 in
      let origin = origin_told o r a.0 in
      let pos = exact_pos p q b.0 in
      let name = exact_bytes n m c.0 in
      let type = same_told x y d.0 in
      let embedded = flag_told e f k.0 in
      let tag = exact_bytes t u l.0 in
      let rest = fields_told xs ys l.1 in
      λ i. fields (origin i) (pos i) (name i) (type i) (embedded i) (tag i) (rest i)
  fields_told _ _ h = (cc)

  methods_told : (x y : Methods) → same_methods x y ≡ true → x ≡ y
  methods_told no_methods no_methods h = refl
  methods_told (methods o p n ins outs v xs) (methods r q m ins' outs' w ys) h =
      let a = and_parts (same_origin o r) (same_pos p q
      && (same_text n m
      && (same_params ins ins' && (same_params outs outs' && (same_flag v w && same_methods xs ys))))) h in
      let b = and_parts (same_pos p q) (same_text n m
      && (same_params ins ins' && (same_params outs outs' && (same_flag v w && same_methods xs ys)))) a.1 in
      let c = and_parts (same_text n m) (same_params ins ins'
      && (same_params outs outs' && (same_flag v w && same_methods xs ys))) b.1 in
      let d = and_parts (same_params ins ins') (same_params outs outs' && (same_flag v w && same_methods xs ys)) c.1 in
      let k = and_parts (same_params outs outs') (same_flag v w && same_methods xs ys) d.1 in
      let l = and_parts (same_flag v w) (same_methods xs ys) k.1 in
      let origin = origin_told o r a.0 in
      let pos = exact_pos p q b.0 in
      let name = exact_bytes n m c.0 in
      let left = params_told ins ins' d.0 in
      let right = params_told outs outs' k.0 in
      let flag = flag_told v w l.0 in
      let rest = methods_told xs ys l.1 in
      λ i. methods (origin i) (pos i) (name i) (left i) (right i) (flag i) (rest i)
  methods_told _ _ h = (cc)

  terms_told : (x y : Terms) → same_terms x y ≡ true → x ≡ y
  terms_told no_terms no_terms h = refl
  terms_told (terms e x xs) (terms f y ys) h =
      let a = and_parts (same_flag e f) (same_tree x y && same_terms xs ys) h in
      let b = and_parts (same_tree x y) (same_terms xs ys) a.1 in
      let tilde = flag_told e f a.0 in
      let type = same_told x y b.0 in
      let rest = terms_told xs ys b.1 in
      λ i. terms (tilde i) (type i) (rest i)
  terms_told _ _ h = (cc)

-- a tree passes against itself
both : (a b : Bool) → a ≡ true → b ≡ true → (a && b) ≡ true
both a b p q = λ i. p i && q i

text_itself : (x : Text) → same_text x x ≡ true
text_itself x = nat_list_eq_equiv.refl x

flag_itself : (x : Bool) → same_flag x x ≡ true
flag_itself true = refl
flag_itself false = refl

dir_itself : (x : Dir) → same_dir x x ≡ true
dir_itself Receive = refl
dir_itself Send = refl
dir_itself Both = refl

origin_itself : (x : OriginOf Text Text) → same_origin x x ≡ true
origin_itself x = both _ _ (text_itself x.text) (text_itself x.path)

mutual
  pub same_itself : (x : Tree) → same_tree x x ≡ true
  same_itself (predeclared x) = basic_laws.laws-law.refl x
  same_itself (named x) = qname_laws.laws-law.refl x
  same_itself (parameter x) = qname_laws.laws-law.refl x
  same_itself (alias x) = qname_laws.laws-law.refl x
  same_itself (pointer x) = same_itself x
  same_itself (slice x) = same_itself x
  same_itself (array n x) = both _ _ (nat_eq_equiv.refl n) (same_itself x)
  same_itself (chan d x) = both _ _ (dir_itself d) (same_itself x)
  same_itself (map_type k x) = both _ _ (same_itself k) (same_itself x)
  same_itself (func h ins outs v) = both _ _ (text_itself h)
      (both _ _ (params_itself ins) (both _ _ (params_itself outs) (flag_itself v)))
  same_itself (struct h x) = both _ _ (text_itself h) (fields_itself x)
  same_itself (interface h ts x) = both _ _ (text_itself h) (both _ _ (types_itself ts) (methods_itself x))
  same_itself (instance x ts) = both _ _ (same_itself x) (types_itself ts)
  same_itself (union x) = terms_itself x

  types_itself : (x : Trees) → same_types x x ≡ true
  types_itself no_types = refl
  types_itself (types x xs) = both _ _ (same_itself x) (types_itself xs)

  params_itself : (x : Params) → same_params x x ≡ true
  params_itself no_params = refl
  params_itself (params p n x xs) = both _ _ (pos_laws.laws-law.refl p)
      (both _ _ (text_itself n) (both _ _ (same_itself x) (params_itself xs)))

  fields_itself : (x : Fields) → same_fields x x ≡ true
  fields_itself no_fields = refl
  fields_itself (fields o p n x e t xs) = both _ _ (origin_itself o)
      (both _ _ (pos_laws.laws-law.refl p)
      (both _ _ (text_itself n)
      (both _ _ (same_itself x) (both _ _ (flag_itself e) (both _ _ (text_itself t) (fields_itself xs))))))

  methods_itself : (x : Methods) → same_methods x x ≡ true
  methods_itself no_methods = refl
  methods_itself (methods o p n ins outs v xs) = both _ _ (origin_itself o)
      (both _ _ (pos_laws.laws-law.refl p)
      (both _ _ (text_itself n)
      (both _ _ (params_itself ins) (both _ _ (params_itself outs) (both _ _ (flag_itself v) (methods_itself xs))))))

  terms_itself : (x : Terms) → same_terms x x ≡ true
  terms_itself no_terms = refl
  terms_itself (terms e x xs) = both _ _ (flag_itself e) (both _ _ (same_itself x) (terms_itself xs))
