-- A declaration over nodes that were made for its types denotes what is written of its declaration.
use Rattle.std.proofs.Common.{◌≡◌, ℕ, List, [], ◌∷◌, ◌++◌, length, map, Some, refl, ap, ap₂, sym, subst, ◌∙◌}
use Rattle.std.specs.Prelude.{Result, Ok, Err, IfOk}
use Rattle.std.specs.List.{AllByRecursion, flat_map}
use Rattle.std.proofs.lemmas.List.{map-append}
use Rattle.go_values.specs.declared.positions.Pos.{Pos}
use Rattle.type_terms.specs.declared.literals.ParamNode.{ParamNode}
use Rattle.type_terms.specs.declared.literals.Sig.{Sig}
use Rattle.type_terms.specs.declared.declarations.Method.{Method}
use Rattle.type_terms.specs.declared.declarations.DeclNode.{DeclNode}
use Rattle.type_terms.specs.declared.declarations.DeclNode.TheVariants.{Var, Func, Constant, Defined, Alias, Parameter}
use Rattle.type_terms.specs.declared.descriptors.Node.{Node}
use Rattle.type_terms.specs.Arenas.{AllBelow}
use Rattle.type_terms.specs.Declarations.{function_of, defined_of, renamed_of, Decl, var_of, constant_of, type_parameter_of, form_map, receiver_map, receiver_shape, receiver_types, decl_form, decl_nodes, decl_of}
use Rattle.type_terms.specs.Denotation.{tree}
use Rattle.type_terms.specs.Extensions.{extends_itself, extends_again}
use Rattle.type_terms.specs.NodeShapes.{param_shape, sig_shape}
use Rattle.type_terms.specs.Replaced.{all_left, all_right, all_append}
use Rattle.type_terms.specs.Shapes.{ParamOf, SigOf, param_map, sig_map, param_types, sig_types}
use Rattle.type_terms.specs.Trees.{Text, Tree}
use Rattle.written_types.specs.Written.{full, position_written, written, decl_written}
use Rattle.written_nodes.specs.Making.{param_made, sig_made, receiver_made, decl_made}
use Rattle.written_nodes.specs.Pools.{Made, made_for, number_for, IsMade, AreWritten, Pool, IsPoolOf, Grows}
use Rattle.written_nodes.proofs.ListLemmas.{all_weaker}
use Rattle.written_nodes.proofs.MadeLemmas.{children_right, children_below}

-- ---- which nodes stand in it

module _ (number : ℕ → ℕ) where
  params_nodes : (xs : List ParamNode) → flat_map param_types (map param_shape (map (param_made number) xs)) ≡ map number (flat_map param_types (map param_shape xs))
  params_nodes [] = refl
  params_nodes (x ∷ xs) = ap (λ rest. number x.ty ∷ rest) (params_nodes xs)

  sig_nodes : (x : Sig) → sig_types (sig_shape (sig_made number x)) ≡ map number (sig_types (sig_shape x))
  sig_nodes x =
      let ins = flat_map param_types (map param_shape x.params) in
      let outs = flat_map param_types (map param_shape x.results) in
      ap₂ (λ (xs ys : List ℕ). xs ++ ys) (params_nodes x.params) (params_nodes x.results) ∙ sym (map-append number ins outs)

  receivers_nodes : (xs : List Method) → flat_map receiver_types (map receiver_shape (map (receiver_made number) xs)) ≡ map number (flat_map receiver_types (map receiver_shape xs))
  receivers_nodes [] = refl
  receivers_nodes (x ∷ xs) =
      let rest = flat_map receiver_types (map receiver_shape xs) in
      ap (λ more. number x.recv.ty ∷ more)
      (ap₂ (λ (xs ys : List ℕ). xs ++ ys) (sig_nodes x.sig) (receivers_nodes xs) ∙ sym (map-append number (sig_types (sig_shape x.sig)) rest))

  nodes_made : (decl : DeclNode) → decl_nodes (decl_made number decl) ≡ map number (decl_nodes decl)
  nodes_made (Var pos ty) = refl
  nodes_made (Func pos tparams sig) = ap (λ rest. map number tparams ++ rest) (sig_nodes sig) ∙ sym (map-append number tparams (sig_types (sig_shape sig)))
  nodes_made (Constant pos ty value) = refl
  nodes_made (Defined pos tparams underlying methods) =
      let rest = flat_map receiver_types (map receiver_shape methods) in
      ap (λ more. map number tparams ++ number underlying ∷ more) (receivers_nodes methods) ∙ sym (map-append number tparams (underlying ∷ rest))
  nodes_made (Alias pos tparams ty) = sym (map-append number tparams (ty ∷ []))
  nodes_made (Parameter pos implicit constraint) = refl

-- ---- what it denotes

-- The types of one arena's numbers, those of another's, and the number of what was made for each.
module _ (from to : ℕ → Tree) (number : ℕ → ℕ) where
  abbrev IsRight : ℕ → Type 0
  IsRight c = to (number c) ≡ written full (from c)

  types_right : (xs : List ℕ) → AllByRecursion IsRight xs → map to (map number xs) ≡ map (written full) (map from xs)
  types_right [] all = refl
  types_right (x ∷ xs) all = ap₂ (λ (t : Tree) (ts : List Tree). t ∷ ts) all.0 (types_right xs all.1)

  abbrev over : (ℕ → Tree) → ParamNode → ParamOf Pos Text Tree
  over type x = param_map (λ (x : Pos). x) (λ (x : Text). x) (λ (x : Text). x) type (param_shape x)

  param_right : (x : ParamNode) → IsRight x.ty → over to (param_made number x) ≡ param_map position_written (λ (x : Text). x) (λ (x : Text). x) (written full) (over from x)
  param_right x right = λ i. record { pos = position_written x.pos; name = x.name; type = right i }

  params_right : (xs : List ParamNode) → AllByRecursion IsRight (flat_map param_types (map param_shape xs))
      → map (param_map (λ (x : Pos). x) (λ (x : Text). x) (λ (x : Text). x) to) (map param_shape (map (param_made number) xs))
      ≡ map (param_map position_written (λ (x : Text). x) (λ (x : Text). x) (written full)) (map (param_map (λ (x : Pos). x) (λ (x : Text). x) (λ (x : Text). x) from) (map param_shape xs))
  params_right [] all = refl
  params_right (x ∷ xs) all = ap₂ (λ (p : ParamOf Pos Text Tree) (ps : List (ParamOf Pos Text Tree)). p ∷ ps) (param_right x all.0) (params_right xs all.1)

  sig_right : (x : Sig) → AllByRecursion IsRight (sig_types (sig_shape x))
      → sig_map (λ (x : Pos). x) (λ (x : Text). x) (λ (x : Text). x) to (sig_shape (sig_made number x))
      ≡ sig_map position_written (λ (x : Text). x) (λ (x : Text). x) (written full) (sig_map (λ (x : Pos). x) (λ (x : Text). x) (λ (x : Text). x) from (sig_shape x))
  sig_right x all =
      let ins = flat_map param_types (map param_shape x.params) in
      let outs = flat_map param_types (map param_shape x.results) in
      let first = params_right x.params (all_left IsRight ins outs all) in
      let second = params_right x.results (all_right IsRight ins outs all) in
      λ i. record { params = first i; results = second i; variadic = x.variadic }

  receivers_right : (xs : List Method) → AllByRecursion IsRight (flat_map receiver_types (map receiver_shape xs))
      → map (receiver_map (λ (x : Pos). x) (λ (x : Text). x) to) (map receiver_shape (map (receiver_made number) xs))
      ≡ map (receiver_map position_written (λ (x : Text). x) (written full)) (map (receiver_map (λ (x : Pos). x) (λ (x : Text). x) from) (map receiver_shape xs))
  receivers_right [] all = refl
  receivers_right (x ∷ xs) all =
      let own = sig_types (sig_shape x.sig) in
      let others = flat_map receiver_types (map receiver_shape xs) in
      let recv = param_right x.recv all.0 in
      let sig = sig_right x.sig (all_left IsRight own others all.1) in
      let rest = receivers_right xs (all_right IsRight own others all.1) in
      λ i. record { pos = position_written x.pos; name = x.name; recv = recv i; sig = sig i } ∷ rest i

  abbrev decl_over : (ℕ → Tree) → DeclNode → Decl
  decl_over type decl = form_map (λ x. x) (λ x. x) type (decl_form decl)

  decl_right : (decl : DeclNode) → AllByRecursion IsRight (decl_nodes decl) → decl_over to (decl_made number decl) ≡ decl_written full (decl_over from decl)
  decl_right (Var pos ty) all = ap (var_of (position_written pos)) all.0
  decl_right (Func pos tparams sig) all =
      let rest = sig_types (sig_shape sig) in
      ap₂ (λ (ts : List Tree) (s : SigOf Pos Text Tree). function_of (position_written pos) ts s) (types_right tparams (all_left IsRight tparams rest all)) (sig_right sig (all_right IsRight tparams rest all))
  decl_right (Constant pos ty value) all = ap (λ (t : Tree). constant_of (position_written pos) t value) all.0
  decl_right (Defined pos tparams underlying methods) all =
      let rest = flat_map receiver_types (map receiver_shape methods) in
      let more = all_right IsRight tparams (underlying ∷ rest) all in
      let types = types_right tparams (all_left IsRight tparams (underlying ∷ rest) all) in
      let inner = receivers_right methods more.1 in
      λ i. defined_of (position_written pos) (types i) (more.0 i) (inner i)
  decl_right (Alias pos tparams ty) all =
      let one = (all_right IsRight tparams (ty ∷ []) all).0 in
      ap₂ (λ (ts : List Tree) (t : Tree). renamed_of (position_written pos) ts t) (types_right tparams (all_left IsRight tparams (ty ∷ []) all)) one
  decl_right (Parameter pos implicit constraint) all = ap (λ (t : Tree). type_parameter_of (position_written pos) implicit t) all.0

-- ---- nodes that are made for a list, one by one

pub record AreMade (from : List Node) (old now : Pool) (done : List ℕ) : Type 0 where
  pub pool : IsPoolOf from now
  pub grows : Grows old now
  pub made : AllByRecursion (IsMade now.made) done

pub none_made : (from : List Node) (old : Pool) → IsPoolOf from old → AreMade from old old []
none_made from old pool = record { pool = pool; grows = record { extends = extends_itself old.nodes; kept = λ id was. was }; made = tt }

pub one_made : (from : List Node) (old now new : Pool) (done : List ℕ) (id own : ℕ) → AreMade from old now done → IsPoolOf from new → Grows now new → made_for new.made id ≡ Some own → AreMade from old new (done ++ id ∷ [])
one_made from old now new done id own was pool grows is = record {
  pool = pool;
  grows = record { extends = extends_again old.nodes now.nodes new.nodes was.grows.extends grows.extends; kept = λ other known. grows.kept other (was.grows.kept other known) };
  made = all_append (IsMade new.made) done (id ∷ []) (all_weaker (IsMade now.made) (IsMade new.made) grows.kept done was.made) ((own, is), tt);
}

-- ---- over what was made

module _ (from to : List Node) (made : Made) (are : AreWritten from to made) (decl own : DeclNode) (all : AllByRecursion (IsMade made) (decl_nodes decl)) (is : own ≡ decl_made (number_for made) decl) where
  pub made_denotes : decl_of to own ≡ decl_written full (decl_of from decl)
  made_denotes = ap (decl_of to) is ∙ decl_right (tree from) (tree to) (number_for made) decl (children_right from to made are (decl_nodes decl) all)

  pub made_within : AllBelow (length to) (decl_nodes own)
  made_within = subst (AllBelow (length to)) (sym (ap decl_nodes is ∙ nodes_made (number_for made) decl)) (children_below from to made are (decl_nodes decl) all)

pub if_ok : {X E : Type 0} (result : Result X E) (P Q : X → Type 0) → ((x : X) → P x → Q x) → IfOk result P → IfOk result Q
if_ok (Ok x) P Q step holds = step x holds
if_ok (Err e) P Q step holds = tt
