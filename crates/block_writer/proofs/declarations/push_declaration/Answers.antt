use Rattle.std.proofs.Common.{[], ◌∷◌, ◌++◌, map, refl, ap, Bool}
use Rattle.type_terms.specs.declared.declarations.DeclNode.TheVariants as kinds
use Rattle.file_layout.specs.Items.{a_position, a_flag, a_type, generic_items, methods_items, sig_items}
use Rattle.block_writer.specs.Adding.{sig_over, receivers_over}
use Rattle.block_writer.proofs.Declared.{decl_added, constant_added}
use Rattle.block_writer.proofs.declarations.push_declaration.Goals as goal

pub returns-in-Var : goal.returns-in-Var
returns-in-Var c =
    decl_added _ _ _ _ _ (kinds.Var c.in-Var.pos c.in-Var.ty) (λ type. a_position c.in-Var.pos ∷ a_type (type c.in-Var.ty) ∷ []) c.in-Var.is refl (λ type basics so. refl) c.push_var.ensures

pub returns-in-Func : goal.returns-in-Func
returns-in-Func c =
    decl_added _ _ _ _ _ (kinds.Func c.in-Func.pos c.in-Func.tparams c.in-Func.sig) (λ type. a_position c.in-Func.pos ∷ (generic_items (map type c.in-Func.tparams) ++ sig_items (sig_over type c.in-Func.sig))) c.in-Func.is refl (λ type basics so. refl)
    c.push_function.ensures

pub returns-in-Constant : goal.returns-in-Constant
returns-in-Constant c = constant_added _ _ _ _ _ c.in-Constant.pos c.in-Constant.ty c.in-Constant.value c.in-Constant.is c.push_constant.ensures

pub returns-in-Defined : goal.returns-in-Defined
returns-in-Defined c =
    decl_added _ _ _ _ _ (kinds.Defined c.in-Defined.pos c.in-Defined.tparams c.in-Defined.underlying c.in-Defined.methods)
    (λ type. a_position c.in-Defined.pos ∷ (generic_items (map type c.in-Defined.tparams) ++ a_type (type c.in-Defined.underlying) ∷ methods_items c.args.told.has_methods (receivers_over type c.in-Defined.methods))) c.in-Defined.is refl
    (λ type basics so.
    ap (λ (has : Bool). a_position c.in-Defined.pos ∷ (generic_items (map type c.in-Defined.tparams) ++ a_type (type c.in-Defined.underlying) ∷ methods_items has (receivers_over type c.in-Defined.methods))) so)
    c.push_defined.ensures

pub returns-in-Alias : goal.returns-in-Alias
returns-in-Alias c =
    decl_added _ _ _ _ _ (kinds.Alias c.in-Alias.pos c.in-Alias.tparams c.in-Alias.ty) (λ type. a_position c.in-Alias.pos ∷ (generic_items (map type c.in-Alias.tparams) ++ a_type (type c.in-Alias.ty) ∷ [])) c.in-Alias.is refl (λ type basics so. refl)
    c.push_type_name.ensures

pub returns-in-Parameter : goal.returns-in-Parameter
returns-in-Parameter c =
    decl_added _ _ _ _ _ (kinds.Parameter c.in-Parameter.pos c.in-Parameter.implicit c.in-Parameter.constraint) (λ type. a_position c.in-Parameter.pos ∷ a_flag c.in-Parameter.implicit ∷ a_type (type c.in-Parameter.constraint) ∷ []) c.in-Parameter.is refl
    (λ type basics so. refl) c.push_parameter.ensures
