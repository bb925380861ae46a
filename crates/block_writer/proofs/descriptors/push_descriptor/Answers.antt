use Rattle.std.proofs.Common.{ℕ, [], ◌∷◌, ap}
use Rattle.code_tables.specs.declared.descriptors.TypeTag.TheVariants as tags
use Rattle.decl_spelling.specs.Grammar.{dir_number}
use Rattle.type_terms.specs.declared.descriptors.Node.TheVariants as kinds
use Rattle.file_layout.specs.Items.{a_number, a_type, tagged}
use Rattle.block_writer.proofs.Added.{adds_as, adds_at}
use Rattle.block_writer.proofs.descriptors.push_descriptor.Goals as goal

pub returns-in-Named : goal.returns-in-Named
returns-in-Named c = adds_at _ _ _ _ (kinds.Named c.in-Named.q) c.in-Named.is c.push_name.ensures

pub returns-in-Param : goal.returns-in-Param
returns-in-Param c = adds_at _ _ _ _ (kinds.Param c.in-Param.q) c.in-Param.is c.push_name-in-Param.ensures

pub returns-in-AliasName : goal.returns-in-AliasName
returns-in-AliasName c = adds_at _ _ _ _ (kinds.AliasName c.in-AliasName.q) c.in-AliasName.is c.push_name-in-AliasName.ensures

pub returns-in-Pointer : goal.returns-in-Pointer
returns-in-Pointer c = adds_at _ _ _ _ (kinds.Pointer c.in-Pointer.id) c.in-Pointer.is c.push_element.ensures

pub returns-in-Slice : goal.returns-in-Slice
returns-in-Slice c = adds_at _ _ _ _ (kinds.Slice c.in-Slice.id) c.in-Slice.is c.push_element-in-Slice.ensures

pub returns-in-Array : goal.returns-in-Array
returns-in-Array c = adds_at _ _ _ _ (kinds.Array c.in-Array.size c.in-Array.id) c.in-Array.is c.push_sized.ensures

pub returns-in-Chan : goal.returns-in-Chan
returns-in-Chan c =
    adds_at _ _ _ _ (kinds.Chan c.in-Chan.dir c.in-Chan.id) c.in-Chan.is
    (adds_as _ _ _ (λ type. tagged tags.Chan (a_number c.dir_number.result ∷ a_type (type c.in-Chan.id) ∷ [])) (λ type. tagged tags.Chan (a_number (dir_number c.in-Chan.dir) ∷ a_type (type c.in-Chan.id) ∷ []))
    (λ type. ap (λ (n : ℕ). tagged tags.Chan (a_number n ∷ a_type (type c.in-Chan.id) ∷ [])) c.dir_number.ensures) c.push_sized-in-Chan.ensures)

pub returns-in-MapOf : goal.returns-in-MapOf
returns-in-MapOf c = adds_at _ _ _ _ (kinds.MapOf c.in-MapOf.key c.in-MapOf.id) c.in-MapOf.is c.push_map.ensures
