use Rattle.std.proofs.Common.{map, sym, subst}
use Rattle.type_terms.specs.Additions.{AddsOnly}
use Rattle.block_reader.specs.declared.descriptors.Flat.{Flat}
use Rattle.decl_reader.specs.Shapes.{flat_shape}
use Rattle.type_terms.specs.Shapes.{shape_types}
use Rattle.decl_reader.specs.Meant.{named_by}
use Rattle.decl_reader.proofs.nodes.descriptors.FlatKept.with_nodes.Goals as goal

pub returns-in_err-with_nodes-in-Pointer-clause-adds : goal.returns-in_err-with_nodes-in-Pointer-clause-adds
returns-in_err-with_nodes-in-Pointer-clause-adds c =
    subst (λ (x : Flat). AddsOnly (map (named_by c.args.version c.args.arena.now.nodes c.args.table.now) (shape_types (flat_shape x))) c.args.arena.now c.with_nodes.new.arena) (sym c.in-Pointer.is) c.with_nodes.ensures.adds

pub returns-in_err-with_nodes-in-Slice-clause-adds : goal.returns-in_err-with_nodes-in-Slice-clause-adds
returns-in_err-with_nodes-in-Slice-clause-adds c =
    subst (λ (x : Flat). AddsOnly (map (named_by c.args.version c.args.arena.now.nodes c.args.table.now) (shape_types (flat_shape x))) c.args.arena.now c.with_nodes-in-Slice.new.arena) (sym c.in-Slice.is) c.with_nodes-in-Slice.ensures.adds

pub returns-in_err-ty-in-Array-clause-adds : goal.returns-in_err-ty-in-Array-clause-adds
returns-in_err-ty-in-Array-clause-adds c =
    subst (λ (x : Flat). AddsOnly (map (named_by c.args.version c.args.arena.now.nodes c.args.table.now) (shape_types (flat_shape x))) c.args.arena.now c.with_nodes-in-Array.new.arena) (sym c.in-Array.is) c.with_nodes-in-Array.ensures.adds

pub returns-in_err-ty-in-Chan-clause-adds : goal.returns-in_err-ty-in-Chan-clause-adds
returns-in_err-ty-in-Chan-clause-adds c =
    subst (λ (x : Flat). AddsOnly (map (named_by c.args.version c.args.arena.now.nodes c.args.table.now) (shape_types (flat_shape x))) c.args.arena.now c.with_nodes-in-Chan.new.arena) (sym c.in-Chan.is) c.with_nodes-in-Chan.ensures.adds

pub returns-in_err-key-in-Map-clause-adds : goal.returns-in_err-key-in-Map-clause-adds
returns-in_err-key-in-Map-clause-adds c =
    subst (λ (x : Flat). AddsOnly (map (named_by c.args.version c.args.arena.now.nodes c.args.table.now) (shape_types (flat_shape x))) c.args.arena.now c.with_nodes-in-Map.new.arena) (sym c.in-Map.is) c.with_nodes-in-Map.ensures.adds

pub returns-in_err-sig-in-Func-clause-adds : goal.returns-in_err-sig-in-Func-clause-adds
returns-in_err-sig-in-Func-clause-adds c =
    subst (λ (x : Flat). AddsOnly (map (named_by c.args.version c.args.arena.now.nodes c.args.table.now) (shape_types (flat_shape x))) c.args.arena.now c.with_nodes-in-Func.new.arena) (sym c.in-Func.is) c.with_nodes-in-Func.ensures.adds

pub returns-in_err-fields-in-Struct-clause-adds : goal.returns-in_err-fields-in-Struct-clause-adds
returns-in_err-fields-in-Struct-clause-adds c =
    subst (λ (x : Flat). AddsOnly (map (named_by c.args.version c.args.arena.now.nodes c.args.table.now) (shape_types (flat_shape x))) c.args.arena.now c.with_nodes-in-Struct.new.arena) (sym c.in-Struct.is) c.with_nodes-in-Struct.ensures.adds

pub returns-in_err-embedded-in-Interface-clause-adds : goal.returns-in_err-embedded-in-Interface-clause-adds
returns-in_err-embedded-in-Interface-clause-adds c =
    subst (λ (x : Flat). AddsOnly (map (named_by c.args.version c.args.arena.now.nodes c.args.table.now) (shape_types (flat_shape x))) c.args.arena.now c.with_nodes-in-Interface.new.arena) (sym c.in-Interface.is) c.with_nodes-in-Interface.ensures.adds

pub returns-in_err-arguments-in-Instance-clause-adds : goal.returns-in_err-arguments-in-Instance-clause-adds
returns-in_err-arguments-in-Instance-clause-adds c =
    subst (λ (x : Flat). AddsOnly (map (named_by c.args.version c.args.arena.now.nodes c.args.table.now) (shape_types (flat_shape x))) c.args.arena.now c.with_nodes-in-Instance.new.arena) (sym c.in-Instance.is) c.with_nodes-in-Instance.ensures.adds

pub returns-in_err-terms-in-Union-clause-adds : goal.returns-in_err-terms-in-Union-clause-adds
returns-in_err-terms-in-Union-clause-adds c =
    subst (λ (x : Flat). AddsOnly (map (named_by c.args.version c.args.arena.now.nodes c.args.table.now) (shape_types (flat_shape x))) c.args.arena.now c.with_nodes-in-Union.new.arena) (sym c.in-Union.is) c.with_nodes-in-Union.ensures.adds

pub returns-in_ok-with_nodes-in-Pointer-clause-adds : goal.returns-in_ok-with_nodes-in-Pointer-clause-adds
returns-in_ok-with_nodes-in-Pointer-clause-adds c =
    subst (λ (x : Flat). AddsOnly (map (named_by c.args.version c.args.arena.now.nodes c.args.table.now) (shape_types (flat_shape x))) c.args.arena.now c.with_nodes.new.arena) (sym c.in-Pointer.is) c.with_nodes.ensures.adds

pub returns-in_ok-with_nodes-in-Slice-clause-adds : goal.returns-in_ok-with_nodes-in-Slice-clause-adds
returns-in_ok-with_nodes-in-Slice-clause-adds c =
    subst (λ (x : Flat). AddsOnly (map (named_by c.args.version c.args.arena.now.nodes c.args.table.now) (shape_types (flat_shape x))) c.args.arena.now c.with_nodes-in-Slice.new.arena) (sym c.in-Slice.is) c.with_nodes-in-Slice.ensures.adds

pub returns-in_ok-ty-in-Array-clause-adds : goal.returns-in_ok-ty-in-Array-clause-adds
returns-in_ok-ty-in-Array-clause-adds c =
    subst (λ (x : Flat). AddsOnly (map (named_by c.args.version c.args.arena.now.nodes c.args.table.now) (shape_types (flat_shape x))) c.args.arena.now c.with_nodes-in-Array.new.arena) (sym c.in-Array.is) c.with_nodes-in-Array.ensures.adds

pub returns-in_ok-ty-in-Chan-clause-adds : goal.returns-in_ok-ty-in-Chan-clause-adds
returns-in_ok-ty-in-Chan-clause-adds c =
    subst (λ (x : Flat). AddsOnly (map (named_by c.args.version c.args.arena.now.nodes c.args.table.now) (shape_types (flat_shape x))) c.args.arena.now c.with_nodes-in-Chan.new.arena) (sym c.in-Chan.is) c.with_nodes-in-Chan.ensures.adds

pub returns-in_ok-key-in-Map-clause-adds : goal.returns-in_ok-key-in-Map-clause-adds
returns-in_ok-key-in-Map-clause-adds c =
    subst (λ (x : Flat). AddsOnly (map (named_by c.args.version c.args.arena.now.nodes c.args.table.now) (shape_types (flat_shape x))) c.args.arena.now c.with_nodes-in-Map.new.arena) (sym c.in-Map.is) c.with_nodes-in-Map.ensures.adds

pub returns-in_ok-sig-in-Func-clause-adds : goal.returns-in_ok-sig-in-Func-clause-adds
returns-in_ok-sig-in-Func-clause-adds c =
    subst (λ (x : Flat). AddsOnly (map (named_by c.args.version c.args.arena.now.nodes c.args.table.now) (shape_types (flat_shape x))) c.args.arena.now c.with_nodes-in-Func.new.arena) (sym c.in-Func.is) c.with_nodes-in-Func.ensures.adds

pub returns-in_ok-fields-in-Struct-clause-adds : goal.returns-in_ok-fields-in-Struct-clause-adds
returns-in_ok-fields-in-Struct-clause-adds c =
    subst (λ (x : Flat). AddsOnly (map (named_by c.args.version c.args.arena.now.nodes c.args.table.now) (shape_types (flat_shape x))) c.args.arena.now c.with_nodes-in-Struct.new.arena) (sym c.in-Struct.is) c.with_nodes-in-Struct.ensures.adds

pub returns-in_ok-embedded-in-Interface-clause-adds : goal.returns-in_ok-embedded-in-Interface-clause-adds
returns-in_ok-embedded-in-Interface-clause-adds c =
    subst (λ (x : Flat). AddsOnly (map (named_by c.args.version c.args.arena.now.nodes c.args.table.now) (shape_types (flat_shape x))) c.args.arena.now c.with_nodes-in-Interface.new.arena) (sym c.in-Interface.is) c.with_nodes-in-Interface.ensures.adds

pub returns-in_ok-arguments-in-Instance-clause-adds : goal.returns-in_ok-arguments-in-Instance-clause-adds
returns-in_ok-arguments-in-Instance-clause-adds c =
    subst (λ (x : Flat). AddsOnly (map (named_by c.args.version c.args.arena.now.nodes c.args.table.now) (shape_types (flat_shape x))) c.args.arena.now c.with_nodes-in-Instance.new.arena) (sym c.in-Instance.is) c.with_nodes-in-Instance.ensures.adds

pub returns-in_ok-terms-in-Union-clause-adds : goal.returns-in_ok-terms-in-Union-clause-adds
returns-in_ok-terms-in-Union-clause-adds c =
    subst (λ (x : Flat). AddsOnly (map (named_by c.args.version c.args.arena.now.nodes c.args.table.now) (shape_types (flat_shape x))) c.args.arena.now c.with_nodes-in-Union.new.arena) (sym c.in-Union.is) c.with_nodes-in-Union.ensures.adds
