use Rattle.std.proofs.Common.{◌≡◌, sym, ap, subst, IfOk, ◌∙◌}
use Rattle.go_type_syntax.proofs.PlainTypeLaws.{plain_struct, plain_interface}
use Rattle.repeated_names.specs.Firsts.{first}
use Rattle.repeated_names.specs.Repeats.{repeats}
use Rattle.source_trees.specs.Literals.{literal_of}
use Rattle.source_trees.specs.Trees.{written_type}
use Rattle.source_trees.specs.Words.{word}
use Rattle.source_names.specs.Duplicates.{in_type}
use Rattle.source_names.specs.Names.{words_at}
use Rattle.source_names.proofs.WordLaws.{each_field, each_elem}
use Rattle.source_names.proofs.duplicates.first_in_type.Goals as goal

pub returns-in-Struct : goal.returns-in-Struct
returns-in-Struct c =
    let src = c.args.source.bytes.now in
    let file = c.args.source.file in
    subst (λ k. IfOk c.first_repeated.result (λ x. x ≡ first k))
    (ap (λ k. repeats (words_at file k)) (each_field src c.in-Struct.fields)
    ∙ sym (ap (λ t. in_type file (written_type src t)) c.in-Struct.is ∙ ap (in_type file) (plain_struct (word src) (literal_of src) c.in-Struct.fields c.in-Struct.at)))
    (rw c.as_slice.ensures at c.first_repeated.ensures)

pub returns-in-Interface : goal.returns-in-Interface
returns-in-Interface c =
    let src = c.args.source.bytes.now in
    let file = c.args.source.file in
    subst (λ k. IfOk c.first_repeated-in-Interface.result (λ x. x ≡ first k))
    (ap (λ k. repeats (words_at file k)) (each_elem src c.in-Interface.elems)
    ∙ sym (ap (λ t. in_type file (written_type src t)) c.in-Interface.is ∙ ap (in_type file) (plain_interface (word src) (literal_of src) c.in-Interface.elems c.in-Interface.at)))
    (rw c.as_slice-in-Interface.ensures at c.first_repeated-in-Interface.ensures)
