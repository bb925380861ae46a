use Rattle.std.proofs.Common.{◌++◌, ap, sym, ◌∙◌}
use Rattle.decl_text.specs.NodeNumbers.{node_reference}
use Rattle.decl_text.specs.PieceText.{node_line}
use Rattle.decl_text.proofs.NodeFinishLemmas.{line_at}
use Rattle.decl_text.proofs.numbering.Numbering.line_of.Goals as goal

pub returns : goal.returns
returns c =
    let nodes = c.args.arena.now.nodes in
    let numbers = c.args.self.now.numbers.entries in
    let text = node_line (node_reference nodes numbers) c.node.result.now in
    c.in_ok-from_slice.ensures ∙ c.as_slice.ensures.value ∙ c.in_ok-put_type.ensures ∙ ap (λ front. front ++ text) c.clear.ensures.items ∙ sym (line_at nodes numbers c.args.id c.node.result.now c.node.ensures.denotes)
