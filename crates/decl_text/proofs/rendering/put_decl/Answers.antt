use Rattle.std.proofs.Common.{◌++◌, ap, sym, ◌∙◌, append_assoc}
use Rattle.std.specs.List.{flat_map}
use Rattle.decl_text.specs.NodeNumbers.{node_reference}
use Rattle.decl_text.specs.DeclText.{first_line, number_lines, method_line, form_methods}
use Rattle.decl_text.specs.PieceText.{described_decl}
use Rattle.decl_text.proofs.JoinedLemmas.{put_after}
use Rattle.decl_text.proofs.DeclTextLemmas.{rendered}
use Rattle.decl_text.proofs.rendering.put_decl.Goals as goal

pub returns : goal.returns
returns c =
    let nodes = c.args.arena.now.nodes in
    let decl = c.args.decl.now in
    let numbering = c.number_types.new.self.numbering in
    let shown = described_decl (node_reference nodes numbering.numbers.entries) decl in
    let first = first_line c.args.q.now shown in
    let lines = number_lines 0 numbering.lines.keys in
    let methods = flat_map method_line (form_methods shown) in
    record {
      text =
          put_after _ _ _ _ _ _ _ c.in_ok-put_first_line.ensures c.in_ok-put_number_lines.ensures c.in_ok-put_method_lines.ensures
          ∙ ap (λ rest. c.args.text.now.items ++ rest)
          (sym (append_assoc first lines methods)
          ∙ sym (rendered nodes c.args.q.now decl numbering.numbers.entries numbering.lines.keys c.in_ok-number_types.ensures.numbers));
    }
