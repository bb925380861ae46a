use Rattle.std.proofs.Common.{◌++◌, ap, sym, ◌∙◌}
use Rattle.decl_text.specs.DeclText.{number_line}
use Rattle.decl_text.proofs.JoinedLemmas.{put_two}
use Rattle.decl_text.proofs.DeclTextLemmas.{lines_next}
use Rattle.decl_text.proofs.rendering.put_number_lines.Goals as goal

pub loop-number-preserved : goal.loop-number-preserved
loop-number-preserved c =
    let number = c.loop-number.number in
    let text = c.loop-number.text.items in
    put_two _ _ _ _ _ c.loop-number.invariant (c.in_ok-put_number_line.ensures ∙ ap (λ line. text ++ number_line number line) c.as_slice.ensures)
    ∙ ap (λ rest. c.args.text.now.items ++ rest) (sym (lines_next c.args.lines.now.keys number c.in-Some.line.now c.in-Some.ensures.key))
