-- The text of a declaration by its nodes.
use Rattle.std.proofs.Common.{◌≡◌, ℕ, ◌+◌, ◌<◌, List, [], ◌∷◌, ◌++◌, length, map, take, get_or, Some, ap, sym, ◌∙◌, arith, append_assoc, suc}
use Rattle.std.specs.List.{flat_map}
use Rattle.std.specs.Prelude.{slice_get}
use Rattle.std.proofs.lemmas.Option.{slice_get_within, slice_get-get_or}
use Rattle.std.proofs.lemmas.List.{append-nil, take_more, length-take-le}
use Rattle.go_values.specs.declared.positions.Pos.{Pos}
use Rattle.go_values.specs.declared.qualified.QName.{QName}
use Rattle.type_terms.specs.declared.descriptors.Node.{Node}
use Rattle.type_terms.specs.declared.declarations.DeclNode.{DeclNode}
use Rattle.type_terms.specs.Trees.{Text}
use Rattle.type_terms.specs.Declarations.{decl_form, decl_nodes}
use Rattle.type_terms.specs.Denotation.{tree}
use Rattle.type_terms.specs.Declarations.{decl_of}
use Rattle.decl_text.specs.Numbers.{Numbers, reference, number_all}
use Rattle.decl_text.specs.NodeNumbers.{NodeNumbers, numbered_at, node_reference}
use Rattle.decl_text.specs.DeclText.{first_line, number_line, number_lines, method_line, form_methods, numbers_of, described, text_with, decl_text}
use Rattle.decl_text.specs.PieceText.{described_decl}
use Rattle.type_terms.specs.DeclarationLaws.{form_types_map}
use Rattle.decl_text.proofs.DeclFormLemmas.{form_twice}

pub rendered : (nodes : List Node) (q : QName) (decl : DeclNode) (numbers : NodeNumbers) (lines : List Text)
    → record { types = numbered_at nodes numbers; lines = lines } ≡ number_all (map (tree nodes) (decl_nodes decl))
    → decl_text q (decl_of nodes decl) ≡ first_line q (described_decl (node_reference nodes numbers) decl) ++ number_lines 0 lines ++ flat_map method_line (form_methods (described_decl (node_reference nodes numbers) decl))
rendered nodes q decl numbers lines is =
    let made : Numbers = record { types = numbered_at nodes numbers; lines = lines } in
    let meant = decl_of nodes decl in
    let same : numbers_of meant ≡ made = ap number_all (form_types_map (tree nodes) Pos Text (decl_form decl)) ∙ sym is in
    ap (λ n. text_with n q (described n meant)) same
    ∙ ap (text_with made q) (form_twice (tree nodes) (reference (numbered_at nodes numbers)) Pos Text (decl_form decl))

-- one more line behind others
lines_more : (first : ℕ) (lines : List Text) (last : Text) → number_lines first (lines ++ last ∷ []) ≡ number_lines first lines ++ number_line (first + length lines) last
lines_more first [] last =
    let at : first ≡ first + 0 = omega arith in
    append-nil (number_line first last) ∙ ap (λ n. number_line n last) at
lines_more first (line ∷ lines) last =
    let at : first + 1 + length lines ≡ first + suc (length lines) = omega arith in
    ap (λ (rest : Text). number_line first line ++ rest) (lines_more (first + 1) lines last ∙ ap (λ n. number_lines (first + 1) lines ++ number_line n last) at)
    ∙ sym (append_assoc (number_line first line) (number_lines (first + 1) lines) (number_line (first + suc (length lines)) last))

pub lines_next : (lines : List Text) (k : ℕ) (line : Text) → Some line ≡ slice_get lines k → number_lines 0 (take (k + 1) lines) ≡ number_lines 0 (take k lines) ++ number_line k line
lines_next lines k line found =
    let below : k < length lines = slice_get_within lines k line (sym found) in
    let there : Some line ≡ Some (get_or lines k line) = found ∙ slice_get-get_or lines k line below in
    let is : line ≡ get_or lines k line = (cc) in
    let size : 0 + length (take k lines) ≡ k = omega (arith, length-take-le k lines (omega arith)) in
    ap (number_lines 0) (take_more lines k line below)
    ∙ lines_more 0 (take k lines) (get_or lines k line)
    ∙ ap (λ n. number_lines 0 (take k lines) ++ number_line n (get_or lines k line)) size
    ∙ ap (λ l. number_lines 0 (take k lines) ++ number_line k l) (sym is)
