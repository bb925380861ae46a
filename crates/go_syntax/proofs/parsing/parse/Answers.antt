use Rattle.std.proofs.Common.{ℕ, [], ◌≤◌}
use Rattle.std.specs.Prelude.{IfOk, IfErr}
use Rattle.go_expr_syntax.specs.TokenView.{symbols_of}
use Rattle.go_syntax.specs.declared.tree.SourceFile.{SourceFile}
use Rattle.go_syntax.specs.declared.parsing.TheConstants.{MAX_DEPTH}
use Rattle.go_syntax.specs.Decls.{IsFileOf}
use Rattle.go_syntax.specs.Outcomes.{IsFile}
use Rattle.go_syntax.specs.Parsing.{answer_of, Tells, Answers, reading_of, IsReading}
use Rattle.go_syntax.specs.StandingFiles.{FileStands}
use Rattle.go_syntax.proofs.Answered.{found_by, stands_by, only_by, within_by, place_by, exact_by, at_source, tokens_of}
use Rattle.go_syntax.proofs.parsing.parse.Goals as goal

pub returns-clause-found : goal.returns-clause-found
returns-clause-found c =
    let src = c.source-src.result.now in
    let tokens = c.tokens-tokens.result.now in
    at_source (λ s t r. IfOk r (λ f. IsFile (symbols_of s t) f)) src c.args.source.now.source tokens c.args.source.now.tokens (answer_of src tokens c.read_source.result) c.answer_of.result c.source-src.ensures.bytes c.tokens-tokens.ensures.items c.answer_of.ensures
    (found_by src tokens c.read_source.result c.read_source.ensures)

pub returns-clause-stands : goal.returns-clause-stands
returns-clause-stands c =
    let src = c.source-src.result.now in
    let tokens = c.tokens-tokens.result.now in
    at_source (λ s t r. IfOk r (λ f. FileStands s f)) src c.args.source.now.source tokens c.args.source.now.tokens (answer_of src tokens c.read_source.result) c.answer_of.result c.source-src.ensures.bytes c.tokens-tokens.ensures.items c.answer_of.ensures
    (stands_by src tokens c.read_source.result (tokens_of src c.args.source.now.source tokens c.source-src.ensures.bytes c.tokens-tokens.ensures.each) c.read_source.ensures)

pub returns-clause-only : goal.returns-clause-only
returns-clause-only c =
    let src = c.source-src.result.now in
    let tokens = c.tokens-tokens.result.now in
    at_source (λ s t r. (m : ℕ) (f : SourceFile) → IsFileOf m (symbols_of s t) f [] → m ≤ MAX_DEPTH → Answers r f) src c.args.source.now.source tokens c.args.source.now.tokens (answer_of src tokens c.read_source.result) c.answer_of.result c.source-src.ensures.bytes c.tokens-tokens.ensures.items c.answer_of.ensures
    (only_by src tokens c.read_source.result c.read_source.ensures)

pub returns-clause-within : goal.returns-clause-within
returns-clause-within c =
    let src = c.source-src.result.now in
    let tokens = c.tokens-tokens.result.now in
    at_source (λ s t r. IfOk r (λ x. (m : ℕ) (f : SourceFile) → IsFileOf m (symbols_of s t) f [] → m ≤ MAX_DEPTH)) src c.args.source.now.source tokens c.args.source.now.tokens (answer_of src tokens c.read_source.result) c.answer_of.result c.source-src.ensures.bytes c.tokens-tokens.ensures.items c.answer_of.ensures
    (within_by src tokens c.read_source.result c.read_source.ensures)

pub returns-clause-place : goal.returns-clause-place
returns-clause-place c =
    let src = c.source-src.result.now in
    let tokens = c.tokens-tokens.result.now in
    at_source (λ s t r. IfErr r (λ x. Tells s t x)) src c.args.source.now.source tokens c.args.source.now.tokens (answer_of src tokens c.read_source.result) c.answer_of.result c.source-src.ensures.bytes c.tokens-tokens.ensures.items c.answer_of.ensures
    (place_by src tokens c.read_source.result c.read_source.ensures)

pub returns-clause-exact : goal.returns-clause-exact
returns-clause-exact c =
    let src = c.source-src.result.now in
    let tokens = c.tokens-tokens.result.now in
    at_source (λ s t r. IsReading r (reading_of s t)) src c.args.source.now.source tokens c.args.source.now.tokens (answer_of src tokens c.read_source.result) c.answer_of.result c.source-src.ensures.bytes c.tokens-tokens.ensures.items c.answer_of.ensures
    (exact_by src tokens c.read_source.result c.read_source.ensures)
