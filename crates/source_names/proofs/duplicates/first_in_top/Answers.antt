use Rattle.std.proofs.Common.{◌≡◌, ◌⊎◌, inl, inr, ℕ, List, map, sym, ap, IfOk, Ok, Err, Result, ◌∙◌}
use Rattle.go_syntax.specs.declared.tree.Top.{Top}
use Rattle.go_syntax.specs.declared.tree.Top.TheVariants as top
use Rattle.go_syntax.specs.declared.tree.TypeSpec.{TypeSpec}
use Rattle.repeated_names.specs.Firsts.{first}
use Rattle.repeated_names.specs.Repeats.{repeats}
use Rattle.source_trees.specs.Files.{written_top, written_tparam}
use Rattle.source_walk.specs.Spots.{tparam_words}
use Rattle.source_names.specs.Duplicates.{in_top}
use Rattle.source_names.specs.Names.{words_at}
use Rattle.source_names.proofs.WordLaws.{each_tparam}
use Rattle.source_names.proofs.duplicates.first_in_top.Goals as goal

if_ok : {X E : Type 0} (P Q : X → Type 0) (r : Result X E) → ((x : X) → P x → Q x) → IfOk r P → IfOk r Q
if_ok P Q (Ok x) f h = f x h
if_ok P Q (Err e) f h = tt

type_or_alias : (file : ℕ) (source : List ℕ) (all : List Top) (k : ℕ) (t : Top) (d : TypeSpec) → (t ≡ top.Defined d) ⊎ (t ≡ top.Alias d)
    → first (repeats (words_at file (tparam_words (map (written_tparam source) d.tparams)))) ≡ first (in_top file (written_top source all k t))
type_or_alias file source all k t d (inl e) = sym (ap (λ t. first (in_top file (written_top source all k t))) e)
type_or_alias file source all k t d (inr e) = sym (ap (λ t. first (in_top file (written_top source all k t))) e)

pub returns-in-Defined : goal.returns-in-Defined
returns-in-Defined c = if_ok _ _ c.first_repeated.result
    (λ x h all k. h ∙ ap (λ ws. first (repeats (words_at c.args.source.file ws))) (each_tparam c.args.source.bytes.now c.in-Defined.declared.tparams)
    ∙ type_or_alias c.args.source.file c.args.source.bytes.now all k c.args.top.now c.in-Defined.declared c.in-Defined.is)
    (rw c.as_slice.ensures at c.first_repeated.ensures)
