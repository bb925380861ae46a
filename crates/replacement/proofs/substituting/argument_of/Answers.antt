use Rattle.std.proofs.Common.{◌≡◌, ◌<◌, length, map, slice_get, Some, refl, sym, subst, ◌∙◌, inl, inr, arith, false}
use Rattle.std.proofs.lemmas.Bool.{cases_eq}
use Rattle.std.proofs.lemmas.Option.{slice_get_read, slice_get_within}
use Rattle.go_values.specs.declared.qualified.QName.{QName}
use Rattle.type_terms.specs.Denotation.{tree}
use Rattle.type_terms.specs.TreeEquality.{same_name}
use Rattle.replacement.proofs.ListLemmas.{at_mapped}
use Rattle.replacement.proofs.SubstitutionLemmas.{argument_at, argument_none}
use Rattle.replacement.proofs.substituting.argument_of.Goals as goal

pub returns-then-eq-clause-denotes : goal.returns-then-eq-clause-denotes
returns-then-eq-clause-denotes c nodes is =
    let ps = c.args.params.now in
    let args = c.args.args.now in
    let k = c.loop-k.k in
    let at : slice_get ps k ≡ Some c.index-params-k.result = slice_get_read ps (length ps) k c.index-params-k.result refl c.loop-k-test.true c.index-params-k.is in
    let below : k < length args = omega (arith, c.requires.count, c.loop-k-test.true) in
    let there : slice_get args k ≡ Some c.index-args-k.result = slice_get_read args (length args) k c.index-args-k.result refl below c.index-args-k.is in
    sym (argument_at ps (map (tree nodes) args) c.args.q.now k c.index-params-k.result (tree nodes c.index-args-k.result) at (at_mapped (tree nodes) args k c.index-args-k.result there) (sym c.if-eq.ensures) c.loop-k.invariant)

pub loop-k-preserved : goal.loop-k-preserved
loop-k-preserved c j p below there = elim (cases_eq j c.loop-k.k) [
  | inl same ↦
      let ps = c.args.params.now in
      let at : slice_get ps c.loop-k.k ≡ Some c.index-params-k.result = slice_get_read ps (length ps) c.loop-k.k c.index-params-k.result refl c.loop-k-test.true c.index-params-k.is in
      let own : slice_get ps c.loop-k.k ≡ Some p = subst (λ n. slice_get ps n ≡ Some p) same there in
      let equal : c.index-params-k.result ≡ p = cc (at, own) in
      subst (λ (n : QName). same_name c.args.q.now n ≡ false) equal (sym c.if-eq.ensures)
  | inr other ↦ c.loop-k.invariant j p (omega arith) there
]

pub returns-clause-denotes : goal.returns-clause-denotes
returns-clause-denotes c nodes is =
    let ps = c.args.params.now in
    is ∙ sym (argument_none ps (map (tree nodes) c.args.args.now) c.args.q.now (λ j other there.
    let within = slice_get_within ps j other there in
    c.loop-k.invariant j other (omega (arith, c.loop-k-test.false)) there))
