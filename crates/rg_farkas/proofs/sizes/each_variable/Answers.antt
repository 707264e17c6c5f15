use Rattle.std.proofs.Common.{rules, ◌≡◌, ◌∙◌, ◌++◌, ◌∷◌, [], Ok, Err, subst}
use Rattle.std.specs.Prelude.{pos}
use Rattle.rg_integers.specs.declared.term.Wide.{Wide}
use Rattle.rg_fraction.specs.declared.fold_stop.FoldStop.TheVariants as stop
use Rattle.rg_folds.proofs.Folding.{each_start}
use Rattle.rg_folds.specs.Fold.{each, further, whole_sum}
use Rattle.rg_case_folds.specs.Spreading.{variables_of}
use Rattle.rg_farkas.specs.View.{size_fold, coefficient_at}
use Rattle.rg_farkas.proofs.Told.{variable_fails, variable_next, variables_end}
use Rattle.rg_farkas.proofs.sizes.each_variable.Goals as goal
use Rattle.rg_cert_meaning.specs.declared.Variable.TheVariants.{Tokens}

same_wide : (v w : Wide) → stop.Wide v ≡ stop.Wide w → v ≡ w
same_wide v w e = cc

pub loop-variable-init : goal.loop-variable-init
loop-variable-init c = ([], each_start (λ v. further whole_sum (size_fold (coefficient_at v)) (pos 0) c.args.rows.now) c.deref-variable-items.result.now)

pub returns-in_err-coefficient_sizes-clause-wide : goal.returns-in_err-coefficient_sizes-clause-wide
returns-in_err-coefficient_sizes-clause-wide c = λ w is.
    let same : stop.Wide c.in_err-coefficient_sizes.field-0.0 ≡ stop.Wide w = search rules in
    let (sums, so_far) = c.loop-variable.invariant in
    subst (λ u. each (λ v. further whole_sum (size_fold (coefficient_at v)) (pos 0) c.args.rows.now) (variables_of c.args.lts.now) (Err u)) (same_wide c.in_err-coefficient_sizes.field-0.0 w same)
    (subst (λ l. each (λ v. further whole_sum (size_fold (coefficient_at v)) (pos 0) c.args.rows.now) l (Err c.in_err-coefficient_sizes.field-0.0))
    (c.deref-variable-items.ensures.value ∙ c.in_ok-variables.ensures)
    (variable_fails c.args.rows.now c.deref-variable-items.result.now c.loop-variable.variable-index
    (Tokens 0) c.loop-variable-test.true sums so_far c.in_err-coefficient_sizes.field-0.0 c.in_err-coefficient_sizes.ensures))

pub loop-variable-preserved : goal.loop-variable-preserved
loop-variable-preserved c =
    let (sums, so_far) = c.loop-variable.invariant in (
      sums ++ c.in_ok-coefficient_sizes.field-0
          ∷ [],
      variable_next c.args.rows.now c.deref-variable-items.result.now c.loop-variable.variable-index
          (Tokens 0) c.loop-variable-test.true sums so_far c.in_ok-coefficient_sizes.field-0 c.in_ok-coefficient_sizes.ensures,
    )

pub returns-clause-sums : goal.returns-clause-sums
returns-clause-sums c =
    let (sums, so_far) = c.loop-variable.invariant in (
      sums,
      subst (λ l. each (λ v. further whole_sum (size_fold (coefficient_at v)) (pos 0) c.args.rows.now) l (Ok sums)) (c.deref-variable-items.ensures.value ∙ c.in_ok-variables.ensures)
          (variables_end c.args.rows.now c.deref-variable-items.result.now c.loop-variable.variable-index sums so_far c.loop-variable-test.false),
    )
