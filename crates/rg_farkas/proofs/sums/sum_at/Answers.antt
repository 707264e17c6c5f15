use Rattle.std.proofs.Common.{rules, ◌≡◌, Err, map}
use Rattle.std.specs.Prelude.{pos}
use Rattle.rg_integers.proofs.Casts.{back}
use Rattle.rg_folds.specs.Fold.{whole_sum}
use Rattle.rg_case_folds.specs.Spreading.{addend_fold, leaving}
use Rattle.rg_farkas.specs.View.{arc_times, row_addend}
use Rattle.rg_farkas.proofs.Steps.{further-append, further-fails}
use Rattle.rg_farkas.proofs.sums.sum_at.Goals as goal

pub returns-in_err-sum-clause-value : goal.returns-in_err-sum-clause-value
returns-in_err-sum-clause-value c =
    let same : c.from_residual.result ≡ Err c.in_err-sum.field-0.0 = search rules in
    rw same (further-fails whole_sum addend_fold (pos 0) (map (row_addend c.args.state) c.args.rows.now)
    (leaving c.args.state (arc_times c.args.arcs.now c.args.multipliers.now)) c.in_err-sum.field-0.0 c.in_err-sum.ensures.value)

pub returns-clause-value : goal.returns-clause-value
returns-clause-value c =
    let own = back c.in_ok-sum.sum c.in_ok-sum.ensures.in_range in
    further-append whole_sum addend_fold (pos 0) c.in_ok-sum.sum (map (row_addend c.args.state) c.args.rows.now)
    (leaving c.args.state (arc_times c.args.arcs.now c.args.multipliers.now)) _ c.in_ok-sum.ensures.value (rw own at c.leaving_sum.ensures.value)
