use Rattle.std.proofs.Common.{rules, ◌≡◌, ◌-◌, Err}
use Rattle.std.proofs.lemmas.List.{length-set}
use Rattle.std.proofs.lemmas.List.Elements.{All-set}
use Rattle.rg_integers.specs.Range.{InRange}
use Rattle.rg_integers.proofs.Casts.{back}
use Rattle.rg_fraction.specs.declared.fold_stop.FoldStop.TheVariants as stop
use Rattle.rg_farkas.proofs.Told.{state_fails, state_next}
use Rattle.rg_farkas.proofs.sums.each_multiplier.Goals as goal

pub returns-in_err-sum-clause-comes : goal.returns-in_err-sum-clause-comes
returns-in_err-sum-clause-comes c = λ expression told.
    let same : c.from_residual-in_err-sum.result ≡ Err (stop.Wide c.in_err-sum.field-0.0) = search rules in
    rw same (state_fails c.args.rows.now c.args.tree.now c.loop-i.multipliers.items c.loop-i.i record { from = 0; label = 0; to = 0 } c.loop-i-test.true c.loop-i.auto.i
    c.loop-i.invariant.one_each c.loop-i.invariant.in_range c.loop-i.invariant.so_far c.deref.result.now c.deref.ensures.value c.in_err-sum.field-0.0
    c.in_err-sum.ensures.value expression told)

pub loop-i-preserved : goal.loop-i-preserved
loop-i-preserved c =
    rw (back c.in_ok-sum.sum c.in_ok-sum.ensures.in_range) (record {
      one_each = simp length-set c.loop-i.invariant.one_each;
      in_range = All-set InRange c.loop-i.multipliers.items (c.loop-i.i - 1) c.in_ok-sum.sum c.in_ok-sum.ensures.in_range c.loop-i.invariant.in_range;
      so_far = state_next c.args.rows.now c.args.tree.now c.loop-i.multipliers.items c.loop-i.i record { from = 0; label = 0; to = 0 } c.loop-i-test.true c.loop-i.auto.i
          c.loop-i.invariant.one_each c.loop-i.invariant.in_range c.loop-i.invariant.so_far c.deref.result.now c.deref.ensures.value c.in_ok-sum.sum
          c.in_ok-sum.ensures.value;
    })
