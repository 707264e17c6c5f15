use Rattle.std.proofs.Common.{rules, ◌≡◌, Err, arith}
use Rattle.std.specs.Prelude.{pos, slice_index_or}
use Rattle.std.specs.Int.{w128, cast_signed}
use Rattle.rg_integers.proofs.Casts.{back}
use Rattle.rg_farkas.proofs.RowSteps.{leaving_taken, leaving_fails, leaving_left, leaving_ends}
use Rattle.rg_farkas.proofs.sums.leaving_sum.Goals as goal
use Rattle.rg_farkas.proofs.sums.leaving_sum.Goals.{then-arc-state+in_ok-sum, else-arc-state}

pub returns-in_err-sum-clause-value : goal.returns-in_err-sum-clause-value
returns-in_err-sum-clause-value c =
    let same : c.from_residual.result ≡ Err c.in_err-sum.field-0.0 = search rules in
    let start = back c.args.start c.requires.start_in_range in
    let far = rw start at c.loop-k.invariant.so_far in
    let own = back (slice_index_or c.args.multipliers.now c.loop-k.k (pos 0)) (c.requires.in_range c.loop-k.k (pos 0) (omega arith)) in
    let joins = rw own at c.in_err-sum.ensures.value in
    rw same (leaving_fails c.args.state c.args.arcs.now c.args.multipliers.now c.loop-k.k (record { from = 0; label = 0; to = 0 })
    (pos 0) c.loop-k-test.true c.requires.one_each (cast_signed w128 c.loop-k.sum-bits) c.args.start far c.in_err-sum.field-0.0 c.if-arc-state.true joins)

pub loop-k-preserved : goal.loop-k-preserved
loop-k-preserved c =
    let own = back (slice_index_or c.args.multipliers.now c.loop-k.k (pos 0)) (c.requires.in_range c.loop-k.k (pos 0) (omega arith)) in
    elim c.if-arc-state.branch [
      | then-arc-state+in_ok-sum w ↦
          let joins = rw own at w.in_ok-sum.ensures.value in
          rw (w.sum-is, back w.in_ok-sum.sum w.in_ok-sum.ensures.in_range) (record {
            so_far = leaving_taken c.args.state c.args.arcs.now c.args.multipliers.now c.loop-k.k (record { from = 0; label = 0; to = 0 })
                (pos 0) c.loop-k-test.true c.requires.one_each (cast_signed w128 c.loop-k.sum-bits) _ c.loop-k.invariant.so_far w.in_ok-sum.sum w.if-arc-state.true joins;
            in_range = w.in_ok-sum.ensures.in_range;
          })
      | else-arc-state w ↦ rw w.sum-is (record {
        so_far = leaving_left c.args.state c.args.arcs.now c.args.multipliers.now c.loop-k.k (record { from = 0; label = 0; to = 0 })
            (pos 0) c.loop-k-test.true c.requires.one_each (cast_signed w128 c.loop-k.sum-bits) _ c.loop-k.invariant.so_far w.if-arc-state.false;
        in_range = c.loop-k.invariant.in_range;
      })
    ]

pub returns-clause-value : goal.returns-clause-value
returns-clause-value c =
    let start = back c.args.start c.requires.start_in_range in
    let far = rw start at c.loop-k.invariant.so_far in
    leaving_ends c.args.state c.args.arcs.now c.args.multipliers.now c.loop-k.k (cast_signed w128 c.loop-k.sum-bits) c.args.start far c.loop-k-test.false
